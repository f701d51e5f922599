-- For private contracts: what stands among specifiers.
use Rattle.std.specs.Prelude.{◌≡◌, ◌⊎◌, Bool, true, false, List, [], ◌∷◌}
use Rattle.im_ctree.specs.Tree as t
use Rattle.im_rules.specs.FileScope.{Level, of_the_file, of_members}
use Rattle.im_rules.specs.Rules.{named_in, rule_1, rule_2_elsewhere}
use Rattle.im_rules.specs.UnitBreaks.{begins_with_list}

abbrev pub storage_stands : Level → t.SpecifierList → Bool
storage_stands of_the_file xs = true
storage_stands of_members xs = rule_2_elsewhere xs

-- none of these, or some
abbrev pub HasNamed : Bool → List t.Specifier → Type 0
HasNamed false ss = ss ≡ []
HasNamed true ss = (s : t.Specifier) × (rest : List t.Specifier) × (ss ≡ s ∷ rest)

-- where a struct, an enum or a typedef name is among specifiers, it is the type
abbrev pub HasOne : t.SpecifierList → Type 0
HasOne xs = (named_in xs ≡ []) ⊎ (rule_1 xs ≡ true)

abbrev pub MayStand : Level → t.SpecifierList → Type 0
MayStand l xs = (storage_stands l xs ≡ true) × HasOne xs

-- no list is among specifiers
abbrev pub HasNoList : t.SpecifierList → Type 0
HasNoList xs = begins_with_list (named_in xs) ≡ false

-- no list stands before the rest of these specifiers
abbrev pub NoListBefore : t.SpecifierList → t.SpecifierList → Type 0
NoListBefore xs rest = (named_in xs ≡ named_in rest) ⊎ (HasNoList xs × (named_in rest ≡ []))
