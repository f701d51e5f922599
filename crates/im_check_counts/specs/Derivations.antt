-- How many derivations a typedef name stands for: pointers, arrays and functions (C11 6.2.5p20), those among them that the
-- typedef name in its specifiers stands for. So a row of typedefs can make a type of any depth, and nothing else can.
use Rattle.std.specs.Prelude.{◌≡◌, ℕ, suc, ◌+◌, ◌<◌, ◌≤◌, List, [], ◌∷◌, ◌++◌, Option, Some, None, Contains, length, if◌then◌else◌}
use Rattle.im_ctree.specs.Tree as t
use Rattle.im_check_outline.specs.im_rules.Outline.{name_of, typedef_in}
use Rattle.im_check_outline.specs.im_rules.Rules.{is_typedef}
use Rattle.im_check_outline.specs.im_rules.TypeTests.{same_name}
use Rattle.im_check_name_map.specs.Numbers.{number_of}
use Rattle.im_check_outline.specs.im_rules.BodyBreaks.{declarator_token}
use Rattle.im_check_counts.specs.declared.derivations.Deep.{Deep}

-- a declarator's own: each suffix is an array or a function, and each star a pointer (C11 6.7.6)

abbrev pub derivations_by : t.Suffixes → ℕ
derivations_by t.no_suffixes = 0
derivations_by (t.array_suffix at e ss) = suc (derivations_by ss)
derivations_by (t.function_suffix at ps ss) = suc (derivations_by ss)

abbrev mutual
  pub own_derivations : t.Declarator → ℕ
  own_derivations (t.declarator at stars core ss) = inner_derivations core + (length stars + derivations_by ss)

  pub inner_derivations : t.Core → ℕ
  inner_derivations t.absent_core = 0
  inner_derivations (t.name_core x) = 0
  inner_derivations (t.inner_core d) = own_derivations d

-- how many each name stands for
abbrev pub Known : Type 0
Known = List ℕ → ℕ

abbrev pub none_known : Known
none_known x = 0

-- a typedef name where it is declared: how many derivations it stands for, and the first token of its declarator
pub record Derived : Type 0 where
  pub count : ℕ
  pub token : ℕ
  pub name : List ℕ

-- that of a declarator behind specifiers whose type has so many
abbrev pub derived_from : ℕ → t.Declarator → Derived
derived_from base d = record { count = base + own_derivations d; token = declarator_token d; name = name_of d }

abbrev pub derived_in : ℕ → t.InitDeclarators → List Derived
derived_in base t.no_init_declarators = []
derived_in base (t.more_init_declarators d i ds) = derived_from base d ∷ derived_in base ds

abbrev pub with_derived : Known → Derived → Known
with_derived known x y = if same_name x.name y then x.count else known y

abbrev pub known_behind : Known → List Derived → Known
known_behind known [] = known
known_behind known (x ∷ xs) = known_behind (with_derived known x) xs

-- the typedef names that an external declaration declares; at file scope alone they can stand
abbrev pub derived_by : Known → t.External → List Derived
derived_by known (t.external_declaration (t.declaration (t.specifiers at xs) ds)) =
    if is_typedef xs then derived_in (known (typedef_in xs)) ds else []
derived_by known (t.function_definition s d b) = []

abbrev pub derived_of : Known → t.Tree → List Derived
derived_of known t.no_externals = []
derived_of known (t.more_externals x xs) = derived_by known x ++ derived_of (known_behind known (derived_by known x)) xs

-- those of a unit, in their order
abbrev pub derived_names : t.Tree → List Derived
derived_names u = derived_of none_known u

-- the most derivations that a typedef name may stand for
abbrev pub derivation_limit : ℕ
derivation_limit = 250

-- none has more
abbrev pub AreShallow : List Derived → Type 0
AreShallow xs = (x : Derived) → Contains xs x → x.count ≤ derivation_limit

-- this is the first that has more
pub record IsFirstDeep (xs : List Derived) (x : Derived) : Type 0 where
  pub before : List Derived
  pub behind : List Derived
  pub place : xs ≡ before ++ x ∷ behind
  pub shallow : AreShallow before
  pub over : derivation_limit < x.count

abbrev pub IsShallowUnit : t.Tree → Type 0
IsShallowUnit u = AreShallow (derived_names u)

-- ---- in the code

abbrev pub derived_as : Deep → Derived
derived_as x = record { count = x.count; token = x.at; name = x.name.now }

abbrev pub count_or_none : Option ℕ → ℕ
count_or_none None = 0
count_or_none (Some n) = n

-- how many each name has by its number
abbrev pub known_of : List (List ℕ × Option ℕ) → Known
known_of numbers x = count_or_none (number_of numbers x)

-- going over these names leads to what is known then, or to the first that has too many
abbrev pub IsWalked : Known → List Derived → Known → Option Deep → Type 0
IsWalked known xs new None = AreShallow xs × (new ≡ known_behind known xs)
IsWalked known xs new (Some x) = IsFirstDeep xs (derived_as x)

-- of a unit none has too many, or this is the first
abbrev pub IsDeepIn : t.Tree → Option Deep → Type 0
IsDeepIn u None = IsShallowUnit u
IsDeepIn u (Some x) = IsFirstDeep (derived_names u) (derived_as x)
