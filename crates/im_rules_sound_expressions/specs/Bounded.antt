-- Types, structs and contexts of which each size is within the limit, and what the program has for each name.
use Rattle.std.specs.Prelude.{◌≡◌, ℕ, ◌+◌, ◌<◌, ◌≤◌, true, List, length}
use Rattle.im_word.specs.Words.{Name}
use Rattle.im_num.specs.declared.kind.Kind.TheVariants.{I32}
use Rattle.im_num.specs.Kinds.{IsOfKind}
use Rattle.im_ctype.specs.Types.{CType, void, integer, pointer, array, unsized, struct, function, CTypes, no_types, more_types, Member, Structs, members_of, is_scalar}
use Rattle.im_ctype.specs.Layout.{layout, AreComplete}
use Rattle.im_typed.specs.Program.{Func, Prog}
use Rattle.im_typed.specs.Typing.{Each}
use Rattle.im_rules.specs.TypeTests.{is_complete_in}
use Rattle.im_rules.specs.Rules.{rule_9_result}
use Rattle.im_rules.specs.Scopes.{Entity, an_object, a_function, an_enumerator, a_typedef, static_object, local_object, Scopes, nothing, opened, named, tagged}
use Rattle.im_rules.specs.Outline.{Outline, place_in}
use Rattle.im_rules.specs.Context.{Context}
use Rattle.im_rules.specs.Terms.{size_in}
use Rattle.im_rules_limits.specs.Limits.{size_limit}
use Rattle.im_rules_sound.specs.Sound.{IsSoundCallee}

abbrev pub AreScalars : CTypes → Type 0
AreScalars no_types = Unit {0}
AreScalars (more_types p ps) = (is_scalar p ≡ true) × AreScalars ps

-- each array in a type is complete and within the limit, and a function has scalars and gives one or nothing
abbrev mutual
  pub IsBounded : Structs → CType → Type 0
  IsBounded known void = Unit {0}
  IsBounded known (integer i) = Unit {0}
  IsBounded known (pointer c t) = IsBounded known t
  IsBounded known (array t n) =
      IsBounded known t × (is_complete_in known (array t n) ≡ true) × (size_in known (array t n) ≤ size_limit)
  IsBounded known (unsized t) = IsBounded known t × (is_complete_in known t ≡ true)
  IsBounded known (struct n) = Unit {0}
  IsBounded known (function r ps) =
      IsBounded known r × AreBoundedTypes known ps × (rule_9_result r ≡ true) × AreScalars ps

  pub AreBoundedTypes : Structs → CTypes → Type 0
  AreBoundedTypes known no_types = Unit {0}
  AreBoundedTypes known (more_types p ps) = IsBounded known p × AreBoundedTypes known ps

-- each struct has a cell and is within the limit; so are its members' types, and they are complete
pub record AreBoundedStructs (known : Structs) : Type 0 where
  pub complete : AreComplete known
  pub cells : (n : ℕ) → n < length known → 0 < length (layout known (struct n)).cells
  pub sizes : (n : ℕ) → n < length known → size_in known (struct n) ≤ size_limit
  pub members : (n : ℕ) → Each {A = Member} (λ m. IsBounded known m.type × (is_complete_in known m.type ≡ true)) (members_of known n)

-- each name that a scope or one round it declares, with its meaning
abbrev pub EachEntity : (Name → Entity → Type 0) → Scopes → Type 0
EachEntity P nothing = Unit {0}
EachEntity P (opened s) = EachEntity P s
EachEntity P (named x e s) = P x e × EachEntity P s
EachEntity P (tagged x t s) = EachEntity P s

-- types that names stand for are within the limit
abbrev pub IsBoundedTypedef : Structs → Name → Entity → Type 0
IsBoundedTypedef known x (a_typedef k t) = IsBounded known t
IsBoundedTypedef known x e = Unit {0}

abbrev pub AreBoundedTypedefs : Context → Type 0
AreBoundedTypedefs c = EachEntity (IsBoundedTypedef c.known) c.scopes

-- the program has what a name means
abbrev pub IsSoundEntity : Prog → Func → Structs → Outline → Name → Entity → Type 0
IsSoundEntity g f known unit x (an_object k t (static_object n)) =
    IsBounded known t × (is_complete_in known t ≡ true) × (n ≡ place_in x unit.statics)
IsSoundEntity g f known unit x (an_object k t (local_object n)) =
    IsBounded known t × (is_complete_in known t ≡ true) × (n < length f.objects)
IsSoundEntity g f known unit x (a_function c k t) = IsBounded known t × IsSoundCallee g known c t
IsSoundEntity g f known unit x (an_enumerator z) = IsOfKind I32 z
IsSoundEntity g f known unit x (a_typedef k t) = IsBounded known t

pub record IsSoundContext (g : Prog) (f : Func) (c : Context) : Type 0 where
  pub structs : AreBoundedStructs c.known
  pub entities : EachEntity (IsSoundEntity g f c.known c.unit) c.scopes
  pub statics : length c.unit.statics ≤ length g.statics

-- the program has these string literals
abbrev pub HasStrings : Prog → Context → List Name → Type 0
HasStrings g c ss = c.next_string + length ss ≤ length g.statics
