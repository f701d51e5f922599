-- Places at file scope of which all is in order, and how they grow.
use Rattle.std.specs.Prelude.{◌≡◌, ℕ, ◌+◌, ◌≤◌, true, List, ◌++◌, length, Some}
use Rattle.im_num.specs.declared.kind.Kind.TheVariants.{I32}
use Rattle.im_num.specs.Kinds.{IsOfKind}
use Rattle.im_word.specs.Words.{Name}
use Rattle.im_ctype.specs.Types.{Structs, is_function}
use Rattle.im_rules.specs.TypeTests.{same_name, is_complete_in}
use Rattle.im_rules.specs.Scopes.{Entity, an_object, a_function, an_enumerator, a_typedef, static_object, local_object, Scopes, meaning, at_file_scope}
use Rattle.im_rules.specs.Outline.{Outline, place_in}
use Rattle.im_rules.specs.FileScope.{FilePlace, getchar_name, putchar_name, getchar_type, putchar_type, callee_named}
use Rattle.im_rules_sound_expressions.specs.Bounded.{IsBounded, AreBoundedStructs, EachEntity}
use Rattle.im_rules_sound_expressions.specs.Written.{AllBytes}

-- what a name at file scope means
abbrev pub IsFileEntity : Structs → Outline → Name → Entity → Type 0
IsFileEntity known unit x (an_object k a (static_object n)) =
    IsBounded known a × (is_complete_in known a ≡ true) × (n ≡ place_in x unit.statics)
IsFileEntity known unit x (an_object k a (local_object n)) = ⊥
IsFileEntity known unit x (a_function c k a) =
    IsBounded known a × (is_function a ≡ true) × (c ≡ callee_named unit x)
    × (same_name getchar_name x ≡ true → a ≡ getchar_type) × (same_name putchar_name x ≡ true → a ≡ putchar_type)
IsFileEntity known unit x (an_enumerator z) = IsOfKind I32 z
IsFileEntity known unit x (a_typedef k a) = IsBounded known a

-- a name means this, also where it was declared before
abbrev pub Means : Scopes → Name → Entity → Type 0
Means s x e = meaning s x ≡ Some e

-- all that stands before a place is in order
pub record IsFine (f : FilePlace) : Type 0 where
  pub structs : AreBoundedStructs f.context.known
  pub entities : EachEntity (IsFileEntity f.context.known f.context.unit) f.context.scopes
  pub means : EachEntity (Means f.context.scopes) f.context.scopes
  pub top : at_file_scope f.context.scopes ≡ true
  pub next : f.context.next_string ≡ length f.context.unit.statics + length f.strings
  pub bytes : AllBytes f.strings

-- a later place has all that an earlier one has
pub record Grows (f h : FilePlace) : Type 0 where
  pub unit : h.context.unit ≡ f.context.unit
  pub more : Structs
  pub known : h.context.known ≡ f.context.known ++ more
  pub words : List Name
  pub strings : h.strings ≡ f.strings ++ words
  pub means : (x : Name) (e : Entity) → meaning f.context.scopes x ≡ Some e → meaning h.context.scopes x ≡ Some e

-- from one place to a later one
pub record IsStep (f h : FilePlace) : Type 0 where
  pub fine : IsFine h
  pub grows : Grows f h
