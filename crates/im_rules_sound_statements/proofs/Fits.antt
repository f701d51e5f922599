-- A value that fits a type, as that type.
use Rattle.std.proofs.Common.{◌≡◌, ⊎_elim, true, false, refl, sym, ap, ◌∙◌}
use Rattle.std.specs.Prelude.{Some}
use Rattle.im_ctype.specs.Types.{CType, void, integer, pointer, array, unsized, struct, function, Structs, is_integer, is_array}
use Rattle.im_typed.specs.Program.{Func, Prog}
use Rattle.im_typed.specs.Typing.{shape_of, IsTyped}
use Rattle.im_rules.specs.Terms.{Term, operand_of, value_of, access_of}
use Rattle.im_rules.specs.Rules.{value_type, rule_17}
use Rattle.im_rules.specs.Conversions.{as_type}
use Rattle.im_rules_sound.specs.Sound.{gives, IsSoundTerm}
use Rattle.im_rules_sound.proofs.Operations.{or-true, type-seen, as-integer-sound, as-pointer-sound}
use Rattle.im_rules_sound.proofs.Terms.{reads, integer-seen}
use Rattle.im_rules_sound.proofs.Changes.{same-struct}

pub record IsFitted (g : Prog) (f : Func) (known : Structs) (a : CType) (x : Term) : Type 0 where
  pub plain : is_array a ≡ false
  pub typed : IsTyped g f (as_type a (value_of known x))
  pub shape : shape_of g (as_type a (value_of known x)) ≡ Some (access_of known a)

module _ (g : Prog) (f : Func) (known : Structs) where
  pub fitted : (a : CType) (x : Term) → IsSoundTerm g f known x → rule_17 a (operand_of x) ≡ true → IsFitted g f known a x
  fitted (integer i) x h e =
      let v = value_type (operand_of x) in
      let int : is_integer v ≡ true = ⊎_elim (λ z. z) (λ z. absurd (cc)) (or-true (is_integer v) false e) in
      let part = as-integer-sound g f known i (value_of known x) (reads g f known x h) (integer-seen g f known x h int) in
      record { plain = refl; typed = part.typed; shape = part.shape }
  fitted (pointer d a) x h e =
      let part = as-pointer-sound g f known (value_of known x) (reads g f known x h) in
      record { plain = refl; typed = part.typed; shape = part.shape }
  fitted (struct n) x h e =
      let sound = reads g f known x h in
      let same : (value_of known x).type ≡ struct n = sym (type-seen known x sound.plain) ∙ same-struct n (value_type (operand_of x)) e in
      record { plain = refl; typed = sound.typed; shape = sound.shape ∙ ap (gives known) same }
  fitted void x h e = absurd (cc)
  fitted (array a n) x h e = absurd (cc)
  fitted (unsized a) x h e = absurd (cc)
  fitted (function r ps) x h e = absurd (cc)
