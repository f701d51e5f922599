-- Each static has a cell, since its type is complete.
use Rattle.std.proofs.Common.{◌≡◌, ℕ, ◌+◌, ◌<◌, ◌≤◌, nat_lt, List, [], ◌∷◌, ◌++◌, length, map, Bool, true, false, refl, sym, ap, ◌∙◌, subst, arith}
use Rattle.std.specs.Prelude.{◌&&◌, Some}
use Rattle.std.proofs.lemmas.Bool.{lt-ltb, ltb-true, ltb-false}
use Rattle.im_word.specs.Words.{Name}
use Rattle.im_ctree.specs.Tree as t
use Rattle.im_ctype.specs.declared.integer.Integer.TheVariants.{Char}
use Rattle.im_ctype.specs.Types.{CType, integer, array, Structs}
use Rattle.im_ctype.specs.Layout.{layout}
use Rattle.im_typed.specs.im_store.Statics.{StaticObject}
use Rattle.im_typed.specs.Program.{Prog}
use Rattle.im_typed.specs.Typing.{Each}
use Rattle.im_rules.specs.TypeTests.{is_complete_in}
use Rattle.im_rules.specs.Scopes.{Entity, an_object, Storage, static_object, local_object}
use Rattle.im_rules.specs.Outline.{Outline}
use Rattle.im_rules.specs.FileScope.{FilePlace, file_start, object_type}
use Rattle.im_rules.specs.TypedUnit.{FirstValues, TypedUnit, of_unit, layout_of_type, static_named, string_static, string_statics}
use Rattle.im_rules.specs.UnitBreaks.{some_externals}
use Rattle.im_rules_limits.specs.Limits.{size_limit, of_size, too_large, IsWithinLimits, IsFileWithin}
use Rattle.im_rules_sound_expressions.specs.Bounded.{AreBoundedStructs}
use Rattle.im_rules_sound_expressions.proofs.Types.{some-cells}
use Rattle.im_rules_sound_places.specs.Units.{IsWrittenUnit}
use Rattle.im_rules_sound_places.specs.Places.{IsFileEntity, IsFine}
use Rattle.im_rules_sound_places.proofs.Files.{start-fine, externals-step, entity-at}
use Rattle.im_rules_sound_unit.proofs.Values.{join-each}
use Rattle.im_rules_sound_spelt.specs.Namable.{HasCell}
use Rattle.im_rules_sound_spelt.proofs.Objects.{IsObjectAt, outline-objects}

object-complete : (known : Structs) (unit : Outline) (x : Name) (k : Bool) (a : CType) (s : Storage) → IsFileEntity known unit x (an_object k a s) → is_complete_in known a ≡ true
object-complete known unit x k a (static_object n) h = h.1
object-complete known unit x k a (local_object n) h = absurd h

object-cells : (e : FilePlace) (gs : List FirstValues) (x : Name) → IsFine e → IsObjectAt e x → HasCell (static_named e gs x)
object-cells e gs x h o =
    let known = e.context.known in
    let complete = object-complete known e.context.unit x o.0 o.1 o.2 (entity-at e x (an_object o.0 o.1 o.2) h o.3) in
    subst (λ m. 0 < length (layout_of_type known (object_type m)).cells) (sym o.3) (some-cells known o.1 h.structs complete)

objects-cells : (e : FilePlace) (gs : List FirstValues) (xs : List Name) → IsFine e → Each (IsObjectAt e) xs → Each HasCell (map (static_named e gs) xs)
objects-cells e gs [] h k = tt
objects-cells e gs (x ∷ xs) h k = (object-cells e gs x h k.0, objects-cells e gs xs h k.1)

-- an array of a string's bytes and its zero
literal-cells : (known : Structs) (k : ℕ) (s : Name) → AreBoundedStructs known → HasCell (string_static known k s)
literal-cells known k s h = some-cells known (array (integer Char) (length s + 1)) h (ap (λ b. b && true) (lt-ltb 0 (length s + 1) (omega arith)))

literals-cells : (known : Structs) (k : ℕ) (ss : List Name) → AreBoundedStructs known → Each HasCell (string_statics known k ss)
literals-cells known k [] h = tt
literals-cells known k (s ∷ ss) h = (literal-cells known k s h, literals-cells known (k + 1) ss h)

no-more : (n most : ℕ) → (most < n → ⊥) → n ≤ most
no-more n most h = by-test (nat_lt most n) refl
  where
    by-test : (b : Bool) → nat_lt most n ≡ b → n ≤ most
    by-test true e = absurd (h (ltb-true most n e))
    by-test false e = ltb-false most n e

pub statics-cells : (u : t.Tree) (g : Prog) → TypedUnit u g → IsWrittenUnit u → IsWithinLimits u → Each HasCell g.statics
statics-cells u _ (of_unit {e = e} {gs = gs} d m) w l =
    let start = start-fine u in
    let within : IsFileWithin (file_start u) (some_externals u) = λ k z. no-more k size_limit (λ lt. l of_size k (too_large z lt)) in
    let fine = (externals-step d start w within).fine in
    let known = e.context.known in
    let objects = outline-objects d start w within in
    join-each HasCell (map (static_named e gs) e.context.unit.statics) (string_statics known 1 e.strings) (objects-cells e gs e.context.unit.statics fine objects) (literals-cells known 1 e.strings fine.structs)
