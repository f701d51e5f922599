-- Statics that have a cell and a name of a source are such that packing can name them.
use Rattle.std.proofs.Common.{◌≡◌, ℕ, zero, suc, ◌^◌, List, [], ◌∷◌, length, Some, subst}
use Rattle.std.specs.Prelude.{slice_get}
use Rattle.std.proofs.lemmas.Bool.{ltb-true, and_parts}
use Rattle.im_store.specs.Statics.{StaticObject}
use Rattle.im_typed.specs.Typing.{Each}
use Rattle.im_rules_sound_spelt.specs.Namable as front
use Rattle.im_pack.specs.Packed.{IsNamable, AreNamable}

is_namable : (o : StaticObject) → front.IsNamable o → IsNamable o
is_namable o h =
    let name = and_parts _ _ h.1 in
    let fits = and_parts _ _ name.0 in
    record { cell = h.0; some = ltb-true 0 (length o.name) fits.0; short = ltb-true (length o.name) (2 ^ 32) fits.1; bytes = name.1 }

each_namable : (os : List StaticObject) → Each front.IsNamable os → (n : ℕ) (o : StaticObject) → slice_get os n ≡ Some o → IsNamable o
each_namable [] h n o e = cc
each_namable (x ∷ os) h zero o e = let same : x ≡ o = cc in subst IsNamable same (is_namable x h.0)
each_namable (x ∷ os) h (suc n) o e = each_namable os h.1 n o e

pub are_namable : (os : List StaticObject) → Each front.IsNamable os → AreNamable os
are_namable os h = record { each = each_namable os h }
