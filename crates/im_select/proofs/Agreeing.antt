-- What is put for a line depends on the places of the objects that the line names alone.
use Rattle.std.proofs.Common.{◌≡◌, ◌<◌, ℕ, ◌+◌, ◌-◌, ◌*◌, ◌^◌, true, false, length, refl, sym, ap, subst, arith}
use Rattle.std.specs.Prelude.{nat_lt, if◌then◌else◌, slice_index, Some, None}
use Rattle.std.proofs.lemmas.Bool.Decides.{nat_tests}
use Rattle.im_store.specs.Objects.{Named}
use Rattle.im_block.specs.declared.code.Place.{Place}
use Rattle.im_block.specs.declared.code.Place.TheVariants.{Static, Local, Through}
use Rattle.im_block.specs.declared.code.Line.{Line}
use Rattle.im_block.specs.declared.code.Line.TheVariants.{Put, PutNull, Copy, Convert, Unary, Not, Compute, Compare, Move, Distance, Address, Read, Write, Reload, Spill, Cut, Call, Serve}
use Rattle.im_alloc_placed.specs.Operands.{PlaceExists}
use Rattle.im_alloc_placed.specs.Placed.{IsPlacedLine}
use Rattle.im_select.specs.Given.{Given}
use Rattle.im_select.specs.Emitted.{place_number, address_code, fetch_code, keep_code, reload_code, spill_code, line_code}
use Rattle.im_select.specs.Places.{at_of, HasPlaces}
use Rattle.im_select_relation.specs.Symbolic.{Lines}
use Rattle.im_select.specs.Selects.{Agrees}
use Rattle.im_select.proofs.Low.{local_low}
use Rattle.im_select.proofs.Selecting.{Words, Sited}

place_same : (names : Given) (w : Lines) → Agrees w names → (place : Place) → PlaceExists (length names.statics) names.function place → place_number (at_of names) place ≡ place_number w.at place
place_same names w g (Static object offset) h = ap (λ z. z + offset) (sym (g.statics object h.0))
place_same names w g (Local object offset) h = ap (λ z. z + offset) (sym (g.objects object h.0))
place_same names w g (Through r offset) h = refl

pub line_same : (names : Given) (w : Lines) (m : ℕ) → Agrees w names → (line : Line) → IsPlacedLine (length names.statics) names.function line → line_code (at_of names) m line ≡ line_code w.at m line
line_same names w m g (Put to z) h = refl
line_same names w m g (PutNull to) h = refl
line_same names w m g (Copy to from) h = refl
line_same names w m g (Convert to kind from) h = refl
line_same names w m g (Unary to op kind from) h = refl
line_same names w m g (Not to from) h = refl
line_same names w m g (Compute to op kind left right) h = refl
line_same names w m g (Compare to op kind left right) h = refl
line_same names w m g (Move to size back pointer by) h = refl
line_same names w m g (Distance to size left right) h = refl
line_same names w m g (Address to place) h = ap (address_code to place) (place_same names w g place h.2)
line_same names w m g (Read to place kind access) h = ap (fetch_code to place kind access) (place_same names w g place h.2)
line_same names w m g (Write place kind from access) h = ap (keep_code place kind from access) (place_same names w g place h.2)
line_same names w m g (Reload to slot access) h = ap (λ z. reload_code to z access) (sym (g.slots slot h.1))
line_same names w m g (Spill slot from access) h = ap (λ z. spill_code z from access) (sym (g.slots slot h.1))
line_same names w m g (Cut cause) h = refl
line_same names w m g (Call to i first count) h = refl
line_same names w m g (Serve to service None) h = refl
line_same names w m g (Serve to service (Some from)) h = refl

pub sited_in : (names : Given) (w : Lines) → Agrees w names → (line : Line) → IsPlacedLine (length names.statics) names.function line → Sited (at_of names) w.at line
sited_in names w g (Write place kind from access) h = place_same names w g place h.2
sited_in names w g line h = tt

place_low : (names : Given) → HasPlaces names → (place : Place) → PlaceExists (length names.statics) names.function place → place_number (at_of names) place < 2 ^ 32
place_low names p (Static object offset) h =
    let l = h.0 in
    let o = h.1 in
    let test : nat_lt object (length names.statics) ≡ true = grind (arith, nat_tests) in
    let e : at_of names (Named object) ≡ slice_index names.statics object = ap (λ b. if b then slice_index names.statics object else slice_index names.layout.places.items (object - names.function.first_object)) test in
    let q = p.low object l in
    omega arith
place_low names p (Local object offset) h =
    let l = h.0.0 in
    let o = h.1 in
    let f = p.first in
    let test : nat_lt object (length names.statics) ≡ false = grind (arith, nat_tests) in
    let e : at_of names (Named object) ≡ slice_index names.layout.places.items (object - names.function.first_object) = ap (λ b. if b then slice_index names.statics object else slice_index names.layout.places.items (object - names.function.first_object)) test in
    let q = local_low names.function names.layout object 0 p.layout h.0 in
    omega arith
place_low names p (Through r offset) h = omega arith

slot_low : (names : Given) → HasPlaces names → (slot : ℕ) → slot < names.function.slots → 8 + 8 * slot < 2 ^ 32
slot_low names p slot h =
    let b = p.layout.bytes in
    let s = p.layout.small in
    omega arith

pub words_in : (names : Given) (w : Lines) → HasPlaces names → Agrees w names → (line : Line) → IsPlacedLine (length names.statics) names.function line → Words w.at line
words_in names w p g (Put to z) h = tt
words_in names w p g (PutNull to) h = tt
words_in names w p g (Copy to from) h = tt
words_in names w p g (Convert to kind from) h = tt
words_in names w p g (Unary to op kind from) h = tt
words_in names w p g (Not to from) h = tt
words_in names w p g (Compute to op kind left right) h = tt
words_in names w p g (Compare to op kind left right) h = tt
words_in names w p g (Move to size back pointer by) h = tt
words_in names w p g (Distance to size left right) h = tt
words_in names w p g (Address to place) h = subst (λ z. z < 2 ^ 32) (place_same names w g place h.2) (place_low names p place h.2)
words_in names w p g (Read to place kind access) h = subst (λ z. z < 2 ^ 32) (place_same names w g place h.2) (place_low names p place h.2)
words_in names w p g (Write place kind from access) h = subst (λ z. z < 2 ^ 32) (place_same names w g place h.2) (place_low names p place h.2)
words_in names w p g (Reload to slot access) h = subst (λ z. z < 2 ^ 32) (sym (g.slots slot h.1)) (slot_low names p slot h.1)
words_in names w p g (Spill slot from access) h = subst (λ z. z < 2 ^ 32) (sym (g.slots slot h.1)) (slot_low names p slot h.1)
words_in names w p g (Cut cause) h = tt
words_in names w p g (Call to i first count) h = tt
words_in names w p g (Serve to service None) h = tt
words_in names w p g (Serve to service (Some from)) h = tt
