-- Objects lie low.
use Rattle.std.proofs.Common.{◌≡◌, ◌<◌, inl, inr, List, ℕ, ◌-◌, true, Some, length, get_or, ap, ◌∙◌, arith}
use Rattle.std.specs.Prelude.{nat_le, if◌then◌else◌, None, slice_get, slice_index}
use Rattle.std.proofs.lemmas.Bool.Decides.{nat_tests}
use Rattle.std.proofs.lemmas.Option.{slice_get_cases, slice_get-get_or}
use Rattle.im_store.specs.Objects.{Named, Shape, shape_of}
use Rattle.im_block.specs.declared.unit.Function.{Function}
use Rattle.im_block.specs.Meaning.{shapes_of, shape_at}
use Rattle.im_frame.specs.declared.layout.Layout.{Layout}
use Rattle.im_frame.specs.Layout.{IsLayout}
use Rattle.im_alloc_placed.specs.Operands.{HasObject}

pub there : {X : Type 0} (xs : List X) (k : ℕ) → k < length xs → (x : X) × (slice_get xs k ≡ Some x)
there xs k l = elim (slice_get_cases xs k).1 [ inl c ↦ (c.0, c.2) | inr c ↦ (let le = c.0 in absurd (omega arith)) ]

-- whatever stands for what isn't there
same_place : (xs : List ℕ) (k d : ℕ) → k < length xs → get_or xs k d ≡ slice_index xs k
same_place xs k d l =
    let a = slice_get-get_or xs k d l in
    let b = slice_get-get_or xs k 0 l in
    cc

pub local_low : (f : Function) (l : Layout) (n d : ℕ) → IsLayout f l → HasObject f n → get_or l.places.items (n - f.first_object) d < 65536
local_low f l n d layout h =
    let from = h.0 in
    let below = h.1 in
    let o = there f.objects.items (n - f.first_object) (omega arith) in
    let test : nat_le f.first_object n ≡ true = grind (arith, nat_tests) in
    let sh : Shape = shape_of o.0.size o.0.cells.items in
    let e : shapes_of f (Named n) ≡ Some sh = ap (λ b. if b then shape_at (slice_get f.objects.items (n - f.first_object)) else None) test ∙ ap shape_at o.1 in
    let i = layout.inside (Named n) sh e in
    let s = layout.small in
    let count = layout.count in
    let q = same_place l.places.items (n - f.first_object) d (omega arith) in
    omega arith
