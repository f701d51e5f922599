-- A product in a kind is that of the numbers' bits.
use Rattle.std.proofs.Common.{◌≡◌, ◌∙◌, ℕ, ◌*◌, ℤ, pos, negsuc, ◌*ℤ◌, refl, ap}
use Rattle.std.specs.Prelude.{nat_abs}
use Rattle.std.specs.Int.{int_rem_euclid}
use Rattle.im_num.specs.declared.kind.Kind.{Kind}
use Rattle.im_num.specs.Kinds.{span, wrap}
use Rattle.im_num.proofs.Wrapping.{wrap-remainder, wrap-product}
use Rattle.im_store.specs.Numbers.{bits_of}

-- a remainder isn't negative
natural : (z d : ℤ) → pos (nat_abs (int_rem_euclid z d)) ≡ int_rem_euclid z d
natural (pos a) d = refl
natural (negsuc a) d = refl

pub product-same : (kind : Kind) (a b : ℤ) (x y : ℕ) → x ≡ bits_of kind a → y ≡ bits_of kind b → wrap kind (int_rem_euclid (pos (x * y)) (span kind)) ≡ wrap kind (a *ℤ b)
product-same kind a b x y d e =
    let left = int_rem_euclid a (span kind) in
    let right = int_rem_euclid b (span kind) in
    let whole : pos (x * y) ≡ left *ℤ right =
    ap (λ n. pos (n * y)) d ∙ ap (λ n. pos (bits_of kind a * n)) e
    ∙ ap (λ z. z *ℤ pos (bits_of kind b)) (natural a (span kind)) ∙ ap (λ z. left *ℤ z) (natural b (span kind)) in
    wrap-remainder kind (pos (x * y)) ∙ ap (wrap kind) whole ∙ wrap-product kind a b
