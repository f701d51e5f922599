use Rattle.std.proofs.Common.{◌≡◌, ◌≤◌, ◌*ℤ◌, ℤ, pos, negsuc, w32, w64, to_z, of_z, ◌∙◌, ap, arith}
use Rattle.std.specs.Prelude.{unsigned_abs, FitsSigned}
use Rattle.std.proofs.lemmas.Int.{to_z-of_z, fits_signed_mul, ints}
use Rattle.im_rv.specs.Steps.{upper_word}
use Rattle.im_rv.proofs.arithmetic.upper_of_product.Goals as goal

within : (z : ℤ) → FitsSigned w32 z → unsigned_abs z ≤ 2147483648
within (pos n) fit = omega (arith, ints)
within (negsuc n) fit = omega (arith, ints)

pub returns : goal.returns
returns c =
    let a : to_z w64 (of_z w64 c.from.result) ≡ c.args.a = to_z-of_z w64 c.from.result (record { sfits = c.from.type_inv }) ∙ c.from.ensures ∙ to_z-of_z w32 c.args.a c.ranges.a in
    let b : to_z w64 (of_z w64 c.from-2.result) ≡ c.args.b = to_z-of_z w64 c.from-2.result (record { sfits = c.from-2.type_inv }) ∙ c.from-2.ensures ∙ to_z-of_z w32 c.args.b c.ranges.b in
    let fit : FitsSigned w64 (c.args.a *ℤ c.args.b) = fits_signed_mul w64 c.args.a c.args.b 2147483648 2147483648 (within _ c.ranges.a) (within _ c.ranges.b) (omega arith) in
    c.upper_half.ensures
    ∙ ap (λ z. upper_word (to_z w64 (of_z w64 (z *ℤ to_z w64 (of_z w64 c.from-2.result))))) a
    ∙ ap (λ z. upper_word (to_z w64 (of_z w64 (c.args.a *ℤ z)))) b
    ∙ ap upper_word (to_z-of_z w64 (c.args.a *ℤ c.args.b) fit)
