use Rattle.std.proofs.Common.{◌≡◌, ◌-◌, ◌/◌, ◌^◌, ℕ, Bool, true, false, bit_and, refl, sym, ap, ◌∙◌, arith, eqb-true}
use Rattle.std.specs.Prelude.{◌==◌}
use Rattle.std.specs.Bool.{OnTrue}
use Rattle.std.specs.Int.{bit_at}
use Rattle.std.proofs.lemmas.Nat.Bits.{shr_and_one}
use Rattle.im_forward.specs.Known.{IsOutside}
use Rattle.im_forward.proofs.dead.is_without.Goals as goal

on_true : (P : Type 0) (b : Bool) → (b ≡ true → P) → OnTrue b P
on_true P true h = h refl
on_true P false h = tt

pub returns-then-bit-lt32 : goal.returns-then-bit-lt32
returns-then-bit-lt32 c =
    let bit : ℕ = c.from-number.result - c.args.base in
    let word : ℕ = bit_and (c.args.set / 2 ^ (c.from-number.result - c.args.base)) 1 in
    on_true (IsOutside c.args.base c.args.set c.args.register) (word == 0) (λ e.
    let few = c.if-bit-lt32.true in
    let le = c.if-number-base.false in
    let is = c.from-number.ensures in
    let none : bit_at c.args.set bit ≡ 0 = sym (shr_and_one c.args.set bit) ∙ eqb-true word 0 e in
    record { bit = bit; is = omega arith; small = omega arith; dead = ap (λ z. z == 1) none })
