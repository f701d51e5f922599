-- A power of two is found among the greatest first.
use Rattle.std.proofs.Common.{◌≡◌, ◌<◌, ℕ, zero, suc, ◌-◌, ◌*◌, ◌%◌, ◌^◌, false, Some, sym, ap, ◌∙◌, eq-eqb, arith}
use Rattle.std.specs.Prelude.{◌==◌, if◌then◌else◌}
use Rattle.std.proofs.lemmas.Bool.Decides.{nat_tests}
use Rattle.std.proofs.lemmas.Nat.{one_shl}
use Rattle.im_select.specs.Emitted.{shift_below}

hit : (size b : ℕ) → 0 < b → size ≡ 2 ^ b → shift_below size b ≡ Some b
hit size zero h e = absurd (omega arith)
hit size (suc n) h e = ap (λ t. if t then Some (suc n) else shift_below size n) (eq-eqb size (2 ^ suc n) e)

miss : (size b : ℕ) → 0 < b → (size == 2 ^ b) ≡ false → shift_below size b ≡ shift_below size (b - 1)
miss size zero h e = absurd (omega arith)
miss size (suc n) h e = let q : n ≡ suc n - 1 = omega arith in ap (λ t. if t then Some (suc n) else shift_below size n) e ∙ ap (shift_below size) q

-- the size is the shifted 1, or it isn't
pub shift_hit : (size b : ℕ) → 0 < b → b < 32 → size ≡ 1 * 2 ^ b % 2 ^ 32 → shift_below size b ≡ Some b
shift_hit size b h l e = hit size b h (e ∙ one_shl b 32 l)

pub shift_miss : (size b : ℕ) → 0 < b → b < 32 → (size ≡ 1 * 2 ^ b % 2 ^ 32 → ⊥) → shift_below size b ≡ shift_below size (b - 1)
shift_miss size b h l e = let q = one_shl b 32 l in let n : size ≡ 2 ^ b → ⊥ = (λ z. e (z ∙ sym q)) in miss size b h (grind (arith, nat_tests))
