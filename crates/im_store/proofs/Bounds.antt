-- A quotient and a remainder have no more bits than the dividend.
use Rattle.std.proofs.Common.{◌≡◌, suc, ◌^◌, ℤ, pos, negsuc, neg_ℤ, ◌<ℤ◌, int_div, int_rem, unsigned_abs, FitsSigned, to_z, of_z, arith}
use mir.Syntax.{w128}
use Rattle.std.proofs.Math.Nat.{div-le_self, mod-le}
use Rattle.std.proofs.lemmas.Int.{ints, quot_is, rem_is}

pub record IsSmall (z : ℤ) : Type 0 where
  pub low : neg_ℤ (pos (2 ^ 64)) <ℤ z
  pub high : z <ℤ pos (2 ^ 64)

pub small_fits : (z : ℤ) → IsSmall z → FitsSigned w128 z
small_fits z s = omega (arith, ints, s.low, s.high)

pub quotient_small : (a d : ℤ) → IsSmall a → IsSmall (int_div a d)
quotient_small (pos a) (pos b) s = record { low = omega (arith, ints, s.high, div-le_self a b); high = omega (arith, ints, s.high, div-le_self a b) }
quotient_small (pos a) (negsuc b) s = record { low = omega (arith, ints, s.high, div-le_self a (suc b)); high = omega (arith, ints, s.high, div-le_self a (suc b)) }
quotient_small (negsuc a) (pos b) s = record { low = omega (arith, ints, s.low, div-le_self (suc a) b); high = omega (arith, ints, s.low, div-le_self (suc a) b) }
quotient_small (negsuc a) (negsuc b) s = record { low = omega (arith, ints, s.low, div-le_self (suc a) (suc b)); high = omega (arith, ints, s.low, div-le_self (suc a) (suc b)) }

pub remainder_small : (a d : ℤ) → IsSmall a → IsSmall (int_rem a d)
remainder_small (pos a) d s = record { low = omega (arith, ints, s.high, mod-le a (unsigned_abs d)); high = omega (arith, ints, s.high, mod-le a (unsigned_abs d)) }
remainder_small (negsuc a) d s = record { low = omega (arith, ints, s.low, mod-le (suc a) (unsigned_abs d)); high = omega (arith, ints, s.low, mod-le (suc a) (unsigned_abs d)) }

-- what the code's `/` and `%` give
pub same_quotient : (a d : ℤ) → IsSmall a → IsSmall d → to_z w128 (of_z w128 (int_div (to_z w128 (of_z w128 a)) (to_z w128 (of_z w128 d)))) ≡ int_div a d
same_quotient a d s t = quot_is w128 a d (small_fits a s) (small_fits d t) (small_fits (int_div a d) (quotient_small a d s))

pub same_remainder : (a d : ℤ) → IsSmall a → IsSmall d → to_z w128 (of_z w128 (int_rem (to_z w128 (of_z w128 a)) (to_z w128 (of_z w128 d)))) ≡ int_rem a d
same_remainder a d s t = rem_is w128 a d (small_fits a s) (small_fits d t)
