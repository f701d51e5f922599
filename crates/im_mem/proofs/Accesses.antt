-- Accesses of several bytes.
use Rattle.std.proofs.Common.{◌≡◌, ℕ, ◌+◌, [], ◌∷◌, refl, arith}
use Rattle.im_mem.specs.Memory.{Mem, written}

-- four bytes are two, and two more behind them
pub written-four : (m : Mem) (a b0 b1 b2 b3 : ℕ) → written (written m a (b0 ∷ b1 ∷ [])) (a + 2) (b2 ∷ b3 ∷ []) ≡ written m a (b0 ∷ b1 ∷ b2 ∷ b3 ∷ [])
written-four m a b0 b1 b2 b3 = let next : a + 2 ≡ a + 1 + 1 = omega arith in rw next refl
