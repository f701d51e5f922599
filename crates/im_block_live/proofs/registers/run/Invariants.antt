use Rattle.std.proofs.Common.{◌≡◌, ℕ, ◌+◌, ◌<◌}
use Rattle.std.specs.Prelude.{◌&&◌, nat_le, nat_lt}
use Rattle.im_block_live.specs.Words.{has}
use Rattle.im_block_live.proofs.registers.run.Given as goal

abbrev pub invariant-loop-i : goal.invariant-loop-i
invariant-loop-i l = (j : ℕ) → j < 32 → has l.word j ≡ (nat_le l.first (l.base + j) && nat_lt (l.base + j) (l.first + l.i))
