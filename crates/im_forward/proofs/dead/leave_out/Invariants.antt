use Rattle.std.proofs.Common.{ℕ, Bool}
use Rattle.im_forward.specs.Known.{AreOf}
use Rattle.im_forward.proofs.Leaving.{LeavesTo}
use Rattle.im_forward.proofs.dead.leave_out.Given as goal

-- the lines so far are kept, or copy to what doesn't live behind them
abbrev pub invariant-loop-i : goal.invariant-loop-i
invariant-loop-i l = (live : ℕ → ℕ → Bool) → AreOf live l.base l.starts → LeavesTo live l.fn.block.exit l.i l.fn.block.lines.items l.kept.items
