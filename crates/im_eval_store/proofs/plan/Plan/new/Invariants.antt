use Rattle.std.proofs.Common.{◌≡◌, ◌≤◌, ℕ, get_or, None, drop, length}
use Rattle.im_store.specs.Objects.{kind_at}
use Rattle.im_eval_store.proofs.plan.Plan.new.Given as goal

abbrev pub invariant-loop-left : goal.invariant-loop-left
invariant-loop-left l = (l.left ≤ length l.cells) × ((i : ℕ) → get_or l.kinds.items i None ≡ kind_at (drop l.left l.cells) i)

abbrev pub decreases-loop-left : goal.decreases-loop-left
decreases-loop-left l = l.left
