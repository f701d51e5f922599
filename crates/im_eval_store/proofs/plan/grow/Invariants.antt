use Rattle.std.proofs.Common.{◌≡◌, ℕ, ◌+◌, ◌-◌, get_or, None, length}
use Rattle.im_eval_store.proofs.plan.grow.Given as goal

abbrev pub invariant-grow : goal.invariant-grow
invariant-grow l = (i : ℕ) → get_or l.kinds.items i None ≡ get_or l.fn.kinds.items i None

abbrev pub decreases-grow : goal.decreases-grow
decreases-grow l = l.offset + 1 - length l.kinds.items
