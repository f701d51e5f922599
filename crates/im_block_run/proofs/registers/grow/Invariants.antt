use Rattle.std.proofs.Common.{◌≡◌, ℕ, ◌+◌, ◌-◌, get_or, length}
use Rattle.im_eval_store.specs.declared.value.Value.TheVariants.{Unset}
use Rattle.im_block_run.proofs.registers.grow.Given as goal

abbrev pub invariant-grow : goal.invariant-grow
invariant-grow l = (r : ℕ) → get_or l.registers.items r Unset ≡ get_or l.fn.registers.items r Unset

abbrev pub decreases-grow : goal.decreases-grow
decreases-grow l = l.register + 1 - length l.registers.items
