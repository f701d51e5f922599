use Rattle.std.proofs.Common.{◌≡◌, ◌≤◌, ℕ, ◌-◌, get_or, length}
use Rattle.im_eval_store.specs.declared.value.Value.TheVariants.{Unset}
use Rattle.im_eval_store.proofs.memory.Live.new.Given as goal

abbrev pub invariant-fill : goal.invariant-fill
invariant-fill l = (length l.values.items ≤ length l.plan.kinds.items) × ((i : ℕ) → get_or l.values.items i Unset ≡ Unset)

abbrev pub decreases-fill : goal.decreases-fill
decreases-fill l = length l.plan.kinds.items - length l.values.items
