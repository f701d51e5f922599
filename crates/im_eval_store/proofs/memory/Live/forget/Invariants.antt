use Rattle.std.proofs.Common.{◌≡◌, ◌<◌, ℕ, get_or, length}
use Rattle.im_eval_store.specs.declared.value.Value.TheVariants.{Unset}
use Rattle.im_eval_store.proofs.memory.Live.forget.Given as goal

abbrev pub invariant-loop-offset : goal.invariant-loop-offset
invariant-loop-offset l =
    (l.self.plan ≡ l.fn.self.plan) × (length l.self.values.items ≡ length l.fn.self.values.items)
    × ((i : ℕ) → i < l.offset → get_or l.self.values.items i Unset ≡ Unset)
