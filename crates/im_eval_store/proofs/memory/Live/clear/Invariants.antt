use Rattle.std.proofs.Common.{◌≡◌, ℕ, get_or, None}
use Rattle.std.specs.Prelude.{nat_lt, if◌then◌else◌}
use Rattle.im_eval_store.specs.declared.value.Value.TheVariants.{Unset}
use Rattle.im_eval_store.specs.Shown.{shown}
use Rattle.im_eval_store.specs.Changes.{cleared}
use Rattle.im_eval_store.proofs.memory.Live.clear.Given as goal

abbrev pub invariant-loop-offset : goal.invariant-loop-offset
invariant-loop-offset l =
    (l.self.plan ≡ l.fn.self.plan)
    × ((i : ℕ) → shown (get_or l.self.values.items i Unset)
    ≡ (if nat_lt i l.offset then cleared l.given (get_or l.fn.self.plan.now.kinds.items i None) (shown (get_or l.fn.self.values.items i Unset)) i
    else shown (get_or l.fn.self.values.items i Unset)))
