use Rattle.std.proofs.Common.{◌≡◌, ℕ, length}
use Rattle.std.specs.Prelude.{Some, slice_get}
use Rattle.im_store.specs.Objects as o
use Rattle.im_eval_store.specs.declared.memory.Live.{Live}
use Rattle.im_eval_store.specs.declared.plan.Plan.{Plan}
use Rattle.im_eval_machine.specs.Fresh.{IsFresh}
use Rattle.im_block_run.proofs.calls.objects_of.Given as goal

abbrev pub invariant-loop-plan : goal.invariant-loop-plan
invariant-loop-plan l =
    (length l.objects.items ≡ l.plan-index)
    × ((k : ℕ) (x : Live) → slice_get l.objects.items k ≡ Some x → (plan : Plan) × (slice_get l.plans k ≡ Some plan) × IsFresh plan (λ i. o.Unset) x)
