use Rattle.std.proofs.Common.{◌≡◌, ℕ, length, map}
use Rattle.std.specs.Prelude.{Some, slice_get}
use Rattle.im_store.specs.Statics.{first_value}
use Rattle.im_block.specs.Meaning.{static_of}
use Rattle.im_eval_store.specs.declared.memory.Live.{Live}
use Rattle.im_eval_store.specs.declared.plan.Plan.{Plan}
use Rattle.im_eval_machine.specs.Fresh.{IsFresh}
use Rattle.im_block_run.proofs.start.statics_of.Given as goal

abbrev pub invariant-loop-number : goal.invariant-loop-number
invariant-loop-number l =
    (length l.objects.items ≡ l.number)
    × ((k : ℕ) (x : Live) → slice_get l.objects.items k ≡ Some x → (plan : Plan) × (slice_get l.plans k ≡ Some plan) × IsFresh plan (first_value (slice_get (map static_of l.statics) k)) x)
