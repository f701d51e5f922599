use Rattle.std.proofs.Common.{◌≡◌, ℕ, length}
use Rattle.std.specs.Prelude.{Some, slice_get}
use Rattle.im_eval_store.specs.declared.memory.Live.{Live}
use Rattle.im_eval_store.specs.declared.plan.Plan.{Plan}
use Rattle.im_eval_machine.specs.Fresh.{IsFresh, argument_at}
use Rattle.im_eval_machine.specs.Shown.{shown_all}
use Rattle.im_eval_machine.proofs.activation.objects_of.Given as goal

abbrev pub invariant-loop-number : goal.invariant-loop-number
invariant-loop-number l =
    (length l.objects.items ≡ l.number)
    × ((k : ℕ) (x : Live) → slice_get l.objects.items k ≡ Some x
    → (plan : Plan) × (slice_get l.plans k ≡ Some plan) × IsFresh plan (argument_at (slice_get (shown_all l.arguments) k)) x)
