use Rattle.std.proofs.Common.{◌≡◌, ◌<◌, suc, List, refl, arith, subst, ap}
use Rattle.std.specs.Prelude.{slice_get}
use Rattle.im_eval_store.specs.declared.memory.Activation.{Activation}
use Rattle.im_eval_store.specs.declared.plan.Plan.{Plan}
use Rattle.im_typed.specs.Programs.{entering, with_objects}
use Rattle.im_eval_machine.specs.declared.machine.Machine.{Machine}
use Rattle.im_eval_machine.specs.Activations.{Entered}
use Rattle.im_eval_machine.specs.Fresh.{AreFresh, argument_at}
use Rattle.im_eval_machine.specs.Shown.{IsIn, shown_all}
use Rattle.im_eval_machine.proofs.Entering.{has-begun}
use Rattle.im_eval_machine.proofs.activation.begin.Goals as goal

pub returns-clause-begun : goal.returns-clause-begun
returns-clause-begun c =
    let old = c.args.machine.now in
    let number = c.in-Some.number in
    let depth = c.args.depth in
    let first = c.args.layout.now.first in
    let args = shown_all c.args.arguments.now in
    let said = c.in-Some.ensures in
    let e : number ≡ suc old.activations = omega arith in
    let m : Machine = record old { memory = c.begin.new.self; activations = number; depth = depth } in
    let a : Activation = record { number = number; depth = depth; first = first; objects = c.in_ok-objects.objects } in
    let fresh = subst (λ (ps : List Plan). AreFresh ps (λ k. argument_at (slice_get args k)) c.in_ok-objects.objects.items) c.deref.ensures.value c.in_ok-objects.ensures in
    let later : old.activations < number = omega arith in record {
      here_is = ap (λ n. let r : Entered = record { activation = n; depth = depth; first = first } in r) e;
      held = λ f s are h.
          let begun = has-begun a f c.args.layout.now.plans.items args s.world.store are fresh old.activations later in
          let held = c.in_ok-begin.ensures old.activations s.world.store (with_objects number depth first f args s.world.store) h.held begun in
          subst (λ n. IsIn m (record { world = entering n depth first f args s.world; fuel = s.fuel })) e
          (record { held = held; activations = refl; depth = refl; input = h.input; output = h.output; fuel = h.fuel });
    }
