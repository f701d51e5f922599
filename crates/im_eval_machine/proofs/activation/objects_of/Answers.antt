use Rattle.std.proofs.Common.{◌≡◌, ◌+◌, ◌<◌, ℕ, List, ◌∷◌, [], length, arith, subst, sym, length-append}
use Rattle.std.specs.Prelude.{Some, slice_get}
use Rattle.im_eval_store.specs.declared.memory.Live.{Live}
use Rattle.im_eval_store.specs.declared.plan.Plan.{Plan}
use Rattle.im_store.specs.Objects as o
use Rattle.std.specs.Prelude.{Option}
use Rattle.im_eval_machine.specs.Fresh.{IsFresh, argument_at}
use Rattle.im_eval_machine.specs.Shown.{shown_all}
use Rattle.im_eval_machine.proofs.Rows.{each-pushed, got-at}
use Rattle.im_eval_machine.proofs.activation.objects_of.Goals as goal

pub loop-number-preserved : goal.loop-number-preserved
loop-number-preserved c =
    let l = c.loop-number in
    let plans = c.args.plans.now in
    let args = shown_all c.args.arguments.now in
    let plan = c.index-plans-number.result in
    let x = c.in_ok-new_object.field-0 in
    let P : ℕ → Live → Type 0 = λ k y. (p : Plan) × (slice_get plans k ≡ Some p) × IsFresh p (argument_at (slice_get args k)) y in
    let within : l.number < length plans = omega arith in
    let got : slice_get plans l.number ≡ Some plan = got-at plans l.number plan within c.index-plans-number.is in
    let fresh = subst (λ (a : Option o.Value). IsFresh plan (argument_at a) x) c.argument_of.ensures c.in_ok-new_object.ensures in
    let last : P l.number x = (plan, got, fresh) in
    let here : P (length l.objects.items) x = subst (λ n. P n x) (sym l.invariant.0) last in
    let more = each-pushed P l.objects.items x l.invariant.1 here in
    let count = length-append l.objects.items (x ∷ []) in
    let so_far = l.invariant.0 in
    subst (λ (xs : List Live). (length xs ≡ l.number + 1) × ((k : ℕ) (y : Live) → slice_get xs k ≡ Some y → P k y)) (sym c.in_ok-push.ensures.items)
    (omega (arith, count, so_far), more)
