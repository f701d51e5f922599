use Rattle.std.proofs.Common.{◌≡◌, ◌+◌, ◌<◌, ℕ, List, ◌∷◌, [], length, ap, arith, subst, sym, length-append}
use Rattle.std.specs.Prelude.{Some, slice_get}
use Rattle.im_store.specs.Objects as o
use Rattle.im_eval_store.specs.declared.memory.Live.{Live}
use Rattle.im_eval_store.specs.declared.plan.Plan.{Plan}
use Rattle.im_eval_store.specs.Shown.{shown}
use Rattle.im_eval_machine.specs.Fresh.{IsFresh}
use Rattle.im_eval_machine.proofs.Rows.{each-pushed, got-at}
use Rattle.im_block_run.proofs.calls.objects_of.Goals as goal

pub loop-plan-preserved : goal.loop-plan-preserved
loop-plan-preserved c =
    let l = c.loop-plan in
    let plans = c.args.plans.now in
    let plan = c.plan-item.result in
    let x = c.in_ok-new.field-0 in
    let P : ℕ → Live → Type 0 = λ k y. (p : Plan) × (slice_get plans k ≡ Some p) × IsFresh p (λ i. o.Unset) y in
    let within : l.plan-index < length plans = omega arith in
    let got : slice_get plans l.plan-index ≡ Some plan = got-at plans l.plan-index plan within c.plan-item.is in
    let fresh : IsFresh plan (λ i. o.Unset) x = record {
      plan_is = ap (λ b. b.now) c.in_ok-new.ensures.plan;
      have = λ i kind e. ap shown (c.in_ok-new.ensures.values i);
    } in
    let last : P l.plan-index x = (plan, got, fresh) in
    let here : P (length l.objects.items) x = subst (λ n. P n x) (sym l.invariant.0) last in
    let more = each-pushed P l.objects.items x l.invariant.1 here in
    let count = length-append l.objects.items (x ∷ []) in
    let so_far = l.invariant.0 in
    subst (λ (xs : List Live). (length xs ≡ l.plan-index + 1) × ((k : ℕ) (y : Live) → slice_get xs k ≡ Some y → P k y)) (sym c.in_ok-push.ensures.items)
    (omega (arith, count, so_far), more)
