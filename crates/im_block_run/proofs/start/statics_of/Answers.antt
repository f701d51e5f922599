use Rattle.std.proofs.Common.{◌≡◌, ◌+◌, ◌<◌, ℕ, List, ◌∷◌, [], map, length, arith, subst, sym, length-append}
use Rattle.std.specs.Prelude.{Option, Some, slice_get}
use Rattle.im_store.specs.Statics.{StaticObject, first_value}
use Rattle.im_block.specs.Meaning.{static_of}
use Rattle.im_eval_store.specs.declared.memory.Live.{Live}
use Rattle.im_eval_store.specs.declared.plan.Plan.{Plan}
use Rattle.im_eval_machine.specs.Fresh.{IsFresh}
use Rattle.im_eval_machine.proofs.Rows.{each-pushed, got-at}
use Rattle.im_block_run.proofs.Rows.{mapped-at}
use Rattle.im_block_run.proofs.start.statics_of.Goals as goal

pub loop-number-preserved : goal.loop-number-preserved
loop-number-preserved c =
    let l = c.loop-number in
    let plans = c.args.plans.now in
    let statics = c.args.statics.now in
    let all = map static_of statics in
    let plan = c.index-plans-number.result in
    let x = c.in_ok-static_object.field-0 in
    let P : ℕ → Live → Type 0 = λ k y. (p : Plan) × (slice_get plans k ≡ Some p) × IsFresh p (first_value (slice_get all k)) y in
    let same = c.requires in
    let within : l.number < length statics = omega arith in
    let inside : l.number < length plans = omega arith in
    let got : slice_get plans l.number ≡ Some plan = got-at plans l.number plan inside c.index-plans-number.is in
    let found = mapped-at static_of statics l.number c.index-statics-number.result within c.index-statics-number.is in
    let fresh = subst (λ (s : Option StaticObject). IsFresh plan (first_value s) x) (sym found) c.in_ok-static_object.ensures in
    let last : P l.number x = (plan, got, fresh) in
    let here : P (length l.objects.items) x = subst (λ n. P n x) (sym l.invariant.0) last in
    let more = each-pushed P l.objects.items x l.invariant.1 here in
    let count = length-append l.objects.items (x ∷ []) in
    let so_far = l.invariant.0 in
    subst (λ (xs : List Live). (length xs ≡ l.number + 1) × ((k : ℕ) (y : Live) → slice_get xs k ≡ Some y → P k y)) (sym c.in_ok-push.ensures.items)
    (omega (arith, count, so_far), more)
