use Rattle.std.proofs.Common.{◌≡◌, ◌≤◌, ◌<◌, ◌∙◌, min, refl, sym, ap, subst, arith, drop, get_or, length, map}
use Rattle.im_store.specs.Statics.{value_at}
use Rattle.im_block.specs.Meaning.{constant}
use Rattle.im_eval_store.specs.declared.value.Value.TheVariants.{Unset}
use Rattle.im_eval_store.specs.Shown.{shown}
use Rattle.im_block_run.proofs.Starting.{at-end, set-on}
use Rattle.im_block_run.proofs.start.set_cells.Goals as goal

pub fill-init : goal.fill-init
fill-init c =
    let m = c.min-left.result in
    let said = c.min-left.ensures in
    let all : min (length c.args.cells.now) (length c.args.constants.now) ≤ m = omega arith in
    (omega arith, omega arith, refl, λ empty i lt. ap shown (empty i) ∙ at-end c.args.cells.now c.args.constants.now m i all)

pub fill-preserved : goal.fill-preserved
fill-preserved c =
    let l = c.fill in
    let some = c.fill-test.true in
    let few_cells = l.invariant.0 in
    let few_values = l.invariant.1 in
    let same = l.invariant.2 in
    let positive : 0 < l.left = omega arith in (
      omega arith,
      omega arith,
      c.set.ensures.plan ∙ same,
      λ empty i lt.
          let inside : i < length l.object.values.items = subst (λ n. i < n) (sym (l.object.full ∙ ap (λ b. length b.now.kinds.items) same)) lt in
          set-on c.args.cells.now c.args.constants.now l.left i _ _ l.object.values.items _ c.in-Some.value positive few_cells few_values inside (c.set.ensures.values i) c.in-Some.ensures (l.invariant.3 empty i lt),
    )

pub returns-clause-values : goal.returns-clause-values
returns-clause-values c = λ empty i lt.
    let l = c.fill in
    let end = c.fill-test.false in
    let none : l.left ≡ 0 = omega arith in
    subst (λ n. shown (get_or l.object.values.items i Unset) ≡ value_at (drop n c.args.cells.now) (map constant (drop n c.args.constants.now)) i) none (l.invariant.3 empty i lt)
