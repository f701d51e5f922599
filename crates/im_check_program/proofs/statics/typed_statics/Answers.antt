use Rattle.std.proofs.Common.{sym, ◌∙◌}
use Rattle.im_types.proofs.Tables.{grown-twice, grown-none}
use Rattle.im_check_defined.specs.Values.{first_values_in}
use Rattle.im_check_program.proofs.Growing.{next_static, statics_all}
use Rattle.im_check_program.proofs.statics.typed_statics.Goals as goal

pub loop-number-init : goal.loop-number-init
loop-number-init c = (λ e known scopes. rw c.new-done.ensures.items tt, grown-none c.args.table.now)

pub loop-number-preserved : goal.loop-number-preserved
loop-number-preserved c =
    let i = c.loop-number.invariant in
    let o = c.in_ok-one.ensures in (
      λ e known scopes.
          rw c.in_ok-push.ensures.items
          (next_static c.args.table.now c.loop-number.table c.numbered_static.new.table e (first_values_in c.args.given.now) c.args.statics.now c.loop-number.number c.loop-number.done.items c.in_ok-one.one (rw c.len-number-end.ensures at c.loop-number-test.true) i.1 known (i.0 e known scopes) o.grown
          (λ x same at. o.same e x same scopes at)),
      grown-twice c.args.table.now c.loop-number.table c.numbered_static.new.table i.1 o.grown,
    )

pub returns-clause-same : goal.returns-clause-same
returns-clause-same c = λ e known scopes.
    statics_all c.loop-number.table e (first_values_in c.args.given.now) c.args.statics.now c.loop-number.number c.loop-number.done.items (rw c.len-number-end.ensures at c.loop-number-test.false) (c.loop-number.invariant.0 e known scopes)
