use Rattle.std.proofs.Common.{refl, ◌∙◌, ap, arith}
use Rattle.im_types.proofs.Tables.{grown-twice, grown-none}
use Rattle.im_check_program.proofs.Growing.{next_string, strings_all}
use Rattle.im_check_program.proofs.strings.text_statics.Goals as goal

pub loop-text-init : goal.loop-text-init
loop-text-init c = (rw c.new-done.ensures.items tt, grown-none c.args.table.now, refl)

pub loop-text-preserved : goal.loop-text-preserved
loop-text-preserved c =
    let i = c.loop-text.invariant in
    let e = c.in_ok-one.ensures in (
      rw c.in_ok-push.ensures.items
          (next_string c.args.table.now c.loop-text.table c.text_static.new.table c.args.texts.now c.loop-text.text-index c.loop-text.number c.text-item.result c.loop-text.done.items c.in_ok-one.one c.loop-text-test.true c.text-item.is i.2 i.1 i.0 e.grown
          (rw c.deref.ensures.value at e.same)),
      grown-twice c.args.table.now c.loop-text.table c.text_static.new.table i.1 e.grown,
      omega (arith, i.2),
    )

pub returns-clause-same : goal.returns-clause-same
returns-clause-same c = strings_all c.args.table.now c.loop-text.table c.args.texts.now c.loop-text.text-index c.loop-text.done.items c.loop-text-test.false c.loop-text.invariant.0
