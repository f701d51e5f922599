use Rattle.im_types.proofs.Tables.{grown-twice, grown-none}
use Rattle.im_check_program.proofs.Growing.{functions_more}
use Rattle.im_check_program.proofs.functions.typed_functions.Goals as goal

pub loop-f-init : goal.loop-f-init
loop-f-init c = (rw c.new-done.ensures.items tt, grown-none c.args.table.now)

pub loop-f-preserved : goal.loop-f-preserved
loop-f-preserved c =
    let i = c.loop-f.invariant in
    let e = c.in_ok-one.ensures in (
      rw c.in_ok-push.ensures.items (functions_more c.args.table.now c.loop-f.table c.typed_function.new.table c.loop-f.yielded c.loop-f.done.items c.in-Some.f c.in_ok-one.one i.0 i.1 e.grown e.function),
      grown-twice c.args.table.now c.loop-f.table c.typed_function.new.table i.1 e.grown,
    )
