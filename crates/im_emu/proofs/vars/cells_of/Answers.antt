use Rattle.std.proofs.Common.{◌+◌, ◌≤◌, None, sym, subst, arith}
use Rattle.im_num.specs.declared.kind.Kind.TheVariants.{I8}
use Rattle.im_image.specs.declared.object.CellRun.{CellRun}
use Rattle.im_image.specs.Contents.{ObjectValue, AreRuns}
use Rattle.im_emu.proofs.Layouts.{run_there}
use Rattle.im_emu.proofs.vars.cells_of.Goals as goal

pub put_cells-requires-clause-aligned : goal.put_cells-requires-clause-aligned
put_cells-requires-clause-aligned g c =
    let at = c.object.inside.at in
    let size = c.object.inside.size in
    let none : CellRun = record { offset = 0; kind = I8; count = 0 } in
    let inside = subst (λ (object : ObjectValue). AreRuns object.at object.size None object.runs) (sym c.object.view_is) c.requires.runs in
    let runs = subst (λ runs. AreRuns at size None runs) (sym c.deref-run-items.ensures.value) inside in
    (run_there at size c.loop-run.run-index None c.deref-run-items.result.now none c.loop-run-test.true runs).aligned

pub put_cells-requires-clause-room : goal.put_cells-requires-clause-room
put_cells-requires-clause-room g c =
    let at = c.object.inside.at in
    let size = c.object.inside.size in
    let none : CellRun = record { offset = 0; kind = I8; count = 0 } in
    let inside = subst (λ (object : ObjectValue). AreRuns object.at object.size None object.runs) (sym c.object.view_is) c.requires.runs in
    let runs = subst (λ runs. AreRuns at size None runs) (sym c.deref-run-items.ensures.value) inside in
    let there = run_there at size c.loop-run.run-index None c.deref-run-items.result.now none c.loop-run-test.true runs in
    let room = subst (λ (object : ObjectValue). object.at + object.size ≤ 5242880) (sym c.object.view_is) c.requires.room in
    omega (arith, there.ends, room)
