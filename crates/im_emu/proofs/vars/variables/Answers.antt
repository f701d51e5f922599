use Rattle.std.proofs.Common.{◌+◌, ◌≤◌, None, sym, subst, arith}
use Rattle.im_mem.specs.Map.{statics_start}
use Rattle.im_image.specs.Contents.{ObjectValue, AreRuns}
use Rattle.im_emu.proofs.Layouts.{object_there}
use Rattle.im_emu.proofs.vars.variables.Goals as goal

pub cells_of-requires-clause-runs : goal.cells_of-requires-clause-runs
cells_of-requires-clause-runs g c =
    let there = object_there 1048576 statics_start c.loop-object.object-index c.args.objects.now c.object-item.result c.loop-object-test.true c.requires.in_order in
    subst (λ (object : ObjectValue). AreRuns object.at object.size None object.runs) (sym c.object-item.is) there.runs

pub cells_of-requires-clause-room : goal.cells_of-requires-clause-room
cells_of-requires-clause-room g c =
    let there = object_there 1048576 statics_start c.loop-object.object-index c.args.objects.now c.object-item.result c.loop-object-test.true c.requires.in_order in
    subst (λ (object : ObjectValue). object.at + object.size ≤ 5242880) (sym c.object-item.is) (omega (arith, there.ends))
