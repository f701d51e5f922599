use Rattle.std.proofs.Common.{◌∙◌}
use Rattle.im_check_initialisers.proofs.Declared.{declared}
use Rattle.im_check_initialisers.proofs.declaration.given.Goals as goal

pub returns : goal.returns
returns c =
    declared c.args.place.now c.initialised.new.place c.table.result.now c.table-2.result.now c.args.local c.in_ok-cells.cells c.in_ok-pieces.pieces.items c.new-items.ensures.items c.in_ok-initialised.ensures c.table.ensures (c.in_ok-cells.ensures ∙ c.in_ok-count.ensures) c.table-2.ensures c.in_ok-pieces.ensures
