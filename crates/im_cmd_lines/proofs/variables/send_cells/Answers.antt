use Rattle.std.proofs.Common.{◌++◌, codes}
use Rattle.im_io.proofs.Pieces.{piece_first}
use Rattle.im_cmd_lines.specs.Variables.{cell_text}
use Rattle.im_cmd_lines.proofs.variables.send_cells.Goals as goal

pub returns-in-Err : goal.returns-in-Err
returns-in-Err g c = piece_first (λ cell. codes " " ++ cell_text c.args.objects.now cell) c.args.cells.now c.loop-cell.cell-index _ _ _ _ c.loop-cell-test.true c.loop-cell.invariant c.in-Err.ensures
