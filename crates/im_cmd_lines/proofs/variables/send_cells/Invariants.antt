use Rattle.std.proofs.Common.{◌++◌, codes, take}
use Rattle.std.specs.List.{flat_map}
use Rattle.im_io.specs.Whole.{SentAll}
use Rattle.im_cmd_lines.specs.Variables.{cell_text}
use Rattle.im_cmd_lines.proofs.variables.send_cells.Given as goal

abbrev pub invariant-loop-cell : goal.invariant-loop-cell
invariant-loop-cell g l =
    let state = g.S.Sink.state in
    SentAll (flat_map (λ cell. codes " " ++ cell_text l.fn.objects cell) (take l.cell-index l.cells)) (state l.fn.sink) (state l.sink)
