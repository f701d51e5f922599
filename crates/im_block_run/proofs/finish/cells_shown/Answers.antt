use Rattle.std.proofs.Common.{◌<◌, ◌∙◌, get_or, length, ap, sym, arith}
use Rattle.im_num.specs.declared.kind.Kind.TheVariants.{I8}
use Rattle.im_ctype.specs.declared.cell.Cell.{Cell}
use Rattle.im_store.specs.Objects.{static}
use Rattle.im_store.specs.Outcomes.{cell_shown}
use Rattle.im_block_run.proofs.Showing.{same-or, shown-on}
use Rattle.im_block_run.proofs.finish.cells_shown.Goals as goal

-- what stands in the place of no cell
abbrev no_cell : Cell
no_cell = record { offset = 0; kind = I8 }

pub loop-cell-preserved : goal.loop-cell-preserved
loop-cell-preserved c =
    let l = c.loop-cell in
    let cs = c.args.cells.now in
    let within : l.cell-index < length cs = omega arith in
    let x = get_or cs l.cell-index no_cell in
    let at = same-or no_cell x cs l.cell-index within in
    λ last store h.
    let value = c.in_ok-cell_shown.ensures ∙ sym (ap cell_shown (c.in_ok-static_value.ensures last store h)) in
    c.in_ok-push.ensures.items
    ∙ shown-on (store.values (static c.args.number)) l.values.items cs l.cell-index x c.in_ok-cell_shown.field-0 within at (l.invariant last store h) value
