use Rattle.std.proofs.Common.{◌<◌, ◌∙◌, get_or, length, arith}
use Rattle.im_num.specs.declared.kind.Kind.TheVariants.{I8}
use Rattle.im_ctype.specs.declared.cell.Cell.{Cell}
use Rattle.im_store.specs.Objects.{static}
use Rattle.im_eval.proofs.Showing.{got-or, same-or, shown-on}
use Rattle.im_eval.proofs.variables.cells_shown.Goals as goal

-- what stands in the place of no cell
abbrev no_cell : Cell
no_cell = record { offset = 0; kind = I8 }

pub loop-cell-preserved : goal.loop-cell-preserved
loop-cell-preserved c =
    let l = c.loop-cell in
    let cs = c.args.cells.now in
    let within : l.cell-index < length cs = omega arith in
    let x = get_or cs l.cell-index no_cell in
    let at = same-or no_cell x cs l.cell-index within in
    λ last store shape h there stand.
    let stands = stand l.cell-index x (got-or no_cell cs l.cell-index within) in
    let value = c.in_ok-shown_at.ensures last store shape stands.0 h there stands.1 in
    c.in_ok-push.ensures.items
    ∙ shown-on (store.values (static c.args.number)) l.values.items cs l.cell-index x c.in_ok-shown_at.field-0 within at (l.invariant last store shape h there stand) value
