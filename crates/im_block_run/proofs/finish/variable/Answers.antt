use Rattle.std.proofs.Common.{◌∙◌, ℕ, List, ap}
use Rattle.im_num.specs.declared.values.CellValue.{CellValue}
use Rattle.im_num.specs.Variables.{Variable}
use Rattle.im_ctype.specs.declared.cell.Cell.{Cell}
use Rattle.im_store.specs.Objects.{static}
use Rattle.im_store.specs.Outcomes.{cells_shown}
use Rattle.im_block_run.proofs.finish.variable.Goals as goal

pub returns : goal.returns
returns c = λ last store h.
    let names = c.in_ok-name.ensures ∙ c.deref-2.ensures.value in
    let cells = c.in_ok-cells.ensures last store h ∙ ap (λ (cs : List Cell). cells_shown (store.values (static c.args.number)) cs) c.deref.ensures.value in
    ap (λ (n : List ℕ). let v : Variable = record { name = n; cells = c.in_ok-cells.cells.items } in v) names
    ∙ ap (λ (vs : List CellValue). let v : Variable = record { name = c.args.one.now.name.items; cells = vs } in v) cells
