use Rattle.std.proofs.Common.{◌∙◌, ℕ, List, ap, sym, subst}
use Rattle.im_num.specs.declared.values.CellValue.{CellValue}
use Rattle.im_num.specs.Variables.{Variable}
use Rattle.im_ctype.specs.declared.cell.Cell.{Cell}
use Rattle.im_ctype.specs.Table.{layout_of}
use Rattle.im_store.specs.Objects.{kind_at, shape_of, static}
use Rattle.im_store.specs.Outcomes.{cells_shown}
use Rattle.im_eval.specs.Shows.{AllStand}
use Rattle.im_eval.proofs.Showing.{all-stand}
use Rattle.im_eval.proofs.variables.variable.Goals as goal

pub returns : goal.returns
returns c =
    let object = c.args.object.now in
    let ids = (layout_of c.args.types.now object.ty).cells in
    let listed = c.deref-2.ensures.value ∙ c.in_ok-cells.ensures in
    let named = c.in_ok-name.ensures.items ∙ c.deref.ensures.value in
    let stand = subst (λ (cs : List Cell). AllStand (kind_at ids) cs) (sym listed) (all-stand ids) in
    λ last store h there.
    let values = store.values (static c.args.number) in
    let shown = c.in_ok-shown.ensures last store (shape_of object.size ids) h there stand ∙ ap (cells_shown values) listed in
    ap (λ (n : List ℕ). let v : Variable = record { name = n; cells = c.in_ok-shown.shown.items } in v) named
    ∙ ap (λ (vs : List CellValue). let v : Variable = record { name = object.name.items; cells = vs } in v) shown
