use Rattle.std.proofs.Common.{◌≡◌, List, IfOk, ap, sym, subst, ◌∙◌}
use Rattle.im_ctype.specs.declared.cell.Cell.{Cell}
use Rattle.im_ctype.specs.Layout.{layout}
use Rattle.im_ctype.specs.Table.{structs_of}
use Rattle.im_types.specs.declared.tree.Type as rust
use Rattle.im_types.specs.Shape.{type_of}
use Rattle.im_check_static_values.proofs.Elements.{elements}
use Rattle.im_check_static_values.proofs.cells.+cells_of.Goals as goal

pub returns-in_ok-bytes-in-Array : goal.returns-in_ok-bytes-in-Array
returns-in_ok-bytes-in-Array t c =
    let known = structs_of c.args.table.now in
    let l = layout known (type_of c.in-Array.element.value) in
    let part = c.deref-in-Array-2.ensures.value ∙ c.in_ok-part-in-Array.ensures ∙ ap (λ (a : rust.Type). (layout known (type_of a)).cells) c.deref.ensures in
    let bytes = c.in_ok-bytes-in-Array.ensures ∙ ap (λ (a : rust.Type). (layout known (type_of a)).size) c.deref-in-Array.ensures in
    let same = elements l c.in-Array.count c.in_ok-bytes-in-Array.bytes c.deref-in-Array-2.result.now bytes part ∙ sym (ap (λ (a : rust.Type). (layout known (type_of a)).cells) c.in-Array.is) in
    subst (λ (cs : List Cell). IfOk c.repeated.result (λ done. done.items ≡ cs)) same (c.repeated.ensures l.align)
