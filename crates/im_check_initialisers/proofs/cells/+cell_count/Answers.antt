use Rattle.std.proofs.Common.{◌≡◌, ◌*◌, length, IfOk, sym, ap, ◌∙◌, subst}
use Rattle.im_ctype.specs.Layout.{layout}
use Rattle.im_ctype.specs.Table.{structs_of}
use Rattle.im_ctype.proofs.Places.{length-repeated}
use Rattle.im_types.specs.declared.tree.Type as rust
use Rattle.im_types.specs.Shape.{type_of}
use Rattle.im_check_initialisers.proofs.cells.+cell_count.Goals as goal

pub returns-in_ok-each-in-Array : goal.returns-in_ok-each-in-Array
returns-in_ok-each-in-Array t c =
    let known = structs_of c.args.table.now in
    let e = layout known (type_of c.in-Array.element.value) in
    let each = rw c.deref.ensures at c.in_ok-each-in-Array.ensures in
    let whole = ap (λ k. c.in-Array.count * k) each ∙ sym (length-repeated 0 c.in-Array.count e) ∙ ap (λ (z : rust.Type). length (layout known (type_of z)).cells) (sym c.in-Array.is) in
    subst (λ z. IfOk c.product.result (λ n. n ≡ z)) whole c.product.ensures
