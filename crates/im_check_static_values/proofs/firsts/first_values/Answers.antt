use Rattle.std.proofs.Common.{List, map, ap, ◌∙◌}
use Rattle.im_ctype.specs.declared.cell.Cell.{Cell}
use Rattle.im_ctype.specs.Table.{structs_of}
use Rattle.im_check_items.specs.im_rules.TypedUnit.{cells_in}
use Rattle.im_types.specs.Shape.{type_of}
use Rattle.im_check_items.specs.Shape.{items_in}
use Rattle.im_check_static_values.specs.declared.given.Given.{Given}
use Rattle.im_check_static_values.specs.Given.{given_to}
use Rattle.im_check_static_values.proofs.GivenValues.{are_constant, cells_same}
use Rattle.im_check_static_values.proofs.firsts.first_values.Goals as goal

pub returns-clause-constants : goal.returns-clause-constants
returns-clause-constants g c =
    let types = c.args.table.now in
    are_constant types (g.S.Sizes.size c.args.sizes.now) (items_in types c.args.items.items) c.in_ok-given.given.items c.in_ok-given.ensures

pub returns-clause-values : goal.returns-clause-values
returns-clause-values g c =
    let types = c.args.table.now in
    let size = g.S.Sizes.size c.args.sizes.now in
    c.in_ok-values.ensures types
    ∙ ap (λ (cs : List Cell). map {A = Cell} (given_to types c.deref-2.result.now) cs) (c.deref.ensures.value ∙ c.in_ok-cells.ensures)
    ∙ ap (λ (gs : List Given). map {A = Cell} (given_to types gs) (cells_in (structs_of types) (type_of c.args.ty.now))) c.deref-2.ensures.value
    ∙ cells_same types size (cells_in (structs_of types) (type_of c.args.ty.now)) (items_in types c.args.items.items) c.in_ok-given.given.items c.in_ok-given.ensures
