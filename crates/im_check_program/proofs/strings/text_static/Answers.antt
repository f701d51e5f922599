use Rattle.std.proofs.Common.{◌+◌, length, refl}
use Rattle.im_ctype.specs.Table.{structs_of}
use Rattle.im_types.specs.Shape.{type_of}
use Rattle.im_check_program.proofs.Growing.{text_made}
use Rattle.im_check_program.proofs.strings.text_static.Goals as goal

pub returns-clause-same : goal.returns-clause-same
returns-clause-same c =
    let o = c.in_ok-object.object in
    text_made (structs_of c.args.table.now) c.typed_object.new.table c.args.number c.args.text.now (length c.args.text.now + 1) (type_of c.in_ok-ty.ty) c.in_ok-name.name.items o (record { object = o; cells = c.in_ok-cells.cells })
    refl c.in_ok-ty.ensures c.in_ok-name.ensures c.in_ok-object.ensures.object refl (c.in_ok-cells.ensures c.typed_object.new.table)
