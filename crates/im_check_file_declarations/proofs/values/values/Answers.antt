use Rattle.im_types.specs.Shape.{type_of}
use Rattle.im_check_file_declarations.proofs.Firsts.{values_made}
use Rattle.im_check_file_declarations.proofs.values.values.Goals as goal

pub returns : goal.returns
returns c =
    let e = c.first_values.ensures in
    values_made c.args.file.now c.table.result.now (type_of c.args.ty.now) c.args.items.items c.first_values.result c.table.ensures e.constants e.values e.refused
