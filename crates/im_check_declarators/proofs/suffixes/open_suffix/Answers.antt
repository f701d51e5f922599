use Rattle.im_ctype.specs.Table.{structs_of}
use Rattle.im_check_type_specifiers.specs.Specified.{qualified_of}
use Rattle.im_check_declarators.proofs.Steps.{open_done, structs_counted}
use Rattle.im_check_declarators.proofs.suffixes.open_suffix.Goals as goal

pub returns : goal.returns
returns c = λ k base rest others same g h.
    open_done k (structs_of c.args.table.now) base rest others c.args.at (qualified_of c.args.q) c.open_array.result same (rw c.in-Open.is at g) h (c.open_array.ensures k (structs_counted k c.args.table.now c.struct_count.result same c.struct_count.ensures))
