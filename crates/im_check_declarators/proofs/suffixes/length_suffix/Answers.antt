use Rattle.im_ctype.specs.Table.{structs_of}
use Rattle.im_check_type_specifiers.specs.Specified.{qualified_of}
use Rattle.im_check_declarators.proofs.Steps.{length_done}
use Rattle.im_check_declarators.proofs.suffixes.length_suffix.Goals as goal

pub returns : goal.returns
returns c = λ k base e rest others same g h.
    length_done k (structs_of c.args.table.now) base e rest others c.args.at c.in-Length.value (qualified_of c.args.q) c.array.result same (rw c.in-Length.is at g) h (c.array.ensures k same)
