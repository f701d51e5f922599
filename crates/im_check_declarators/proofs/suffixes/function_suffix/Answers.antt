use Rattle.im_ctype.specs.Table.{structs_of}
use Rattle.im_check_type_specifiers.specs.Specified.{qualified_of}
use Rattle.std.proofs.Common.{map}
use Rattle.im_ctree_parts.specs.Lists.{parameters_from}
use Rattle.im_check_declarators.specs.Shape.{declared_of}
use Rattle.im_check_declarators.proofs.Steps.{function_done}
use Rattle.im_check_declarators.proofs.suffixes.function_suffix.Goals as goal

pub returns : goal.returns
returns c = λ k base rest others same g h.
    function_done k (structs_of c.args.table.now) base (parameters_from c.args.parameters.now) rest others c.args.at (map declared_of c.in-Parameters.declared.items) (qualified_of c.args.q) c.function.result same (rw c.in-Parameters.is at g) h (rw c.deref.ensures.value at c.function.ensures)
