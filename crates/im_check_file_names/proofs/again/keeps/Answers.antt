use Rattle.im_types.specs.Shape.{type_of}
use Rattle.im_check_file_names.proofs.again.keeps.Goals as goal

pub returns-in-Typedef : goal.returns-in-Typedef
returns-in-Typedef c = rw c.in-Typedef.is (c.is_type.ensures c.in-Typedef.field-0 (type_of c.in-Typedef.field-1))
