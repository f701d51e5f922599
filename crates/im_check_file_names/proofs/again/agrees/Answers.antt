use Rattle.im_check_scopes.specs.Shape.{storage_of, callee_of}
use Rattle.im_check_file_names.proofs.again.agrees.Goals as goal

pub returns-in-Object : goal.returns-in-Object
returns-in-Object c = rw c.in-Object.is (c.agrees_with_object.ensures (storage_of c.in-Object.field-2))

pub returns-in-Function : goal.returns-in-Function
returns-in-Function c = rw c.in-Function.is (c.agrees_with_function.ensures (callee_of c.in-Function.field-0))
