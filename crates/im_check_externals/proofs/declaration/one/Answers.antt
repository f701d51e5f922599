use Rattle.im_ctree_parts.specs.Lists.{list_from}
use Rattle.im_check_type_specifiers.specs.Specified.{qualified_of}
use Rattle.im_check_file_place.specs.Files.{file_place_of}
use Rattle.im_check_externals.proofs.Declared.{one_fault}
use Rattle.im_check_externals.proofs.declaration.one.Goals as goal

pub returns-in-Ok : goal.returns-in-Ok
returns-in-Ok c = rw c.from_ref.ensures.value at c.in-Ok.ensures

pub returns-in-Err : goal.returns-in-Err
returns-in-Err c = λ rest. one_fault (list_from c.args.specifiers.now) (qualified_of c.args.q.now) (file_place_of c.args.file.now) c.args.x.now rest c.in-Err.stop _ (rw c.from_ref.ensures.value at c.in-Err.ensures) c.in_declarator.ensures
