use Rattle.im_ctree_parts.specs.Lists.{list_from}
use Rattle.im_check_type_specifiers.specs.Specified.{qualified_of}
use Rattle.im_check_file_place.specs.Files.{file_place_of}
use Rattle.im_check_externals.proofs.Declared.{Passed}
use Rattle.im_check_externals.proofs.declaration.in_order.Given as goal

abbrev pub invariant-loop-x : goal.invariant-loop-x
invariant-loop-x l = Passed (list_from l.specifiers) (qualified_of l.q) (file_place_of l.fn.file) l.declarators l.x-index l.fn.firsts.items l.firsts.items (file_place_of l.file)
