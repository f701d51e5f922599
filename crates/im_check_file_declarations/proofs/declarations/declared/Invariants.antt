use Rattle.im_ctree_parts.specs.Lists.{list_from}
use Rattle.im_check_type_specifiers.specs.Specified.{qualified_of}
use Rattle.im_check_file_place.specs.Files.{file_place_of}
use Rattle.im_check_file_declarations.proofs.Declarators.{DeclaratorsReached}
use Rattle.im_check_file_declarations.proofs.declarations.declared.Given as goal

abbrev pub invariant-loop-x : goal.invariant-loop-x
invariant-loop-x l = DeclaratorsReached (list_from l.specifiers) (qualified_of l.q) (file_place_of l.fn.file) l.declarators l.x-index l.fn.firsts.items l.firsts.items (file_place_of l.file)
