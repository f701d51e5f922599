use Rattle.im_check_type_specifiers.specs.Specified.{qualified_of}
use Rattle.im_check_file_place.specs.Files.{file_place_of}
use Rattle.im_check_file_specifiers.proofs.Members.{FieldsReached}
use Rattle.im_check_file_specifiers.proofs.fields.with_fields.Given as goal

abbrev pub invariant-loop-d : goal.invariant-loop-d
invariant-loop-d l = FieldsReached (qualified_of l.q) (file_place_of l.fn.file) l.declarators l.d-index l.fn.fields.items l.fields.items (file_place_of l.file)
