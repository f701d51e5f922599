use Rattle.im_ctype.specs.Table.{structs_of}
use Rattle.im_check_file_specifiers.proofs.MemberSizes.{FitsReached}
use Rattle.im_check_file_specifiers.proofs.sizes.members_fit.Given as goal

abbrev pub invariant-loop-field : goal.invariant-loop-field
invariant-loop-field l = FitsReached (structs_of l.table) l.fields l.field-index
