use Rattle.std.proofs.Common.{◌≡◌, drop}
use Rattle.im_ctree_parts.specs.Lists.{list_from}
use Rattle.im_ctree.specs.declared.specifier.Specifiers.{out-Specifiers}
use Rattle.im_check_file_place.specs.Files.{file_place_of}
use Rattle.im_check_file_specifiers.specs.Words.{NoListBefore}
use Rattle.im_check_file_specifiers.proofs.Members.{MembersReached}
use Rattle.im_check_file_specifiers.proofs.specified.+lists.Given as goal

abbrev pub invariant-specify-loop-specifier : goal.invariant-specify-loop-specifier
invariant-specify-loop-specifier l =
    NoListBefore (list_from (out-Specifiers l.specifiers).items.items) (list_from (drop l.specifier-index (out-Specifiers l.specifiers).items.items)) × (l.file ≡ l.fn.file)

abbrev pub invariant-members-loop-member : goal.invariant-members-loop-member
invariant-members-loop-member l = MembersReached (file_place_of l.fn.file) l.written l.member-index l.fields.items (file_place_of l.file)
