use Rattle.std.proofs.Common.{◌≡◌, ◌++◌, drop}
use Rattle.im_check_name_map.specs.im_rules.Outline as o
use Rattle.im_ctree_parts.specs.Lists.{list_from, members_from}
use Rattle.im_check_outline.proofs.lists.+lists.Given as goal

abbrev pub invariant-with_lists-loop-specifier : goal.invariant-with_lists-loop-specifier
invariant-with_lists-loop-specifier l = l.done ++ o.lists_in (list_from (drop l.specifier-index l.specifiers)) ≡ l.fn.lists ++ o.lists_in (list_from l.specifiers)

abbrev pub invariant-with_members-loop-member : goal.invariant-with_members-loop-member
invariant-with_members-loop-member l = l.done ++ o.lists_of_members (members_from (drop l.member-index l.members)) ≡ l.fn.lists ++ o.lists_of_members (members_from l.members)
