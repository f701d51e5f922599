use Rattle.std.proofs.Common.{◌≡◌, ◌≤◌, length, drop}
use Rattle.im_ctype.specs.Table.{structs_of}
use Rattle.im_ctree_parts.specs.Lists.{suffixes_from}
use Rattle.im_check_type_specifiers.specs.Specified.{qualified_of}
use Rattle.im_check_declarators.specs.Suffixes.{AreSuffixed}
use Rattle.im_check_declarators.proofs.suffixes.suffixed.Given as goal

abbrev pub invariant-loop-i : goal.invariant-loop-i
invariant-loop-i l = (l.i ≤ length l.suffixes) × (length l.given ≡ length l.suffixes) × AreSuffixed (structs_of l.table) (qualified_of l.fn.q) (suffixes_from (drop l.i l.suffixes)) (drop l.i l.given) (qualified_of l.behind)

abbrev pub decreases-loop-i : goal.decreases-loop-i
decreases-loop-i l = l.i
