use Rattle.std.proofs.Common.{◌≤◌, length}
use Rattle.im_check_file_specifiers.proofs.Names.{NamesBehind}
use Rattle.im_check_file_specifiers.proofs.lists.differ.Given as goal

abbrev pub invariant-loop-place : goal.invariant-loop-place
invariant-loop-place l = (l.place ≤ length l.fields) × NamesBehind l.fields l.place l.behind

abbrev pub decreases-loop-place : goal.decreases-loop-place
decreases-loop-place l = l.place
