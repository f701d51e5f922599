use Rattle.im_check_place.proofs.Added.{Entering}
use Rattle.im_check_place.proofs.entered.entered.Given as goal

abbrev pub invariant-loop-field : goal.invariant-loop-field
invariant-loop-field l = Entering l.fn.table l.table l.fields l.field-index l.members.items
