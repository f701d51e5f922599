use Rattle.std.proofs.Common.{take}
use Rattle.im_lower.specs.Marks.{AreMarks}
use Rattle.im_lower.proofs.MarkLists.{AreUnmarked}
use Rattle.im_lower.proofs.initialise.marks_of.Given as goal

abbrev pub invariant-loop : goal.invariant-loop
invariant-loop l = AreUnmarked l.marks.items

abbrev pub invariant-loop-at : goal.invariant-loop-at
invariant-loop-at l = AreMarks (take l.at-index l.given) l.marks.items
