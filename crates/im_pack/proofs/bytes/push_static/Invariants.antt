use Rattle.im_pack.specs.Bytes.{AreFirstCells}
use Rattle.im_pack.proofs.bytes.push_static.Given as goal

abbrev pub invariant-loop-i : goal.invariant-loop-i
invariant-loop-i l = AreFirstCells l.addresses l.fn.bytes.items l.part l.i l.bytes.items
