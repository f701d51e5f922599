use Rattle.std.proofs.Common.{◌≡◌, take}
use Rattle.im_mem.specs.Memory.{view, written}
use Rattle.im_mem.proofs.flat.fill.Given as goal

abbrev pub invariant-loop-i : goal.invariant-loop-i
invariant-loop-i l = view l.memory ≡ written (view l.fn.memory) l.at (take l.i l.bytes)
