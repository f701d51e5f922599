use Rattle.std.proofs.Common.{◌≡◌, drop}
use Rattle.im_forward.specs.Known.{instead_of}
use Rattle.im_forward.proofs.copies.instead.Given as goal

abbrev pub invariant-loop-copy : goal.invariant-loop-copy
invariant-loop-copy l = instead_of l.copies l.register ≡ instead_of (drop l.copy-index l.copies) l.register
