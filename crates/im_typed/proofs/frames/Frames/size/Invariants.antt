use Rattle.std.proofs.Common.{◌≡◌, drop}
use Rattle.im_typed.specs.Frames.{size_in}
use Rattle.im_typed.proofs.frames.Frames.size.Given as goal

abbrev pub invariant-loop-frame : goal.invariant-loop-frame
invariant-loop-frame l = size_in (drop l.frame-index l.self.frames.items) l.name ≡ size_in l.self.frames.items l.name
