use Rattle.std.proofs.Common.{◌≡◌, take, map}
use Rattle.im_typed.specs.declared.frames.Frame.{Frame}
use Rattle.im_cmd.proofs.evaluating.sizes_of.Given as goal

abbrev pub invariant-loop-frame : goal.invariant-loop-frame
invariant-loop-frame l = l.sizes.items ≡ map {A = Frame} (λ f. f.size) (take l.frame-index l.frames)
