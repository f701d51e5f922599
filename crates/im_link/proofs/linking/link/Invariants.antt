use Rattle.std.proofs.Common.{take}
use Rattle.im_link.specs.Linking.{Holds}
use Rattle.im_link.proofs.linking.link.Given as goal

abbrev pub invariant-loop-part : goal.invariant-loop-part
invariant-loop-part l = Holds l.linker (take l.part-index l.parts)
