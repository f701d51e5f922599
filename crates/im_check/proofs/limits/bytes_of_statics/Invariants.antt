use Rattle.std.proofs.Common.{◌≡◌, map, take}
use Rattle.im_typed.specs.Limits.{static_bytes}
use Rattle.im_typed.specs.ProgramOf.{static_of}
use Rattle.im_check.proofs.limits.bytes_of_statics.Given as goal

abbrev pub invariant-loop-s : goal.invariant-loop-s
invariant-loop-s l = l.total ≡ static_bytes (map (static_of l.prog.types) (take l.s-index l.prog.statics.items))
