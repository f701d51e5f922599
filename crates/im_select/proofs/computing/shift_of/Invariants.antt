use Rattle.std.proofs.Common.{◌≡◌, ◌-◌}
use Rattle.im_select.specs.Emitted.{shift_below, shift_of}
use Rattle.im_select.proofs.computing.shift_of.Given as goal

-- no greater power is the size
abbrev pub invariant-loop-bits : goal.invariant-loop-bits
invariant-loop-bits l = shift_below l.size (l.bits - 1) ≡ shift_of l.size
