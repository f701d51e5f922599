use Rattle.std.proofs.Common.{◌≡◌, drop}
use Rattle.im_device.specs.Periods.{power}
use Rattle.im_emu.specs.State.{counted, device_of, SameImage}
use Rattle.im_emu.proofs.machine.Machine.run.Given as goal

abbrev pub invariant-loop-period : goal.invariant-loop-period
invariant-loop-period g l =
    let bytes = g.M.Memory.bytes in
    record {
      rest : counted (power (drop l.period-index l.trace) (device_of bytes l.self)) ≡ counted (power l.trace (device_of bytes l.fn.self));
      image : SameImage l.fn.self l.self;
    }
