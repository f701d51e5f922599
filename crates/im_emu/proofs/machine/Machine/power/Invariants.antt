use Rattle.std.proofs.Common.{◌≡◌, ◌<◌, ◌-◌, ◌^◌}
use Rattle.im_device.specs.Periods.{powered, repeated}
use Rattle.im_emu.specs.State.{counted, device_of, SameImage}
use Rattle.im_emu.proofs.machine.Machine.power.Given as goal

abbrev pub invariant-repeats : goal.invariant-repeats
invariant-repeats g l =
    let now = device_of g.M.Memory.bytes l.self in
    let first = device_of g.M.Memory.bytes l.fn.self in
    let one = powered l.period.n l.period.junk l.period.mask in
    record {
      went : l.went ≡ now.went;
      steps : now.steps < 2 ^ 64;
      commits : now.commits < 2 ^ 64;
      rest : counted (repeated (l.period.count - l.counter) one now) ≡ counted (repeated l.period.count one first);
      image : SameImage l.fn.self l.self;
    }
