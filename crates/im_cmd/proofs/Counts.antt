-- A machine's counts after a trace, which hold all that it counts.
use Rattle.std.proofs.Common.{◌≡◌, ◌<◌, ◌^◌, List, ◌∙◌, arith}
use Rattle.im_mem.specs.Memory.{Mem}
use Rattle.im_power.specs.declared.period.Period.{Period}
use Rattle.im_device.specs.Periods.{Device, fresh, power}
use Rattle.im_emu.specs.State.{counted}
use Rattle.im_emu.proofs.Periods.{counted_same}
use Rattle.im_cmd.specs.Stages.{IsTrace}
use Rattle.im_cmd.proofs.Bounds.{power_bounded}

pub trace_run : (periods : List Period) (m : Mem) (d : Device) → IsTrace periods → d ≡ counted (power periods (fresh m)) → d ≡ power periods (fresh m)
trace_run periods m d is e =
    let left = power periods (fresh m) in
    let limits = power_bounded periods (fresh m) is.short in
    let few = is.few in
    let steps : left.steps < 2 ^ 64 = omega (arith, limits.steps, few) in
    let commits : left.commits < 2 ^ 64 = omega (arith, limits.commits, few) in
    e ∙ counted_same left steps commits
