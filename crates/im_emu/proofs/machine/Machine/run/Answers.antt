use Rattle.std.proofs.Common.{◌<◌, ◌^◌, subst, ◌∙◌}
use Rattle.im_emu.specs.State.{device_of}
use Rattle.im_emu.proofs.Periods.{next_period, all_periods}
use Rattle.im_emu.proofs.machine.Machine.run.Goals as goal

pub loop-period-preserved : goal.loop-period-preserved
loop-period-preserved g c =
    let bytes = g.M.Memory.bytes in
    let same = c.power.ensures.image in
    let image = c.loop-period.invariant.image in
    record {
      rest = next_period _ _ _ _ (device_of bytes c.loop-period.self) (device_of bytes c.power.new.self) (device_of bytes c.args.self.now) c.as_slice-period-items.ensures c.loop-period-test.true c.loop-period.invariant.rest c.power.ensures.device;
      image = record { version = same.version ∙ image.version; form = same.form ∙ image.form; objects = same.objects ∙ image.objects };
    }

pub returns-clause-device : goal.returns-clause-device
returns-clause-device g c =
    let bytes = g.M.Memory.bytes in
    let steps : c.loop-period.self.steps < 2 ^ 64 = subst (λ held. held.steps < 2 ^ 64) c.self.view_is c.self.invariant.steps in
    let commits : c.loop-period.self.commits < 2 ^ 64 = subst (λ held. held.commits < 2 ^ 64) c.self.view_is c.self.invariant.commits in
    all_periods _ _ _ (device_of bytes c.loop-period.self) (device_of bytes c.args.self.now) c.as_slice-period-items.ensures c.loop-period-test.false steps commits c.loop-period.invariant.rest
