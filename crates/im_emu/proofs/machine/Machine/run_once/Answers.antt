use Rattle.std.proofs.Common.{◌≡◌, ◌∙◌, ap}
use Rattle.im_rv.specs.declared.step.Went.TheVariants.{On}
use Rattle.im_device.specs.Periods.{Device, powered}
use Rattle.im_emu.specs.Stretch.{ended_of}
use Rattle.im_emu.proofs.Periods.{added, one_blind}
use Rattle.im_emu.proofs.machine.Machine.run_once.Goals as goal

pub returns-clause-device : goal.returns-clause-device
returns-clause-device g c =
    let bytes = g.M.Memory.bytes in
    let p = c.args.period.now in
    let inside = c.self.inside in
    let before : Device = record { went = inside.went; mem = bytes inside.memory; steps = inside.instructions; commits = inside.commits } in
    let on : inside.went ≡ On = ap (λ h. h.went) c.self.view_is ∙ c.requires in
    rw (← c.self.view_is, c.saturating_add-self-inside.ensures, c.saturating_add-self-inside-2.ensures, c.from.ensures)
    (added (powered p.n p.junk p.mask) (one_blind p) before (ended_of c.run_period-stretch.result (bytes c.run_period-stretch.new.memory)) on c.run_period-stretch.ensures)
