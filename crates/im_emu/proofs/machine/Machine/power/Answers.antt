use Rattle.std.proofs.Common.{◌≡◌, ◌∙◌, suc, ◌+◌, ◌-◌, sym, ap, arith}
use Rattle.im_device.specs.Periods.{powered, repeated}
use Rattle.im_emu.specs.State.{counted, device_of}
use Rattle.im_emu.proofs.Periods.{repeat_first, repeat_over}
use Rattle.im_emu.proofs.Stretches.{over_by}
use Rattle.im_emu.proofs.machine.Machine.power.Goals as goal

pub returns-in-Halted : goal.returns-in-Halted
returns-in-Halted g c =
    let now = device_of g.M.Memory.bytes c.repeats.self in
    let i = c.repeats.invariant in
    record {
      device = repeat_over (c.args.period.count - c.repeats.counter) c.args.period now (over_by now.went c.repeats.went i.went c.in-Halted.is) i.steps i.commits ∙ i.rest;
      went = i.went;
      image = i.image;
    }

pub repeats-preserved : goal.repeats-preserved
repeats-preserved g c =
    let p = c.args.period in
    let next = powered p.n p.junk p.mask in
    let now = device_of g.M.Memory.bytes c.repeats.self in
    let left : p.count - c.repeats.counter ≡ suc (p.count - (c.repeats.counter + 1)) = omega arith in
    let i = c.repeats.invariant in
    let same = c.run_once-went.ensures.image in
    record {
      went = c.run_once-went.ensures.went;
      steps = c.run_once-went.ensures.steps;
      commits = c.run_once-went.ensures.commits;
      rest = repeat_first (p.count - (c.repeats.counter + 1)) p now (device_of g.M.Memory.bytes c.run_once-went.new.self) c.run_once-went.ensures.device
          ∙ ap (λ k. counted (repeated k next now)) (sym left)
          ∙ i.rest;
      image = record { version = same.version ∙ i.image.version; form = same.form ∙ i.image.form; objects = same.objects ∙ i.image.objects };
    }
