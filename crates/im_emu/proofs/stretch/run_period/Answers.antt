use Rattle.std.proofs.Common.{◌∙◌, ap, arith}
use Rattle.im_rv.specs.Steps.{cpu_of}
use Rattle.im_device.specs.Run.{run}
use Rattle.im_emu.specs.Stretch.{begun, ended_of}
use Rattle.im_emu.proofs.Stretches.{torn_period, change_few}
use Rattle.im_emu.proofs.stretch.run_period.Goals as goal

pub overflow_add-commits : goal.overflow_add-commits
overflow_add-commits g c =
    let bytes = g.M.Memory.bytes in
    let few = change_few c.tear_store.result (bytes c.run_steps-stretch.new.memory) (bytes c.tear_store.new.memory) c.tear_store.ensures.commits in
    omega (arith, c.run_steps-stretch.ensures.few, few)

pub returns-in-On : goal.returns-in-On
returns-in-On g c =
    let bytes = g.M.Memory.bytes in
    let p = c.args.period.now in
    let s = c.run_steps-stretch.result in
    let m = bytes c.args.memory.now in
    ap (λ s. ended_of s (bytes c.tear_store.new.memory)) c.stretch_of.ensures
    ∙ torn_period p.n p.junk p.mask s.steps s.commits c.tear_store.result s.went (cpu_of c.run_steps-stretch.new.regs) m (bytes c.run_steps-stretch.new.memory) (bytes c.tear_store.new.memory)
    (c.run_steps-stretch.ensures.ran ∙ ap (λ cpu. run p.n (begun cpu m)) c.power_up-regs.ensures)
    c.in-On.is c.tear_store.ensures.memory c.tear_store.ensures.commits
