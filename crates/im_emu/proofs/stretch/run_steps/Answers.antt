use Rattle.std.proofs.Common.{refl, ◌∙◌, ap, arith}
use Rattle.im_rv.specs.Steps.{cpu_of}
use Rattle.im_emu.specs.Stretch.{moment_of}
use Rattle.im_emu.proofs.Stretches.{one_taken, last_taken, bounded, halted_over, faulted_over}
use Rattle.im_emu.proofs.stretch.run_steps.Goals as goal

pub returns-in-Halted-clause-ran : goal.returns-in-Halted-clause-ran
returns-in-Halted-clause-ran g c =
    let m = g.M.Memory.bytes c.step-went.new.memory in
    ap (λ s. moment_of s (cpu_of c.step-went.new.regs) m) c.stretch_of.ensures
    ∙ last_taken _ _ _ _ _ _ _ _ _ _ _ c.loop-i-test.true (halted_over _ refl) c.in-Halted.ensures.went c.in-Halted.ensures.cpu c.in-Halted.ensures.mem c.loop-i.invariant.index c.word_at-next.ensures c.changes-commits.ensures
    ∙ c.loop-i.invariant.rest

pub returns-in-Faulted-clause-ran : goal.returns-in-Faulted-clause-ran
returns-in-Faulted-clause-ran g c =
    let m = g.M.Memory.bytes c.step-went.new.memory in
    ap (λ s. moment_of s (cpu_of c.step-went.new.regs) m) c.stretch_of-in-Faulted.ensures
    ∙ last_taken _ _ _ _ _ _ _ _ _ _ _ c.loop-i-test.true (faulted_over _ _ refl) c.in-Faulted.ensures.went c.in-Faulted.ensures.cpu c.in-Faulted.ensures.mem c.loop-i.invariant.index c.word_at-next.ensures c.changes-commits.ensures
    ∙ c.loop-i.invariant.rest

pub loop-i-preserved : goal.loop-i-preserved
loop-i-preserved g c = record {
  index = c.word_at-next.ensures;
  few = omega (arith, bounded _ _ _ c.changes-commits.ensures);
  rest = one_taken _ _ _ _ _ _ _ _ _ _ c.loop-i-test.true c.in-On.ensures.went c.in-On.ensures.cpu c.in-On.ensures.mem c.loop-i.invariant.index c.word_at-next.ensures c.changes-commits.ensures
      ∙ c.loop-i.invariant.rest;
}
