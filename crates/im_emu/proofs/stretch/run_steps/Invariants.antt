use Rattle.std.proofs.Common.{◌≡◌, ◌≤◌, ◌-◌}
use Rattle.im_mem.specs.Memory.{little}
use Rattle.im_rv.specs.Steps.{cpu_of}
use Rattle.im_device.specs.Run.{run}
use Rattle.im_emu.specs.Stretch.{begun}
use Rattle.im_emu.proofs.Stretches.{so_far}
use Rattle.im_emu.proofs.stretch.run_steps.Given as goal

abbrev pub invariant-loop-i : goal.invariant-loop-i
invariant-loop-i g l = let bytes = g.M.Memory.bytes in record {
  index : l.index ≡ little (bytes l.memory) 0 4;
  few : l.commits ≤ l.i;
  rest : run (l.n - l.i) (so_far l.i l.commits (cpu_of l.regs) (bytes l.memory)) ≡ run l.n (begun (cpu_of l.fn.regs) (bytes l.fn.memory));
}
