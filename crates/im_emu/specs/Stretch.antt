-- What the code has of a run within a period: for its own contracts alone.
use Rattle.std.specs.Prelude.{ℕ, ◌==◌, cond}
use Rattle.im_mem.specs.Memory.{Mem}
use Rattle.im_rv.specs.declared.step.Went.TheVariants.{On}
use Rattle.im_rv.specs.Steps.{Cpu}
use Rattle.im_device.specs.Run.{Moment, index_of}
use Rattle.im_device.specs.Periods.{Device}
use Rattle.im_emu.specs.declared.stretch.Stretch.{Stretch}

abbrev pub moment_of : Stretch → Cpu → Mem → Moment
moment_of s c m = record { went = s.went; cpu = c; mem = m; steps = s.steps; commits = s.commits }

abbrev pub ended_of : Stretch → Mem → Device
ended_of s m = record { went = s.went; mem = m; steps = s.steps; commits = s.commits }

-- nothing was done yet
abbrev pub begun : Cpu → Mem → Moment
begun c m = record { went = On; cpu = c; mem = m; steps = 0; commits = 0 }

-- 1 where INDEX differs
abbrev pub change : Mem → Mem → ℕ
change before after = cond (index_of before == index_of after) 0 1
