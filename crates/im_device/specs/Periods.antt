-- A device from one period of power to the next: memory stays, the processor doesn't.
use Rattle.std.specs.Prelude.{ℕ, zero, suc, List, [], ◌∷◌}
use Rattle.im_mem.specs.Memory.{Mem}
use Rattle.im_rv.specs.declared.step.Went.{Went}
use Rattle.im_rv.specs.declared.step.Went.TheVariants.{On}
use Rattle.im_power.specs.declared.period.Period.{Period}
use Rattle.im_device.specs.Run.{Moment, boot, run, torn}

-- how the run has gone, the memory, and how many steps and commits there were in all
pub record Device : Type 0 where
  pub went : Went
  pub mem : Mem
  pub steps : ℕ
  pub commits : ℕ

-- a device that power hasn't come to yet
abbrev pub fresh : Mem → Device
fresh m = record { went = On; mem = m; steps = 0; commits = 0 }

-- power comes, with this word in the registers
abbrev pub power_up : ℕ → Device → Moment
power_up junk d = record { went = d.went; cpu = boot junk; mem = d.mem; steps = d.steps; commits = d.commits }

-- power goes, and the processor's state with it
abbrev pub power_down : Moment → Device
power_down x = record { went = x.went; mem = x.mem; steps = x.steps; commits = x.commits }

-- one period: n steps, or fewer where one ends the run; else the next store is torn
abbrev pub powered : (n junk mask : ℕ) → Device → Device
powered n junk mask d = power_down (torn mask (run n (power_up junk d)))

-- the same a number of times
abbrev pub repeated : ℕ → (Device → Device) → Device → Device
repeated zero next d = d
repeated (suc n) next d = repeated n next (next d)

-- a list of periods, each repeated as often as it says
abbrev pub power : List Period → Device → Device
power [] d = d
power (p ∷ ps) d = power ps (repeated p.count (powered p.n p.junk p.mask) d)
