-- What follows from the definitions.
use Rattle.std.specs.Prelude.{◌≡◌, ℕ, ◌+◌, List, ◌++◌}
use Rattle.im_mem.specs.Memory.{Mem}
use Rattle.im_power.specs.declared.period.Period.{Period}
use Rattle.im_device.specs.Run.{Moment, run, unless_over}
use Rattle.im_device.specs.Periods.{Device, fresh, power}

-- steps in two parts
abbrev pub RunLaw : Type 0
RunLaw = (a b : ℕ) (x : Moment) → run (a + b) x ≡ run b (run a x)

-- a device that began with this one's memory, with this one's counts before its own
abbrev pub behind : Device → Device → Device
behind first d = record { went = d.went; mem = d.mem; steps = first.steps + d.steps; commits = first.commits + d.commits }

-- the list is run on the memory that a device has, whatever was run before
abbrev pub on_memory_of : List Period → Device → Device
on_memory_of periods first = behind first (power periods (fresh first.mem))

-- a list of periods in two parts: the second is run on the memory that the first left, unless the first ended the run
abbrev pub SplitTraceLaw : Type 0
SplitTraceLaw = (first second : List Period) (m : Mem) →
    let left = power first (fresh m) in
    power (first ++ second) (fresh m) ≡ unless_over (on_memory_of second) left.went left
