-- A run that never loses power, by the number of its steps: what each step reads, writes, sets and ends.
use Rattle.std.specs.Prelude.{◌≡◌, ℕ, suc, Bool, true, false, not, nat_eq, Option}
use Rattle.im_mem.specs.Memory.{Mem}
use Rattle.im_rv.specs.declared.effect.Effect.{Effect}
use Rattle.im_rv.specs.declared.step.Went.{Went}
use Rattle.im_rv.specs.declared.step.Went.TheVariants.{On, Halted, Faulted}
use Rattle.im_rv.specs.Steps.{Cpu}
use Rattle.im_rv.specs.Decode.{Line}
use Rattle.im_rv.specs.Runs.{step_of}
use Rattle.im_rv.specs.Effects.{fetched_line, effect_of, rd_of, writes_by, reads_by, sets_by}
use Rattle.im_device.specs.Run.{index_of}

pub record State : Type 0 where
  pub cpu : Cpu
  pub mem : Mem

-- a step; where it halts or faults all stays
abbrev pub stepped : State → State
stepped s = record { cpu = (step_of s.cpu s.mem).cpu; mem = (step_of s.cpu s.mem).mem }

abbrev pub line_at : State → Option Line
line_at s = fetched_line s.cpu s.mem

abbrev pub effect_at : State → Effect
effect_at s = effect_of s.cpu s.mem

-- the next step sets the register
abbrev pub sets : State → ℕ → Bool
sets s i = sets_by (effect_at s) (rd_of (line_at s)) i

abbrev pub is_on : Went → Bool
is_on On = true
is_on Halted = false
is_on (Faulted at) = false

-- the next step ends the run
abbrev pub is_end : State → Bool
is_end s = not (is_on (step_of s.cpu s.mem).went)

-- the next step changes INDEX
abbrev pub is_flip : State → Bool
is_flip s = not (nat_eq (index_of s.mem) (index_of (stepped s).mem))

-- a run: the states by the number of steps
abbrev pub IsRun : (ℕ → State) → Type 0
IsRun run = (t : ℕ) → run (suc t) ≡ stepped (run t)

abbrev pub flip : (ℕ → State) → ℕ → Bool
flip run t = is_flip (run t)

abbrev pub ends : (ℕ → State) → ℕ → Bool
ends run t = is_end (run t)

abbrev pub memory : (ℕ → State) → ℕ → Mem
memory run t = (run t).mem

-- the byte that the step of time t writes at an address
abbrev pub writes : (ℕ → State) → ℕ → ℕ → Option ℕ
writes run t a = writes_by (effect_at (run t)) a

-- whether the step of time t reads the byte at an address
abbrev pub reads : (ℕ → State) → ℕ → ℕ → Bool
reads run t a = reads_by (effect_at (run t)) a
