-- A device while it has power: steps, and what is counted of them.
use Rattle.std.specs.Prelude.{ℕ, zero, suc, ◌==◌, cond, replicate}
use Rattle.im_mem.specs.Memory.{Mem, little}
use Rattle.im_mem.specs.Map.{index_at, code_start}
use Rattle.im_rv.specs.declared.step.Went.{Went}
use Rattle.im_rv.specs.declared.step.Went.TheVariants.{On, Halted, Faulted}
use Rattle.im_rv.specs.Steps.{Cpu, Stepped, regs_of}
use Rattle.im_rv.specs.Runs.{step_of}
use Rattle.im_rv.specs.Torn.{torn_of}

-- how the run has gone, the processor, the memory, how many steps were made, and how many of them changed INDEX
pub record Moment : Type 0 where
  pub went : Went
  pub cpu : Cpu
  pub mem : Mem
  pub steps : ℕ
  pub commits : ℕ

-- what comes next, unless the run is over: a halt and a fault end it
abbrev pub unless_over : {X : Type 0} → (X → X) → Went → X → X
unless_over next On x = next x
unless_over next Halted x = x
unless_over next (Faulted at) x = x

-- INDEX
abbrev pub index_of : Mem → ℕ
index_of m = little m index_at 4

-- so many commits, and one more where INDEX differs
abbrev pub counting : Mem → Mem → ℕ → ℕ
counting before after commits = cond (index_of before == index_of after) commits (suc commits)

-- a step was made; one that halts or faults counts as well
abbrev pub after_step : Moment → Stepped → Moment
after_step x s = record { went = s.went; cpu = s.cpu; mem = s.mem; steps = suc x.steps; commits = counting x.mem s.mem x.commits }

abbrev pub one_step : Moment → Moment
one_step x = after_step x (step_of x.cpu x.mem)

-- n steps, or fewer where one ends the run
abbrev pub run : ℕ → Moment → Moment
run zero x = x
run (suc n) x = unless_over (λ y. run n (one_step y)) x.went x

-- the processor as power comes: it begins with the code, and each register but x0 holds the same word, whichever it is
abbrev pub boot : ℕ → Cpu
boot junk = record { pc = code_start; x = regs_of (replicate 32 junk) }

-- power fails within the next instruction: of a store those bytes are written that the mask names, and no step is made
abbrev pub after_tear : ℕ → Moment → Moment
after_tear mask x =
    let mem = torn_of mask x.cpu x.mem in
    record { went = x.went; cpu = x.cpu; mem = mem; steps = x.steps; commits = counting x.mem mem x.commits }

abbrev pub torn : ℕ → Moment → Moment
torn mask x = unless_over (after_tear mask) x.went x
