-- What a run has to be, for one whose power fails to follow it, and what may stand for one of its moments.
use Rattle.std.specs.Prelude.{◌≡◌, ◌≢◌, ℕ, suc, ◌+◌, ◌%◌, ◌^◌, ◌<◌, ◌≤◌, true, false, Some, None}
use Rattle.im_mem.specs.Memory.{Mem, little, Stands}
use Rattle.im_rv.specs.declared.step.Went.TheVariants.{Faulted}
use Rattle.im_rv.specs.Steps.{Cpu}
use Rattle.im_rv.specs.Decode.{Line}
use Rattle.im_rv.specs.Runs.{step_of}
use Rattle.im_rv.specs.Effects.{stores_word}
use Rattle.im_device.specs.Run.{index_of}
use Rattle.im_replay_path.specs.Sections.{start, NoWar}
use Rattle.im_ckpt.specs.Runs.{State, IsRun, line_at, effect_at, flip, writes, reads}
use Rattle.im_ckpt.specs.Buffers.{idle, slot, is_buffer, is_fixed, saves_by, saves_reg, saved}
use Rattle.im_ckpt.specs.Recovery.{recovery_words, return_line}
use Rattle.im_replay.specs.Needed.{Needed}
use Rattle.im_replay.specs.Sections.{resume, IsLive}

-- the code ends before this address
pub record IsSound (run : ℕ → State) (code : ℕ) : Type 0 where
  pub steps : IsRun run
  pub no_war : NoWar (flip run) (writes run) (reads run)
  -- no step reads a register buffer
  pub reads_outside : (t a : ℕ) → reads run t a ≡ true → is_buffer a ≡ false
  -- INDEX is written by flips alone, the code never
  pub fixed : (t a : ℕ) → is_fixed code a ≡ true → flip run t ≡ false → writes run t a ≡ None
  pub code_kept : (t a : ℕ) → 4096 ≤ a → a < code → writes run t a ≡ None
  pub fetches : (t : ℕ) → (4096 ≤ (run t).cpu.pc) × ((run t).cpu.pc + 4 ≤ code)
  -- each step has an instruction, and none faults
  pub line : ℕ → Line
  pub decodes : (t : ℕ) → line_at (run t) ≡ Some (line t)
  pub no_fault : (t at : ℕ) → (step_of (run t).cpu (run t).mem).went ≢ Faulted at
  -- a store into a buffer is that of a register at its place in the idle one
  pub saves : (t : ℕ) → saves_by (effect_at (run t)) ≡ true → saves_reg (run t) (line t).rs2 ≡ true
  -- a flip is the store of one word, and what is needed behind it was saved
  pub flips : (t : ℕ) → flip run t ≡ true → stores_word (effect_at (run t)) 0 ≡ true
  pub filled : (t i : ℕ) → flip run t ≡ true → Needed run (suc t) i → 0 < i → saved run t i ≡ true
  pub returns : (t : ℕ) → flip run t ≡ true → line (suc t) ≡ return_line
  pub index : (t : ℕ) → index_of (run t).mem < 2
  -- the runtime's own registers are not needed where a section resumes
  pub own : (s i : ℕ) → start (flip run) s ≡ s → Needed run (resume s) i → (i ≢ 3) × (i ≢ 4) × (i < 32)
  -- the numbers are words and bytes, a resume place is even
  pub words : (t i : ℕ) → (run t).cpu.x i < 2 ^ 32
  pub zero_reg : (t : ℕ) → (run t).cpu.x 0 ≡ 0
  pub even : (t : ℕ) → flip run t ≡ true → (run (suc t)).cpu.x 3 % 2 ≡ 0
  -- it begins with recovery in memory and a full buffer
  pub recovery : Stands (run 0).mem 4096 recovery_words
  pub long : 4352 ≤ code
  pub begins : IsLive run 0 (run 0).mem
  pub even_first : (run 0).cpu.pc % 2 ≡ 0

-- what the idle buffer holds at time t: the needed registers that the section has saved
abbrev pub IsFilled : (ℕ → State) → ℕ → Mem → Type 0
IsFilled run t m = (i : ℕ) → saved run t i ≡ true → Needed run t i → little m (idle (index_of (run t).mem) + slot i) 4 ≡ (run t).cpu.x i

-- a processor and a memory that may stand for those of time t
pub record IsLike (run : ℕ → State) (t : ℕ) (c : Cpu) (m : Mem) : Type 0 where
  pub place : c.pc ≡ (run t).cpu.pc
  pub regs : (i : ℕ) → Needed run t i → c.x i ≡ (run t).cpu.x i
  pub filled : IsFilled run t m
