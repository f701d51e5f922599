-- What recovery and the checkpoint do, with power lost at any of their steps and within any of their stores.
use Rattle.std.specs.Prelude.{◌≡◌, ◌≢◌, ℕ, suc, ◌+◌, ◌%◌, ◌^◌, ◌<◌, ◌≤◌, ◌⊎◌, Bool, false, cond, ◌==◌, ◌&&◌, ◌||◌, true, nat_le, nat_lt}
use Rattle.im_mem.specs.Memory.{Mem, little, stored, Stands}
use Rattle.im_mem.specs.Map.{index_at, code_start}
use Rattle.im_rv.specs.declared.step.Went.TheVariants.{On}
use Rattle.im_rv.specs.Torn.{torn_of}
use Rattle.im_device.specs.Run.{Moment, index_of, run, torn}
use Rattle.im_device.specs.Periods.{fresh, power_up}
use Rattle.im_ckpt.specs.Runs.{State, IsRun}
use Rattle.im_ckpt.specs.Buffers.{buffer, idle, slot}
use Rattle.im_ckpt.specs.Recovery.{recovery_words, Restored}
use Rattle.im_ckpt.specs.Checkpoint.{checkpoint_words, checkpoint_start, checkpoint_end, entry_at}

-- ---- recovery

-- what recovery needs of a memory
pub record CanResume (m : Mem) : Type 0 where
  pub bytes : (a : ℕ) → m a < 256
  pub recovery : Stands m code_start recovery_words
  pub index : index_of m < 2
  pub even : little m (buffer (index_of m)) 4 % 2 ≡ 0

-- k instructions after power came
abbrev pub resuming : ℕ → ℕ → Mem → Moment
resuming k junk m = run k (power_up junk (fresh m))

pub record Resumes (m : Mem) (junk : ℕ) : Type 0 where
  -- each of its 33 steps goes on, writes nothing and commits nothing, also where power fails within it
  pub goes_on : (k : ℕ) → k ≤ 33 → resuming k junk m ≡ record { went = On; cpu = (resuming k junk m).cpu; mem = m; steps = k; commits = 0 }
  pub torn : (k mask : ℕ) → k < 33 → torn mask (resuming k junk m) ≡ resuming k junk m
  -- and then the place and the registers are those of the live buffer
  pub restored : Restored m (buffer (index_of m)) (resuming 33 junk m).cpu

abbrev pub ResumeLaw : Type 0
ResumeLaw = (m : Mem) (junk : ℕ) → CanResume m → Resumes m junk

-- ---- the checkpoint

-- a place in recovery or in the checkpoint routine
abbrev pub is_runtime : ℕ → Bool
is_runtime pc = nat_le code_start pc && nat_lt pc checkpoint_end

-- a run whose code begins with both, and ends before this address
pub record HasRuntime (run : ℕ → State) (code : ℕ) : Type 0 where
  pub steps : IsRun run
  pub long : checkpoint_end ≤ code
  pub recovery : Stands (run 0).mem code_start recovery_words
  pub checkpoint : Stands (run 0).mem checkpoint_start checkpoint_words

-- the step of time t is a cut with entry Em: a jal that links x3
pub record IsCut (run : ℕ → State) (t m : ℕ) : Type 0 where
  pub above : 4 ≤ m
  pub below : m ≤ 31
  pub entered : (run (suc t)).cpu.pc ≡ entry_at m
  pub linked : (run (suc t)).cpu.x 3 ≡ (run t).cpu.pc + 4
  pub even : ((run t).cpu.pc + 4) % 2 ≡ 0
  pub outside : is_runtime (run t).cpu.pc ≡ false
  pub back : is_runtime ((run t).cpu.pc + 4) ≡ false

-- at time t the code is as it was, INDEX is 0 or 1, and registers hold words
pub record IsIntact (run : ℕ → State) (code t : ℕ) : Type 0 where
  pub same : (a : ℕ) → code_start ≤ a → a < code → (run t).mem a ≡ (run 0).mem a
  pub bit : index_of (run t).mem < 2
  pub zero_reg : (run t).cpu.x 0 ≡ 0
  pub words : (i : ℕ) → (run t).cpu.x i < 2 ^ 32

-- a register that a cut with entry Em saves
abbrev pub is_saved : ℕ → ℕ → Bool
is_saved m i = i == 1 || i == 2 || i == 3 || (nat_le 5 i && nat_le i m)

-- the buffer that is idle behind the jal of time t
abbrev pub idle_at : (ℕ → State) → ℕ → ℕ
idle_at run t = idle (index_of (run (suc t)).mem)

-- The jal is made at time t. The flip is the step of time t + m + 6; the routine has returned at time t + m + 8.
pub record Checkpoints (run : ℕ → State) (t m : ℕ) : Type 0 where
  -- up to the flip only the idle buffer's bytes change, also where a store is torn
  pub only_idle : (k a : ℕ) → k ≤ m + 5 → (a < idle_at run t) ⊎ (idle_at run t + 128 ≤ a) → (run (t + 1 + k)).mem a ≡ (run (suc t)).mem a
  pub torn_idle : (k mask a : ℕ) → k < m + 5 → (a < idle_at run t) ⊎ (idle_at run t + 128 ≤ a)
      → torn_of mask (run (t + 1 + k)).cpu (run (t + 1 + k)).mem a ≡ (run (suc t)).mem a
  -- before the flip it holds x3 as its word 0, and x1, x2, x5 to xm
  pub full : (i : ℕ) → is_saved m i ≡ true → little (run (t + m + 6)).mem (idle_at run t + slot i) 4 ≡ (run (suc t)).cpu.x i
  -- one store flips INDEX; torn, it does so or does nothing
  pub flips : (run (t + m + 7)).mem ≡ stored (run (t + m + 6)).mem index_at 4 (cond (index_of (run (suc t)).mem == 0) 1 0)
  pub torn_flip : (mask : ℕ) → (torn_of mask (run (t + m + 6)).cpu (run (t + m + 6)).mem ≡ (run (t + m + 6)).mem)
      ⊎ (torn_of mask (run (t + m + 6)).cpu (run (t + m + 6)).mem ≡ (run (t + m + 7)).mem)
  -- it returns, and has changed x4 alone
  pub back : (run (t + m + 8)).cpu.pc ≡ (run t).cpu.pc + 4
  pub regs : (i : ℕ) → i ≢ 4 → (run (t + m + 8)).cpu.x i ≡ (run (suc t)).cpu.x i
  pub still : (run (t + m + 8)).mem ≡ (run (t + m + 7)).mem

abbrev pub CheckpointLaw : Type 0
CheckpointLaw = (run : ℕ → State) (code t m : ℕ) → HasRuntime run code → IsCut run t m → IsIntact run code (suc t) → Checkpoints run t m
