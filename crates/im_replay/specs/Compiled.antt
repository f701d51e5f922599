-- What a loaded image and its code owe for the replay theorem.
use Rattle.std.specs.Prelude.{◌≡◌, ◌≢◌, ℕ, suc, ◌+◌, ◌%◌, ◌<◌, ◌≤◌, true, false, ◌||◌, None}
use Rattle.im_mem.specs.Memory.{Mem, little, Stands}
use Rattle.im_mem.specs.Map.{buffer0_start, code_start}
use Rattle.im_rv.specs.declared.step.Went.TheVariants.{Faulted}
use Rattle.im_rv.specs.Runs.{step_of}
use Rattle.im_device.specs.Run.{index_of}
use Rattle.im_replay_path.specs.Sections.{start, wrote}
use Rattle.im_ckpt.specs.Runs.{State, flip, writes, reads}
use Rattle.im_ckpt.specs.Buffers.{is_buffer, is_fixed}
use Rattle.im_ckpt.specs.Recovery.{recovery_words}
use Rattle.im_ckpt.specs.Checkpoint.{checkpoint_words, checkpoint_start, checkpoint_end}
use Rattle.im_ckpt.specs.Laws.{is_runtime, IsCut}
use Rattle.im_replay.specs.Needed.{Needed}
use Rattle.im_replay.specs.Uninterrupted.{uninterrupted}

-- no byte that a section reads before writing it is written later in that section, the runtime's accesses left out
abbrev pub NoWriteAfterRead : (ℕ → State) → Type 0
NoWriteAfterRead run = (t u a : ℕ) → t ≤ u → start (flip run) t ≡ start (flip run) u → is_runtime (run t).cpu.pc ≡ false → is_runtime (run u).cpu.pc ≡ false
    → reads run t a ≡ true → wrote (flip run) (writes run) t a ≡ false → writes run u a ≡ None

-- what holds of the run that never loses power, whose code ends before this address
pub record RunsSafely (run : ℕ → State) (code : ℕ) : Type 0 where
  -- no step faults, and each fetches a word of the code
  pub no_fault : (t at : ℕ) → (step_of (run t).cpu (run t).mem).went ≢ Faulted at
  pub fetches : (t : ℕ) → (code_start ≤ (run t).cpu.pc) × ((run t).cpu.pc + 4 ≤ code)
  -- outside the runtime no step writes a buffer, INDEX or the code, and none reads a buffer
  pub writes_plain : (t a : ℕ) → is_runtime (run t).cpu.pc ≡ false → (is_buffer a || is_fixed code a) ≡ true → writes run t a ≡ None
  pub reads_plain : (t a : ℕ) → is_runtime (run t).cpu.pc ≡ false → reads run t a ≡ true → is_buffer a ≡ false
  -- the runtime is entered by cuts alone
  pub cuts : (t : ℕ) → is_runtime (run t).cpu.pc ≡ false → is_runtime (run (suc t)).cpu.pc ≡ true → (k : ℕ) × IsCut run t k
  -- where a section resumes, no register above xk of its cut is needed, and neither x3 nor x4
  pub needs : (t k i : ℕ) → IsCut run t k → Needed run (t + k + 8) i → (i ≤ k) × (i ≢ 3) × (i ≢ 4)
  pub needs_first : (i : ℕ) → Needed run 0 i → (i ≢ 3) × (i ≢ 4) × (i < 32)
  pub no_war : NoWriteAfterRead run

-- memory holds bytes and the runtime, INDEX is 0, and buffer 0 names an even place outside the runtime
pub record IsReplayable (m : Mem) (code : ℕ) : Type 0 where
  pub small : (a : ℕ) → m a < 256
  pub index : index_of m ≡ 0
  pub start_even : little m buffer0_start 4 % 2 ≡ 0
  pub start_outside : is_runtime (little m buffer0_start 4) ≡ false
  pub long : checkpoint_end ≤ code
  pub recovery : Stands m code_start recovery_words
  pub checkpoint : Stands m checkpoint_start checkpoint_words
  pub runs : RunsSafely (uninterrupted m) code
