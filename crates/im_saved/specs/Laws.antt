-- From the static facts of words to the registers that a run uses behind its cuts.
use Rattle.std.specs.Prelude.{◌≡◌, ◌≢◌, ℕ, suc, ◌+◌, ◌^◌, ◌<◌, ◌≤◌, Bool, true, false, None, List, length}
use Rattle.im_mem.specs.Memory.{Stands}
use Rattle.im_mem.specs.Map.{code_start}
use Rattle.im_rv.specs.declared.step.Went.TheVariants.{Faulted}
use Rattle.im_rv.specs.Runs.{step_of}
use Rattle.im_rv.specs.Code.{address, instruction_at}
use Rattle.im_device.specs.Run.{index_of}
use Rattle.im_ckpt.specs.Runs.{State, writes}
use Rattle.im_ckpt.specs.Buffers.{is_fixed}
use Rattle.im_ckpt.specs.Laws.{is_runtime, IsCut, HasRuntime}
use Rattle.im_gap.specs.declared.flow.Turn.TheVariants.{Returns}
use Rattle.im_gap.specs.Flow.{turn_of, links}
use Rattle.im_gap.specs.Flows.{IsAt, GoesBehindCall}
use Rattle.im_keeps_until.specs.Until.{IsUsedAt}
use Rattle.im_saved.specs.Liveness.{IsLiveness, EntersByCuts}

-- a run that begins at the entry of these words, behind the runtime
pub record BeginsAt (words : List ℕ) (entry : ℕ) (run : ℕ → State) : Type 0 where
  pub few : length words ≤ 261120
  pub based : HasRuntime run (address (length words))
  pub code : Stands (run 0).mem code_start words
  pub entered : (run 0).cpu.pc ≡ entry
  pub index : index_of (run 0).mem < 2
  pub zero_reg : (t : ℕ) → (run t).cpu.x 0 ≡ 0
  pub small : (t i : ℕ) → (run t).cpu.x i < 2 ^ 32

-- Its first j steps are made by the words and don't fault; outside the runtime none writes the code or INDEX, and returns go
-- behind calls.
pub record KeepsToCode (words : List ℕ) (run : ℕ → State) (j : ℕ) : Type 0 where
  pub places : (t : ℕ) → t < j → (i : ℕ) × (i < length words) × IsAt run t i
  pub calm : (t at : ℕ) → t < j → (step_of (run t).cpu (run t).mem).went ≢ Faulted at
  pub writes_plain : (t a : ℕ) → t < j → is_runtime (run t).cpu.pc ≡ false
      → is_fixed (address (length words)) a ≡ true → writes run t a ≡ None
  pub returns : (t i : ℕ) → t < j → is_runtime (run t).cpu.pc ≡ false → IsAt run t i
      → turn_of (instruction_at words i) ≡ Returns → GoesBehindCall words run t

-- what survival asks of these steps, of registers and of entries into the runtime
pub record LivesUntil (words : List ℕ) (run : ℕ → State) (j : ℕ) : Type 0 where
  -- the runtime is entered by cuts alone
  pub cuts : (t : ℕ) → t < j → is_runtime (run t).cpu.pc ≡ false → is_runtime (run (suc t)).cpu.pc ≡ true
      → (k : ℕ) × IsCut run t k
  -- where a section resumes, no register above xk of its cut is needed, and neither x3 nor x4
  pub needs : (t k i time : ℕ) → time < j → IsCut run t k → IsUsedAt run (t + k + 8) i time
      → (i ≤ k) × (i ≢ 3) × (i ≢ 4)
  pub needs_first : (i time : ℕ) → time < j → IsUsedAt run 0 i time → (i ≢ 3) × (i ≢ 4) × (i < 32)
  -- and a cut is a jal that links x3
  pub linked : (t m i : ℕ) → t < j → IsCut run t m → IsAt run t i → links 3 (instruction_at words i) ≡ true

abbrev pub LiveLaw : Type 0
LiveLaw =
    (words : List ℕ) (entry j : ℕ) (live : ℕ → ℕ → Bool) (run : ℕ → State) →
    IsLiveness words entry live → EntersByCuts words entry → BeginsAt words entry run → KeepsToCode words run j → LivesUntil words run j
