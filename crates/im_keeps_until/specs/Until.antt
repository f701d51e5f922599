-- What compiled code owes of the first steps of a run: what the theorems of replay, of output and of the gap ask of all times.
use Rattle.std.specs.Prelude.{◌≡◌, ◌≢◌, ℕ, suc, ◌+◌, ◌<◌, ◌≤◌, true, false, ◌||◌, Some, None, List}
use Rattle.im_mem.specs.Map.{code_start, out_len0_at, out_len1_at, out_sel_at}
use Rattle.im_rv.specs.declared.instr.Op.TheVariants.{Ebreak}
use Rattle.im_rv.specs.declared.step.Went.TheVariants.{Faulted}
use Rattle.im_rv.specs.Decode.{Line}
use Rattle.im_rv.specs.Runs.{step_of}
use Rattle.im_rv.specs.Code.{instruction_at}
use Rattle.im_replay_path.specs.Sections.{start, wrote}
use Rattle.im_ckpt.specs.Runs.{State, line_at, sets, flip, ends, writes, reads}
use Rattle.im_ckpt.specs.Buffers.{is_buffer, is_fixed}
use Rattle.im_ckpt.specs.Laws.{is_runtime, IsCut}
use Rattle.im_replay.specs.Needed.{uses}
use Rattle.im_replay.specs.Output.{Extends}
use Rattle.im_gap.specs.declared.flow.Turn.TheVariants.{Returns}
use Rattle.im_gap.specs.Flow.{turn_of, links}
use Rattle.im_gap.specs.Flows.{IsAt, GoesBehindCall}

abbrev pub halt_line : Line
halt_line = record { op = Ebreak; rd = 0; rs1 = 0; rs2 = 0; imm = 0 }

-- the register is used at this time, and from t on it wasn't set before
pub record IsUsedAt (run : ℕ → State) (t i time : ℕ) : Type 0 where
  pub later : t ≤ time
  pub used : uses (run time) i ≡ true
  pub unset : (u : ℕ) → t ≤ u → u < time → sets (run u) i ≡ false

-- the premises of the theorem of replay, of the first j steps; the code ends before the address `code`
pub record SafelyUntil (run : ℕ → State) (code j : ℕ) : Type 0 where
  pub no_fault : (t at : ℕ) → t < j → (step_of (run t).cpu (run t).mem).went ≢ Faulted at
  -- ebreak alone ends the run
  pub halts : (t : ℕ) → t < j → ends run t ≡ true → line_at (run t) ≡ Some halt_line
  pub fetches : (t : ℕ) → t < j → (code_start ≤ (run t).cpu.pc) × ((run t).cpu.pc + 4 ≤ code)
  -- outside the runtime no step writes a buffer, INDEX or the code, and none reads a buffer
  pub writes_plain : (t a : ℕ) → t < j → is_runtime (run t).cpu.pc ≡ false → (is_buffer a || is_fixed code a) ≡ true → writes run t a ≡ None
  pub reads_plain : (t a : ℕ) → t < j → is_runtime (run t).cpu.pc ≡ false → reads run t a ≡ true → is_buffer a ≡ false
  -- the runtime is entered by cuts alone
  pub cuts : (t : ℕ) → t < j → is_runtime (run t).cpu.pc ≡ false → is_runtime (run (suc t)).cpu.pc ≡ true → (k : ℕ) × IsCut run t k
  -- where a section resumes, no register above xk of its cut is needed, and neither x3 nor x4
  pub needs : (t k i time : ℕ) → time < j → IsCut run t k → IsUsedAt run (t + k + 8) i time → (i ≤ k) × (i ≢ 3) × (i ≢ 4)
  pub needs_first : (i time : ℕ) → time < j → IsUsedAt run 0 i time → (i ≢ 3) × (i ≢ 4) × (i < 32)
  -- no byte that a section reads before writing it is written later in that section, the runtime's accesses left out
  pub no_war : (t u a : ℕ) → t ≤ u → u < j → start (flip run) t ≡ start (flip run) u → is_runtime (run t).cpu.pc ≡ false → is_runtime (run u).cpu.pc ≡ false
      → reads run t a ≡ true → wrote (flip run) (writes run) t a ≡ false → writes run u a ≡ None

-- those of the theorem of output
pub record ShowsUntil (run : ℕ → State) (j : ℕ) : Type 0 where
  pub grows : (t : ℕ) → t < j → Extends (run t).mem (run (suc t)).mem
  pub one_store : (t u a v w : ℕ) → t < j → u < j → start (flip run) t ≡ start (flip run) u → flip run t ≡ false → flip run u ≡ false → writes run t out_sel_at ≡ Some v → is_buffer a ≡ false → writes run u a ≡ Some w → (u ≡ t) × (a ≡ out_sel_at)
  pub first_length : (t a v : ℕ) → t < j → flip run t ≡ false → out_len0_at ≤ a → a < out_len0_at + 4 → writes run t a ≡ Some v → (run (start (flip run) t)).mem out_sel_at ≢ 0
  pub second_length : (t a v : ℕ) → t < j → flip run t ≡ false → out_len1_at ≤ a → a < out_len1_at + 4 → writes run t a ≡ Some v → (run (start (flip run) t)).mem out_sel_at ≡ 0

-- and those of the gap: returns outside the runtime go behind calls, and a cut is a jal that links x3
pub record FlowsUntil (words : List ℕ) (run : ℕ → State) (j : ℕ) : Type 0 where
  pub returns : (t i : ℕ) → t < j → is_runtime (run t).cpu.pc ≡ false → IsAt run t i → turn_of (instruction_at words i) ≡ Returns → GoesBehindCall words run t
  pub cuts : (t m i : ℕ) → t < j → IsCut run t m → IsAt run t i → links 3 (instruction_at words i) ≡ true

pub record OwesUntil (words : List ℕ) (code : ℕ) (run : ℕ → State) (j : ℕ) : Type 0 where
  pub safely : SafelyUntil run code j
  pub shows : ShowsUntil run j
  pub flows : FlowsUntil words run j
