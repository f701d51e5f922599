-- Runs that go along the static flow of a code, and what a compiler owes for that.
use Rattle.std.specs.Prelude.{◌≡◌, ℕ, suc, ◌<◌, ◌≤◌, ◌⊎◌, true, false, List, length}
use Rattle.im_mem.specs.Memory.{Stands}
use Rattle.im_mem.specs.Map.{code_start}
use Rattle.im_rv.specs.Code.{address, instruction_at}
use Rattle.im_gap.specs.declared.flow.Turn.TheVariants.{Returns, Stops}
use Rattle.im_gap.specs.Flow.{turn_of, links, IsBehind, IsResumeWord}
use Rattle.im_replay_path.specs.Sections.{start}
use Rattle.im_ckpt.specs.Runs.{State, IsRun, flip, ends}
use Rattle.im_ckpt.specs.Laws.{is_runtime, IsCut}
use Rattle.im_replay.specs.Sections.{resume}

-- the pc is the address of word i
abbrev pub IsAt : (ℕ → State) → ℕ → ℕ → Type 0
IsAt run t i = (run t).cpu.pc ≡ address i

-- the next step goes to a word behind a call
abbrev pub GoesBehindCall : List ℕ → (ℕ → State) → ℕ → Type 0
GoesBehindCall words run t = (j : ℕ) × IsBehind words 1 j × IsAt run (suc t) j

-- the code stays, and from the resume word of each section on the run keeps to the flow
pub record GoesAlong (words : List ℕ) (entry : ℕ) (run : ℕ → State) : Type 0 where
  pub few : length words ≤ 261120
  pub steps : IsRun run
  pub code : (t : ℕ) → Stands (run t).mem code_start words
  pub places : (t : ℕ) → (i : ℕ) × (i < length words) × IsAt run t i
  -- a return goes to a word behind a call
  pub returns : (t i : ℕ) → resume (start (flip run) t) ≤ t → IsAt run t i → turn_of (instruction_at words i) ≡ Returns → GoesBehindCall words run t
  -- the store to INDEX changes it, and ebreak ends the run
  pub stops : (t i : ℕ) → resume (start (flip run) t) ≤ t → IsAt run t i → turn_of (instruction_at words i) ≡ Stops → (flip run t ≡ true) ⊎ (ends run t ≡ true)
  -- a section resumes at a resume word, and neither flips nor ends before it is there
  pub resumes : (s : ℕ) → start (flip run) s ≡ s → (i : ℕ) × IsAt run (resume s) i × IsResumeWord words entry i
  pub begins : (s : ℕ) → start (flip run) s ≡ s → start (flip run) (resume s) ≡ s

-- What a compiler owes for that, beside what the replay theorem asks: the code stands in memory up to the address `code`,
-- the run begins at the entry, returns outside the runtime go behind calls, and a cut is a jal that links x3.
pub record IsPlaced (words : List ℕ) (entry code : ℕ) (run : ℕ → State) : Type 0 where
  pub few : length words ≤ 261120
  pub size : code ≡ address (length words)
  pub first : Stands (run 0).mem code_start words
  pub entered : (run 0).cpu.pc ≡ entry
  pub returns : (t i : ℕ) → is_runtime (run t).cpu.pc ≡ false → IsAt run t i → turn_of (instruction_at words i) ≡ Returns → GoesBehindCall words run t
  pub cuts : (t m i : ℕ) → IsCut run t m → IsAt run t i → links 3 (instruction_at words i) ≡ true
