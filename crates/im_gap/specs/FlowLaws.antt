-- From the static flow to the run: what a section does is a walk, so no longer than the gap.
use Rattle.std.specs.Prelude.{◌≡◌, ◌≢◌, ℕ, ◌<◌, ◌≤◌, List, length}
use Rattle.im_mem.specs.Memory.{Mem, Stands}
use Rattle.im_mem.specs.Map.{code_start}
use Rattle.im_rv.specs.declared.step.Went.TheVariants.{On}
use Rattle.im_rv.specs.Steps.{Cpu}
use Rattle.im_rv.specs.Runs.{step_of}
use Rattle.im_rv.specs.Code.{address, instruction_at}
use Rattle.im_gap.specs.declared.flow.Turn.TheVariants.{Returns, Stops}
use Rattle.im_gap.specs.Flow.{turn_of, Flow}
use Rattle.im_gap.specs.Gap.{IsGap}
use Rattle.im_ckpt.specs.Runs.{State}
use Rattle.im_replay.specs.Uninterrupted.{uninterrupted}
use Rattle.im_replay.specs.Owed.{IsOwed}
use Rattle.im_replay.specs.Compiled.{IsReplayable}
use Rattle.im_replay.specs.Replays.{GapAtMost, Progresses}
use Rattle.im_gap.specs.Flows.{GoesAlong, IsPlaced}

-- a step from word i to word j goes along an edge, unless it is a return's
abbrev pub StepLaw : Type 0
StepLaw = (words : List ℕ) (c : Cpu) (m : Mem) (i j : ℕ) → length words ≤ 261120 → Stands m code_start words → i < length words → j < length words
    → c.pc ≡ address i → (step_of c m).cpu.pc ≡ address j → (step_of c m).went ≡ On
    → turn_of (instruction_at words i) ≢ Returns → turn_of (instruction_at words i) ≢ Stops → Flow words i j

-- no section of the run is longer than the gap
abbrev pub GapLaw : Type 0
GapLaw = (words : List ℕ) (entry k : ℕ) (run : ℕ → State) → GoesAlong words entry run → IsGap words entry k → GapAtMost run k

-- a code has one gap
abbrev pub OneGapLaw : Type 0
OneGapLaw = (words : List ℕ) (entry k l : ℕ) → IsGap words entry k → IsGap words entry l → k ≡ l

abbrev pub AlongLaw : Type 0
AlongLaw = (words : List ℕ) (entry code : ℕ) (run : ℕ → State) → IsOwed run code → IsPlaced words entry code run → GoesAlong words entry run

-- with the replay theorem: under power that fails, a period of at least k instructions commits or ends the run,
-- and where the uninterrupted run has at most c commits, more than c such periods end it
abbrev pub LongPeriodsLaw : Type 0
LongPeriodsLaw = (m : Mem) (code : ℕ) (words : List ℕ) (entry k : ℕ) → IsReplayable m code → IsPlaced words entry code (uninterrupted m) → IsGap words entry k → Progresses (uninterrupted m) m k
