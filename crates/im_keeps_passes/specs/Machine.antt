-- The device's own run of an image that never loses power, and what it has to be for a run of placed code. Times are
-- counted from the end of recovery on: time t is 33 + t instructions after power came.
use Rattle.std.specs.Prelude.{◌≡◌, ℕ, zero, suc, ◌+◌, ◌*◌, ◌<◌, ◌≤◌, cond, true, false, List, length}
use Rattle.im_mem.specs.Map.{index_at}
use Rattle.im_rv.specs.Effects.{stores_word}
use Rattle.im_image.specs.Contents.{ImageValue}
use Rattle.im_device.specs.Load.{memory_of}
use Rattle.im_device.specs.Run.{Moment}
use Rattle.im_device.specs.Shows.{output_of}
use Rattle.im_ckpt.specs.Runs.{State, effect_at, ends}
use Rattle.im_ckpt.specs.Laws.{resuming}
use Rattle.im_store.specs.Outcomes.{Outcome, Undef, More, End, IsDefined}
use Rattle.im_typed.specs.Sound.{EndsRight}
use Rattle.im_block.specs.declared.unit.Unit.{Unit as Code}
use Rattle.im_block.specs.Meaning.{Setting, Event, statics_of}
use Rattle.im_block.specs.Runs.{Runs, start}
use Rattle.im_block.specs.Sections.{NoWar, items}
use Rattle.im_block.specs.Shape.{Weights, total, spent, after}
use Rattle.im_keeps.specs.Keeps.{Begins, Shows}
use Rattle.im_keeps_run.specs.Laws.{run_of}
use Rattle.im_keeps_until.specs.Until.{OwesUntil}
use Rattle.im_keeps_run.specs.Written.{code_end}

-- one period of power: so many instructions after power came, with this word in all registers
abbrev pub powered : ImageValue → List ℕ → ℕ → ℕ → Moment
powered image input n junk = resuming n junk (memory_of image input)

-- how many of the first j steps store a word at INDEX, as a commit does
abbrev pub stores_before : (ℕ → State) → ℕ → ℕ
stores_before run zero = 0
stores_before run (suc j) = cond (stores_word (effect_at (run j)) index_at) 1 0 + stores_before run j

-- one of the first j steps ends the run
pub record EndsBefore (run : ℕ → State) (j : ℕ) : Type 0 where
  pub e : ℕ
  pub before : e < j
  pub over : ends run e ≡ true

-- how a run with n fuel has ended at time j, or that it goes on, each unit of fuel being worth a step
abbrev pub ShowsAfter : ImageValue → (ℕ → State) → Outcome → ℕ → ℕ → Type 0
ShowsAfter image run (End reason status output variables) n j = EndsBefore run j × Shows image (run j).mem reason status output variables
ShowsAfter image run (More output) n j =
    ((t : ℕ) → t < j → ends run t ≡ false) × (output_of image.form (run j).mem ≡ output) × (n ≤ j)
ShowsAfter image run (Undef why) n j = ⊥

-- the machine has done what k steps of the code do
pub record Follows (image : ImageValue) (input : List ℕ) (code : Code) (g : Setting) (steps cuts : Weights) (around n : ℕ) (o : Outcome) (run : List Event) (k : ℕ) : Type 0 where
  pub j : ℕ
  pub shows : ShowsAfter image (run_of image input) o n j
  pub soon : j ≤ around + after (start code g n) (spent code g steps k)
  pub grows : (i : ℕ) → i ≤ j → Begins (output_of image.form (run_of image input i).mem) (output_of image.form (run_of image input j).mem)
  pub commits : stores_before (run_of image input) j ≤ after (start code g n) (spent code g cuts k)
  -- where the code's run writes no exposed byte of its section, the machine's steps do what survival asks
  pub owes : NoWar (items run) → OwesUntil image.words (code_end image) (run_of image input) j

-- The machine follows each run of the placed code that is defined. Weights bound the steps and the commits of lines; around
-- are the steps that belong to none, and 34 those of recovery and of the halt
pub record Executes (code : Code) (g : Setting) (image : ImageValue) (input : List ℕ) : Type 0 where
  pub steps : Weights
  pub cuts : Weights
  pub around : ℕ
  pub few_steps : 34 + around + total steps code ≤ 66 * length image.words
  pub few_cuts : total cuts code ≤ length image.words
  pub follows : (n : ℕ) (o : Outcome) (run : List Event) → IsDefined o → EndsRight (statics_of code) o → (k : Runs code g n o run) → Follows image input code g steps cuts around n o run k.steps
