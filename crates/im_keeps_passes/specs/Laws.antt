-- What follows from the passes' promises alone.
use Rattle.std.specs.Prelude.{◌≡◌, ℕ, ◌+◌, ◌*◌, ◌≤◌, List, length, ℤ, Some, slice_get, slice_index_or}
use Rattle.im_num.specs.Variables.{Variable}
use Rattle.im_rv.specs.declared.step.Went.TheVariants.{Halted}
use Rattle.im_image.specs.Contents.{ImageValue}
use Rattle.im_device.specs.Shows.{output_of}
use Rattle.im_store.specs.Outcomes.{End}
use Rattle.im_device.specs.Load.{memory_of}
use Rattle.im_replay.specs.Compiled.{RunsSafely}
use Rattle.im_replay.specs.Replays.{Replays, Progresses}
use Rattle.im_replay.specs.Output.{ShowsSafely, NeverShrinks}
use Rattle.im_keeps.specs.Keeps.{Meaning, IsInput, IsRightFor, Begins, Shows, output_in, Keeps}
use Rattle.im_keeps_run.specs.Laws.{run_of}
use Rattle.im_keeps_passes.specs.Source.{Source, IsRightSource}
use Rattle.im_block.specs.declared.unit.Function.{Function}
use Rattle.im_block.specs.declared.unit.Unit.{Unit as Code}
use Rattle.im_block.specs.Meaning.{statics_of}
use Rattle.im_block.specs.Shape.{sum_of, placed_cost}
use Rattle.im_alloc_placed.specs.Apart.{AllApart}
use Rattle.im_alloc_placed.specs.Placed.{frame_bytes}
use Rattle.im_keeps_run.specs.Written.{code_end}
use Rattle.im_keeps_passes.specs.Machine.{powered}
use Rattle.im_keeps_passes.specs.Passes.{needs_of, setting, Prepares, Passes}

-- the program's meaning with these frames and with the image's stack and capacity
abbrev pub meaning_of : Source → List ℕ → ImageValue → Meaning
meaning_of source frames image input fuel = source.means (setting frames image input) fuel

-- uninterrupted compilation: one period of so many instructions, recovery's among them, ends as the program does,
-- whichever word the registers hold when power comes; each shorter one shows a prefix
pub record KeepsUninterrupted (image : ImageValue) (gap : ℕ) (input : List ℕ) (fuel reason : ℕ) (status : ℤ) (output : List ℕ) (variables : List Variable) : Type 0 where
  pub halts : (n junk : ℕ) → (2 * fuel + 2) * length image.words * gap ≤ n → ((powered image input n junk).went ≡ Halted) × Shows image (powered image input n junk).mem reason status output variables
  pub begins : (n junk : ℕ) → Begins (output_of image.form (powered image input n junk).mem) output
  pub commits : (n junk : ℕ) → (powered image input n junk).commits ≤ (2 * fuel + 1) * length image.words

-- the same of a program that may never end: what it writes with so much fuel is shown from a time on
pub record ReachesUninterrupted (meaning : Meaning) (image : ImageValue) (gap : ℕ) (input : List ℕ) : Type 0 where
  pub reaches : (fuel n junk : ℕ) → (2 * fuel + 2) * length image.words * gap ≤ n → Begins (output_in (meaning input fuel)) (output_of image.form (powered image input n junk).mem)

-- how the image lives through losses of power, at every moment of every list of periods, the one within a store among them:
-- each byte outside the buffers is as when its section began or as that section writes it, the live buffer is whole, INDEX
-- counts the commits, no step faults, and a halt leaves what the run without losses leaves (replays); what was shown is
-- never taken back (never_shrinks); and each period of at least gap instructions commits or ends the run (progresses)
pub record Survives (image : ImageValue) (gap : ℕ) (input : List ℕ) : Type 0 where
  pub replays : Replays (run_of image input) (memory_of image input)
  pub never_shrinks : NeverShrinks (run_of image input) (memory_of image input)
  pub progresses : Progresses (run_of image input) (memory_of image input) gap

pub record PassesKeep (source : Source) (frames : List ℕ) (image : ImageValue) (gap : ℕ) : Type 0 where
  -- whatever power does
  pub keeps : Keeps (meaning_of source frames image) image gap
  -- with power that never fails
  pub ending : (input : List ℕ) (fuel reason : ℕ) (status : ℤ) (output : List ℕ) (variables : List Variable) → IsInput input →
      meaning_of source frames image input fuel ≡ End reason status output variables → KeepsUninterrupted image gap input fuel reason status output variables
  -- a program that is undefined at no fuel: no step faults, no exposed byte is written, the output is a prefix of the program's
  pub safe : (input : List ℕ) → IsInput input → IsRightFor (meaning_of source frames image) input → RunsSafely (run_of image input) (code_end image)
  pub shows : (input : List ℕ) → IsInput input → IsRightFor (meaning_of source frames image) input → ShowsSafely (run_of image input)
  pub within : (input : List ℕ) → IsInput input → IsRightFor (meaning_of source frames image) input → (j : ℕ) → Begins (output_of image.form (run_of image input j).mem) (output_in (meaning_of source frames image input (j + 1)))
  pub survives : (input : List ℕ) → IsInput input → IsRightFor (meaning_of source frames image) input → Survives image gap input
  pub reaching : (input : List ℕ) → IsInput input → IsRightFor (meaning_of source frames image) input → ReachesUninterrupted (meaning_of source frames image) image gap input
  -- the size of the code, in bytes, and of each function's frame
  pub small : 4 * length image.words ≤ 4096 + 256 * source.nodes
  pub frames_fit : (i need : ℕ) → slice_get source.needs i ≡ Some need → slice_index_or frames i 0 ≤ need

abbrev pub PassesKeepLaw : Type 0
PassesKeepLaw =
    (source : Source) (frames : List ℕ) (image : ImageValue) (gap : ℕ) →
    IsRightSource source → Passes source frames image gap → PassesKeep source frames image gap

-- what code costs, what frames need and which statics there are, by the source alone, whether it has an image or not
pub record CodeBounds (source : Source) (code : Code) : Type 0 where
  pub apart : AllApart code
  pub cost : sum_of placed_cost code.functions.items ≤ 64 * source.nodes
  pub needs : needs_of code ≡ source.needs
  pub statics : statics_of code ≡ source.statics
  pub frames_fit : (i need : ℕ) (f : Function) → slice_get source.needs i ≡ Some need → slice_get code.functions.items i ≡ Some f → frame_bytes f ≤ need

abbrev pub CodeBoundsLaw : Type 0
CodeBoundsLaw = (source : Source) (code : Code) → Prepares source code → CodeBounds source code
