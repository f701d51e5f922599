-- The passes in order, each with what it promises of its source and its target.
use Rattle.std.specs.Prelude.{◌≡◌, ℕ, ◌+◌, ◌*◌, ◌≤◌, List, length, map, Some, slice_get, slice_index_or}
use Rattle.im_image.specs.Contents.{ImageValue}
use Rattle.im_store.specs.Outcomes.{Outcome, IsDefined}
use Rattle.im_block.specs.declared.access.Tags.{Tags}
use Rattle.im_block.specs.declared.unit.Function.{Function}
use Rattle.im_block.specs.declared.unit.Unit.{Unit as Code}
use Rattle.im_block.specs.Meaning.{Setting, Event, statics_of}
use Rattle.im_block.specs.Runs.{Runs}
use Rattle.im_block.specs.Tagged.{AllHold, IsSound}
use Rattle.im_block.specs.Paths.{AllSectioned}
use Rattle.im_block.specs.Shape.{AllOrdered, sum_of, function_cost, placed_cost}
use Rattle.im_block.specs.Forced.{AllForced}
use Rattle.im_block.specs.Uncut.{SameButCuts}
use Rattle.im_block.specs.Wellformed.{IsWellFormed}
use Rattle.im_alloc_placed.specs.Placeable.{IsPlaceable}
use Rattle.im_alloc_placed.specs.Placed.{IsPlacedCode, frame_bytes}
use Rattle.im_alloc_placed.specs.Apart.{AllUncut, AllApart}
use Rattle.im_force.specs.Force.{Forces}
use Rattle.im_gap.specs.Gap.{IsGap}
use Rattle.im_keeps.specs.Keeps.{IsInput}
use Rattle.im_keeps_passes.specs.Source.{Source}
use Rattle.im_keeps_run.specs.Written.{IsWritten}
use Rattle.im_keeps_passes.specs.Machine.{Executes}

-- the bytes that the frame of each function may need
abbrev pub needs_of : Code → List ℕ
needs_of code = map (λ (f : Function). f.need) code.functions.items

-- lower: wherever the program's meaning is defined, the block code's outcome at the same fuel is the program's. No cut
-- stands in it yet, and placing can give its registers homes
pub record Lowers (source : Source) (code : Code) : Type 0 where
  pub runs : (g : Setting) (n : ℕ) → IsInput g.input → IsDefined (source.means g n) → (run : List Event) × Runs code g n (source.means g n) run
  pub statics : statics_of code ≡ source.statics
  pub needs : needs_of code ≡ source.needs
  pub ordered : AllOrdered code
  pub well_formed : IsWellFormed code
  pub placeable : IsPlaceable code
  pub uncut : AllUncut code
  pub cost : sum_of function_cost code.functions.items ≤ 64 * source.nodes

-- cut: cuts are added, none beside another, and nothing else changes
pub record Cuts (old new : Code) : Type 0 where
  pub same : SameButCuts old new
  pub apart : AllApart old → AllApart new

-- place: the same outcome; further accesses, each of which its tag holds, are to slots; registers are the machine's
pub record Places (old new : Code) : Type 0 where
  pub runs : IsWellFormed old → (g : Setting) (n : ℕ) (o : Outcome) (run : List Event) → IsDefined o → Runs old g n o run → (run' : List Event) × Runs new g n o run' × ((statics : ℕ) (tags : Tags) → AllHold statics tags run → AllHold statics tags run')
  pub statics : new.statics.items ≡ old.statics.items
  pub needs : needs_of new ≡ needs_of old
  pub ordered : AllOrdered old → AllOrdered new
  pub forced : AllForced old → AllForced new
  pub apart : AllApart old → AllApart new
  pub well_formed : IsPlaceable old → IsWellFormed old → IsWellFormed new
  pub placed : IsPlaceable old → IsPlacedCode new
  pub cost : sum_of placed_cost new.functions.items ≤ sum_of function_cost old.functions.items

-- recut: further cuts, none beside another, with which all accesses are sectioned, those to slots too
pub record Recuts (tags : Tags) (old new : Code) : Type 0 where
  pub same : SameButCuts old new
  pub apart : AllApart old → AllApart new
  pub sectioned : AllSectioned tags new

abbrev pub setting : List ℕ → ImageValue → List ℕ → Setting
setting frames image input = record { frames = frames; stack = image.stack; capacity = image.out_cap; input = input }

-- what is known of placed code with all its cuts
pub record IsSelectable (code : Code) : Type 0 where
  pub forced : AllForced code
  pub well_formed : IsWellFormed code
  pub placed : IsPlacedCode code
  pub apart : AllApart code

-- select and link: the machine follows the code, which has these frames; a word is paid for each word
pub record Selects (code : Code) (frames : List ℕ) (image : ImageValue) : Type 0 where
  pub frames_are : (i : ℕ) (f : Function) → slice_get code.functions.items i ≡ Some f → slice_index_or frames i 0 ≡ frame_bytes f
  pub written : IsWritten image
  pub executes : IsSelectable code → (input : List ℕ) → IsInput input → Executes code (setting frames image input) image input
  pub small : IsSelectable code → length image.words ≤ 1024 + sum_of placed_cost code.functions.items

-- all passes before selection, from a typed program to placed code with all its cuts
pub record Prepares (source : Source) (code : Code) : Type 0 where
  pub lowered : Code
  pub lower : Lowers source lowered
  pub forced : Code
  pub force : Forces lowered forced
  pub trimmed : Code
  pub cut : Cuts forced trimmed
  pub placed : Code
  pub place : Places trimmed placed
  pub recut : Cuts placed code

-- all passes, from a typed program to an image, whose functions have these frames, and whose longest gap this is
pub record Passes (source : Source) (frames : List ℕ) (image : ImageValue) (gap : ℕ) : Type 0 where
  pub lowered : Code
  pub lower : Lowers source lowered
  pub forced : Code
  pub force : Forces lowered forced
  pub tags : Tags
  pub alias : IsSound forced tags
  pub trimmed : Code
  pub cut : Cuts forced trimmed
  pub placed : Code
  pub place : Places trimmed placed
  pub sectioned : Code
  pub recut : Recuts tags placed sectioned
  pub select : Selects sectioned frames image
  pub measure : IsGap image.words image.entry gap
