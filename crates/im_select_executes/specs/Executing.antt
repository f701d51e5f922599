-- What an image owes beside the law of selection, for the device's run to follow its placed code.
use Rattle.std.specs.Prelude.{◌≡◌, ℕ, ◌+◌, ◌/◌, ◌≤◌, Bool, if◌then◌else◌, List, Option, None, Some, length, max, ℤ}
use Rattle.im_num.specs.Variables.{Variable}
use Rattle.im_rv.specs.Steps.{Cpu}
use Rattle.im_image.specs.Contents.{ImageValue}
use Rattle.im_device.specs.Load.{memory_of}
use Rattle.im_device.specs.Variables.{vars_of}
use Rattle.im_store.specs.Outcomes.{End}
use Rattle.im_typed.specs.Sound.{EndsRight}
use Rattle.im_block.specs.declared.code.Line.{Line}
use Rattle.im_block.specs.declared.code.Line.TheVariants.{Cut}
use Rattle.im_block.specs.declared.code.Block.{Block}
use Rattle.im_block.specs.declared.unit.Function.{Function}
use Rattle.im_block.specs.declared.unit.Unit.{Unit as Code}
use Rattle.im_block.specs.Meaning.{Setting, statics_of}
use Rattle.im_block.specs.Shape.{Weights, sum_of}
use Rattle.im_select_relation.specs.Jumps.{jump_of, jumps_in, are_few}
use Rattle.im_select_relation.specs.Linking.{Linking}
use Rattle.im_select_relation.specs.Linked.{IsLinked}
use Rattle.im_select_relation.specs.Law.{is_nothing, ShowsStatics}
use Rattle.im_keeps_run.specs.Laws.{run_of}
use Rattle.im_keeps_run.specs.Written.{IsWritten}
use Rattle.im_saved.specs.Liveness.{IsLiveness, EntersByCuts}

-- the processor behind the first recovery
abbrev pub first_cpu : ImageValue → List ℕ → Cpu
first_cpu image input = (run_of image input 0).cpu

-- each line has half a word at least, unless it is nothing, since two may be one; a cut has one, and so have each block and each entry.
-- Blocks that only jump have none where they are few
abbrev pub line_halves : Line → ℕ
line_halves (Cut cause) = 2
line_halves line = if is_nothing line then 0 else 1

abbrev pub words_by : Option ℕ → List Line → ℕ
words_by None lines = max 1 ((sum_of line_halves lines + 1) / 2)
words_by (Some c) lines = 0

abbrev pub block_words : Block → ℕ
block_words b = words_by (jump_of b.lines.items b.exit) b.lines.items

abbrev pub jump_words : List Block → ℕ
jump_words blocks = if are_few blocks then 0 else jumps_in blocks

abbrev pub function_words : Function → ℕ
function_words f = 1 + sum_of block_words f.blocks.items + jump_words f.blocks.items

-- cuts: a line of its own, and those within a built-in routine
abbrev pub cuts_in : Line → ℕ
cuts_in (Cut cause) = 1
cuts_in line = 0

abbrev pub cuts : Linking → Weights
cuts p = record { line = cuts_in; exit = λ exit. 0; entry = 0; routine = p.flips }

-- the code is linked in the memory that the image loads, and begins where the image does
pub record IsInImage (image : ImageValue) (input : List ℕ) (u : Code) (g : Setting) (p : Linking) : Type 0 where
  pub written : IsWritten image
  pub linked : IsLinked p u g
  pub memory : p.image ≡ memory_of image input
  pub entry : p.begin ≡ image.entry
  -- steps and flips of a routine at most, and the words that the image has
  pub longest : p.longest ≤ 120
  pub flips : p.flips ≤ 3
  pub words : 3 + sum_of function_words u.functions.items ≤ length image.words

-- some liveness of registers at the image's words, such that cuts save what lives behind them; and cuts alone enter the runtime
pub record HasLiveness (image : ImageValue) : Type 0 where
  pub live : ℕ → ℕ → Bool
  pub saved : IsLiveness image.words image.entry live
  pub enters : EntersByCuts image.words image.entry

-- the image's objects show the statics at an end
pub record ShowsObjects (image : ImageValue) (input : List ℕ) (u : Code) (p : Linking) : Type 0 where
  pub variables : (j reason : ℕ) (status : ℤ) (output : List ℕ) (shown : List Variable) → EndsRight (statics_of u) (End reason status output shown) → ShowsStatics p u shown (run_of image input j).mem
      → vars_of image.objects (run_of image input j).mem ≡ shown
