-- A source is evaluated: what its program means, with the frames of the same build.
use Rattle.std.specs.Prelude.{◌≡◌, ℕ, ◌==◌, Bool, true, false, List, [], ◌++◌, if◌then◌else◌}
use Rattle.im_io.specs.Shelf.{ShelfState}
use Rattle.im_num.specs.Variables.{Variable}
use Rattle.im_store.specs.Outcomes.{Outcome as EndOfRun, Undef, More, End}
use Rattle.im_keeps.specs.Keeps.{output_in}
use Rattle.im_keeps_source.specs.Laws.{meaning_of}
use Rattle.im_compile.specs.declared.built.Built.{Built}
use Rattle.im_driver.specs.im_keeps_built.Laws.{frames_of}
use Rattle.im_cmd_words.specs.declared.command.BuildOptions.{BuildOptions}
use Rattle.im_cmd_words.specs.Named.{Evaluation}
use Rattle.im_cmd_lines.specs.declared.evaluations.Evaluated.{Evaluated}
use Rattle.im_cmd_lines.specs.declared.evaluations.Evaluated.TheVariants.{Returned, StackExhausted, Undefined, OutOfFuel}
use Rattle.im_cmd_lines.specs.Evaluations.{evaluation_lines}
use Rattle.im_cmd_lines.specs.Variables.{variable_lines}
use Rattle.im_cmd_lines.specs.Refusals.{Refused}
use Rattle.im_cmd.specs.Builds.{Compiles, RefusesSource}
use Rattle.im_cmd.specs.Runs.{TakesInput, RefusesInput}
use Rattle.im_cmd.specs.Outcome.{Outcome, done}

-- a source was compiled and an input taken, and this is what the source's program means on it, the one whose meaning the
-- image keeps: with the frames that are told, and the stack, the room for output and the fuel that the words give
pub record Evaluates (source : List ℕ) (building : BuildOptions) (evaluation : Evaluation) (built : Built) (end : EndOfRun) (old new : ShelfState) : Type 0 where
  pub read : ShelfState
  pub compiles : Compiles source building built old read
  pub input : List ℕ
  pub takes : TakesInput evaluation.input input read new
  pub is_meaning : end ≡ meaning_of compiles.is_built.compiled.prog (frames_of built) built.image input evaluation.fuel

-- why it isn't evaluated
pub data RefusesEvaluation (source : List ℕ) (building : BuildOptions) (evaluation : Evaluation) (old new : ShelfState) : Refused → Type 0 where
  eval_uncompiled : (r : Refused) → RefusesSource source old new r → RefusesEvaluation source building evaluation old new r
  eval_no_input : (built : Built) (read : ShelfState) (r : Refused) → Compiles source building built old read
      → RefusesInput evaluation.input read new r → RefusesEvaluation source building evaluation old new r

-- a reason other than 0 is want of stack
abbrev pub evaluated_by : EndOfRun → Evaluated
evaluated_by (Undef why) = Undefined why
evaluated_by (More output) = OutOfFuel
evaluated_by (End reason status output variables) = if reason == 0 then Returned status else StackExhausted

abbrev pub evaluation_status : EndOfRun → ℕ
evaluation_status (Undef why) = 11
evaluation_status (More output) = 12
evaluation_status (End reason status output variables) = if reason == 0 then 0 else 1

-- the variables, where the evaluation ended and they are to be shown
abbrev pub shown_at_end : Built → Bool → EndOfRun → List ℕ
shown_at_end built false end = []
shown_at_end built true (Undef why) = []
shown_at_end built true (More output) = []
shown_at_end built true (End reason status output variables) = variable_lines built.image.objects variables

-- the frames, how it ended, and the variables
abbrev pub evaluation_report : Built → Bool → EndOfRun → List ℕ
evaluation_report built vars end = evaluation_lines built.frames.frames.items (evaluated_by end) ++ shown_at_end built vars end

-- the output, also where fuel ran out, and nothing where it is undefined; the report; and the status
abbrev pub evaluation_outcome : Built → Bool → EndOfRun → Outcome
evaluation_outcome built vars end = done (output_in end) (evaluation_report built vars end) (evaluation_status end)
