-- How a command ends, and what is then printed.
use Rattle.std.specs.Prelude.{◌≡◌, ℕ, Bool, true, false, Option, Some, None, List, [], ◌++◌, length, codes}
use Rattle.im_mem.specs.Memory.{Mem}
use Rattle.im_image.specs.Contents.{ImageValue, ObjectValue}
use Rattle.im_device.specs.Periods.{Device}
use Rattle.im_device.specs.Shows.{output_of, status_of, reason_of}
use Rattle.im_num.specs.Variables.{Variable}
use Rattle.im_device.specs.Variables.{vars_of}
use Rattle.im_io.specs.Sink.{SinkState}
use Rattle.im_io.specs.Whole.{SentAll, SentFirst}
use Rattle.im_cmd_lines.specs.declared.ending.Ending.{Ending}
use Rattle.im_cmd_lines.specs.declared.ending.Ending.TheVariants.{Returned, StackExhausted, OutOfPower, MachineFault}
use Rattle.im_compile.specs.declared.built.Built.{Built}
use Rattle.im_cmd_lines.specs.Builds.{build_lines}
use Rattle.im_cmd_lines.specs.Reports.{report_lines}
use Rattle.im_cmd_lines.specs.Runs.{ending_of, run_lines}
use Rattle.im_cmd_lines.specs.Variables.{variable_lines}
use Rattle.im_cmd_lines.specs.Refusals.{Refused, CannotRead, BadSource, NotAnImage, CannotWrite, InputTooLong, FileTooLong, NotATrace, TornStores, NotAMemory, FormsDiffer, NoMemory, refusal_line}

-- what comes of a command: why it isn't carried out; or a text for the first sink, one for the second, and the exit status
pub data Outcome : Type 0 where
  refused : Refused → Outcome
  done : List ℕ → List ℕ → ℕ → Outcome

abbrev pub refusal_status : Refused → ℕ
refusal_status (CannotRead name) = 7
refusal_status (BadSource name fault) = 3
refusal_status (NotAnImage name fault) = 5
refusal_status (CannotWrite name) = 8
refusal_status (InputTooLong count limit) = 13
refusal_status (FileTooLong name limit) = 14
refusal_status (NotATrace name fault) = 6
refusal_status (NotAMemory name fault) = 15
refusal_status TornStores = 16
refusal_status (FormsDiffer image form memory other) = 17
refusal_status NoMemory = 9

abbrev pub ending_status : Ending → ℕ
ending_status Returned = 0
ending_status StackExhausted = 1
ending_status OutOfPower = 4
ending_status (MachineFault at) = 10

abbrev pub ending : Device → Ending
ending ended = ending_of ended.went (reason_of ended.mem)

-- the line of a command whose output can't be written
abbrev pub no_output_line : List ℕ
no_output_line = codes "intermit: cannot write output\n"

-- the variables, where they are to be shown
abbrev pub shown : Bool → List ObjectValue → Mem → Option (List Variable)
shown true objects mem = Some (vars_of objects mem)
shown false objects mem = None

abbrev pub shown_lines : ImageValue → Option (List Variable) → List ℕ
shown_lines image None = []
shown_lines image (Some variables) = variable_lines image.objects variables

-- how a run ended, with these variables
abbrev pub run_report : ImageValue → Device → Option (List Variable) → List ℕ
run_report image ended variables = run_lines (ending ended) (status_of ended.mem) ended.commits ended.steps ++ shown_lines image variables

-- what a build tells
abbrev pub built_lines : Built → List ℕ
built_lines built = build_lines (length built.image.words) built.gap built.frames.frames.items

-- what a report tells
abbrev pub reported_lines : Built → List ℕ
reported_lines built = report_lines (length built.image.words) built.gap (length built.image.statics) built.frames.frames.items built.cuts.items

-- the lines of the build before it, where the image was built by the same command
abbrev pub report_with : Option Built → ImageValue → Device → Option (List Variable) → List ℕ
report_with None image ended variables = run_report image ended variables
report_with (Some built) image ended variables = built_lines built ++ run_report image ended variables

-- what comes of a run: its output, its report, and a status by how it ended
abbrev pub run_outcome : Option Built → Bool → ImageValue → Device → Outcome
run_outcome built vars image ended =
    done (output_of image.form ended.mem) (report_with built image ended (shown vars image.objects ended.mem)) (ending_status (ending ended))

-- ---- what a sink got of a text: the whole, or first bytes up to the write that it refused, which its count of faults tells

pub data Got (text : List ℕ) (old new : SinkState) : Type 0 where
  whole : SentAll text old new → Got text old new
  part : SentFirst text old new → Got text old new

-- A refusal's line goes to the second sink, and nothing to the first. A sink that refuses a text turns the status into 8, and
-- one that refuses the first has a line of its own on the second in the place of the second text.
pub data Tells (out out' err err' : SinkState) : Outcome → ℕ → Type 0 where
  refusal_told : (r : Refused) → out' ≡ out → Got (refusal_line r) err err' → Tells out out' err err' (refused r) (refusal_status r)
  told : (first second : List ℕ) (status : ℕ) → SentAll first out out' → SentAll second err err' → Tells out out' err err' (done first second status) status
  second_cut : (first second : List ℕ) (status : ℕ) → SentAll first out out' → SentFirst second err err' → Tells out out' err err' (done first second status) 8
  first_cut : (first second : List ℕ) (status : ℕ) → SentFirst first out out' → Got no_output_line err err' → Tells out out' err err' (done first second status) 8
