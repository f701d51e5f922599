-- The command that words name.
use Rattle.std.specs.Prelude.{◌≡◌, ◌≤◌, ℕ, ◌==◌, Bool, true, false, Option, Some, None, IfSome, ⊤}
use Rattle.std.specs.Prelude.{List, [], ◌∷◌, ◌++◌, codes}
use Rattle.std.specs.Prelude.{if◌then◌else◌, option_and_then, option_map, unwrap_or}
use Rattle.std.specs.Option.{option_map_or}
use Rattle.std.specs.Str.{bytes_eq}
use Rattle.clap.specs.Words.{Row, Text, fault_of, first_of, subcommand_of}
use Rattle.clap.specs.Walk.{is_empty}
use Rattle.im_cmd_words.specs.Numbers.{number_between, optional_between, plain_number}
use Rattle.im_cmd_words.specs.Numbers.{starts_plainly}
use Rattle.im_cmd_words.specs.Table.{command_line}
use Rattle.im_cmd_words.specs.declared.command.BuildOptions.{BuildOptions}
use Rattle.im_cmd_words.specs.declared.command.EvalOptions.{EvalOptions}
use Rattle.im_cmd_words.specs.declared.command.RunOptions.{RunOptions}
use Rattle.im_cmd_words.specs.declared.command.Command.{Command}
use Rattle.im_cmd_words.specs.declared.command.Command.TheVariants as command
use Rattle.im_cmd_words.specs.declared.fault.WordsFault.{WordsFault}
use Rattle.im_cmd_words.specs.declared.fault.WordsFault.TheVariants as fault

-- how an image is run: the files that are named for its input and its periods, the steps of the
-- one period that there is without a trace, whether the variables are shown, and the file that is
-- named for the last memory
pub record Options : Type 0 where
  pub input : Option Text
  pub trace : Option Text
  pub steps : ℕ
  pub vars : Bool
  pub save : Option Text

-- the options where no word gives any
abbrev pub default_options : Options
default_options = record {
  input = None;
  trace = None;
  steps = 100000000;
  vars = false;
  save = None;
}

-- how a source is evaluated: the file that is named for its input, its fuel, and whether the
-- variables are shown
pub record Evaluation : Type 0 where
  pub input : Option Text
  pub fuel : ℕ
  pub vars : Bool

abbrev pub default_evaluation : Evaluation
default_evaluation = record { input = None; fuel = 1000000; vars = false }

abbrev pub default_building : BuildOptions
default_building = record { stack = 65536; out_cap = 1048576; max_gap = None }

-- the word begins with a hyphen (45) and has more characters; other words are files and values
abbrev pub is_option : Text → Bool
is_option (first ∷ second ∷ rest) = first == 45
is_option word = false

-- the words of an option that has a value, where it is given
abbrev pub given : Text → Option Text → List Text
given option None = []
given option (Some value) = option ∷ value ∷ []

-- the words of a run's options but --save, by the text of its number
abbrev pub option_words : Options → Option Text → List Text
option_words options steps = given (codes "--input") options.input
    ++ (given (codes "--trace") options.trace ++ (given (codes "--steps") steps
    ++ (if options.vars then codes "--vars" ∷ [] else [])))

-- these words stand for these options: the files are none that look like options, the text of the
-- number writes it, and no file is named for the last memory
pub record Words (options : Options) (steps : Option Text) : Type 0 where
  pub input : IfSome options.input (λ file. is_option file ≡ false)
  pub trace : IfSome options.trace (λ file. is_option file ≡ false)
  pub number : plain_number (unwrap_or steps (codes "100000000")) ≡ Some options.steps
  pub save : options.save ≡ None

-- the words of the files of memories, the one that gets the last and the one that a run begins with
abbrev pub memory_words : Option Text → Option Text → List Text
memory_words save resume = given (codes "--save") save ++ given (codes "--resume") resume

-- the options of a run whose last memory is stored
abbrev pub saving_options : Option Text → Options
saving_options save = record default_options { save = save }

-- the words of an evaluation's options, by the text of its fuel
abbrev pub evaluation_words : Evaluation → Option Text → List Text
evaluation_words options fuel = given (codes "--input") options.input
    ++ (given (codes "--fuel") fuel ++ (if options.vars then codes "--vars" ∷ [] else []))

-- the words of a build's options
abbrev pub building_words : Option Text → Option Text → Option Text → List Text
building_words stack out_cap max_gap = given (codes "--stack") stack
    ++ (given (codes "--out-cap") out_cap ++ given (codes "--max-gap") max_gap)

-- the texts of a build's numbers write these options
pub record Writes (stack out_cap max_gap : Option Text) (building : BuildOptions) : Type 0 where
  pub bytes : number_between 256 1048576 (unwrap_or stack (codes "65536")) ≡ Some building.stack
  pub most : number_between 0 1048576 (unwrap_or out_cap (codes "1048576")) ≡ Some building.out_cap
  pub gap : optional_between 160 1000000 max_gap ≡ Some building.max_gap

-- what a command asks for, its files by name
pub data Asked : Type 0 where
  builds : Text → Text → BuildOptions → Asked
  runs : Text → Text → BuildOptions → Options → Asked
  executes : Text → Options → Option Text → Asked
  dumps : Text → Asked
  upgrades : Text → Text → Asked
  reports : Text → BuildOptions → Asked
  evaluates : Text → BuildOptions → Evaluation → Asked
  generates : ℕ → Asked
  checks : Text → Asked

-- SRC and IMG
abbrev pub pair_asked : (Text → Text → Asked) → List Row → Option Asked
pair_asked asks rows = option_and_then (λ source. option_map (λ image. asks source image)
    (first_of (codes "IMG") rows)) (first_of (codes "SRC") rows)

-- the flag is among the words
abbrev pub is_set : Text → List Row → Bool
is_set name rows = option_map_or (λ text. bytes_eq text (codes "true")) (first_of name rows) false

abbrev pub options_asked : List Row → Option Options
options_asked rows = option_map (λ steps. record {
  input = first_of (codes "input") rows;
  trace = first_of (codes "trace") rows;
  steps = steps;
  vars = is_set (codes "vars") rows;
  save = first_of (codes "save") rows;
}) (option_and_then plain_number (first_of (codes "steps") rows))

-- the number in these bounds that the option or operand of this name has
abbrev pub number_asked : Text → ℕ → ℕ → List Row → Option ℕ
number_asked name least most rows =
    option_and_then (number_between least most) (first_of name rows)

abbrev pub building_asked : List Row → Option BuildOptions
building_asked rows = option_and_then (λ stack. option_and_then (λ out_cap.
    option_map (λ max_gap. record {
      stack = stack;
      out_cap = out_cap;
      max_gap = max_gap;
    }) (optional_between 160 1000000 (first_of (codes "max-gap") rows)))
    (number_asked (codes "out-cap") 0 1048576 rows)) (number_asked (codes "stack") 256 1048576 rows)

abbrev pub build_asked : List Row → Option Asked
build_asked rows = option_and_then (λ building.
    pair_asked (λ source image. builds source image building) rows) (building_asked rows)

abbrev pub run_asked : List Row → Option Asked
run_asked rows = option_and_then (λ building. option_and_then (λ options.
    pair_asked (λ source image. runs source image building options) rows)
    (options_asked rows)) (building_asked rows)

abbrev pub exec_asked : List Row → Option Asked
exec_asked rows = option_and_then (λ options. option_map (λ image.
    executes image options (first_of (codes "resume") rows))
    (first_of (codes "IMG") rows)) (options_asked rows)

abbrev pub dump_asked : List Row → Option Asked
dump_asked rows = option_map dumps (first_of (codes "IMG") rows)

-- IN and OUT
abbrev pub upgrade_asked : List Row → Option Asked
upgrade_asked rows = option_and_then (λ old. option_map (λ new. upgrades old new)
    (first_of (codes "OUT") rows)) (first_of (codes "IN") rows)

abbrev pub report_asked : List Row → Option Asked
report_asked rows = option_and_then (λ building. option_map (λ source. reports source building)
    (first_of (codes "SRC") rows)) (building_asked rows)

abbrev pub evaluation_asked : List Row → Option Evaluation
evaluation_asked rows = option_map (λ fuel. record {
  input = first_of (codes "input") rows;
  fuel = fuel;
  vars = is_set (codes "vars") rows;
}) (option_and_then plain_number (first_of (codes "fuel") rows))

abbrev pub eval_asked : List Row → Option Asked
eval_asked rows = option_and_then (λ building. option_and_then (λ evaluation.
    option_map (λ source. evaluates source building evaluation) (first_of (codes "SRC") rows))
    (evaluation_asked rows)) (building_asked rows)

-- how many functions the made source has
abbrev pub gen_asked : List Row → Option Asked
gen_asked rows = option_map generates (number_asked (codes "N") 1 300 rows)

abbrev pub check_asked : List Row → Option Asked
check_asked rows = option_map checks (first_of (codes "SRC") rows)

-- what the command of this name asks for, by what was found for the words after it
abbrev pub asked_by : Text → List Row → Option Asked
asked_by name rows = if bytes_eq name (codes "build") then build_asked rows
    else (if bytes_eq name (codes "run") then run_asked rows
    else (if bytes_eq name (codes "exec") then exec_asked rows
    else (if bytes_eq name (codes "dump") then dump_asked rows
    else (if bytes_eq name (codes "upgrade") then upgrade_asked rows
    else (if bytes_eq name (codes "report") then report_asked rows
    else (if bytes_eq name (codes "eval") then eval_asked rows
    else (if bytes_eq name (codes "gen") then gen_asked rows
    else (if bytes_eq name (codes "check") then check_asked rows else None))))))))

abbrev pub asked : Option (Text × List Row) → Option Asked
asked = option_and_then (λ found. asked_by found.0 found.1)

-- clap finds no fault in the words, a request for help being one
abbrev pub is_faultless : List Text → Bool
is_faultless words = is_empty (fault_of command_line words)

-- the command that the words name, the first of them being the program's own name; the table takes
-- the words where they name one
abbrev pub named : List Text → Option Asked
named words =
    if is_faultless words then asked (subcommand_of command_line words) else None

-- the text that clap finds for the option of this name, its default where the words give none
abbrev pub text_found : Text → List Text → Option Text
text_found name words =
    option_and_then (λ found. first_of name found.1) (subcommand_of command_line words)

-- where clap finds a text for it, that is `0` or begins with one of the digits 1 to 9
abbrev pub IsPlain : Text → List Text → Type 0
IsPlain name words = IfSome (text_found name words) (λ text. starts_plainly text ≡ true)

-- the bounds that the table gives
pub record IsInBounds (building : BuildOptions) : Type 0 where
  pub some_stack : 256 ≤ building.stack
  pub most_stack : building.stack ≤ 1048576
  pub output : building.out_cap ≤ 1048576
  pub gap : IfSome building.max_gap (λ gap. (160 ≤ gap) × (gap ≤ 1000000))

-- the options of a command that builds are in their bounds
abbrev pub HasBounds : Command → Type 0
HasBounds (command.Build source image building) = IsInBounds building
HasBounds (command.Run source image building options) = IsInBounds building
HasBounds (command.Report source building) = IsInBounds building
HasBounds (command.Eval source building options) = IsInBounds building
HasBounds (command.Exec image options resume) = ⊤
HasBounds (command.Dump image) = ⊤
HasBounds (command.Upgrade old new) = ⊤
HasBounds (command.Gen count) = ⊤
HasBounds (command.Check source) = ⊤

abbrev pub options_meaning : RunOptions → Options
options_meaning options = record {
  input = option_map (λ file. file.now) options.input;
  trace = option_map (λ file. file.now) options.trace;
  steps = options.steps;
  vars = options.vars;
  save = option_map (λ file. file.now) options.save;
}

abbrev pub evaluation_meaning : EvalOptions → Evaluation
evaluation_meaning options = record {
  input = option_map (λ file. file.now) options.input;
  fuel = options.fuel;
  vars = options.vars;
}

-- what a command of the program's asks for
abbrev pub meaning : Command → Asked
meaning (command.Build source image building) = builds source.now image.now building
meaning (command.Run source image building options) =
    runs source.now image.now building (options_meaning options)
meaning (command.Exec image options resume) =
    executes image.now (options_meaning options) (option_map (λ file. file.now) resume)
meaning (command.Dump image) = dumps image.now
meaning (command.Upgrade old new) = upgrades old.now new.now
meaning (command.Report source building) = reports source.now building
meaning (command.Eval source building options) =
    evaluates source.now building (evaluation_meaning options)
meaning (command.Gen count) = generates count
meaning (command.Check source) = checks source.now

abbrev pub IsUsage : WordsFault → Type 0
IsUsage (fault.Usage text) = ⊤
IsUsage fault.OutOfMemory = ⊥
