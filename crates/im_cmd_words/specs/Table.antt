-- The table of commands, in clap's words.
use Rattle.std.specs.Prelude.{◌++◌, ℕ, pos, true, false, Some, List, [], ◌∷◌, codes, fold}
use Rattle.clap.specs.Words.{App, Rule, Shape, Text, new_rule, with_rule}
use Rattle.clap.specs.Simple.{new_shape}
use Rattle.clap.specs.declared.builder.action.ArgAction.TheVariants.{SetTrue}
use Rattle.clap.specs.declared.builder.value_parser.ValueParser.TheVariants.{Signed}

-- a word that the command needs, by its place
abbrev pub operand : Text → Rule
operand name = record (new_rule name) { required = true }

-- `--name`
abbrev pub flag : Text → Rule
flag name = record (new_rule name) { long = Some name; action = Some SetTrue }

-- `--name VALUE`
abbrev pub valued : Text → Rule
valued name = record (new_rule name) { long = Some name; value_names = 1 }

-- `--name N`, a number from the one bound to the other
abbrev pub limit : Text → ℕ → ℕ → Rule
limit name least most = record (valued name) { parser = Some (Signed (pos least) (pos most)) }

-- the same, and a number where it isn't given
abbrev pub numbered : Text → Text → ℕ → ℕ → Rule
numbered name default least most = record (limit name least most) { defaults = default ∷ [] }

-- a number from the one bound to the other that the command needs, by its place
abbrev pub counted : Text → ℕ → ℕ → Rule
counted name least most = record (operand name) { parser = Some (Signed (pos least) (pos most)) }

-- a command with more that may follow
abbrev pub with_rules : App → List Rule → App
with_rules = fold with_rule

-- a command with what may follow its name
abbrev pub row : Text → List Rule → Shape
row name rules = record (new_shape name) { rules = rules }

-- --input F --trace F, the files that a run reads
abbrev pub file_options : List Rule
file_options = valued (codes "input") ∷ valued (codes "trace") ∷ []

-- --steps N --vars --save F, how long a run lasts, whether its variables are shown, and the file
-- that gets its last memory
abbrev pub step_options : List Rule
step_options = numbered (codes "steps") (codes "100000000") 0 4294967295
    ∷ flag (codes "vars") ∷ valued (codes "save") ∷ []

abbrev pub run_options : List Rule
run_options = file_options ++ step_options

-- --stack N --out-cap N --max-gap N, the bytes of an image's stack and of its output, and its
-- longest gap at most
abbrev pub build_options : List Rule
build_options = numbered (codes "stack") (codes "65536") 256 1048576
    ∷ numbered (codes "out-cap") (codes "1048576") 0 1048576
    ∷ limit (codes "max-gap") 160 1000000 ∷ []

-- build SRC IMG, with options
abbrev pub build_row : Shape
build_row = row (codes "build") (operand (codes "SRC") ∷ operand (codes "IMG") ∷ build_options)

-- run SRC IMG, with options
abbrev pub run_row : Shape
run_row = row (codes "run")
    (operand (codes "SRC") ∷ operand (codes "IMG") ∷ build_options ++ run_options)

-- --resume F, the file of the memory that a run begins with
abbrev pub exec_options : List Rule
exec_options = run_options ++ (valued (codes "resume") ∷ [])

-- exec IMG, with options
abbrev pub exec_row : Shape
exec_row = row (codes "exec") (operand (codes "IMG") ∷ exec_options)

-- dump IMG
abbrev pub dump_row : Shape
dump_row = row (codes "dump") (operand (codes "IMG") ∷ [])

-- upgrade IN OUT
abbrev pub upgrade_row : Shape
upgrade_row = row (codes "upgrade") (operand (codes "IN") ∷ operand (codes "OUT") ∷ [])

-- report SRC, with options
abbrev pub report_row : Shape
report_row = row (codes "report") (operand (codes "SRC") ∷ build_options)

-- --input F --fuel N --vars, what a source is evaluated with
abbrev pub eval_options : List Rule
eval_options = valued (codes "input")
    ∷ numbered (codes "fuel") (codes "1000000") 0 4294967295 ∷ flag (codes "vars") ∷ []

-- eval SRC, with options
abbrev pub eval_row : Shape
eval_row = row (codes "eval") (operand (codes "SRC") ∷ build_options ++ eval_options)

-- gen N
abbrev pub gen_row : Shape
gen_row = row (codes "gen") (counted (codes "N") 1 300 ∷ [])

-- check SRC
abbrev pub check_row : Shape
check_row = row (codes "check") (operand (codes "SRC") ∷ [])

-- the program's own name, and then one of the commands
abbrev pub command_line : App
command_line = record {
  top = record (new_shape (codes "intermit")) { is_leaf = false; subcommand_required = true };
  subs = build_row ∷ run_row ∷ exec_row ∷ dump_row ∷ upgrade_row ∷ report_row ∷ eval_row
      ∷ gen_row ∷ check_row ∷ [];
}
