-- What is printed of a run.
use Rattle.std.specs.Prelude.{ℕ, ℤ, ◌==◌, cond, List, ◌++◌, codes, decimal}
use Rattle.std.specs.Fmt.{signed_decimal}
use Rattle.im_rv.specs.declared.step.Went.{Went}
use Rattle.im_rv.specs.declared.step.Went.TheVariants.{On, Halted, Faulted}
use Rattle.im_cmd_lines.specs.declared.ending.Ending.{Ending}
use Rattle.im_cmd_lines.specs.declared.ending.Ending.TheVariants.{Returned, StackExhausted, OutOfPower, MachineFault}
use Rattle.im_cmd_lines.specs.Numerals.{hex_word}

-- how a run ended that went so and left this reason
abbrev pub ending_of : Went → ℕ → Ending
ending_of On reason = OutOfPower
ending_of Halted reason = cond (reason == 1) StackExhausted Returned
ending_of (Faulted at) reason = MachineFault at

-- the status that the program returned, or why there is none
abbrev pub ending_line : Ending → ℤ → List ℕ
ending_line Returned status = codes "status " ++ signed_decimal status ++ codes "\n"
ending_line StackExhausted status = codes "intermit: stack exhausted\n"
ending_line OutOfPower status = codes "intermit: out of power\n"
ending_line (MachineFault at) status = codes "intermit: machine fault at 0x" ++ hex_word at ++ codes "\n"

-- how the run ended, how often INDEX changed, and how many instructions were executed
abbrev pub run_lines : Ending → ℤ → ℕ → ℕ → List ℕ
run_lines ending status commits instructions =
    ending_line ending status ++ codes "commits " ++ decimal commits ++ codes "\ninstructions " ++ decimal instructions ++ codes "\n"
