-- What is reported of a build.
use Rattle.std.specs.Prelude.{ℕ, ◌%◌, ◌^◌, List, ◌++◌, codes, decimal}
use Rattle.std.specs.List.{flat_map}
use Rattle.std.specs.String.{string_bytes}
use Rattle.im_num.specs.declared.values.Cause.{Cause}
use Rattle.im_num.specs.declared.values.Cause.TheVariants.{Entry, Return, Loop, Length, Gap, Dep}
use Rattle.im_rv.specs.declared.code.Cut.{Cut}
use Rattle.im_typed.specs.declared.frames.Frame.{Frame}
use Rattle.im_cmd_lines.specs.Numerals.{hex_word}
use Rattle.im_cmd_lines.specs.Builds.{frame_line}

-- the words of the code, the longest gap in instructions, and the bytes of the statics
abbrev pub report_head : ℕ → ℕ → ℕ → List ℕ
report_head words gap statics =
    codes "code " ++ decimal words ++ codes "\ngap " ++ decimal gap ++ codes "\nstatics " ++ decimal statics ++ codes "\n"

-- an address, which has 32 bits
abbrev pub address_text : ℕ → List ℕ
address_text at = hex_word (at % 2 ^ 32)

-- why a cut stands where it does; a dependence with the addresses of its read and of its write
abbrev pub cause_text : Cause → List ℕ
cause_text Entry = codes "entry"
cause_text Return = codes "return"
cause_text Loop = codes "loop"
cause_text Length = codes "length"
cause_text Gap = codes "gap"
cause_text (Dep read write) = codes "dep " ++ address_text read ++ codes " " ++ address_text write

-- a cut's address and the name of the part of the code that it stands in
abbrev pub place_text : Cut → List ℕ
place_text cut = codes "cut " ++ hex_word cut.at ++ codes " " ++ string_bytes cut.function ++ codes " "

abbrev pub cut_line : Cut → List ℕ
cut_line cut = place_text cut ++ (cause_text cut.cause ++ codes "\n")

abbrev pub report_lines : ℕ → ℕ → ℕ → List Frame → List Cut → List ℕ
report_lines words gap statics frames cuts =
    (report_head words gap statics ++ flat_map frame_line frames) ++ flat_map cut_line cuts
