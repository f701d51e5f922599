-- What is printed of what a source means.
use Rattle.std.specs.Prelude.{ℕ, List, ◌++◌, codes, decimal}
use Rattle.std.specs.List.{flat_map}
use Rattle.std.specs.Fmt.{signed_decimal}
use Rattle.im_typed.specs.declared.frames.Frame.{Frame}
use Rattle.im_store.specs.Checks.{cause_number}
use Rattle.im_cmd_lines.specs.declared.evaluations.Evaluated.{Evaluated}
use Rattle.im_cmd_lines.specs.declared.evaluations.Evaluated.TheVariants.{Returned, StackExhausted, Undefined, OutOfFuel}
use Rattle.im_cmd_lines.specs.Builds.{frame_line}

-- the status that main returned, or why there is none
abbrev pub evaluated_line : Evaluated → List ℕ
evaluated_line (Returned status) = codes "status " ++ signed_decimal status ++ codes "\n"
evaluated_line StackExhausted = codes "intermit: stack exhausted\n"
evaluated_line (Undefined why) = codes "intermit: undefined U" ++ decimal (cause_number why) ++ codes "\n"
evaluated_line OutOfFuel = codes "intermit: out of fuel\n"

-- the frames that it was evaluated with, and how it ended
abbrev pub evaluation_lines : List Frame → Evaluated → List ℕ
evaluation_lines frames evaluated = flat_map frame_line frames ++ evaluated_line evaluated
