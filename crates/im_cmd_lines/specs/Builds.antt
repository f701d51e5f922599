-- What is printed of a build.
use Rattle.std.specs.Prelude.{ℕ, List, ◌++◌, codes, decimal}
use Rattle.std.specs.List.{flat_map}
use Rattle.im_typed.specs.declared.frames.Frame.{Frame}

-- the words of the code, and a bound on the instructions from power-up or a cut to the next cut or the halt
abbrev pub size_lines : ℕ → ℕ → List ℕ
size_lines words gap = codes "code " ++ decimal words ++ codes "\ngap " ++ decimal gap ++ codes "\n"

-- a function's name, and the bytes of its frame
abbrev pub frame_line : Frame → List ℕ
frame_line frame = codes "frame " ++ frame.name.items ++ codes " " ++ decimal frame.size ++ codes "\n"

abbrev pub build_lines : ℕ → ℕ → List Frame → List ℕ
build_lines words gap frames = size_lines words gap ++ flat_map frame_line frames
