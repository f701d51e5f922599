-- A frame table: the bytes of each function's frame, by the function's name.
use Rattle.std.specs.Prelude.{ℕ, List, [], ◌∷◌, map, if◌then◌else◌}
use Rattle.std.specs.Str.{bytes_eq}
use Rattle.im_typed.specs.declared.frames.Frame.{Frame}
use Rattle.im_typed.specs.Program.{Func, Prog}
use Rattle.im_typed.specs.Programs.{Setting}

-- the bytes of a frame; none for a name that the table lacks
abbrev pub size_in : List Frame → List ℕ → ℕ
size_in [] name = 0
size_in (f ∷ fs) name = if bytes_eq f.name.items name then f.size else size_in fs name

-- the frames of functions, in the order of these
abbrev pub sizes_in : List Frame → List Func → List ℕ
sizes_in frames funcs = map {A = Func} (λ f. size_in frames f.name) funcs

-- a program with a frame table, a stack and an output of so many bytes
abbrev pub setting : Prog → List Frame → ℕ → ℕ → Setting
setting prog frames stack capacity =
    record { prog = prog; frames = sizes_in frames prog.funcs; stack = stack; capacity = capacity }
