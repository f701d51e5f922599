-- The names of a program's parts, as text.
use Rattle.std.specs.Prelude.{ℕ, List, [], ◌∷◌, ◌++◌, map, codes, string_bytes}
use Rattle.im_rv.specs.declared.code.Part.{Part}

abbrev pub part_names : List Part → List (List ℕ)
part_names parts = map (λ (part : Part). string_bytes part.name) parts

-- recovery, the checkpoint and the routines
abbrev pub runtime_names : List (List ℕ)
runtime_names = codes "recovery" ∷ codes "checkpoint" ∷ codes "getchar" ∷ codes "putchar" ∷ codes "stack" ∷ []

-- then the functions, and the lines that begin
abbrev pub program_names : List (List ℕ) → List (List ℕ)
program_names functions = runtime_names ++ functions ++ (codes "start" ∷ [])
