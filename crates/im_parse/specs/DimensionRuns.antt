-- How the runs of brackets stand in the code.
use Rattle.std.specs.Prelude.{ℕ, List, ◌∷◌, reverse}
use Rattle.im_parse.specs.declared.dimensions.Runs.{Runs}

-- the runs, the innermost first
abbrev pub runs_of : Runs → List ℕ
runs_of runs = runs.innermost ∷ reverse runs.outer.items
