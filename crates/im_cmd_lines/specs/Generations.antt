-- What is printed of a made source's run.
use Rattle.std.specs.Prelude.{ℕ, ℤ, List, ◌++◌, codes, decimal, length, sum}
use Rattle.std.specs.Fmt.{signed_decimal}

-- the functions of the source, the bytes of the run's output, what they add up to, and the status
abbrev pub generation_line : ℕ → List ℕ → ℤ → List ℕ
generation_line count output status =
    codes "gen " ++ decimal count ++ codes ": output " ++ decimal (length output) ++ codes " sum " ++ decimal (sum output)
    ++ codes " status " ++ signed_decimal status ++ codes "\n"
