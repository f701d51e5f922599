-- What is read so far, with what is left.
use Rattle.std.proofs.Common.{ℕ, List, ◌++◌, Option, Some, None}

-- the bytes or words so far, and those of what is left
abbrev pub put_all : List ℕ → Option (List ℕ) → Option (List ℕ)
put_all bytes None = None
put_all bytes (Some more) = Some (bytes ++ more)
