-- A sink of bytes: what it tells, and what a write does to that.
use Rattle.std.specs.Prelude.{◌≡◌, ℕ, ⊤, Option, Some, None, Result, Ok, Err, List, ◌++◌, take}
use Rattle.im_io.specs.Counts.{one_more}

-- the bytes taken so far, where they are told, and how many writes were refused
pub record SinkState : Type 0 where
  pub contents : Option (List ℕ)
  pub faults : ℕ

-- the bytes were taken; where the contents are told before, they are told after
abbrev pub Appended : List ℕ → Option (List ℕ) → Option (List ℕ) → Type 0
Appended bytes None None = ⊤
Appended bytes None (Some new) = ⊥
Appended bytes (Some old) None = ⊥
Appended bytes (Some old) (Some new) = new ≡ old ++ bytes

-- a write takes the first bytes of a piece, or is refused, takes nothing and raises the count by one
abbrev pub Takes : {F : Type 0} → List ℕ → Result ℕ F → SinkState → SinkState → Type 0
Takes piece (Ok count) old new = Appended (take count piece) old.contents new.contents × (new.faults ≡ old.faults)
Takes piece (Err fault) old new = (new.contents ≡ old.contents) × (new.faults ≡ one_more old.faults)
