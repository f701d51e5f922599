-- For private contracts: numbers of registers.
use Rattle.std.specs.Prelude.{ℕ, Bool, true, ◌&&◌, nat_lt, List, [], ◌∷◌}

abbrev pub are_registers : List ℕ → Bool
are_registers [] = true
are_registers (i ∷ is) = nat_lt i 32 && are_registers is
