-- What is answered of a node that isn't typed.
use Rattle.std.specs.Prelude.{◌≡◌, ℕ, List}
use Rattle.im_rules.specs.Demands.{Demand, Refuses}
use Rattle.im_check_stop.specs.declared.stop.Stop.{Stop}
use Rattle.im_check_stop.specs.declared.stop.Stop.TheVariants.{Rule, Large, Memory}

-- memory ran out
abbrev pub IsNoRule : Stop → Type 0
IsNoRule (Rule rule token) = ⊥
IsNoRule (Large bytes) = ⊥
IsNoRule Memory = Unit {0}

-- a rule that refuses, at this token
abbrev pub IsRefusal : List Demand → ℕ → Stop → Type 0
IsRefusal asked at (Rule rule token) = Refuses rule asked × (token ≡ at)
IsRefusal asked at (Large bytes) = ⊥
IsRefusal asked at Memory = Unit {0}
