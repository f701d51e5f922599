-- What is answered of a type over the limit of sizes.
use Rattle.std.specs.Prelude.{◌≡◌, ◌<◌, ◌≤◌, ℕ}
use Rattle.im_ctype.specs.Types.{CType, Structs}
use Rattle.im_rules_limits.specs.Limits.{size_limit, Counted}
use Rattle.im_check_stop.specs.declared.stop.Stop.{Stop}
use Rattle.im_check_stop.specs.declared.stop.Stop.TheVariants.{Rule, Large, Memory}

-- a type of so many bytes is over the limit
abbrev pub IsTooLarge : ℕ → Stop → Type 0
IsTooLarge size (Rule rule token) = ⊥
IsTooLarge size (Large bytes) = (bytes ≡ size) × (size_limit < bytes)
IsTooLarge size Memory = Unit {0}

-- each size that is counted of a type is within the limit
abbrev pub AllFit : Structs → CType → Type 0
AllFit known a = (k : ℕ) → Counted known a k → k ≤ size_limit

-- a size that is counted of a type is over the limit
abbrev pub IsOver : Structs → CType → Stop → Type 0
IsOver known a (Rule rule token) = ⊥
IsOver known a (Large bytes) = Counted known a bytes × (size_limit < bytes)
IsOver known a Memory = Unit {0}
