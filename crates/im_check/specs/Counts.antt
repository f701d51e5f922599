-- What is answered of counts over their limits.
use Rattle.std.specs.Prelude.{◌≡◌, ◌<◌, List}
use Rattle.im_typed.specs.Limits.{static_bytes}
use Rattle.im_typed.specs.Program.{Prog}
use Rattle.im_rules.specs.Scopes.{Scopes}
use Rattle.im_rules_limits.specs.Limits.{Head}
use Rattle.im_check_counts.specs.declared.crowded.Crowded.{Crowded as Found}
use Rattle.im_check_counts.specs.Crowded.{CrowdedAmong}
use Rattle.im_check.specs.declared.fault.CheckFault.{CheckFault}
use Rattle.im_check.specs.declared.fault.CheckFault.TheVariants.{Crowded, Statics, OutOfMemory}

-- this is told of a function that is found
abbrev pub IsToldOf : Found → CheckFault → Type 0
IsToldOf found (Crowded words token name) = (words ≡ found.words) × (token ≡ found.at) × (name.items ≡ found.name.now)
IsToldOf found OutOfMemory = Unit {0}
IsToldOf found _ = ⊥

abbrev pub IsOverParameters : Scopes → List Head → CheckFault → Type 0
IsOverParameters g hs (Crowded words token name) = CrowdedAmong g hs words token name.items
IsOverParameters g hs OutOfMemory = Unit {0}
IsOverParameters g hs _ = ⊥

abbrev pub IsOverStatics : Prog → CheckFault → Type 0
IsOverStatics g (Statics bytes) = (bytes ≡ static_bytes g.statics) × (1048576 < bytes)
IsOverStatics g OutOfMemory = Unit {0}
IsOverStatics g _ = ⊥
