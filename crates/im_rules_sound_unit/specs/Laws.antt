-- What a unit is typed to is well typed, and within the limits of typed programs.
use Rattle.im_ctree.specs.Tree as t
use Rattle.im_typed.specs.Program.{Prog}
use Rattle.im_typed.specs.Limits as typed
use Rattle.im_typed.specs.Typing.{IsWellTyped}
use Rattle.im_rules.specs.TypedUnit.{TypedUnit}
use Rattle.im_rules_limits.specs.Limits.{IsWithinLimits}
use Rattle.im_rules_sound_places.specs.Units.{IsWrittenUnit}

abbrev pub UnitsLaw : Type 0
UnitsLaw =
    (u : t.Tree) (g : Prog) → TypedUnit u g → IsWrittenUnit u → IsWithinLimits u
    → IsWellTyped g × typed.IsWithinLimits g
