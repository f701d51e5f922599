-- What lowering keeps, and what lowered code is.
use Rattle.std.specs.Prelude.{ℕ, ◌<◌, List}
use Rattle.im_store.specs.Outcomes.{IsDefined}
use Rattle.im_typed.specs.Program.{Prog}
use Rattle.im_typed.specs.Limits.{IsWithinLimits}
use Rattle.im_typed.specs.Programs.{Setting, meaning}
use Rattle.im_typed.specs.Typing.{Each, IsWellTyped}
use Rattle.im_block.specs.declared.unit.Unit.{Unit as Code}
use Rattle.im_block.specs.Meaning.{Event}
use Rattle.im_block.specs.Meaning as m
use Rattle.im_block.specs.Runs.{Runs}
use Rattle.im_block.specs.Shape.{AllOrdered}
use Rattle.im_block.specs.Wellformed.{IsWellFormed}
use Rattle.im_lower_relation.specs.Lowered.{IsLowered, AreSized}

-- what surrounds a run of block code is what surrounds the program's
abbrev pub setting_of : Setting → List ℕ → m.Setting
setting_of g input = record { frames = g.frames; stack = g.stack; capacity = g.capacity; input = input }

-- wherever the program's meaning is defined, block code has the same outcome with as much fuel
abbrev pub LowerKeepsLaw : Type 0
LowerKeepsLaw =
    (g : Setting) (u : Code) → IsWellTyped g.prog → IsLowered g.prog u → (input : List ℕ) (fuel : ℕ)
    → Each (λ byte. byte < 256) input → IsDefined (meaning g input fuel)
    → (run : List Event) × Runs u (setting_of g input) fuel (meaning g input fuel) run

-- lowered code is well formed, and each of its cycles has a loop edge
abbrev pub LoweredFormLaw : Type 0
LoweredFormLaw = (g : Prog) (u : Code) → IsWellTyped g → IsWithinLimits g → IsLowered g u → AreSized g u → IsWellFormed u × AllOrdered u
