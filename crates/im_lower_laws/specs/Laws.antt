-- What holds of the code that lowering makes of a well-typed program.
use Rattle.im_typed.specs.declared.program.Prog.{Prog}
use Rattle.im_typed.specs.Limits.{IsWithinLimits}
use Rattle.im_typed.specs.ProgramOf.{program_of}
use Rattle.im_typed.specs.Typing.{IsWellTyped}
use Rattle.im_block.specs.declared.unit.Unit.{Unit as Code}
use Rattle.im_alloc_placed.specs.Placeable.{IsPlaceable}
use Rattle.im_alloc_placed.specs.Apart.{AllUncut}
use Rattle.im_lower_relation.specs.Lowered.{AreSized}
use Rattle.im_lower_plain.specs.MakeUnit.{UnitMade}

pub record SizedLaw : Type 0 where
  pub placeable : (g : Prog) (u : Code) → UnitMade g u → IsWellTyped (program_of g) → IsWithinLimits (program_of g) → IsPlaceable u
  pub uncut : (g : Prog) (u : Code) → UnitMade g u → IsWellTyped (program_of g) → IsWithinLimits (program_of g) → AllUncut u
  pub sized : (g : Prog) (u : Code) → UnitMade g u → IsWellTyped (program_of g) → IsWithinLimits (program_of g) → AreSized (program_of g) u
