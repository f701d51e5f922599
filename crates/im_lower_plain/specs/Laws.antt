-- What holds of the code that lowering makes.
use Rattle.im_typed.specs.declared.program.Prog.{Prog}
use Rattle.im_typed.specs.ProgramOf.{program_of}
use Rattle.im_block.specs.declared.unit.Unit.{Unit as Code}
use Rattle.im_lower_relation.specs.Lowered.{IsLowered}
use Rattle.im_lower_plain.specs.MakeUnit.{UnitMade}

pub record MadeLaw : Type 0 where
  pub lowered : (g : Prog) (u : Code) → UnitMade g u → IsLowered (program_of g) u
