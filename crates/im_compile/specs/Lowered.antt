-- For private contracts: block code of a program, with the names of its functions.
use Rattle.std.specs.Prelude.{◌<◌, ◌-◌, ◌^◌, All}
use Rattle.im_typed.specs.declared.program.Prog.{Prog}
use Rattle.im_typed.specs.ProgramOf.{program_of}
use Rattle.im_block.specs.declared.unit.Function.{Function}
use Rattle.im_block.specs.declared.unit.Unit.{Unit as Code}
use Rattle.im_alloc_placed.specs.Placeable.{IsPlaceable}
use Rattle.im_alloc_placed.specs.Apart.{AllUncut}
use Rattle.im_lower_relation.specs.Lowered.{IsLowered, AreSized}
use Rattle.im_compile.specs.declared.passes.Lowered.{Lowered}
use Rattle.im_compile.specs.Made.{AreNamesOf}

pub record IsLoweredCode (prog : Prog) (u : Code) : Type 0 where
  pub lower : IsLowered (program_of prog) u
  pub sized : AreSized (program_of prog) u
  pub placeable : IsPlaceable u
  pub uncut : AllUncut u
  pub told : All (λ (f : Function). f.need < 2 ^ 64 - 1) u.functions.items

pub record IsLoweredFrom (prog : Prog) (lowered : Lowered) : Type 0 where
  pub code : IsLoweredCode prog lowered.unit
  pub names : AreNamesOf prog.funcs.items lowered.names.items
