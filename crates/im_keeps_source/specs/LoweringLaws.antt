-- What lowering promises to the passes behind it.
use Rattle.std.specs.Prelude.{◌<◌, ◌^◌}
use Rattle.im_typed.specs.Program.{Func, Prog}
use Rattle.im_typed.specs.Counts.{func_need}
use Rattle.im_typed.specs.Limits.{IsWithinLimits}
use Rattle.im_typed.specs.Typing.{Each, IsWellTyped}
use Rattle.im_block.specs.declared.unit.Unit.{Unit as Code}
use Rattle.im_alloc_placed.specs.Placeable.{IsPlaceable}
use Rattle.im_alloc_placed.specs.Apart.{AllUncut}
use Rattle.im_lower_relation.specs.Lowered.{IsLowered, AreSized}
use Rattle.im_keeps_passes.specs.Passes.{Lowers}
use Rattle.im_keeps_source.specs.Source.{source_of}

-- what a function's frame may need is a number of 64 bits
pub record NeedsFit (prog : Prog) : Type 0 where
  pub functions : Each {A = Func} (λ f. func_need f < 2 ^ 64) prog.funcs

abbrev pub LowersLaw : Type 0
LowersLaw =
    (prog : Prog) (code : Code) → IsWellTyped prog → IsWithinLimits prog → NeedsFit prog
    → IsLowered prog code → AreSized prog code → IsPlaceable code → AllUncut code → Lowers (source_of prog) code
