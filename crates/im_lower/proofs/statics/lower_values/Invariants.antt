use Rattle.std.proofs.Common.{◌≡◌, map, take}
use Rattle.im_block.specs.Meaning.{constant}
use Rattle.im_block.specs.declared.unit.Constant.{Constant as BlockConstant}
use Rattle.im_ctype.specs.Table.{Table}
use Rattle.im_typed.specs.ProgramOf as typed
use Rattle.im_typed.specs.declared.program.Constant.{Constant as TypedConstant}
use Rattle.im_lower.proofs.statics.lower_values.Given as goal

abbrev pub invariant-loop-value : goal.invariant-loop-value
invariant-loop-value l =
    (types : Table) → map {A = BlockConstant} constant l.found.items ≡ map {A = TypedConstant} (typed.first_of types) (take l.value-index l.values)
