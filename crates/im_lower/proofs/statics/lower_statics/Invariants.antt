use Rattle.std.proofs.Common.{◌≡◌, map, take}
use Rattle.im_block.specs.Meaning.{static_of}
use Rattle.im_block.specs.declared.unit.Static.{Static as BlockStatic}
use Rattle.im_typed.specs.ProgramOf as typed
use Rattle.im_lower.proofs.statics.lower_statics.Given as goal

abbrev pub invariant-loop-object : goal.invariant-loop-object
invariant-loop-object l =
    map {A = BlockStatic} static_of l.found.items ≡ map (typed.static_of l.types) (take l.object-index l.statics)
