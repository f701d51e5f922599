use Rattle.std.proofs.Common.{map, take}
use Rattle.im_typed.specs.ProgramOf.{static_of}
use Rattle.im_eval_machine.specs.Settings.{ArePlans, static_shapes}
use Rattle.im_eval_machine.proofs.layouts.static_plans.Given as goal

abbrev pub invariant-loop-variable : goal.invariant-loop-variable
invariant-loop-variable l =
    ArePlans (static_shapes (map (static_of l.types) (take l.variable-index l.statics))) l.plans.items
