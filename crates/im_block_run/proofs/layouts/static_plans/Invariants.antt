use Rattle.std.proofs.Common.{map, take}
use Rattle.im_block.specs.Meaning.{static_of}
use Rattle.im_eval_machine.specs.Settings.{ArePlans, static_shapes}
use Rattle.im_block_run.proofs.layouts.static_plans.Given as goal

abbrev pub invariant-loop-one : goal.invariant-loop-one
invariant-loop-one l = ArePlans (static_shapes (map static_of (take l.one-index l.statics))) l.plans.items
