use Rattle.std.proofs.Common.{take}
use Rattle.im_eval_machine.specs.Settings.{ArePlans}
use Rattle.im_block_run.specs.Laid.{object_shapes}
use Rattle.im_block_run.proofs.layouts.plans_of.Given as goal

abbrev pub invariant-loop-object : goal.invariant-loop-object
invariant-loop-object l = ArePlans (object_shapes (take l.object-index l.objects)) l.plans.items
