use Rattle.std.proofs.Common.{take}
use Rattle.im_block_run.specs.Laid.{AreLayouts}
use Rattle.im_block_run.proofs.layouts.function_plans.Given as goal

abbrev pub invariant-loop-function : goal.invariant-loop-function
invariant-loop-function l = AreLayouts (take l.function-index l.functions) l.all.items
