use Rattle.std.proofs.Common.{take}
use Rattle.im_compile.specs.Made.{AreNamesOf}
use Rattle.im_compile.proofs.passes.function_names.Given as goal

abbrev pub invariant-loop-func : goal.invariant-loop-func
invariant-loop-func l = AreNamesOf (take l.func-index l.funcs) l.names.items
