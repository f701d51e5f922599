use Rattle.std.proofs.Common.{◌≡◌, map, take}
use Rattle.im_typed.specs.ProgramOf.{func_of}
use Rattle.im_eval_machine.specs.Settings.{AreLayouts}
use Rattle.im_eval_machine.proofs.Plans.{past}
use Rattle.im_eval_machine.proofs.layouts.function_layouts.Given as goal

abbrev pub invariant-loop-func : goal.invariant-loop-func
invariant-loop-func l =
    (l.next ≡ past l.fn.first (map (func_of l.types) (take l.func-index l.funcs)))
    × AreLayouts l.fn.first (map (func_of l.types) (take l.func-index l.funcs)) l.layouts.items
