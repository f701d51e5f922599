use Rattle.im_ctype.specs.Table.{IsGrown}
use Rattle.im_check_program.specs.Known.{AreFunctionsOf}
use Rattle.im_check_program.proofs.functions.typed_functions.Given as goal

abbrev pub invariant-loop-f : goal.invariant-loop-f
invariant-loop-f l = AreFunctionsOf l.fn.table l.table l.yielded l.done.items × IsGrown l.fn.table l.table
