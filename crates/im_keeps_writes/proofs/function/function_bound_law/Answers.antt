use Rattle.im_keeps_writes.proofs.FunctionBounded.{bounded}
use Rattle.im_keeps_writes.proofs.function.function_bound_law.Goals as goal

pub returns : goal.returns
returns c =
    bounded c.registers_law.ensures c.force_keeps_law.ensures c.cuts_keep_code_law.ensures c.placed_code_law.ensures c.recut_keeps_law.ensures
