use Rattle.std.proofs.Common.{◌≡◌, length}
use Rattle.im_ctype.specs.Table.{Table}
use Rattle.im_typed.specs.ProgramOf.{expr_of}
use Rattle.im_check_static_values.specs.Chains.{converted}
use Rattle.im_check_static_values.proofs.constant.conversions.Given as goal

abbrev pub invariant-loop-kind : goal.invariant-loop-kind
invariant-loop-kind l =
    (types : Table) → converted l.kinds.items (expr_of types l.whole.tree) ≡ converted l.initial.kinds.items (expr_of types l.fn.e.tree)

abbrev pub decreases-loop-kind : goal.decreases-loop-kind
decreases-loop-kind l = length l.kinds.items
