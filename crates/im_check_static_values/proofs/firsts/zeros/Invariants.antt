use Rattle.std.proofs.Common.{◌≡◌, ◌++◌, None, map, drop}
use Rattle.im_ctype.specs.Table.{Table}
use Rattle.im_typed.specs.ProgramOf.{first_of}
use Rattle.im_check_items.specs.im_rules.TypedUnit.{values_or_zero}
use Rattle.im_check_static_values.proofs.firsts.zeros.Given as goal

abbrev pub invariant-loop-cell : goal.invariant-loop-cell
invariant-loop-cell l =
    (types : Table) → map (first_of types) l.values.items ++ values_or_zero (drop l.cell-index l.cells) None ≡ values_or_zero l.cells None
