use Rattle.std.proofs.Common.{◌≡◌, ◌++◌, nat_eq, map, drop}
use Rattle.std.specs.Option.{option_map}
use Rattle.std.specs.HashMap.{get}
use Rattle.im_ctype.specs.declared.cell.Cell.{Cell}
use Rattle.im_ctype.specs.Table.{Table}
use Rattle.im_typed.specs.ProgramOf.{first_of}
use Rattle.im_check_items.specs.im_rules.StaticValues.{value_or, zero_of}
use Rattle.im_check_static_values.proofs.firsts.values_of.Given as goal

abbrev pub invariant-loop-cell : goal.invariant-loop-cell
invariant-loop-cell l =
    (types : Table) → map (first_of types) l.values.items ++ map {A = Cell} (λ c. value_or (zero_of c.kind) (option_map (first_of types) (get nat_eq l.fn.found c.offset))) (drop l.cell-index l.cells) ≡ map {A = Cell} (λ c. value_or (zero_of c.kind) (option_map (first_of types) (get nat_eq l.fn.found c.offset))) l.cells
