use Rattle.std.proofs.Common.{◌≡◌, map, take}
use Rattle.im_ctype.specs.Table.{Table}
use Rattle.im_typed.specs.ProgramOf.{first_of}
use Rattle.im_check_defined.specs.im_rules.TypedUnit.{byte_value}
use Rattle.im_check_program.proofs.strings.text_cells.Given as goal

abbrev pub invariant-loop-byte : goal.invariant-loop-byte
invariant-loop-byte l = (types : Table) → map (first_of types) l.cells.items ≡ map byte_value (take l.byte-index l.text)
