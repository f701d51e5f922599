-- The first values of cells, as numbers that operators take. Private contracts alone speak of this.
use Rattle.std.specs.Prelude.{List, map}
use Rattle.im_ctype.specs.Table.{Table}
use Rattle.im_store.specs.Objects.{Value}
use Rattle.im_typed.specs.declared.program.Constant.{Constant}
use Rattle.im_typed.specs.ProgramOf.{first_of}
use Rattle.im_eval_machine.specs.Small.{small_value}

abbrev pub first_values : Table → List Constant → List Value
first_values types constants = map small_value (map (first_of types) constants)
