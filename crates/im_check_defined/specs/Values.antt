-- The first values of the definitions.
use Rattle.std.specs.Prelude.{List, [], map}
use Rattle.im_check_sites.specs.im_ctype.Table.{Table}
use Rattle.im_check_sites.specs.im_store.Objects.{Value}
use Rattle.im_typed.specs.declared.program.Constant.{Constant}
use Rattle.im_typed.specs.ProgramOf.{first_of}
use Rattle.im_check_sites.specs.im_rules.TypedUnit as u
use Rattle.im_check_defined.specs.declared.first_values.FirstValues.{FirstValues}

-- a constant's value is the same by each table
abbrev pub no_types : Table
no_types = record { nodes = []; structs = [] }

abbrev pub values_in : List Constant → List Value
values_in cs = map {A = Constant} (first_of no_types) cs

abbrev pub first_values_of : FirstValues → u.FirstValues
first_values_of v = record { name = v.name.items; values = values_in v.values.items }

abbrev pub first_values_in : List FirstValues → List u.FirstValues
first_values_in vs = map {A = FirstValues} first_values_of vs
