-- Members of structs, as the definitions see them.
use Rattle.std.specs.Prelude.{List, map}
use Rattle.im_ctype.specs.Types.{Member}
use Rattle.im_types.specs.Shape.{type_of}
use Rattle.im_check_place.specs.declared.field.Field.{Field}

abbrev pub field_of : Field → Member
field_of f = record { name = f.name.items; constant = f.constant; type = type_of f.ty }

abbrev pub fields_of : List Field → List Member
fields_of fs = map {A = Field} field_of fs
