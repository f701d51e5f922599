-- What is declared, as the definitions see it.
use Rattle.std.specs.Prelude.{ℕ, List, Option, Vec}
use Rattle.std.specs.Global.{Global}
use Rattle.std.specs.Option.{option_map}
use Rattle.im_check_type_specifiers.specs.im_word.Words.{Name}
use Rattle.im_rules.specs.Declared as d
use Rattle.im_rules.specs.Scopes.{Entity, an_object, local_object}
use Rattle.im_types.specs.Shape.{type_of}
use Rattle.im_check_declarators.specs.declared.declared.Declared.{Declared}

abbrev pub name_of : Option (Vec ℕ Global) → Option Name
name_of x = option_map (λ name. name.items) x

abbrev pub declared_of : Declared → d.Declared
declared_of y = record { name = name_of y.name; constant = y.constant; type = type_of y.ty }

-- an object of the function, by its number
abbrev pub object_by : ℕ → d.Declared → Entity
object_by n y = an_object y.constant y.type (local_object n)
