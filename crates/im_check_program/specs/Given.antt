-- The names of the statics that initialisers give values.
use Rattle.std.specs.Prelude.{List, map}
use Rattle.im_check_defined.specs.im_word.Words.{Name}
use Rattle.im_check_defined.specs.declared.first_values.FirstValues.{FirstValues}

abbrev pub names_given : List FirstValues → List Name
names_given gs = map {A = FirstValues} (λ g. g.name.items) gs
