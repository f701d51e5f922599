-- Functions where they are declared, in the code.
use Rattle.std.specs.Prelude.{List, map}
use Rattle.im_rules_limits.specs.Limits.{Head}
use Rattle.im_check_counts.specs.declared.heads.Head as rust

abbrev pub head_of : rust.Head → Head
head_of x = record { token = x.at; name = x.name.items }

abbrev pub heads_in : List rust.Head → List Head
heads_in xs = map head_of xs
