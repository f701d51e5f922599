-- What is known at a place of the text, as Rust values.
use Rattle.std.specs.Prelude.{ℕ, List}
use Rattle.im_check_name_map.specs.im_ctype.Table.{Table, structs_of}
use Rattle.im_check_name_map.specs.im_rules.Context.{Context}
use Rattle.im_check_name_map.specs.im_rules.Outline.{Outline}
use Rattle.im_check_scopes.specs.declared.entity.Entry.{Entry}
use Rattle.im_check_scopes.specs.Shape.{scopes_of}

-- the scopes, the structs of the table, the number of the next string literal among the statics, and the unit's outline
abbrev pub context_of : List Entry → Table → ℕ → Outline → Context
context_of es table next unit = record { scopes = scopes_of es; known = structs_of table; next_string = next; unit = unit }
