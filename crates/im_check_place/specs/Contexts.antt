-- The context of the definitions that stands at a place.
use Rattle.std.specs.Prelude.{◌+◌, List, length}
use Rattle.im_check_scopes.specs.im_word.Words.{Name}
use Rattle.im_ctype.specs.Table.{structs_of}
use Rattle.im_check_scopes.specs.im_rules.Context.{Context}
use Rattle.im_check_scopes.specs.Shape.{scopes_of}
use Rattle.im_check_outline.specs.Outlines.{outline_in}
use Rattle.im_check_place.specs.declared.place.Place.{Place}

abbrev pub context_of : Place → Context
context_of p = record { scopes = scopes_of p.scope; known = structs_of p.structs; next_string = p.next_string; unit = outline_in p.outline }

-- the place behind these string literals
abbrev pub behind_strings : List Name → Place → Place
behind_strings ss p = record p { next_string = p.next_string + length ss }
