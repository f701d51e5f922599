-- What is known at a place of the text.
use Rattle.std.specs.Prelude.{ℕ, ◌+◌, List, length, Option, Some, None, if◌then◌else◌}
use Rattle.im_ctree.specs.im_word.Words.{Name}
use Rattle.im_ctree.specs.Tree as t
use Rattle.im_typed.specs.im_ctype.Types.{Structs}
use Rattle.im_rules.specs.Scopes.{Scopes, opened, named, Entity, at_file_scope}
use Rattle.im_rules.specs.Outline.{Outline, list_number}
use Rattle.im_rules.specs.Strings.{strings_in, strings_maybe, strings_named, strings_of_core, strings_of_declarator, strings_may, strings_of_parameters}

-- what names mean, the structs whose member lists have ended, the number of the static that the next string literal is,
-- and the outline of the whole unit
pub record Context : Type 0 where
  pub scopes : Scopes
  pub known : Structs
  pub next_string : ℕ
  pub unit : Outline

-- the number of the struct that a tag declares at a token: of a tag at file scope the number of its member list. A struct
-- without a list has a number past those
abbrev pub tag_number : Context → ℕ → Name → ℕ
tag_number c at x = if at_file_scope c.scopes then of_list (list_number x c.unit.lists) else length c.unit.lists + at
  where
    of_list : Option ℕ → ℕ
    of_list None = length c.unit.lists + at
    of_list (Some n) = n

abbrev pub in_new_scope : Context → Context
in_new_scope c = record c { scopes = opened c.scopes }

abbrev pub with_entity : Name → Entity → Context → Context
with_entity x e c = record c { scopes = named x e c.scopes }

-- behind so many string literals
abbrev pub behind_strings : List Name → Context → Context
behind_strings ss c = record c { next_string = c.next_string + length ss }

-- behind a part
abbrev pub behind : t.Expression → Context → Context
behind e c = behind_strings (strings_in e) c

abbrev pub behind_maybe : t.MaybeExpression → Context → Context
behind_maybe e c = behind_strings (strings_maybe e) c

abbrev pub behind_name : t.TypeName → Context → Context
behind_name n c = behind_strings (strings_named n) c

abbrev pub behind_core : t.Core → Context → Context
behind_core k c = behind_strings (strings_of_core k) c

abbrev pub behind_declarator : t.Declarator → Context → Context
behind_declarator d c = behind_strings (strings_of_declarator d) c

abbrev pub behind_may : t.MaybeDeclarator → Context → Context
behind_may m c = behind_strings (strings_may m) c

abbrev pub behind_parameters : t.Parameters → Context → Context
behind_parameters ps c = behind_strings (strings_of_parameters ps) c
