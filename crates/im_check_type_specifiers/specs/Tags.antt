-- Tags at a place of the text.
use Rattle.std.specs.Prelude.{◌≡◌, ℕ, List, ◌++◌, Option, None, if◌then◌else◌}
use Rattle.im_check_scopes.specs.im_word.Words.{Name}
use Rattle.im_check_scopes.specs.im_rules.Outline.{list_number}
use Rattle.im_check_scopes.specs.im_rules.Scopes.{at_file_scope}
use Rattle.im_check_scopes.specs.declared.entity.Entry.{Entry}
use Rattle.im_check_scopes.specs.Shape.{scopes_of}

-- the number of the member list of a tag at file scope
abbrev pub listed_in : List Entry → List (Option Name) → Name → Option ℕ
listed_in es lists x = if at_file_scope (scopes_of es) then list_number x lists else None

-- entries are added behind the others
abbrev pub IsGrown : List Entry → List Entry → Type 0
IsGrown before after = (more : List Entry) × (after ≡ before ++ more)
