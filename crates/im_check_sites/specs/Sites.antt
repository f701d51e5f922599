-- The places of a function's body that Rust values stand for, and what stands behind a part.
use Rattle.std.specs.Prelude.{◌≡◌, ◌<◌, ℕ, false, List, ◌++◌, map, length, Vec}
use Rattle.std.specs.Global.{Global}
use Rattle.im_check_place.specs.im_word.Words.{Name}
use Rattle.im_check_place.specs.im_ctype.Table.{Table, structs_of}
use Rattle.im_check_place.specs.im_typed.Program.{LocalObject}
use Rattle.im_types.specs.Shape.{type_of}
use Rattle.im_check_place.specs.im_rules.Rules as u
use Rattle.im_check_place.specs.im_rules.Statements.{Site, Added, object_of}
use Rattle.im_check_place.specs.im_rules.BodyBreaks.{BodyNode, BodyBroken}
use Rattle.im_rules_limits.specs.Limits.{size_limit, BodySized}
use Rattle.im_check_place.specs.im_check_scopes.declared.entity.Entry.{Entry}
use Rattle.im_check_stop.specs.declared.stop.Stop.{Stop}
use Rattle.im_check_stop.specs.declared.stop.Stop.TheVariants.{Rule, Large, Memory}
use Rattle.im_check_place.specs.Contexts.{context_of, behind_strings}
use Rattle.im_check_sites.specs.declared.body.Body.{Body}
use Rattle.im_check_sites.specs.declared.body.Local.{Local}
use Rattle.im_check_sites.specs.declared.position.Position.{Position}

abbrev pub position_of : Position → u.Position
position_of w = record { in_loop = w.in_loop; in_switch = w.in_switch; is_direct = false }

-- the site at the end of what is known of a body
abbrev pub site_of : Body → Position → Site
site_of b w = record { context = context_of b.place; result = type_of b.result; position = position_of w; locals = length b.locals.items }

-- objects, as a program has them

abbrev pub object_in : Table → Local → LocalObject
object_in types l = object_of (structs_of types) l.name.items (type_of l.ty)

abbrev pub objects_in : Table → List Local → List LocalObject
objects_in types ls = map {A = Local} (object_in types) ls

abbrev pub objects_of : Body → List LocalObject
objects_of b = objects_in b.place.structs b.locals.items

-- string literals, by their bytes

abbrev pub names_in : List (Vec ℕ Global) → List Name
names_in texts = map {A = Vec ℕ Global} (λ text. text.items) texts

abbrev pub strings_of : Body → List Name
strings_of b = names_in b.texts.items

-- what a part has added stands behind what was there, and the next string literal behind its own; nothing is said of scopes
pub record IsAdded (more : Added) (before after : Body) : Type 0 where
  pub place : after.place ≡ record (behind_strings more.strings before.place) { scope = after.place.scope }
  pub result : after.result ≡ before.result
  pub objects : objects_of after ≡ objects_of before ++ more.objects
  pub strings : strings_of after ≡ strings_of before ++ more.strings

-- behind a declaration: the scopes have these entries more
pub record IsDeclared (entries : List Entry) (more : Added) (before after : Body) : Type 0 where
  pub added : IsAdded more before after
  pub scope : after.place.scope ≡ before.place.scope ++ entries

-- behind a statement: its names are out of scope
pub record IsPast (more : Added) (before after : Body) : Type 0 where
  pub added : IsAdded more before after
  pub scope : after.place.scope ≡ before.place.scope

-- a node of this one breaks the rule at the token, or has a type of so many bytes, over the limit; or memory ran out
abbrev pub IsBodyFault : Body → Position → BodyNode → Stop → Type 0
IsBodyFault b w n (Rule rule token) = BodyBroken (site_of b w) n rule token
IsBodyFault b w n (Large bytes) = BodySized (site_of b w) n bytes × (size_limit < bytes)
IsBodyFault b w n Memory = Unit {0}
