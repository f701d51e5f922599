-- The last entry of a kind.
use Rattle.std.specs.Prelude.{ℕ, suc, Bool, true, false, List, [], ◌∷◌, Option, Some, None, nat_lt, if◌then◌else◌}
use Rattle.im_check_name_map.specs.im_word.Words.{Name}
use Rattle.im_check_name_map.specs.im_rules.TypeTests.{same_name}
use Rattle.im_check_name_map.specs.im_rules.Scopes as s
use Rattle.im_check_scopes.specs.declared.entity.Entry.{Entry}
use Rattle.im_check_scopes.specs.declared.entity.Entry.TheVariants as n
use Rattle.im_check_scopes.specs.Shape.{entity_of, tag_of}

-- what an entry declares

abbrev pub is_opening : Entry → Bool
is_opening n.Opened = true
is_opening (n.Named y e) = false
is_opening (n.Tagged y t) = false

abbrev pub is_named : Name → Entry → Bool
is_named x n.Opened = false
is_named x (n.Named y e) = same_name y.items x
is_named x (n.Tagged y t) = false

abbrev pub is_tagged : Name → Entry → Bool
is_tagged x n.Opened = false
is_tagged x (n.Named y e) = false
is_tagged x (n.Tagged y t) = same_name y.items x

-- of two entries: they open a scope, or declare the same name or the same tag
abbrev pub is_alike : Entry → Entry → Bool
is_alike n.Opened = is_opening
is_alike (n.Named x e) = is_named x.items
is_alike (n.Tagged x t) = is_tagged x.items

-- the place of the last entry that passes the test

abbrev pub or_first : Option ℕ → Bool → Option ℕ
or_first (Some i) first = Some (suc i)
or_first None first = if first then Some 0 else None

abbrev pub last_place : (Entry → Bool) → List Entry → Option ℕ
last_place test [] = None
last_place test (e ∷ es) = or_first (last_place test es) (test e)

-- what an entry says

abbrev pub entity_named : Entry → Option s.Entity
entity_named n.Opened = None
entity_named (n.Named y e) = Some (entity_of e)
entity_named (n.Tagged y t) = None

abbrev pub tag_named : Entry → Option s.Tag
tag_named n.Opened = None
tag_named (n.Named y e) = None
tag_named (n.Tagged y t) = Some (tag_of t)

abbrev pub is_before : ℕ → Option ℕ → Bool
is_before i None = false
is_before i (Some o) = nat_lt i o
