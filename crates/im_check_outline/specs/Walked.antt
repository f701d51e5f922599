-- The outline as far as it is gone over, as Rust values.
use Rattle.std.specs.Prelude.{◌≡◌, Bool, List, [], ◌∷◌, ◌++◌, map, reverse, if◌then◌else◌}
use Rattle.im_check_name_map.specs.im_word.Words.{Name}
use Rattle.im_ctree.specs.declared.declaration.InitDeclarator.{InitDeclarator}
use Rattle.im_ctree.specs.Tree as t
use Rattle.im_ctree.specs.Shape.{declarator_of, maybe_initializer_of}
use Rattle.im_check_name_map.specs.im_rules.Outline as o
use Rattle.im_check_name_map.specs.im_rules.Outline.{Walk, Outlined, is_initialised, with_declarator}
use Rattle.im_check_outline.specs.declared.item.Sort.{Sort}
use Rattle.im_check_outline.specs.declared.item.Sort.TheVariants as s
use Rattle.im_check_outline.specs.declared.item.Item.{Item}
use Rattle.im_check_outline.specs.declared.item.Walk as r
use Rattle.im_check_outline.specs.declared.declarator.Neighbour.{Neighbour}
use Rattle.im_check_outline.specs.declared.declarator.Neighbour.TheVariants as n
use Rattle.im_ctree_parts.specs.Lists.{parameters_from}

abbrev pub sort_of : Sort → o.Sort
sort_of s.Type = o.a_type
sort_of s.Object = o.an_object
sort_of s.Function = o.a_function

abbrev pub nearest_of : Neighbour → o.Nearest
nearest_of n.Bare = o.bare
nearest_of n.Star = o.a_star
nearest_of n.Length = o.a_length
nearest_of (n.Parameters ps) = o.parameters (parameters_from ps.now)

abbrev pub outlined_of : Item → Outlined
outlined_of i = record { name = i.name.items; sort = sort_of i.sort; is_extern = i.is_extern; is_whole = i.is_whole }

abbrev pub walk_of : r.Walk → Walk
walk_of w = record { functions = reverse w.functions; items = map outlined_of w.items.items; lists = w.lists }

-- one declarator more
abbrev pub with_outlined : Outlined → Walk → Walk
with_outlined i w = record w { items = w.items ++ i ∷ [] }

-- one typedef name of a function type more
abbrev pub with_function : Bool → Name → Walk → Walk
with_function is_one x w = record w { functions = if is_one then x ∷ w.functions else w.functions }

-- the walk behind a declarator and its initialiser
abbrev pub behind_one : t.SpecifierList → InitDeclarator → Walk → Walk
behind_one xs d w = with_declarator xs (declarator_of d.declarator) (is_initialised (maybe_initializer_of d.initializer)) w

-- the names of the defined objects, as often as they are defined
abbrev pub object_names : List Outlined → List Name
object_names [] = []
object_names (i ∷ is) = if o.defines_an_object i then i.name ∷ object_names is else object_names is

-- these names are those of the defined objects
abbrev pub HasObjects : List Name → List Outlined → Type 0
HasObjects names is = (x : Name) → o.is_in x names ≡ o.is_object_among x is
