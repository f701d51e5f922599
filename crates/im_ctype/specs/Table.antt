-- The table in which a compiler keeps types: each entry names earlier ones, and no type stands in it twice. What is said of
-- types is said of the plain types that the entries stand for.
use Rattle.std.specs.Prelude.{◌≡◌, ℕ, ◌<◌, ◌≤◌, true, List, [], ◌∷◌, ◌++◌, map, length, slice_index_or, slice_get, Option, Some, None}
use Rattle.im_ctype.specs.declared.node.TypeId.{TypeId}
use Rattle.im_ctype.specs.declared.node.TypeNode.{TypeNode}
use Rattle.im_ctype.specs.declared.node.TypeNode.TheVariants as node
use Rattle.im_ctype.specs.declared.member.Member as rust
use Rattle.im_ctype.specs.Built.{built}
use Rattle.im_ctype.specs.Types.{CType, void, integer, pointer, array, struct, Member, Structs, is_complete}
use Rattle.im_ctype.specs.Layout.{Layout, layout}

-- the nodes of the table's types, and the members of its structs, each with the number of its type
pub record Table : Type 0 where
  pub nodes : List TypeNode
  pub structs : List (List rust.Member)

abbrev pub type_in : List CType → TypeId → CType
type_in types ty = slice_index_or types ty.0 void

-- the type of a node, given those of the nodes before it
abbrev pub type_of_node : List CType → TypeNode → CType
type_of_node types node.Void = void
type_of_node types (node.Integer i) = integer i
type_of_node types (node.Pointer c target) = pointer c (type_in types target)
type_of_node types (node.Array element count) = array (type_in types element) count
type_of_node types (node.Struct n) = struct n

-- the types of a table, by their numbers
abbrev pub types_of : Table → List CType
types_of table = built type_of_node table.nodes

abbrev pub type_at : Table → TypeId → CType
type_at table ty = type_in (types_of table) ty

abbrev pub member_in : List CType → rust.Member → Member
member_in types m = record { name = m.name.items; constant = m.constant; type = type_in types m.ty }

abbrev pub members_in : List CType → List rust.Member → List Member
members_in types ms = map {A = rust.Member} (member_in types) ms

-- its structs
abbrev pub structs_of : Table → Structs
structs_of table = map {A = List rust.Member} (members_in (types_of table)) table.structs

-- how an object of one of its types lies in memory
abbrev pub layout_of : Table → TypeId → Layout
layout_of table ty = layout (structs_of table) (type_at table ty)

-- the members of its struct of that number
abbrev pub rows_at : Option (List rust.Member) → List rust.Member
rows_at None = []
rows_at (Some ms) = ms

abbrev pub members_at : Table → ℕ → List rust.Member
members_at table n = rows_at (slice_get table.structs n)

-- one struct more
abbrev pub with_struct : Table → List rust.Member → Table
with_struct table members = record { nodes = table.nodes; structs = table.structs ++ members ∷ [] }

-- a type of the table
abbrev pub IsIn : Table → TypeId → Type 0
IsIn table ty = ty.0 < length table.nodes

-- a node whose parts are among the first n
abbrev pub IsEarlier : ℕ → TypeNode → Type 0
IsEarlier n node.Void = Unit {0}
IsEarlier n (node.Integer i) = Unit {0}
IsEarlier n (node.Pointer c target) = target.0 < n
IsEarlier n (node.Array element count) = element.0 < n
IsEarlier n (node.Struct number) = Unit {0}

-- where so many structs have their member lists, arrays have at least one element of a complete type
abbrev pub IsSound : ℕ → List CType → TypeNode → Type 0
IsSound known types (node.Array element count) = is_complete known (array (type_in types element) count) ≡ true
IsSound known types node.Void = Unit {0}
IsSound known types (node.Integer i) = Unit {0}
IsSound known types (node.Pointer c target) = Unit {0}
IsSound known types (node.Struct number) = Unit {0}

-- the table has become larger: what it had has stayed
pub record IsGrown (before after : Table) : Type 0 where
  pub longer : length before.nodes ≤ length after.nodes
  pub types : (ty : TypeId) → IsIn before ty → type_at after ty ≡ type_at before ty
  pub structs : structs_of after ≡ structs_of before

-- one of its types is this one
pub record IsTypeOf (table : Table) (t : CType) (ty : TypeId) : Type 0 where
  pub known : IsIn table ty
  pub type : type_at table ty ≡ t
