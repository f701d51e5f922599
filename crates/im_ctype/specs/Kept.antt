-- What a table of types keeps beside its types, and what is always so of it. Private contracts alone speak of this.
use Rattle.std.specs.Prelude.{◌≡◌, ℕ, ◌<◌, ◌≤◌, ◌^◌, List, map, length, Some, slice_get}
use Rattle.std.specs.List.{All}
use Rattle.im_ctype.specs.declared.extent.Extent.{Extent}
use Rattle.im_ctype.specs.declared.member.Member as rust
use Rattle.im_ctype.specs.declared.member.MemberPlace.{MemberPlace}
use Rattle.im_ctype.specs.declared.node.TypeNode.{TypeNode}
use Rattle.im_ctype.specs.Types.{CType, void, integer, pointer, array, unsized, struct, function}
use Rattle.im_ctype.specs.Layout.{Layout, layout_in, layouts, AreComplete}
use Rattle.im_ctype.specs.Members.{places}
use Rattle.im_ctype.specs.Table.{Table, IsEarlier, IsSound, types_of, structs_of}

abbrev pub extent_of : Layout → Extent
extent_of l = record { size = l.size; alignment = l.align; cells = length l.cells }

abbrev pub no_extent : Extent
no_extent = record { size = 0; alignment = 1; cells = 0 }

-- the extent that is kept beside a type; that of a struct stands with its members
abbrev pub kept_extent : List Layout → CType → Extent
kept_extent done (struct n) = no_extent
kept_extent done void = extent_of (layout_in done void)
kept_extent done (integer i) = extent_of (layout_in done (integer i))
kept_extent done (pointer c t) = extent_of (layout_in done (pointer c t))
kept_extent done (array t n) = extent_of (layout_in done (array t n))
kept_extent done (unsized t) = extent_of (layout_in done (unsized t))
kept_extent done (function r ps) = extent_of (layout_in done (function r ps))

-- the nodes of a table
pub record AreNodes (nodes : List TypeNode) : Type 0 where
  pub few : length nodes ≤ 2 ^ 32
  pub earlier : (i : ℕ) (n : TypeNode) → slice_get nodes i ≡ Some n → IsEarlier i n
  pub different : (i j : ℕ) (n : TypeNode) → slice_get nodes i ≡ Some n → slice_get nodes j ≡ Some n → i ≡ j

abbrev pub AreMembersIn : ℕ → List rust.Member → Type 0
AreMembersIn n ms = All (λ (m : rust.Member). m.ty.0 < n) ms

-- a struct of the table, and what is kept of it
pub record Entry : Type 0 where
  pub places : List MemberPlace
  pub extent : Extent

-- a table, and what it keeps
pub record IsKept (table : Table) (kept : List Extent) (entries : List Entry) : Type 0 where
  pub nodes : AreNodes table.nodes
  pub sound : (i : ℕ) (n : TypeNode) → slice_get table.nodes i ≡ Some n → IsSound (length table.structs) (types_of table) n
  pub members : All (AreMembersIn (length table.nodes)) table.structs
  pub complete : AreComplete (structs_of table)
  pub extents : kept ≡ map (kept_extent (layouts (structs_of table))) (types_of table)
  pub struct_extents : map {A = Entry} (λ e. e.extent) entries ≡ map {A = Layout} extent_of (layouts (structs_of table))
  pub struct_places : (n : ℕ) (e : Entry) → slice_get entries n ≡ Some e → e.places ≡ places (structs_of table) n
