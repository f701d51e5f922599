-- What is still to be listed of an object's cells, and how much work that is. Private contracts alone speak of this.
use Rattle.std.specs.Prelude.{◌≡◌, ℕ, ◌+◌, ◌*◌, ◌<◌, ◌^◌, List, [], ◌∷◌, ◌++◌, drop, slice_index_or}
use Rattle.std.specs.List.{All}
use Rattle.im_ctype.specs.Built.{built}
use Rattle.im_ctype.specs.declared.cell.Cell.{Cell}
use Rattle.im_ctype.specs.declared.listing.Pending.{Pending}
use Rattle.im_ctype.specs.declared.listing.Pending.TheVariants.{Objects, Members}
use Rattle.im_ctype.specs.declared.node.TypeId.{TypeId}
use Rattle.im_ctype.specs.Types.{CType, void, integer, pointer, array, unsized, struct, function, Member, Structs, members_of}
use Rattle.im_ctype.specs.Layout.{layout, layouts, moved, repeated}
use Rattle.im_ctype.specs.Members.{places, member_cells}
use Rattle.im_ctype.specs.Table.{Table, IsIn, layout_of, structs_of, type_at}

abbrev pub cells_of : Table → Pending → List Cell
cells_of table (Objects ty at count) = repeated at count (layout_of table ty)
cells_of table (Members number from at) =
    moved at (member_cells (layouts (structs_of table)) (drop from (members_of (structs_of table) number)) (drop from (places (structs_of table) number)))

-- the last of them comes first
abbrev pub cells_waiting : Table → List Pending → List Cell
cells_waiting table [] = []
cells_waiting table (p ∷ ps) = cells_waiting table ps ++ cells_of table p

-- offsets stay numbers of 64 bits
abbrev pub IsFitting : Table → Pending → Type 0
IsFitting table (Objects ty at count) = IsIn table ty × (at + count * (layout_of table ty).size < 2 ^ 64)
IsFitting table (Members number from at) = at + (layout (structs_of table) (struct number)).size < 2 ^ 64

abbrev pub AreFitting : Table → List Pending → Type 0
AreFitting table ps = All (IsFitting table) ps

-- steps that a type takes, given those of the structs before it
abbrev pub weight_in : List ℕ → CType → ℕ
weight_in done void = 0
weight_in done (integer i) = 0
weight_in done (pointer c t) = 0
weight_in done (array t n) = 1 + n * (1 + weight_in done t)
weight_in done (unsized t) = 0
weight_in done (struct n) = slice_index_or done n 1
weight_in done (function r ps) = 0

abbrev pub members_weight : List ℕ → List Member → ℕ
members_weight done [] = 1
members_weight done (m ∷ ms) = 3 + weight_in done m.type + members_weight done ms

abbrev pub weights : Structs → List ℕ
weights structs = built members_weight structs

abbrev pub weight_of : Table → TypeId → ℕ
weight_of table ty = weight_in (weights (structs_of table)) (type_at table ty)

abbrev pub cost_of : Table → Pending → ℕ
cost_of table (Objects ty at count) = 1 + count * (1 + weight_of table ty)
cost_of table (Members number from at) = members_weight (weights (structs_of table)) (drop from (members_of (structs_of table) number))

abbrev pub cost_waiting : Table → List Pending → ℕ
cost_waiting table [] = 0
cost_waiting table (p ∷ ps) = cost_of table p + cost_waiting table ps

-- these cells were pending too: now they are found, or wait
pub record IsStep (table : Table) (cells : List Cell) (cost : ℕ) (before after : List Pending) (found now : List Cell) : Type 0 where
  pub listed : now ++ cells_waiting table after ≡ found ++ (cells ++ cells_waiting table before)
  pub lighter : cost_waiting table after < cost + cost_waiting table before
  pub fit : AreFitting table after
