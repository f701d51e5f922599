-- Sizes, alignments and cells of types (C11 6.2.8, 6.5.3.4, 6.7.2.1).
use Rattle.std.specs.Prelude.{◌≡◌, ℕ, zero, suc, ◌+◌, ◌-◌, ◌*◌, ◌%◌, max, List, [], ◌∷◌, ◌++◌, map, length, slice_index_or, true}
use Rattle.std.specs.List.{All}
use Rattle.im_num.specs.declared.kind.Kind.{Kind}
use Rattle.im_num.specs.declared.kind.Kind.TheVariants.{Ptr}
use Rattle.im_num.specs.Kinds.{kind_size}
use Rattle.im_ctype.specs.Types.{CType, void, integer, pointer, array, unsized, struct, function, Member, Structs, kind_of, is_complete}
use Rattle.im_ctype.specs.Built.{built}
use Rattle.im_ctype.specs.declared.cell.Cell.{Cell}

-- how an object of a type lies in memory; offsets are bytes from its start
pub record Layout : Type 0 where
  pub size : ℕ
  pub align : ℕ
  pub cells : List Cell

-- one cell, aligned to its own size
abbrev pub scalar_layout : Kind → Layout
scalar_layout k = record { size = kind_size k; align = kind_size k; cells = record { offset = 0; kind = k } ∷ [] }

abbrev pub empty_layout : Layout
empty_layout = record { size = 0; align = 1; cells = [] }

-- a cell, so many bytes further on
abbrev pub moved_cell : ℕ → Cell → Cell
moved_cell d c = record { offset = d + c.offset; kind = c.kind }

abbrev pub moved : ℕ → List Cell → List Cell
moved d cells = map {A = Cell} (moved_cell d) cells

-- the cells of so many elements of one layout, side by side from a place on
abbrev pub repeated : ℕ → ℕ → Layout → List Cell
repeated at zero element = []
repeated at (suc n) element = moved at element.cells ++ repeated (at + element.size) n element

-- the least multiple of the alignment that is not below n
abbrev pub round_up : ℕ → ℕ → ℕ
round_up n align = n + (align - n % align) % align

abbrev pub layout_at : List Layout → ℕ → Layout
layout_at done n = slice_index_or done n empty_layout

-- the layout of a type, given those of the structs
abbrev pub layout_in : List Layout → CType → Layout
layout_in done void = empty_layout
layout_in done (integer i) = scalar_layout (kind_of i)
layout_in done (pointer c t) = scalar_layout Ptr
layout_in done (array t n) =
    let e = layout_in done t in
    record { size = n * e.size; align = e.align; cells = repeated 0 n e }
layout_in done (unsized t) = empty_layout
layout_in done (struct n) = layout_at done n
layout_in done (function r ps) = empty_layout

-- a layout with one more member behind it
abbrev pub with_member : Layout → Layout → Layout
with_member s m =
    let at = round_up s.size m.align in
    record { size = at + m.size; align = max s.align m.align; cells = s.cells ++ moved at m.cells }

-- the members in order, from the layout of those before them
abbrev pub members_in : List Layout → List Member → Layout → Layout
members_in done [] so_far = so_far
members_in done (m ∷ ms) so_far = members_in done ms (with_member so_far (layout_in done m.type))

-- bytes behind the last member, so that copies lie aligned side by side
abbrev pub with_trailing_bytes : Layout → Layout
with_trailing_bytes all = record { size = round_up all.size all.align; align = all.align; cells = all.cells }

-- a struct, from its members
abbrev pub struct_in : List Layout → List Member → Layout
struct_in done ms = with_trailing_bytes (members_in done ms empty_layout)

-- the layouts of the structs, in their order, each from those before it
abbrev pub layouts : Structs → List Layout
layouts structs = built struct_in structs

-- the layout of a type
abbrev pub layout : Structs → CType → Layout
layout structs ty = layout_in (layouts structs) ty

-- a complete object type by these structs
abbrev pub IsComplete : Structs → CType → Type 0
IsComplete structs ty = is_complete (length structs) ty ≡ true

-- each member has a complete object type, where so many structs have their member lists
abbrev pub MembersAreComplete : ℕ → List Member → Type 0
MembersAreComplete known members = All (λ (m : Member). is_complete known m.type ≡ true) members

abbrev pub AreCompleteFrom : ℕ → Structs → Type 0
AreCompleteFrom known [] = Unit {0}
AreCompleteFrom known (ms ∷ rest) = MembersAreComplete known ms × AreCompleteFrom (suc known) rest

-- each struct holds only structs that stand before it
abbrev pub AreComplete : Structs → Type 0
AreComplete structs = AreCompleteFrom 0 structs
