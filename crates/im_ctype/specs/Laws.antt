-- What is said of the cells of every layout.
use Rattle.std.specs.Prelude.{◌≡◌, ℕ, ◌+◌, ◌*◌, ◌%◌, ◌<◌, ◌≤◌, ◌⊎◌, List, slice_get, Some, take, drop}
use Rattle.std.specs.List.{All, flat_map, range_with_len}
use Rattle.im_num.specs.Kinds.{kind_size}
use Rattle.im_ctype.specs.declared.cell.Cell.{Cell}
use Rattle.im_ctype.specs.Layout.{Layout, moved}

-- where a cell's bytes end
abbrev pub end_of : Cell → ℕ
end_of c = c.offset + kind_size c.kind

-- each cell ends within the object
abbrev pub CellsInside : Layout → Type 0
CellsInside l = All (λ (c : Cell). end_of c ≤ l.size) l.cells

-- each cell lies at a multiple of its own size, where the object lies there
abbrev pub CellsAlignedAt : ℕ → Layout → Type 0
CellsAlignedAt at l = All (λ (c : Cell). (at + c.offset) % kind_size c.kind ≡ 0) l.cells

-- a cell begins at or behind the end of each cell before it
abbrev pub CellsDisjoint : Layout → Type 0
CellsDisjoint l = (i j : ℕ) (c d : Cell) → i < j → slice_get l.cells i ≡ Some c → slice_get l.cells j ≡ Some d → end_of c ≤ d.offset

-- the cells of so many objects of one layout, the k-th of them k times its size from the first
abbrev pub cells_side_by_side : ℕ → Layout → List Cell
cells_side_by_side count l = flat_map (λ k. moved (k * l.size) l.cells) (range_with_len 0 count)

-- so many cells, from one on
abbrev pub cells_from : ℕ → ℕ → Layout → List Cell
cells_from first count l = take count (drop first l.cells)

-- an alignment that a type of the language can have
abbrev pub IsAlignment : ℕ → Type 0
IsAlignment a = (a ≡ 1) ⊎ ((a ≡ 2) ⊎ (a ≡ 4))
