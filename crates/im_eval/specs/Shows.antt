-- Cells that a shape has. Private contracts alone speak of this.
use Rattle.std.specs.Prelude.{◌≡◌, ℕ, List, Option, Some, slice_get}
use Rattle.im_num.specs.declared.kind.Kind.{Kind}
use Rattle.im_ctype.specs.declared.cell.Cell.{Cell}

-- at each cell's offset one stands
abbrev pub AllStand : (ℕ → Option Kind) → List Cell → Type 0
AllStand kinds cells = (k : ℕ) (c : Cell) → slice_get cells k ≡ Some c → (kind : Kind) × (kinds c.offset ≡ Some kind)
