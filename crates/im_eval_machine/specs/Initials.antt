-- The cells that a piece of an initialiser gives. Private contracts alone speak of this.
use Rattle.std.specs.Prelude.{ℕ, ◌+◌, List, map}
use Rattle.im_ctype.specs.declared.cell.Cell.{Cell}
use Rattle.im_ctype.specs.Table.{Table}
use Rattle.im_typed.specs.declared.statement.Piece.{Piece}
use Rattle.im_typed.specs.ProgramOf.{access_of}
use Rattle.im_typed.specs.Values.{cells_of}

abbrev pub offsets_from : ℕ → List Cell → List ℕ
offsets_from by cells = map {A = Cell} (λ c. by + c.offset) cells

abbrev pub given_by : Table → Piece → List ℕ
given_by types piece = offsets_from piece.offset (cells_of (access_of types piece.access))
