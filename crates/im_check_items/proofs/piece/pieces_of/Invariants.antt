use Rattle.std.proofs.Common.{◌≡◌, map}
use Rattle.im_ctype.specs.Table.{structs_of}
use Rattle.im_typed.specs.ProgramOf as q
use Rattle.im_typed.specs.declared.statement.Piece as rp
use Rattle.im_check_conversions.specs.im_rules.Initialisers as n
use Rattle.im_check_items.specs.Shape.{items_in}
use Rattle.im_check_items.proofs.piece.pieces_of.Given as goal

abbrev pub invariant-loop-item : goal.invariant-loop-item
invariant-loop-item l = map {A = rp.Piece} (q.piece_of l.table) l.pieces.items ≡ n.pieces_of (structs_of l.table) (items_in l.table l.yielded)
