use Rattle.std.proofs.Common.{◌≡◌, ◌-◌, ◌^◌, min, sum_by, take, map}
use Rattle.im_store.specs.im_ctype.Table.{Table}
use Rattle.im_typed.specs.ProgramOf.{piece_of}
use Rattle.im_typed.specs.Counts.{piece_nodes}
use Rattle.im_typed.proofs.counts.count_pieces.Given as goal

abbrev pub invariant-loop-piece : goal.invariant-loop-piece
invariant-loop-piece l =
    (types : Table) → l.total ≡ min (sum_by piece_nodes (map (piece_of types) (take l.piece-index l.pieces))) (2 ^ 64 - 1)
