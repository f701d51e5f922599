use Rattle.std.proofs.Common.{◌≡◌, ◌++◌, drop, map}
use Rattle.im_typed.specs.Meaning.{given_offsets}
use Rattle.im_typed.specs.ProgramOf.{piece_of}
use Rattle.im_lower.proofs.initialise.given_offsets.Given as goal

abbrev pub invariant-loop-piece : goal.invariant-loop-piece
invariant-loop-piece l =
    l.found.items ++ given_offsets (map (piece_of l.prog.types) (drop l.piece-index l.pieces)) ≡ given_offsets (map (piece_of l.prog.types) l.pieces)
