use Rattle.std.proofs.Common.{◌≡◌, drop, map}
use Rattle.im_typed.specs.ProgramOf.{piece_of, program_of}
use Rattle.im_lower_plain.specs.MakeStatement.{make_pieces}
use Rattle.im_lower.proofs.initialise.lower_pieces.Given as goal

-- the expressions from the index on stand
abbrev pub invariant-loop-index : goal.invariant-loop-index
invariant-loop-index l =
    l.code ≡ make_pieces (program_of l.prog) l.base.first l.base.low l.object (map (piece_of l.prog.types) (drop l.index l.pieces)) l.initial.code
