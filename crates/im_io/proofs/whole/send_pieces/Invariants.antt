use Rattle.std.proofs.Common.{take}
use Rattle.std.specs.List.{flat_map}
use Rattle.im_io.specs.Whole.{SentAll}
use Rattle.im_io.proofs.whole.send_pieces.Given as goal

abbrev pub invariant-loop-piece : goal.invariant-loop-piece
invariant-loop-piece g l =
    let state = g.S.Sink.state in
    SentAll (flat_map (λ piece. piece.now) (take l.piece-index l.pieces)) (state l.fn.sink) (state l.sink)
