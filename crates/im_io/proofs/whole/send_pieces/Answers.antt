use Rattle.im_io.proofs.Pieces.{piece_first}
use Rattle.im_io.proofs.whole.send_pieces.Goals as goal

pub returns-in-Err : goal.returns-in-Err
returns-in-Err g c = piece_first (λ piece. piece.now) c.args.pieces.now c.loop-piece.piece-index _ _ _ _ c.loop-piece-test.true c.loop-piece.invariant c.in-Err.ensures
