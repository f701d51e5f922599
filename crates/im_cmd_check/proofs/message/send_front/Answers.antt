use Rattle.im_io.proofs.Pieces.{piece_first}
use Rattle.im_cmd_check.specs.Message.{under}
use Rattle.im_cmd_check.proofs.message.send_front.Goals as goal

pub returns-in-Err : goal.returns-in-Err
returns-in-Err g c = piece_first under c.args.front.now c.loop-byte.byte-index _ _ _ _ c.loop-byte-test.true c.loop-byte.invariant c.in-Err.ensures
