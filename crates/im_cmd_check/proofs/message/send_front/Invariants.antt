use Rattle.std.proofs.Common.{take}
use Rattle.std.specs.List.{flat_map}
use Rattle.im_io.specs.Whole.{SentAll}
use Rattle.im_cmd_check.specs.Message.{under}
use Rattle.im_cmd_check.proofs.message.send_front.Given as goal

abbrev pub invariant-loop-byte : goal.invariant-loop-byte
invariant-loop-byte g l =
    let state = g.S.Sink.state in
    SentAll (flat_map under (take l.byte-index l.front)) (state l.fn.sink) (state l.sink)
