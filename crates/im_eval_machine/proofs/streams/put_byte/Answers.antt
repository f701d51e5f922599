use Rattle.std.proofs.Common.{arith, refl}
use Rattle.std.proofs.lemmas.Bool.{lt-ltb, le-ltb}
use Rattle.im_eval_machine.proofs.Streaming.{byte-put, no-room}
use Rattle.im_eval_machine.proofs.streams.put_byte.Goals as goal

pub returns-then-len-capacity : goal.returns-then-len-capacity
returns-then-len-capacity c = λ z same.
    let full = c.if-len-capacity.true in
    let len = c.len.ensures in
    no-room z c.args.machine.now c.args.capacity c.args.byte _ same (le-ltb _ _ (omega arith)) refl

pub returns : goal.returns
returns c = λ z same.
    let less = c.if-len-capacity.false in
    let len = c.len.ensures in
    byte-put z c.args.machine.now c.args.capacity c.args.byte c.push.new.self c.byte_number.result same (lt-ltb _ _ (omega arith)) c.in_ok-push.ensures.items c.byte_number.ensures
