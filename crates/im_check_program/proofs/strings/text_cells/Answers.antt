use Rattle.im_check_program.proofs.Growing.{byte_more, zero_behind}
use Rattle.im_check_program.proofs.strings.text_cells.Goals as goal

pub loop-byte-preserved : goal.loop-byte-preserved
loop-byte-preserved c = λ types.
    rw c.in_ok-push.ensures.items (byte_more types c.args.text.now c.loop-byte.byte-index c.loop-byte.cells.items c.byte_constant.result c.loop-byte-test.true (c.byte_constant.ensures types) (c.loop-byte.invariant types))

pub returns : goal.returns
returns c = λ types.
    rw c.in_ok-push-2.ensures.items (zero_behind types c.args.text.now c.loop-byte.byte-index c.loop-byte.cells.items c.loop-byte-test.false (c.loop-byte.invariant types))
