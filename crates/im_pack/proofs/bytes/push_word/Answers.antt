use Rattle.std.proofs.Common.{◌+◌, ◌-◌, ◌/◌, ◌++◌, ap, ◌∙◌}
use Rattle.im_num.specs.Bytes.{bytes_of}
use Rattle.im_pack.proofs.Steps.{word_step}
use Rattle.im_pack.proofs.bytes.push_word.Goals as goal

pub loop-preserved : goal.loop-preserved
loop-preserved c =
    ap (λ z. z ++ bytes_of (c.args.count - (c.loop.counter + 1)) (c.loop.rest / 256)) c.in_ok-push.ensures.items
    ∙ word_step c.loop.bytes.items c.args.count c.loop.counter c.loop.rest c.loop-test.true
    ∙ c.loop.invariant
