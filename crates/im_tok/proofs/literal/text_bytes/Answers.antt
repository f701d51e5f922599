use Rattle.im_tok.proofs.Strings.{goes_on, done}
use Rattle.im_tok.proofs.literal.text_bytes.Goals as goal

pub loop-element-preserved : goal.loop-element-preserved
loop-element-preserved c =
    rw c.in_ok-push.ensures.items (goes_on c.args.text.now c.loop-element.rest.now c.loop-element.bytes.items c.in-Ok.element c.loop-element.invariant c.in-Ok.ensures)

pub returns : goal.returns
returns c = done c.args.text.now c.loop-element.rest.now c.loop-element.bytes.items c.loop-element.invariant c.in_default.ensures.0
