use Rattle.std.proofs.Common.{arith}
use Rattle.im_word.proofs.Texts.{first, goes_on, ended}
use Rattle.im_word.proofs.word.is_text.Goals as goal

pub loop-element-init : goal.loop-element-init
loop-element-init c = first c.args.text.now (omega arith) (grind (arith, c.is_empty.ensures, c.if-is_empty.false))

pub loop-element-preserved : goal.loop-element-preserved
loop-element-preserved c = goes_on c.args.text.now c.loop-element.rest.now c.in-Ok.element c.loop-element.invariant c.in-Ok.ensures

pub returns-then-rest-ne1 : goal.returns-then-rest-ne1
returns-then-rest-ne1 c = (λ h. grind (arith, h), λ b. absurd (c.if-rest-ne1.true (ended c.args.text.now c.loop-element.rest.now c.in_default.ensures.0 c.loop-element.invariant b).1))
