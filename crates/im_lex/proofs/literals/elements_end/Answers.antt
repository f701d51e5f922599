use Rattle.im_lex.proofs.LiteralReads.{goes_on, element_rest, ended}
use Rattle.im_lex.proofs.literals.elements_end.Goals as goal

pub loop-element-preserved : goal.loop-element-preserved
loop-element-preserved c = let l = c.loop-element in goes_on c.args.quote c.args.text.now c.loop-element.end c.loop-element.count c.in-Ok.element c.loop-element.invariant (element_rest c.args.quote c.args.text.now c.loop-element.end c.in-Ok.element c.in-Ok.ensures)

pub returns-in-Err : goal.returns-in-Err
returns-in-Err c = ended c.args.quote c.args.text.now c.loop-element.end c.loop-element.count c.in-Err.fault c.loop-element.invariant c.in-Err.ensures
