use Rattle.im_tok.proofs.Elements.{not_whole, not_closed, none_behind_quote}
use Rattle.im_tok.proofs.literal.character_of.Goals as goal
use Rattle.im_tok.proofs.literal.character_of.Goals.{else-inner-element-via-then-inner-element+else-inner-element-eq39, else-inner-element-via-else-inner-element}

pub returns-in_default-element_at : goal.returns-in_default-element_at
returns-in_default-element_at c = λ value found. none_behind_quote 39 c.args.text.now c.in_default-element_at.ensures.0 found.0 found.1.inner.0

pub returns-else-inner-element : goal.returns-else-inner-element
returns-else-inner-element c = elim c.else-inner-element.branch [
  | else-inner-element-via-then-inner-element+else-inner-element-eq39 w ↦ not_closed c.args.text.now c.in-Ok.element _ w.if-inner-element-eq39.false c.in-Ok.ensures
  | else-inner-element-via-else-inner-element w ↦ not_whole c.args.text.now c.in-Ok.element w.if-inner-element.false c.in-Ok.ensures
]
