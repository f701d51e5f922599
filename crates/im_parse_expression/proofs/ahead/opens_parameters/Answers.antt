use Rattle.im_parse_expression.proofs.NextWord.{opens_begins, opens_close, begins_opened, isnt_so, same_as, yes}
use Rattle.im_parse_expression.proofs.ahead.opens_parameters.Goals as goal

pub returns-then-has_mark : goal.returns-then-has_mark
returns-then-has_mark c = yes (opens_close _ (c.has_mark.ensures.0 c.if-has_mark.true))

pub returns : goal.returns
returns c = same_as c.begins_specifiers.ensures (opens_begins _) (λ h. begins_opened h (isnt_so c.has_mark.ensures c.if-has_mark.false))
