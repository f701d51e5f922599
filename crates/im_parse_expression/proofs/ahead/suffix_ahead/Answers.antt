use Rattle.im_parse_expression.proofs.NextWord.{bracket_suffix, paren_suffix, suffix_paren, isnt_so, same_as, yes}
use Rattle.im_parse_expression.proofs.ahead.suffix_ahead.Goals as goal

pub returns-then-has_mark : goal.returns-then-has_mark
returns-then-has_mark c = yes (bracket_suffix (c.has_mark.ensures.0 c.if-has_mark.true))

pub returns : goal.returns
returns c = same_as c.has_mark-2.ensures paren_suffix (suffix_paren (isnt_so c.has_mark.ensures c.if-has_mark.false))
