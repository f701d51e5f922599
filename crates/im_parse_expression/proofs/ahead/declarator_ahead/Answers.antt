use Rattle.im_parse_expression.specs.Declaring.{by_suffix}
use Rattle.im_parse_expression.proofs.NextWord.{form_star, form_name, form_only, isnt_so, same_as, yes, no}
use Rattle.im_parse_expression.proofs.ahead.declarator_ahead.Goals as goal

pub returns-then-suffix_ahead : goal.returns-then-suffix_ahead
returns-then-suffix_ahead c = yes (by_suffix (c.suffix_ahead.ensures.0 c.if-suffix_ahead.true))

pub returns-then-has_mark : goal.returns-then-has_mark
returns-then-has_mark c = yes (form_star (c.has_mark.ensures.0 c.if-has_mark.true))

pub returns-then-not-may_have_name : goal.returns-then-not-may_have_name
returns-then-not-may_have_name c = no (λ h. isnt_so c.may_have_name.ensures c.if-not-may_have_name.true (form_only (isnt_so c.suffix_ahead.ensures c.if-suffix_ahead.false) (isnt_so c.has_mark.ensures c.if-has_mark.false) h).1)

pub returns : goal.returns
returns c = same_as c.has_name.ensures (form_name (c.may_have_name.ensures.0 c.if-not-may_have_name.false)) (λ h. (form_only (isnt_so c.suffix_ahead.ensures c.if-suffix_ahead.false) (isnt_so c.has_mark.ensures c.if-has_mark.false) h).0)
