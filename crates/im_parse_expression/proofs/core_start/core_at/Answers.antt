use Rattle.std.proofs.lemmas.Result.{err_from_is_err_and}
use Rattle.im_parse_expression.proofs.NextWord.{isnt_so}
use Rattle.im_parse_expression.proofs.CoreFacts.{stops_inside, nameless_inside, nameless_outside, no_core}
use Rattle.im_parse_expression.proofs.core_start.core_at.Goals as goal

pub returns-in_err-inner : goal.returns-in_err-inner
returns-in_err-inner c = let p = err_from_is_err_and c.from_residual.result c.from_residual.ensures.1 in rw (p.1, p.2) (stops_inside c.args.unstarred c.in-Some.ensures c.in_err-inner.ensures)

pub returns-in-None : goal.returns-in-None
returns-in-None c = nameless_inside c.in-Some.ensures (rw c.in-None.is at c.in_ok-inner.ensures)

pub returns-then-is_nameless : goal.returns-then-is_nameless
returns-then-is_nameless c = nameless_outside c.in_default.ensures c.in_default-own_name.ensures (c.is_nameless.ensures.0 c.if-is_nameless.true)

pub returns-else-is_nameless : goal.returns-else-is_nameless
returns-else-is_nameless c = no_core c.in_default.ensures c.in_default-own_name.ensures (isnt_so c.is_nameless.ensures c.if-is_nameless.false)
