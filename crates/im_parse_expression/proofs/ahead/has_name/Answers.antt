use Rattle.std.proofs.Common.{ap, sym, subst}
use Rattle.im_parse_core.specs.Reads.{head}
use Rattle.im_parse_expression.specs.Declaring.{IsNamed, is_named}
use Rattle.im_parse_expression.proofs.NextWord.{yes, no, unnamed}
use Rattle.im_parse_expression.proofs.ahead.has_name.Goals as goal

pub returns-in-Some : goal.returns-in-Some
returns-in-Some c = yes (subst IsNamed (sym (ap head c.in-Some.ensures.here)) (is_named _))

pub returns-in-None : goal.returns-in-None
returns-in-None c = no (unnamed c.in-None.ensures)
