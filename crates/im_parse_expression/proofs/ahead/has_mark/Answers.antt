use Rattle.std.proofs.Common.{ap}
use Rattle.im_parse_core.specs.Reads.{head}
use Rattle.im_parse_expression.proofs.NextWord.{yes, no}
use Rattle.im_parse_expression.proofs.ahead.has_mark.Goals as goal

pub returns-in-Some : goal.returns-in-Some
returns-in-Some c = yes (ap head c.in-Some.ensures.here)

pub returns-in-None : goal.returns-in-None
returns-in-None c = no c.in-None.ensures
