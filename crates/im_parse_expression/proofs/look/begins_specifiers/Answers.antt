use Rattle.std.proofs.Common.{ap}
use Rattle.im_word.specs.Shown.{shown}
use Rattle.im_parse_expression.proofs.Operators.{by_this_name, by_this_keyword}
use Rattle.im_parse_expression.proofs.look.begins_specifiers.Goals as goal

pub returns-in-Name : goal.returns-in-Name
returns-in-Name c = by_this_name c.contains.result (rw (ap shown c.in-Name.is) at c.in-Some.ensures) c.contains.ensures

pub returns-in-Keyword : goal.returns-in-Keyword
returns-in-Keyword c = by_this_keyword c.is_specifier_keyword.result (rw (ap shown c.in-Keyword.is) at c.in-Some.ensures) c.is_specifier_keyword.ensures
