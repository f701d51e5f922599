use Rattle.im_parse_expression.specs.Declaring.{declared, guarded, either}
use Rattle.im_parse_expression.proofs.NextWord.{abstract_unnamed, yes, no}
use Rattle.im_parse_expression.proofs.ahead.may_have_name.Goals as goal

pub returns-in-Declared : goal.returns-in-Declared
returns-in-Declared c = rw c.in-Declared.is (yes declared)

pub returns-in-Guarded : goal.returns-in-Guarded
returns-in-Guarded c = rw c.in-Guarded.is (yes guarded)

pub returns-in-Either : goal.returns-in-Either
returns-in-Either c = rw c.in-Either.is (yes either)

pub returns-in-Abstract : goal.returns-in-Abstract
returns-in-Abstract c = rw c.in-Abstract.is (no abstract_unnamed)
