use Rattle.im_parse_expression.specs.Declaring.{either_nameless, abstract}
use Rattle.im_parse_expression.proofs.NextWord.{declared_named, guarded_named, yes, no}
use Rattle.im_parse_expression.proofs.ahead.may_be_nameless.Goals as goal

pub returns-in-Declared : goal.returns-in-Declared
returns-in-Declared c = rw c.in-Declared.is (no declared_named)

pub returns-in-Guarded : goal.returns-in-Guarded
returns-in-Guarded c = rw c.in-Guarded.is (no guarded_named)

pub returns-in-Either : goal.returns-in-Either
returns-in-Either c = rw c.in-Either.is (yes either_nameless)

pub returns-in-Abstract : goal.returns-in-Abstract
returns-in-Abstract c = rw c.in-Abstract.is (yes abstract)
