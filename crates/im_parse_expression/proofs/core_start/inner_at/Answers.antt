use Rattle.im_parse_expression.specs.Declaring.{either_nameless, abstract, declared_inner, guarded_inner, named_inner, either_inner, abstract_inner}
use Rattle.im_parse_expression.proofs.NextWord.{isnt_so}
use Rattle.im_parse_expression.proofs.CoreFacts.{either_opened, abstract_unstarred}
use Rattle.im_parse_expression.proofs.core_start.inner_at.Goals as goal

pub returns-in-Declared : goal.returns-in-Declared
returns-in-Declared c = rw c.in-Declared.is declared_inner

pub returns-in-Guarded-2 : goal.returns-in-Guarded-2
returns-in-Guarded-2 c = rw c.in-Guarded.is (guarded_inner (isnt_so c.opens_parameters-opened.ensures c.if-opened.false))

pub returns-in-Either : goal.returns-in-Either
returns-in-Either c = rw c.in-Either.is (either_nameless, λ h v e i. either_opened h v (c.opens_parameters-opened.ensures.0 c.if-opened-2.true) e i)

pub returns-in-Either-2 : goal.returns-in-Either-2
returns-in-Either-2 c = rw c.in-Either.is (either_inner (c.has_mark-starred.ensures.0 c.if-starred.true))

pub returns-in-Either-3 : goal.returns-in-Either-3
returns-in-Either-3 c = rw c.in-Either.is (named_inner (isnt_so c.opens_parameters-opened.ensures c.if-opened-2.false) (isnt_so c.has_mark-starred.ensures c.if-starred.false))

pub returns-in-Abstract : goal.returns-in-Abstract
returns-in-Abstract c = rw c.in-Abstract.is (abstract_inner (c.has_mark-starred.ensures.0 c.if-starred-2.true))

pub returns-in-Abstract-2 : goal.returns-in-Abstract-2
returns-in-Abstract-2 c = rw c.in-Abstract.is (abstract, λ h v e i. abstract_unstarred _ h v (isnt_so c.has_mark-starred.ensures c.if-starred-2.false) e i)
