use Rattle.std.proofs.Common.{[], refl, arith}
use Rattle.im_ctree.proofs.Unique.{unique_expression, unique_assign, unique_conditional, unique_binary, unique_cast, unique_unary, unique_postfix, unique_primary}
use Rattle.im_ctree.proofs.laws.unique_expression_law.Goals as goal

pub returns-clause-expression : goal.returns-clause-expression
returns-clause-expression c = λ names p expression other words d d'. (unique_expression d d' refl [] [] (omega arith) (omega arith) refl).0

pub returns-clause-assignment : goal.returns-clause-assignment
returns-clause-assignment c = λ names p expression other words d d'. (unique_assign d d' refl [] [] (omega arith) (omega arith) refl).0

pub returns-clause-conditional : goal.returns-clause-conditional
returns-clause-conditional c = λ names p expression other words d d'. (unique_conditional d d' refl [] [] (omega arith) (omega arith) refl).0

pub returns-clause-cast : goal.returns-clause-cast
returns-clause-cast c = λ names p expression other words d d'. (unique_cast d d' refl [] [] (omega arith) (omega arith) refl).0

pub returns-clause-unary : goal.returns-clause-unary
returns-clause-unary c = λ names p expression other words d d'. (unique_unary d d' refl [] [] (omega arith) (omega arith) refl).0

pub returns-clause-postfix : goal.returns-clause-postfix
returns-clause-postfix c = λ names p expression other words d d'. (unique_postfix d d' refl [] [] (omega arith) (omega arith) refl).0

pub returns-clause-primary : goal.returns-clause-primary
returns-clause-primary c = λ names p expression other words d d'. (unique_primary d d' refl [] [] (omega arith) (omega arith) refl).0

pub returns-clause-binary : goal.returns-clause-binary
returns-clause-binary c = λ names level p expression other words d d'. (unique_binary d d' refl refl [] [] (omega arith) (omega arith) refl).0
