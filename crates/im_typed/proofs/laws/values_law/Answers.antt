use Rattle.im_typed.specs.Programs.{around, calls_of}
use Rattle.im_typed.proofs.SoundExprs.{right-value}
use Rattle.im_typed.proofs.SoundStmts.{right-does}
use Rattle.im_typed.proofs.SoundRuns.{right-around}
use Rattle.im_typed.proofs.laws.values_law.Goals as goal

pub returns-clause-expressions : goal.returns-clause-expressions
returns-clause-expressions c = λ g bound activation depth first f e s typed t sane here.
    right-value g.prog f (around g (calls_of g bound) activation depth first) (right-around g typed bound activation depth first) e s t sane here

pub returns-clause-statements : goal.returns-clause-statements
returns-clause-statements c = λ g bound turns activation depth first f breaks continues statement s typed t sane here.
    right-does g.prog f (around g (calls_of g bound) activation depth first) (right-around g typed bound activation depth first) turns statement breaks continues s t sane here
