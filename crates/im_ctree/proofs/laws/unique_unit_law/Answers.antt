use Rattle.im_ctree.proofs.UniqueUnits.{declaration_sole, statement_sole, unit_sole}
use Rattle.im_ctree.proofs.laws.unique_unit_law.Goals as goal

pub returns-clause-declaration : goal.returns-clause-declaration
returns-clause-declaration c = λ names p declaration other words d d'. declaration_sole d d'

pub returns-clause-statement : goal.returns-clause-statement
returns-clause-statement c = λ names p statement other words d d'. statement_sole d d'

pub returns-clause-spelled : goal.returns-clause-spelled
returns-clause-spelled c = λ unit other words d d'. unit_sole d d'
