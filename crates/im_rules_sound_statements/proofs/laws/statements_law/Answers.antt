use Rattle.im_rules_sound_statements.proofs.Statements.{statements, items}
use Rattle.im_rules_sound_statements.proofs.laws.statements_law.Goals as goal

pub returns-clause-statements : goal.returns-clause-statements
returns-clause-statements c = λ g f s a u m d w h l. statements g f s a u m d w h l

pub returns-clause-items : goal.returns-clause-items
returns-clause-items c = λ g f s is us m d w h l. items g f s is us m d w h l
