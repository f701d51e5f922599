use Rattle.im_typed.proofs.Layouts.{same_layout}
use Rattle.im_typed.proofs.Same.{same_stmt}
use Rattle.im_typed.proofs.structs.more_structs_law.Goals as goal

pub returns-clause-statements : goal.returns-clause-statements
returns-clause-statements c = λ before after g f breaks continues s longer typed. same_stmt before after longer g f breaks continues s typed

pub returns-clause-objects : goal.returns-clause-objects
returns-clause-objects c = λ before after a longer complete. same_layout before after a longer complete
