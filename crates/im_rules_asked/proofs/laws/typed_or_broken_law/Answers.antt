use Rattle.im_rules_asked.proofs.BrokenUnits.{typed_or_broken}
use Rattle.im_rules_asked.proofs.laws.typed_or_broken_law.Goals as goal

pub returns : goal.returns
returns c = record { either = λ u. typed_or_broken u }
