use Rattle.im_rules_sound.proofs.Terms.{casts, commas}
use Rattle.im_rules_sound.proofs.laws.casts_law.Goals as goal

pub returns-clause-casts : goal.returns-clause-casts
returns-clause-casts c = λ g f known t x h e. casts g f known t x h e

pub returns-clause-commas : goal.returns-clause-commas
returns-clause-commas c = λ g f known x y h k. commas g f known x y h k
