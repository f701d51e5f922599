use Rattle.std.proofs.Common.{refl}
use Rattle.im_rules.specs.Typed.{of_identifier, of_number, of_binary}
use Rattle.im_rules.proofs.examples.char_sum_example.Goals as goal

pub returns : goal.returns
returns c = of_binary (of_identifier (refl, (refl, tt))) of_number (refl, tt)
