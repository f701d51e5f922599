use Rattle.std.proofs.Common.{inl, refl}
use Rattle.im_rules.specs.Typed.{of_number}
use Rattle.im_rules.specs.Breaks.{at_unary, here}
use Rattle.im_rules.proofs.examples.address_example.Goals as goal

pub returns : goal.returns
returns c = here (at_unary of_number (inl (refl, refl)))
