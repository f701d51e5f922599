use Rattle.std.proofs.Common.{refl}
use Rattle.im_typed.specs.Programs.{meaning}
use Rattle.im_store.specs.Numbers.{apply, apply_one}
use Rattle.im_num.specs.Kinds.{wrap, word}
use Rattle.im_typed.proofs.examples.recursion.Goals as goal

pub returns-clause-room : goal.returns-clause-room
unfolding meaning wrap word apply apply_one
returns-clause-room c = λ input. refl

pub returns-clause-a_byte_less : goal.returns-clause-a_byte_less
unfolding meaning wrap word apply apply_one
returns-clause-a_byte_less c = λ input. refl

pub returns-clause-a_unit_of_fuel_less : goal.returns-clause-a_unit_of_fuel_less
unfolding meaning wrap word apply apply_one
returns-clause-a_unit_of_fuel_less c = λ input. refl

pub returns-clause-deep : goal.returns-clause-deep
unfolding meaning wrap word apply apply_one
returns-clause-deep c = λ input. refl

pub returns-clause-deep_and_a_byte_less : goal.returns-clause-deep_and_a_byte_less
unfolding meaning wrap word apply apply_one
returns-clause-deep_and_a_byte_less c = λ input. refl
