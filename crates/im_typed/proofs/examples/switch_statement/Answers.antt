use Rattle.std.proofs.Common.{refl}
use Rattle.im_typed.specs.Programs.{meaning}
use Rattle.im_store.specs.Numbers.{apply, apply_one}
use Rattle.im_num.specs.Kinds.{wrap, word}
use Rattle.im_typed.proofs.examples.switch_statement.Goals as goal

pub returns-clause-first : goal.returns-clause-first
unfolding meaning wrap word apply apply_one
returns-clause-first c = λ input fuel. refl

pub returns-clause-beside : goal.returns-clause-beside
unfolding meaning wrap word apply apply_one
returns-clause-beside c = λ input fuel. refl

pub returns-clause-later : goal.returns-clause-later
unfolding meaning wrap word apply apply_one
returns-clause-later c = λ input fuel. refl

pub returns-clause-otherwise : goal.returns-clause-otherwise
unfolding meaning wrap word apply apply_one
returns-clause-otherwise c = λ input fuel. refl
