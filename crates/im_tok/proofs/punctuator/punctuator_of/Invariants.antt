use Rattle.std.proofs.Common.{◌≢◌, ◌<◌}
use Rattle.im_tok.specs.Punctuators.{punctuator_text}
use Rattle.im_tok.specs.declared.punctuator.Punctuator.{Punctuator}
use Rattle.im_tok.proofs.PunctuatorPlaces.{place}
use Rattle.im_tok.proofs.punctuator.punctuator_of.Given as goal

abbrev pub invariant-loop-punctuator : goal.invariant-loop-punctuator
invariant-loop-punctuator l = (x : Punctuator) → place x < l.punctuator-index → l.text ≢ punctuator_text x
