use Rattle.std.proofs.Common.{◌≡◌, inl, inr, arith}
use Rattle.std.proofs.lemmas.Bool.{cases_lt}
use Rattle.im_tok.proofs.PunctuatorPlaces.{place, place-lt, differs_at_place}
use Rattle.im_tok.proofs.punctuator.punctuator_of.Goals as goal

pub loop-punctuator-init : goal.loop-punctuator-init
loop-punctuator-init c = λ x below. absurd (omega arith)

pub loop-punctuator-preserved : goal.loop-punctuator-preserved
loop-punctuator-preserved c = λ x below.
    elim (cases_lt (place x) c.loop-punctuator.punctuator-index) [
      | inl lower ↦ c.loop-punctuator.invariant x lower
      | inr at ↦ (let here : place x ≡ c.loop-punctuator.punctuator-index = omega arith in differs_at_place x _ _ _ _ _ here c.text.ensures c.eq.ensures c.if-eq.false)
    ]

pub returns : goal.returns
returns c = λ x. c.loop-punctuator.invariant x (omega (arith, place-lt x))
