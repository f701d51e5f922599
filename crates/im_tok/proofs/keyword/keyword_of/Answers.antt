use Rattle.std.proofs.Common.{◌≡◌, inl, inr, arith}
use Rattle.std.proofs.lemmas.Bool.{cases_lt}
use Rattle.im_tok.proofs.KeywordPlaces.{place, place-lt, differs_at_place}
use Rattle.im_tok.proofs.keyword.keyword_of.Goals as goal

pub loop-keyword-init : goal.loop-keyword-init
loop-keyword-init c = λ x below. absurd (omega arith)

pub loop-keyword-preserved : goal.loop-keyword-preserved
loop-keyword-preserved c = λ x below.
    elim (cases_lt (place x) c.loop-keyword.keyword-index) [
      | inl lower ↦ c.loop-keyword.invariant x lower
      | inr at ↦ (let here : place x ≡ c.loop-keyword.keyword-index = omega arith in differs_at_place x _ _ _ _ _ here c.text.ensures c.eq.ensures c.if-eq.false)
    ]

pub returns : goal.returns
returns c = λ x. c.loop-keyword.invariant x (omega (arith, place-lt x))
