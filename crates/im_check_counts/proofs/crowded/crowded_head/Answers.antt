use Rattle.std.proofs.Common.{sym, refl, ◌∙◌}
use Rattle.std.proofs.lemmas.Bool.{ltb-true, ltb-false}
use Rattle.im_check_scopes.specs.Shape.{scopes_of}
use Rattle.im_check_counts.specs.Heads.{head_of}
use Rattle.im_check_counts.proofs.Found.{one_crowded, one_few}
use Rattle.im_check_counts.proofs.crowded.crowded_head.Goals as goal

pub returns-then-not-is_crowded : goal.returns-then-not-is_crowded
returns-then-not-is_crowded c =
    let words = c.in_ok-words.words in
    one_few (scopes_of c.args.scope.now) (head_of c.args.head.now) words (rw c.deref.ensures.value at c.in_ok-words.ensures) (ltb-false 8 words (sym c.is_crowded.ensures ∙ c.if-not-is_crowded.true))

pub returns : goal.returns
returns c =
    let words = c.in_ok-words.words in
    one_crowded (scopes_of c.args.scope.now) (head_of c.args.head.now) words c.args.head.now.at _ (rw c.deref.ensures.value at c.in_ok-words.ensures) (ltb-true 8 words (sym c.is_crowded.ensures ∙ c.if-not-is_crowded.false)) refl c.deref-2.ensures.value
