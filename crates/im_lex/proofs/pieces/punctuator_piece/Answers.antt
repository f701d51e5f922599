use Rattle.std.proofs.Common.{◌-◌, arith, sym, ◌∙◌}
use Rattle.im_lex.proofs.Fronts.{next_punctuator, no_punctuator, bad_byte, some_of, none_of, also_shorter}
use Rattle.im_lex.proofs.pieces.punctuator_piece.Goals as goal
use Rattle.im_lex.proofs.pieces.punctuator_piece.Goals.{else-length-text-via-then-length-text+else-is_some, else-length-text-via-else-length-text}

pub returns-then-is_some : goal.returns-then-is_some
returns-then-is_some c =
    let found = some_of c.punctuator_of.result _ _ c.punctuator_of.ensures (sym c.is_some.ensures ∙ c.if-is_some.true) in
    next_punctuator c.args.text.now (3 - c.loop-shorter.shorter) c.requires c.if-length-text.true found.0 found.1 c.loop-shorter.invariant

pub loop-shorter-preserved : goal.loop-shorter-preserved
loop-shorter-preserved c = also_shorter c.args.text.now c.loop-shorter.shorter c.loop-shorter-test.true c.loop-shorter.invariant (elim c.else-length-text.branch [
  | else-length-text-via-then-length-text+else-is_some w ↦ (λ within. none_of w.punctuator_of.result _ _ w.punctuator_of.ensures (sym w.is_some.ensures ∙ w.if-is_some.false))
  | else-length-text-via-else-length-text w ↦ (λ within. absurd (omega arith))
])

pub returns : goal.returns
returns c = (no_punctuator c.args.text.now c.requires (λ m pos few within. c.loop-shorter.invariant m (omega arith) few within), bad_byte c.args.text.now c.requires)
