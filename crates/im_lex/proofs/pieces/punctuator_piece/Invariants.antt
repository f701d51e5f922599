use Rattle.std.proofs.Common.{◌≢◌, ◌≤◌, ◌<◌, ◌-◌, ℕ, length, take}
use Rattle.im_tok.specs.Punctuators.{punctuator_text}
use Rattle.im_tok.specs.declared.punctuator.Punctuator.{Punctuator}
use Rattle.im_lex.proofs.pieces.punctuator_piece.Given as goal

abbrev pub invariant-loop-shorter : goal.invariant-loop-shorter
invariant-loop-shorter l = (m : ℕ) → 3 - l.shorter < m → m ≤ 3 → m ≤ length l.text → (q : Punctuator) → take m l.text ≢ punctuator_text q
