use Rattle.std.proofs.Common.{◌-◌, length}
use Rattle.im_lex.proofs.Readings.{Reading}
use Rattle.im_lex.proofs.lexing.lex.Given as goal

abbrev pub invariant-loop-at : goal.invariant-loop-at
invariant-loop-at l = Reading l.source l.at l.line l.tokens.items

abbrev pub decreases-loop-at : goal.decreases-loop-at
decreases-loop-at l = length l.source - l.at
