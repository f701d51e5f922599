use Rattle.std.proofs.Common.{◌-◌, length}
use Rattle.im_lex.proofs.LiteralReads.{ElementsRead}
use Rattle.im_lex.proofs.literals.elements_end.Given as goal

abbrev pub invariant-loop-element : goal.invariant-loop-element
invariant-loop-element l = ElementsRead l.quote l.text l.end l.count

abbrev pub decreases-loop-element : goal.decreases-loop-element
decreases-loop-element l = length l.text - l.end
