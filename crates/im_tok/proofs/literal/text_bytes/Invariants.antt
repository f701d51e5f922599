use Rattle.std.proofs.Common.{length}
use Rattle.im_tok.proofs.Strings.{Reading}
use Rattle.im_tok.proofs.literal.text_bytes.Given as goal

abbrev pub invariant-loop-element : goal.invariant-loop-element
invariant-loop-element l = Reading l.text l.rest l.bytes.items

abbrev pub decreases-loop-element : goal.decreases-loop-element
decreases-loop-element l = length l.rest
