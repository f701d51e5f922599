use Rattle.std.proofs.Common.{◌≡◌, take}
use Rattle.im_front.specs.Reading.{token_spans}
use Rattle.im_front.proofs.reading.spans_of.Given as goal

abbrev pub invariant-loop-token : goal.invariant-loop-token
invariant-loop-token l = l.spans.items ≡ token_spans (take l.token-index l.tokens)
