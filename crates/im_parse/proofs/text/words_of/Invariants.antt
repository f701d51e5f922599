use Rattle.std.proofs.Common.{map}
use Rattle.im_word.specs.Shown.{shown}
use Rattle.im_parse.proofs.Parsing.{SoFar}
use Rattle.im_parse.proofs.text.words_of.Given as goal

abbrev pub invariant-loop-token : goal.invariant-loop-token
invariant-loop-token l = SoFar l.source l.tokens (map shown l.words.items) l.token-index
