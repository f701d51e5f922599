use Rattle.std.proofs.Common.{map, arith}
use Rattle.im_word.specs.Shown.{shown}
use Rattle.im_parse.proofs.Parsing.{one_token, all_words, no_more_tokens}
use Rattle.im_parse.proofs.text.words_of.Goals as goal

pub loop-token-preserved : goal.loop-token-preserved
loop-token-preserved c = rw c.in_ok-push.ensures.items (one_token c.args.source.now c.args.tokens.now c.loop-token.words.items c.loop-token.token-index _ c.in_ok-word.word (omega arith) c.in_ok-word.ensures c.loop-token.invariant)

pub returns : goal.returns
returns c = all_words c.args.source.now c.args.tokens.now (map shown c.loop-token.words.items) c.loop-token.token-index (no_more_tokens c.args.tokens.now c.loop-token.token-index (omega arith)) c.loop-token.invariant
