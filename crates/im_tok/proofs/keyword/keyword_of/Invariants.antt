use Rattle.std.proofs.Common.{◌≢◌, ◌<◌}
use Rattle.im_tok.specs.Keywords.{keyword_text}
use Rattle.im_tok.specs.declared.keyword.Keyword.{Keyword}
use Rattle.im_tok.proofs.KeywordPlaces.{place}
use Rattle.im_tok.proofs.keyword.keyword_of.Given as goal

abbrev pub invariant-loop-keyword : goal.invariant-loop-keyword
invariant-loop-keyword l = (x : Keyword) → place x < l.keyword-index → l.text ≢ keyword_text x
