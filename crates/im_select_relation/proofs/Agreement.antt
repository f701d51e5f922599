-- The two ways to see a number as a word are one.
use Rattle.std.proofs.Common.{sym, ap, ◌∙◌, pos}
use Rattle.im_rv.specs.Steps.{signed}
use Rattle.im_select_relation.specs.OperatorLaws.{WordsAgree}
use Rattle.im_select_relation.proofs.Words.{word_of, wrap_signed}
use Rattle.im_select_relation.proofs.Arithmetic.{word_cast}

pub words_agree : WordsAgree
words_agree = record { words = word_cast; signed_words = λ a h. sym (wrap_signed (pos a) ∙ ap signed (word_of a h)) }
