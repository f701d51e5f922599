-- The word that a Rust word stands for, wherever its bytes lie.
use Rattle.im_word.specs.declared.word.Word as w
use Rattle.im_word.specs.declared.word.Word.TheVariants as v
use Rattle.im_word.specs.Words.{Word, name, keyword, number, character, text, mark, unknown}

abbrev pub shown : w.Word → Word
shown (v.Name n) = name n.now
shown (v.Keyword k) = keyword k
shown (v.Number n) = number n
shown (v.Character c) = character c
shown (v.Text s) = text s.items
shown (v.Mark m) = mark m
shown v.Unknown = unknown
