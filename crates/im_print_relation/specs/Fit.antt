-- Which words the tokens of a text may have (C11 6.4).
use Rattle.std.specs.Prelude.{ℕ, ◌≢◌, ◌≤◌, All, List, [], ◌∷◌}
use Rattle.im_tok.specs.Keywords.{keyword_text}
use Rattle.im_tok.specs.Numbers.{IsNumeral}
use Rattle.im_tok.specs.declared.keyword.Keyword.{Keyword}
use Rattle.im_lex.specs.Pieces.{IsName}
use Rattle.im_word.specs.Words.{Word, name, keyword, number, character, text, mark, unknown}

-- some token may have this word: a name is no keyword, some text is a constant with this value and type, and a character is a byte
abbrev pub IsFit : Word → Type 0
IsFit (name n) = IsName n × ((k : Keyword) → n ≢ keyword_text k)
IsFit (keyword k) = Unit {0}
IsFit (number n) = (bytes : List ℕ) × IsNumeral bytes n
IsFit (character c) = c ≤ 255
IsFit (text s) = All (λ b. b ≤ 255) s
IsFit (mark m) = Unit {0}
IsFit unknown = ⊥

-- each of the words is such a one
abbrev pub AreFit : List Word → Type 0
AreFit [] = Unit {0}
AreFit (x ∷ xs) = IsFit x × AreFit xs
