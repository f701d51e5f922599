-- The word of a token, by the token's kind and text (C11 6.4).
use Rattle.std.specs.Prelude.{ℕ, ◌≡◌, List}
use Rattle.im_tok.specs.Keywords.{keyword_text}
use Rattle.im_tok.specs.Punctuators.{punctuator_text}
use Rattle.im_tok.specs.Numbers.{IsNumeral}
use Rattle.im_tok.specs.Literals.{IsCharacter, IsText}
use Rattle.im_tok.specs.declared.token.TokenKind.{TokenKind}
use Rattle.im_tok.specs.declared.token.TokenKind.TheVariants as kind
use Rattle.im_word.specs.Words.{Word, name, keyword, number, character, text, mark, unknown}

-- a token of this kind and text has this word
abbrev pub IsKnownWord : TokenKind → List ℕ → Word → Type 0
IsKnownWord k bytes (name n) = (k ≡ kind.Name) × (n ≡ bytes)
IsKnownWord k bytes (keyword x) = (k ≡ kind.Keyword) × (bytes ≡ keyword_text x)
IsKnownWord k bytes (number n) = (k ≡ kind.Number) × IsNumeral bytes n
IsKnownWord k bytes (character c) = (k ≡ kind.Character) × IsCharacter bytes c
IsKnownWord k bytes (text s) = (k ≡ kind.Text) × IsText bytes s
IsKnownWord k bytes (mark m) = (k ≡ kind.Punctuator) × (bytes ≡ punctuator_text m)
IsKnownWord k bytes unknown = ⊥

-- the word of a token, which is unknown where there is none
abbrev pub IsWordOf : TokenKind → List ℕ → Word → Type 0
IsWordOf k bytes unknown = (word : Word) → IsKnownWord k bytes word → ⊥
IsWordOf k bytes word = IsKnownWord k bytes word
