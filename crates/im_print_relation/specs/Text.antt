-- The text that words are printed as, and what it is that a text is read as words.
use Rattle.std.specs.Prelude.{ℕ, ◌+◌, ◌/◌, ◌%◌, nat_le, nat_lt, ◌==◌, Bool, ◌&&◌, not, cond, codes, decimal, List, [], ◌∷◌, ◌++◌, slice_range}
use Rattle.im_tok.specs.Keywords.{keyword_text}
use Rattle.im_tok.specs.Punctuators.{punctuator_text}
use Rattle.im_tok.specs.declared.number.NumberType.{NumberType}
use Rattle.im_tok.specs.declared.number.NumberType.TheVariants.{Int, UnsignedInt, Long, UnsignedLong}
use Rattle.im_tok.specs.declared.token.Token.{Token}
use Rattle.im_lex.specs.Lexing.{Lexes}
use Rattle.im_word.specs.Words.{Word, name, keyword, number, character, text, mark, unknown}
use Rattle.im_word.specs.Tokens.{IsWordOf}

-- a printable byte that is no quote and no backslash
abbrev pub is_plain : ℕ → Bool
is_plain b = nat_le 32 b && (nat_lt b 127 && (not (b == 34) && (not (b == 39) && not (b == 92))))

-- a byte of a literal: as it is, or an octal escape of three digits (C11 6.4.4.4)
abbrev pub byte_text : ℕ → List ℕ
byte_text b = cond (is_plain b) (b ∷ []) (92 ∷ (48 + b / 64) ∷ (48 + b / 8 % 8) ∷ (48 + b % 8) ∷ [])

abbrev pub bytes_text : List ℕ → List ℕ
bytes_text [] = []
bytes_text (b ∷ bs) = byte_text b ++ bytes_text bs

-- these bytes between two quotes
abbrev pub literal_text : ℕ → List ℕ → List ℕ
literal_text quote bytes = quote ∷ (bytes_text bytes ++ (quote ∷ []))

abbrev pub suffix_text : NumberType → List ℕ
suffix_text Int = []
suffix_text UnsignedInt = codes "u"
suffix_text Long = codes "l"
suffix_text UnsignedLong = codes "ul"

-- a number is decimal, with the suffix of its type
abbrev pub word_text : Word → List ℕ
word_text (name n) = n
word_text (keyword k) = keyword_text k
word_text (number n) = decimal n.value ++ suffix_text n.number_type
word_text (character c) = literal_text 39 (c ∷ [])
word_text (text s) = literal_text 34 s
word_text (mark m) = punctuator_text m
word_text unknown = []

-- a blank between two words, and an LF behind the last
abbrev pub text_of : List Word → List ℕ
text_of [] = 10 ∷ []
text_of (x ∷ []) = word_text x ++ (10 ∷ [])
text_of (x ∷ y ∷ xs) = word_text x ++ (32 ∷ text_of (y ∷ xs))

-- these are the words of the tokens, in order
abbrev pub HaveWords : List ℕ → List Token → List Word → Type 0
HaveWords source [] [] = Unit {0}
HaveWords source [] (x ∷ xs) = ⊥
HaveWords source (token ∷ tokens) [] = ⊥
HaveWords source (token ∷ tokens) (x ∷ xs) = IsWordOf token.kind (slice_range source token.span.0 token.span.1) x × HaveWords source tokens xs

-- the text lexes to tokens with these words
pub record IsReadAs (source : List ℕ) (words : List Word) : Type 0 where
  pub tokens : List Token
  pub lexes : Lexes source tokens
  pub have : HaveWords source tokens words
