use Rattle.std.proofs.Common.{◌≡◌, ℕ, List, Bool, false, IsTrue, arith}
use Rattle.im_tok.specs.Numbers.{IsNumeral}
use Rattle.im_tok.specs.Literals.{IsCharacter, IsText}
use Rattle.im_tok.specs.declared.number.Number.{Number}
use Rattle.im_tok.specs.declared.token.TokenKind.{TokenKind}
use Rattle.im_tok.specs.declared.token.TokenKind.TheVariants as kind
use Rattle.im_word.specs.Words.{Word, name, keyword, number, character, text, mark, unknown}
use Rattle.im_word.specs.Tokens.{IsKnownWord}
use Rattle.im_word.proofs.word.word_of.Goals as goal

no_number : (k : TokenKind) (bytes : List ℕ) → k ≡ kind.Number → ((n : Number) → IsNumeral bytes n → ⊥) → (word : Word) → IsKnownWord k bytes word → ⊥
no_number k bytes e none (name n) is = let h : k ≡ kind.Name = is.0 in cc
no_number k bytes e none (keyword n) is = let h : k ≡ kind.Keyword = is.0 in cc
no_number k bytes e none (number n) is = none n is.1
no_number k bytes e none (character n) is = let h : k ≡ kind.Character = is.0 in cc
no_number k bytes e none (text n) is = let h : k ≡ kind.Text = is.0 in cc
no_number k bytes e none (mark n) is = let h : k ≡ kind.Punctuator = is.0 in cc
no_number k bytes e none unknown is = is

no_character : (k : TokenKind) (bytes : List ℕ) → k ≡ kind.Character → ((n : ℕ) → IsCharacter bytes n → ⊥) → (word : Word) → IsKnownWord k bytes word → ⊥
no_character k bytes e none (name n) is = let h : k ≡ kind.Name = is.0 in cc
no_character k bytes e none (keyword n) is = let h : k ≡ kind.Keyword = is.0 in cc
no_character k bytes e none (number n) is = let h : k ≡ kind.Number = is.0 in cc
no_character k bytes e none (character n) is = none n is.1
no_character k bytes e none (text n) is = let h : k ≡ kind.Text = is.0 in cc
no_character k bytes e none (mark n) is = let h : k ≡ kind.Punctuator = is.0 in cc
no_character k bytes e none unknown is = is

no_text : (k : TokenKind) (bytes : List ℕ) → k ≡ kind.Text → ((s : List ℕ) → IsText bytes s → ⊥) → (word : Word) → IsKnownWord k bytes word → ⊥
no_text k bytes e none (name n) is = let h : k ≡ kind.Name = is.0 in cc
no_text k bytes e none (keyword n) is = let h : k ≡ kind.Keyword = is.0 in cc
no_text k bytes e none (number n) is = let h : k ≡ kind.Number = is.0 in cc
no_text k bytes e none (character n) is = let h : k ≡ kind.Character = is.0 in cc
no_text k bytes e none (text n) is = none n is.1
no_text k bytes e none (mark n) is = let h : k ≡ kind.Punctuator = is.0 in cc
no_text k bytes e none unknown is = is

no_test : {P : Type 0} (b : Bool) → b ≡ false → (P → IsTrue b) → P → ⊥
no_test b e into p = let h : IsTrue b = into p in grind (arith, h, e)

pub returns-else-is_text : goal.returns-else-is_text
returns-else-is_text c = no_text _ _ c.in-Text.is (λ s is. no_test c.is_text.result c.if-is_text.false c.is_text.ensures.1 (s, rw c.text-text.ensures is))

pub returns-in-None-number_of : goal.returns-in-None-number_of
returns-in-None-number_of c = no_number _ _ c.in-Number.is (rw c.text-text.ensures at c.in-None-number_of.ensures)

pub returns-in-None-character_of : goal.returns-in-None-character_of
returns-in-None-character_of c = no_character _ _ c.in-Character.is (rw c.text-text.ensures at c.in-None-character_of.ensures)
