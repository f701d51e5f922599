-- A token has one word.
use Rattle.std.proofs.Common.{◌≡◌, ℕ, List, [], ◌∷◌, refl, sym, ◌∙◌, ap}
use Rattle.std.specs.Prelude.{slice_range}
use Rattle.im_tok.specs.declared.token.Token.{Token}
use Rattle.im_tok.specs.declared.token.TokenKind.{TokenKind}
use Rattle.im_word.specs.Words.{Word, name, keyword, number, character, text, mark, unknown}
use Rattle.im_word.specs.Tokens.{IsWordOf}
use Rattle.im_parse.specs.Spelling.{AreWords, no_words, next_word}
use Rattle.im_front.proofs.Spelled.{same-keyword, same-mark}
use Rattle.im_front.proofs.Numerals.{same-numeral}
use Rattle.im_front.proofs.Literals.{same-character, same-text}

pub one-word : (k : TokenKind) (bytes : List ℕ) (v w : Word) → IsWordOf k bytes v → IsWordOf k bytes w → v ≡ w
one-word k bytes (name n) (name n') h g = ap name (h.1 ∙ sym g.1)
one-word k bytes (name n) (keyword x) h g = absurd (let a = h.0 in let b = g.0 in cc)
one-word k bytes (name n) (number n') h g = absurd (let a = h.0 in let b = g.0 in cc)
one-word k bytes (name n) (character c) h g = absurd (let a = h.0 in let b = g.0 in cc)
one-word k bytes (name n) (text s) h g = absurd (let a = h.0 in let b = g.0 in cc)
one-word k bytes (name n) (mark m) h g = absurd (let a = h.0 in let b = g.0 in cc)
one-word k bytes (name n) unknown h g = absurd (g (name n) h)
one-word k bytes (keyword x) (name n) h g = absurd (let a = h.0 in let b = g.0 in cc)
one-word k bytes (keyword x) (keyword x') h g = ap keyword (same-keyword x x' (sym h.1 ∙ g.1))
one-word k bytes (keyword x) (number n) h g = absurd (let a = h.0 in let b = g.0 in cc)
one-word k bytes (keyword x) (character c) h g = absurd (let a = h.0 in let b = g.0 in cc)
one-word k bytes (keyword x) (text s) h g = absurd (let a = h.0 in let b = g.0 in cc)
one-word k bytes (keyword x) (mark m) h g = absurd (let a = h.0 in let b = g.0 in cc)
one-word k bytes (keyword x) unknown h g = absurd (g (keyword x) h)
one-word k bytes (number n) (name n') h g = absurd (let a = h.0 in let b = g.0 in cc)
one-word k bytes (number n) (keyword x) h g = absurd (let a = h.0 in let b = g.0 in cc)
one-word k bytes (number n) (number n') h g = ap number (same-numeral bytes n n' h.1 g.1)
one-word k bytes (number n) (character c) h g = absurd (let a = h.0 in let b = g.0 in cc)
one-word k bytes (number n) (text s) h g = absurd (let a = h.0 in let b = g.0 in cc)
one-word k bytes (number n) (mark m) h g = absurd (let a = h.0 in let b = g.0 in cc)
one-word k bytes (number n) unknown h g = absurd (g (number n) h)
one-word k bytes (character c) (name n) h g = absurd (let a = h.0 in let b = g.0 in cc)
one-word k bytes (character c) (keyword x) h g = absurd (let a = h.0 in let b = g.0 in cc)
one-word k bytes (character c) (number n) h g = absurd (let a = h.0 in let b = g.0 in cc)
one-word k bytes (character c) (character c') h g = ap character (same-character bytes c c' h.1 g.1)
one-word k bytes (character c) (text s) h g = absurd (let a = h.0 in let b = g.0 in cc)
one-word k bytes (character c) (mark m) h g = absurd (let a = h.0 in let b = g.0 in cc)
one-word k bytes (character c) unknown h g = absurd (g (character c) h)
one-word k bytes (text s) (name n) h g = absurd (let a = h.0 in let b = g.0 in cc)
one-word k bytes (text s) (keyword x) h g = absurd (let a = h.0 in let b = g.0 in cc)
one-word k bytes (text s) (number n) h g = absurd (let a = h.0 in let b = g.0 in cc)
one-word k bytes (text s) (character c) h g = absurd (let a = h.0 in let b = g.0 in cc)
one-word k bytes (text s) (text s') h g = ap text (same-text bytes s s' h.1 g.1)
one-word k bytes (text s) (mark m) h g = absurd (let a = h.0 in let b = g.0 in cc)
one-word k bytes (text s) unknown h g = absurd (g (text s) h)
one-word k bytes (mark m) (name n) h g = absurd (let a = h.0 in let b = g.0 in cc)
one-word k bytes (mark m) (keyword x) h g = absurd (let a = h.0 in let b = g.0 in cc)
one-word k bytes (mark m) (number n) h g = absurd (let a = h.0 in let b = g.0 in cc)
one-word k bytes (mark m) (character c) h g = absurd (let a = h.0 in let b = g.0 in cc)
one-word k bytes (mark m) (text s) h g = absurd (let a = h.0 in let b = g.0 in cc)
one-word k bytes (mark m) (mark m') h g = ap mark (same-mark m m' (sym h.1 ∙ g.1))
one-word k bytes (mark m) unknown h g = absurd (g (mark m) h)
one-word k bytes unknown (name n) h g = absurd (h (name n) g)
one-word k bytes unknown (keyword x) h g = absurd (h (keyword x) g)
one-word k bytes unknown (number n) h g = absurd (h (number n) g)
one-word k bytes unknown (character c) h g = absurd (h (character c) g)
one-word k bytes unknown (text s) h g = absurd (h (text s) g)
one-word k bytes unknown (mark m) h g = absurd (h (mark m) g)
one-word k bytes unknown unknown h g = refl

pub one-list : (source : List ℕ) (tokens : List Token) (vs ws : List Word) → AreWords source tokens vs → AreWords source tokens ws → vs ≡ ws
one-list source [] _ _ no_words no_words = refl
one-list source (token ∷ tokens) _ _ (next_word {word = v} {words = vs} h hs) (next_word {word = w} {words = ws} g gs) =
    ap (λ (x : Word). x ∷ vs) (one-word token.kind (slice_range source token.span.0 token.span.1) v w h g)
    ∙ ap (λ (xs : List Word). w ∷ xs) (one-list source tokens vs ws hs gs)
