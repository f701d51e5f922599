-- Words of tokens.
use Rattle.std.proofs.Common.{◌≡◌, ℕ, zero, suc, ◌<◌, ◌≤◌, List, [], ◌∷◌, map, drop, length, cond, Bool, true, false, refl, sym, ap, ◌∙◌, subst, arith}
use Rattle.std.specs.Prelude.{Option, Some, None, ◌==◌, slice_index, nat_le, if◌then◌else◌}
use Rattle.std.specs.List.{find}
use Rattle.std.proofs.lemmas.Bool.{leb-true}
use Rattle.im_tok.specs.declared.token.TokenKind.{TokenKind}
use Rattle.im_tok.specs.declared.number.NumberType.{NumberType}
use Rattle.im_tok.specs.Numbers.{greatest, candidates}
use Rattle.im_tok.specs.declared.literal.Element.{Element}
use Rattle.im_tok.specs.Literals.{IsElement, plain, simple, octal, hexadecimal, AreElements, simple_escape}
use Rattle.im_word.specs.Words.{Word, name, keyword, number, character, text, mark, unknown}
use Rattle.im_word.specs.Tokens.{IsWordOf}
use Rattle.im_rules_sound_expressions.specs.Written.{AreBytes}
use Rattle.im_rules_sound_spelt.specs.Words.{IsLexical}

-- a number's type is one that holds it
found-holds : (n : ℕ) (ts : List NumberType) (type : NumberType) → find (λ t. nat_le n (greatest t)) ts ≡ Some type → n ≤ greatest type
found-holds n [] type e = absurd (cc)
found-holds n (k ∷ ts) type e = by-test (nat_le n (greatest k)) refl e (λ q. found-holds n ts type q)
  where
    by-test : (b : Bool) → nat_le n (greatest k) ≡ b → cond b (Some k) (find (λ t. nat_le n (greatest t)) ts) ≡ Some type → (find (λ t. nat_le n (greatest t)) ts ≡ Some type → n ≤ greatest type) → n ≤ greatest type
    by-test true is q later = let same : k ≡ type = cc in subst (λ t. n ≤ greatest t) same (leb-true n (greatest k) is)
    by-test false is q later = later q

-- what stands in a literal is at most 255

dropped-bytes : (n : ℕ) (bs : List ℕ) → AreBytes bs → AreBytes (drop n bs)
dropped-bytes zero [] h = tt
dropped-bytes zero (b ∷ bs) h = h
dropped-bytes (suc n) [] h = tt
dropped-bytes (suc n) (b ∷ bs) h = dropped-bytes n bs h.1

first-byte : (bs : List ℕ) → AreBytes bs → slice_index bs 0 ≤ 255
first-byte [] h = omega arith
first-byte (b ∷ bs) h = h.0

picked-small : (value : ℕ) (b : Bool) (k : ℕ) (others : Option ℕ) → k ≤ 255 → (others ≡ Some value → value ≤ 255) → (if b then Some k else others) ≡ Some value → value ≤ 255
picked-small value true k others le later e = let same : k ≡ value = cc in subst (λ n. n ≤ 255) same le
picked-small value false k others le later e = later e

simple-small : (byte value : ℕ) → simple_escape byte ≡ Some value → value ≤ 255
simple-small byte value = picked-small value (byte == 39) 39 (if byte == 34 then Some 34 else (if byte == 63 then Some 63 else (if byte == 92 then Some 92 else (if byte == 97 then Some 7 else (if byte == 98 then Some 8 else (if byte == 102 then Some 12 else (if byte == 110 then Some 10 else (if byte == 114 then Some 13 else (if byte == 116 then Some 9 else (if byte == 118 then Some 11 else None)))))))))) (omega arith) (picked-small value (byte == 34) 34 (if byte == 63 then Some 63 else (if byte == 92 then Some 92 else (if byte == 97 then Some 7 else (if byte == 98 then Some 8 else (if byte == 102 then Some 12 else (if byte == 110 then Some 10 else (if byte == 114 then Some 13 else (if byte == 116 then Some 9 else (if byte == 118 then Some 11 else None))))))))) (omega arith) (picked-small value (byte == 63) 63 (if byte == 92 then Some 92 else (if byte == 97 then Some 7 else (if byte == 98 then Some 8 else (if byte == 102 then Some 12 else (if byte == 110 then Some 10 else (if byte == 114 then Some 13 else (if byte == 116 then Some 9 else (if byte == 118 then Some 11 else None)))))))) (omega arith) (picked-small value (byte == 92) 92 (if byte == 97 then Some 7 else (if byte == 98 then Some 8 else (if byte == 102 then Some 12 else (if byte == 110 then Some 10 else (if byte == 114 then Some 13 else (if byte == 116 then Some 9 else (if byte == 118 then Some 11 else None))))))) (omega arith) (picked-small value (byte == 97) 7 (if byte == 98 then Some 8 else (if byte == 102 then Some 12 else (if byte == 110 then Some 10 else (if byte == 114 then Some 13 else (if byte == 116 then Some 9 else (if byte == 118 then Some 11 else None)))))) (omega arith) (picked-small value (byte == 98) 8 (if byte == 102 then Some 12 else (if byte == 110 then Some 10 else (if byte == 114 then Some 13 else (if byte == 116 then Some 9 else (if byte == 118 then Some 11 else None))))) (omega arith) (picked-small value (byte == 102) 12 (if byte == 110 then Some 10 else (if byte == 114 then Some 13 else (if byte == 116 then Some 9 else (if byte == 118 then Some 11 else None)))) (omega arith) (picked-small value (byte == 110) 10 (if byte == 114 then Some 13 else (if byte == 116 then Some 9 else (if byte == 118 then Some 11 else None))) (omega arith) (picked-small value (byte == 114) 13 (if byte == 116 then Some 9 else (if byte == 118 then Some 11 else None)) (omega arith) (picked-small value (byte == 116) 9 (if byte == 118 then Some 11 else None) (omega arith) (picked-small value (byte == 118) 11 None (omega arith) (λ q. absurd (cc))))))))))))

element-small : (quote : ℕ) (bytes : List ℕ) (element : Element) → AreBytes bytes → IsElement quote bytes element → element.value ≤ 255
element-small quote bytes element h (plain p) = let b = first-byte bytes h in let v = p.value in omega (arith, b, v)
element-small quote bytes element h (simple p) = simple-small (slice_index bytes 1) element.value p.value
element-small quote bytes element h (octal p) = p.fits
element-small quote bytes element h (hexadecimal x p) = p.fits

elements-small : (quote : ℕ) (bytes : List ℕ) (elements : List Element) → AreBytes bytes → AreElements quote bytes elements → AreBytes (map {A = Element} (λ e. e.value) elements)
elements-small quote bytes [] h k = tt
elements-small quote bytes (e ∷ es) h k = (element-small quote bytes e h k.0, elements-small quote (drop e.length bytes) es (dropped-bytes e.length bytes h) k.1)

pub word-lexical : (k : TokenKind) (bytes : List ℕ) (w : Word) → IsWordOf k bytes w → 0 < length bytes → AreBytes bytes → IsLexical w
word-lexical k bytes (name n) h some b = λ e. let none : length bytes ≡ 0 = ap length (sym h.1) ∙ ap length e in absurd (omega (arith, none, some))
word-lexical k bytes (keyword x) h some b = tt
word-lexical k bytes (number n) h some b = let own = h.1 in found-holds n.value (candidates own.base own.suffix) n.number_type own.holds
word-lexical k bytes (character c) h some b =
    let small = element-small 39 (drop 1 bytes) h.1.0 (dropped-bytes 1 bytes b) h.1.1.inner.0 in
    let same = h.1.2 in
    omega (arith, small, same)
word-lexical k bytes (text s) h some b = subst AreBytes (sym h.1.2) (elements-small 34 (drop 1 bytes) h.1.0 (dropped-bytes 1 bytes b) h.1.1.inner)
word-lexical k bytes (mark m) h some b = tt
word-lexical k bytes unknown h some b = tt
