-- The words of the tokens of a text of bytes are those that tokens may have.
use Rattle.std.proofs.Common.{◌≡◌, ℕ, zero, suc, ◌+◌, ◌-◌, ◌≤◌, Bool, true, false, ◌==◌, if◌then◌else◌, All, List, [], ◌∷◌, ◌++◌, length, take, drop, map, sym, subst, ap, refl, arith, Option, Some, None}
use Rattle.std.specs.Prelude.{slice_index, slice_range}
use Rattle.im_tok.specs.Literals.{simple_escape, IsElement, AreElements}
use Rattle.im_tok.specs.Literals.IsElement.{plain, simple, octal, hexadecimal}
use Rattle.im_tok.specs.declared.literal.Element.{Element}
use Rattle.im_tok.specs.declared.token.Token.{Token}
use Rattle.im_tok.specs.declared.token.TokenKind.{TokenKind}
use Rattle.im_tok.specs.declared.token.TokenKind.TheVariants as kind
use Rattle.im_lex.specs.declared.piece.PieceKind.{PieceKind}
use Rattle.im_lex.specs.declared.piece.PieceKind.TheVariants as piece
use Rattle.im_lex.specs.declared.piece.Piece.{Piece}
use Rattle.im_lex.specs.Pieces.{IsPiece, IsAccepted}
use Rattle.im_lex.specs.Lexing.{starts_line, IsCut, token_of, tokens_of, Lexes}
use Rattle.im_word.specs.Words.{Word, name, keyword, number, character, text, mark, unknown}
use Rattle.im_word.specs.Tokens.{IsWordOf}
use Rattle.im_print_relation.specs.Fit.{IsFit, AreFit}
use Rattle.im_print_relation.specs.Text.{HaveWords}
use Rattle.im_print_relation.proofs.Elements.{AreBytes, all_bytes}

bytes_take : (n : ℕ) (u : List ℕ) → AreBytes u → AreBytes (take n u)
bytes_take zero u are = tt
bytes_take (suc n) [] are = tt
bytes_take (suc n) (b ∷ u) are = (are.0, bytes_take n u are.1)

bytes_drop : (n : ℕ) (u : List ℕ) → AreBytes u → AreBytes (drop n u)
bytes_drop zero u are = are
bytes_drop (suc n) [] are = tt
bytes_drop (suc n) (b ∷ u) are = bytes_drop n u are.1

byte_at : (u : List ℕ) (i : ℕ) → AreBytes u → slice_index u i ≤ 255
byte_at [] i are = omega arith
byte_at (b ∷ u) zero are = are.0
byte_at (b ∷ u) (suc i) are = byte_at u i are.1

bounded_if : (c : Bool) (x : ℕ) (o : Option ℕ) → x ≤ 255 → ((v : ℕ) → o ≡ Some v → v ≤ 255) → (v : ℕ) → (if c then Some x else o) ≡ Some v → v ≤ 255
bounded_if true x o small rest v e =
    let f : Some x ≡ Some v = e in
    let same : x ≡ v = cc f in
    omega (arith, small, same)
bounded_if false x o small rest v e = rest v e

none_is : (v : ℕ) → None ≡ Some v → v ≤ 255
none_is v e = absurd (cc e)

escape_bound : (b v : ℕ) → simple_escape b ≡ Some v → v ≤ 255
escape_bound b =
    bounded_if (b == 39) 39 _ (omega arith) (bounded_if (b == 34) 34 _ (omega arith) (bounded_if (b == 63) 63 _ (omega arith) (bounded_if (b == 92) 92 _ (omega arith) (bounded_if (b == 97) 7 _ (omega arith) (bounded_if (b == 98) 8 _ (omega arith) (bounded_if (b == 102) 12 _ (omega arith) (bounded_if (b == 110) 10 _ (omega arith) (bounded_if (b == 114) 13 _ (omega arith) (bounded_if (b == 116) 9 _ (omega arith) (bounded_if (b == 118) 11 None (omega arith) none_is))))))))))

element_bound : (q : ℕ) (u : List ℕ) (e : Element) → AreBytes u → IsElement q u e → e.value ≤ 255
element_bound q u e are (plain h) = omega (arith, h.value, byte_at u 0 are)
element_bound q u e are (simple h) = escape_bound (slice_index u 1) e.value h.value
element_bound q u e are (octal h) = h.fits
element_bound q u e are (hexadecimal x h) = h.fits

values_bound : (q : ℕ) (u : List ℕ) (es : List Element) → AreBytes u → AreElements q u es → AreBytes (map (λ (e : Element). e.value) es)
values_bound q u [] are these = tt
values_bound q u (e ∷ es) are these = (element_bound q u e are these.0, values_bound q (drop e.length u) es (bytes_drop e.length u are) these.1)

pub each_byte : (u : List ℕ) → AreBytes u → All (λ b. b ≤ 255) u
each_byte [] are k d within = absurd (omega (arith, within))
each_byte (b ∷ u) are zero d within = are.0
each_byte (b ∷ u) are (suc k) d within = each_byte u are.1 k d (omega (arith, within))

-- a token has a word
not_unknown : (k : TokenKind) (start : Bool) (u : List ℕ) → IsPiece start (piece.Token k) u → IsAccepted (piece.Token k) u → IsWordOf k u unknown → ⊥
not_unknown kind.Name start u is accepted none = none (name u) (refl, refl)
not_unknown kind.Keyword start u is accepted none = none (keyword is.0) (refl, is.1)
not_unknown kind.Number start u is accepted none = none (number accepted.0) (refl, accepted.1)
not_unknown kind.Character start u is accepted none = none (character is.0) (refl, is.1)
not_unknown kind.Text start u is accepted none = none (text is.0) (refl, is.1)
not_unknown kind.Punctuator start u is accepted none = none (mark is.0) (refl, is.1)

word_fit : (k : TokenKind) (start : Bool) (u : List ℕ) (x : Word) → AreBytes u → IsPiece start (piece.Token k) u → IsAccepted (piece.Token k) u → IsWordOf k u x → IsFit x
word_fit k start u (name n) are is accepted known =
    let h : IsPiece start (piece.Token kind.Name) u = subst (λ z. IsPiece start (piece.Token z) u) known.0 is in
    subst (λ z. IsFit (name z)) (sym known.1) h
word_fit k start u (keyword x) are is accepted known = tt
word_fit k start u (number n) are is accepted known = (u, known.1)
word_fit k start u (character c) are is accepted known =
    let h = known.1 in
    let bound = element_bound 39 (drop 1 u) h.0 (bytes_drop 1 u are) h.1.inner.0 in
    omega (arith, bound, h.2)
word_fit k start u (text s) are is accepted known =
    let h = known.1 in
    subst (λ z. All (λ b. b ≤ 255) z) (sym h.2) (each_byte (map (λ (e : Element). e.value) h.0) (values_bound 34 (drop 1 u) h.0 (bytes_drop 1 u are) h.1.inner))
word_fit k start u (mark m) are is accepted known = tt
word_fit k start u unknown are is accepted known = absurd (not_unknown k start u is accepted known)

-- a piece that is a token, and what stands behind it
piece_fit : (source : List ℕ) (at : ℕ) (k : PieceKind) (n : ℕ) (start : Bool) (rest : List Token) (words : List Word) → AreBytes source → IsPiece start k (take n (drop at source)) → IsAccepted k (take n (drop at source)) → ((ws : List Word) → HaveWords source rest ws → AreFit ws) → HaveWords source (token_of source at k n ++ rest) words → AreFit words
piece_fit source at (piece.Token k) n start rest [] are is accepted more have = tt
piece_fit source at (piece.Token k) n start rest (x ∷ ws) are is accepted more have =
    let whole : slice_range source at (at + n) ≡ take n (drop at source) = ap (λ z. take z (drop at source)) (let f : (at + n) - at ≡ n = omega arith in f) in
    (word_fit k start (take n (drop at source)) x (bytes_take n (drop at source) (bytes_drop at source are)) is accepted (subst (λ z. IsWordOf k z x) whole have.0), more ws have.1)
piece_fit source at piece.Blank n start rest words are is accepted more have = more words have
piece_fit source at piece.Comment n start rest words are is accepted more have = more words have
piece_fit source at piece.Marker n start rest words are is accepted more have = more words have
piece_fit source at piece.OpenComment n start rest words are is accepted more have = more words have

cut_fit : (source : List ℕ) (at end : ℕ) (ps : List Piece) (words : List Word) → AreBytes source → IsCut source at ps end → HaveWords source (tokens_of source at ps) words → AreFit words
cut_fit source at end [] [] are cut have = tt
cut_fit source at end [] (x ∷ ws) are cut have = absurd have
cut_fit source at end (p ∷ ps) words are cut have =
    piece_fit source at p.kind p.length (starts_line source at) (tokens_of source (at + p.length) ps) words are cut.0.0.is cut.0.1 (λ ws h. cut_fit source (at + p.length) end ps ws are cut.1 h) have

pub tokens_fit : (source : List ℕ) (tokens : List Token) (words : List Word) → All (λ b. b ≤ 255) source → Lexes source tokens → HaveWords source tokens words → AreFit words
tokens_fit source tokens words are lexes have = cut_fit source 0 (length source) lexes.0 words (all_bytes source are) lexes.1 (subst (λ z. HaveWords source z words) lexes.2 have)
