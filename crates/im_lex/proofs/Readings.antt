-- A text is cut in one way, and a reading grows by a piece.
use Rattle.std.proofs.Common.{◌≡◌, ◌≢◌, ℕ, zero, suc, ◌+◌, ◌-◌, ◌<◌, ◌≤◌, ◌==◌, List, [], ◌∷◌, ◌++◌, Bool, length, take, drop, refl, sym, ap, subst, ◌∙◌, arith, count_by, append_assoc, cond, true, ◌||◌}
use Rattle.std.specs.Prelude.{slice_index}
use Rattle.std.proofs.lemmas.List.{length-drop, length-take, take_rest}
use Rattle.std.proofs.Math.Seq.{take-add}
use Rattle.std.proofs.Math.Dec.{eqb-suc-zero}
use Rattle.std.proofs.lemmas.Bool.{eq-eqb}
use Rattle.std.proofs.lemmas.List.Sums.{sum_by-append}
use Rattle.im_tok.specs.declared.token.TokenKind.{TokenKind}
use Rattle.im_lex.specs.declared.piece.PieceKind.TheVariants.{Token as TokenPiece, Blank, Comment, Marker, OpenComment}
use Rattle.im_tok.specs.Punctuators.{punctuator_text}
use Rattle.im_tok.specs.declared.token.Token.{Token}
use Rattle.im_lex.specs.declared.piece.PieceKind.{PieceKind}
use Rattle.im_lex.specs.declared.piece.Piece.{Piece}
use Rattle.im_lex.specs.Pieces.{IsPiece, IsNext, HasNone}
use Rattle.im_lex.specs.Lexing.{starts_line, line_at, IsCut, token_of, tokens_of, Lexes, StuckAt}
use Rattle.im_lex.proofs.OpeningFacts.{piece_opening}
use Rattle.im_lex.proofs.PieceFacts.{one_longest, if_other}
use Rattle.im_lex.proofs.Spellings.{punctuator_length}

-- a piece has a byte
pub piece_some : (start : Bool) (kind : PieceKind) (bytes : List ℕ) → IsPiece start kind bytes → 0 < length bytes
piece_some start kind [] is =
    let h = if_other start kind [] is (sym (piece_opening start kind [] is)) in
    let n : 0 ≡ length (punctuator_text h.0) = ap length h.1 in
    absurd (omega (arith, n, punctuator_length h.0))
piece_some start kind (b ∷ bytes) is = omega arith

pub none_at_end : (text : List ℕ) → HasNone (starts_line text (length text)) (drop (length text) text)
none_at_end text piece is =
    let some = piece_some (starts_line text (length text)) piece.kind (take piece.length (drop (length text) text)) is.0.is in
    omega (arith, some, is.0.within, length-drop (length text) text, length-take piece.length (drop (length text) text))

abbrev Final : List ℕ → ℕ → Type 0
Final text at = HasNone (starts_line text at) (drop at text)

pub one_cut : (text : List ℕ) (at : ℕ) (ps qs : List Piece) (m n : ℕ) → IsCut text at ps m → IsCut text at qs n → Final text m → Final text n → (ps ≡ qs) × (m ≡ n)
one_cut text at [] [] m n g h f e = (refl, sym g ∙ h)
one_cut text at [] (q ∷ qs) m n g h f e = let P : ℕ → Type 0 = λ k. Final text k in absurd ((subst P (sym g) f) q h.0)
one_cut text at (p ∷ ps) [] m n g h f e = let P : ℕ → Type 0 = λ k. Final text k in absurd ((subst P (sym h) e) p g.0)
one_cut text at (p ∷ ps) (q ∷ qs) m n g h f e =
    let same : p ≡ q = one_longest (starts_line text at) (drop at text) p q g.0.0 h.0.0 in
    let P : Piece → Type 0 = λ x. IsCut text (at + x.length) qs n in
    let rest = one_cut text (at + p.length) ps qs m n g.1 (subst P (sym same) h.1) f e in
    (ap (λ x. x ∷ ps) same ∙ ap (λ l. q ∷ l) rest.0, rest.1)

-- how far a text has been read
pub record Reading (text : List ℕ) (at line : ℕ) (tokens : List Token) : Type 0 where
  pub pieces : List Piece
  pub cut : IsCut text 0 pieces at
  pub tokens_are : tokens ≡ tokens_of text 0 pieces
  pub within : at ≤ length text
  pub line_is : line ≡ line_at text at

cut_push : (text : List ℕ) (a b : ℕ) (ps : List Piece) (p : Piece) → IsCut text a ps b → IsNext (starts_line text b) (drop b text) p → IsCut text a (ps ++ p ∷ []) (b + p.length)
cut_push text a b [] p e is =
    let P : ℕ → Type 0 = λ k. IsNext (starts_line text k) (drop k text) p in
    (subst P (sym e) is, ap (λ k. k + p.length) e)
cut_push text a b (q ∷ ps) p h is = (h.0, cut_push text (a + q.length) b ps p h.1 is)

append_none : (xs : List Token) → xs ++ [] ≡ xs
append_none [] = refl
append_none (x ∷ xs) = ap (λ l. x ∷ l) (append_none xs)

tokens_push : (text : List ℕ) (a b : ℕ) (ps : List Piece) (p : Piece) → IsCut text a ps b → tokens_of text a (ps ++ p ∷ []) ≡ tokens_of text a ps ++ token_of text b p.kind p.length
tokens_push text a b [] p e = append_none (token_of text a p.kind p.length) ∙ ap (λ k. token_of text k p.kind p.length) e
tokens_push text a b (q ∷ ps) p h =
    ap (λ l. token_of text a q.kind q.length ++ l) (tokens_push text (a + q.length) b ps p h.1) ∙ sym (append_assoc (token_of text a q.kind q.length) (tokens_of text (a + q.length) ps) (token_of text b p.kind p.length))

line_push : (text : List ℕ) (at n : ℕ) → line_at text (at + n) ≡ line_at text at + count_by (λ b. b == 10) (take n (drop at text))
line_push text at n =
    let one : ℕ → ℕ = λ b. cond (b == 10) 1 0 in
    let whole = ap (λ l. count_by (λ b. b == 10) l) (take-add at n text) ∙ sum_by-append one (take at text) (take n (drop at text)) in
    omega (arith, whole)

-- a reading with one piece more
pub reading_push : (text : List ℕ) (at line : ℕ) (tokens more : List Token) (starts : Bool) (p : Piece) (ends : ℕ) → Reading text at line tokens → starts ≡ starts_line text at → IsNext starts (take (length text - at) (drop at text)) p → ends ≡ count_by (λ b. b == 10) (take (at + p.length - at) (drop at text)) → more ≡ tokens ++ token_of text at p.kind p.length → Reading text (at + p.length) (line + ends) more
reading_push text at line tokens more starts p ends r at_start is counted grown =
    let P : List ℕ → Type 0 = λ t. IsNext starts t p in
    let Q : Bool → Type 0 = λ b. IsNext b (drop at text) p in
    let next = subst Q at_start (subst P (take_rest text at) is) in
    let size : at + p.length - at ≡ p.length = omega arith in
    let lines : ends ≡ count_by (λ b. b == 10) (take p.length (drop at text)) = counted ∙ ap (λ n. count_by (λ b. b == 10) (take n (drop at text))) size in
    record {
      pieces = r.pieces ++ p ∷ [];
      cut = cut_push text 0 at r.pieces p r.cut next;
      tokens_are = grown ∙ ap (λ l. l ++ token_of text at p.kind p.length) r.tokens_are ∙ sym (tokens_push text 0 at r.pieces p r.cut);
      within = omega (arith, next.0.within, length-drop at text, r.within);
      line_is = omega (arith, r.line_is, line_push text at p.length, lines);
    }

pub no_token : (text : List ℕ) (at size : ℕ) (tokens : List Token) (kind : PieceKind) → ((k : TokenKind) → kind ≡ TokenPiece k → ⊥) → tokens ≡ tokens ++ token_of text at kind size
no_token text at size tokens (TokenPiece k) none = absurd (none k refl)
no_token text at size tokens Blank none = sym (append_none tokens)
no_token text at size tokens Comment none = sym (append_none tokens)
no_token text at size tokens Marker none = sym (append_none tokens)
no_token text at size tokens OpenComment none = sym (append_none tokens)

pub a_token : (text : List ℕ) (at size line : ℕ) (tokens more : List Token) (kind : PieceKind) (k : TokenKind) → line ≡ line_at text at → kind ≡ TokenPiece k → more ≡ tokens ++ record { kind = k; span = (at, at + size); line = line } ∷ [] → more ≡ tokens ++ token_of text at kind size
a_token text at size line tokens more kind k e f g =
    let P : ℕ → Type 0 = λ n. more ≡ tokens ++ record { kind = k; span = (at, at + size); line = n } ∷ [] in
    subst P e g ∙ ap (λ x. tokens ++ token_of text at x size) (sym f)

pub starts_first : (text : List ℕ) (at : ℕ) (b : Bool) → at ≡ 0 → b ≡ (at == 0) → b ≡ starts_line text at
starts_first text at b e f =
    let yes : (at == 0) ≡ true = eq-eqb at 0 e in
    f ∙ yes ∙ sym (ap (λ x. x || (slice_index text (at - 1) == 10)) yes)

pub starts_later : (text : List ℕ) (at : ℕ) (b : Bool) → at ≢ 0 → b ≡ (slice_index text (at - 1) == 10) → b ≡ starts_line text at
starts_later text zero b differs f = absurd (differs refl)
starts_later text (suc at) b differs f = f ∙ sym (ap (λ x. x || (slice_index text (suc at - 1) == 10)) (eqb-suc-zero at))

pub one_list : (text : List ℕ) (a b : List Token) → Lexes text a → Lexes text b → a ≡ b
one_list text a b g h =
    g.2 ∙ ap (λ ps. tokens_of text 0 ps) (one_cut text 0 g.0 h.0 (length text) (length text) g.1 h.1 (none_at_end text) (none_at_end text)).0 ∙ sym h.2

pub apart : (text : List ℕ) (tokens : List Token) (at : ℕ) → Lexes text tokens → StuckAt text at → ⊥
apart text tokens at g h =
    omega (arith, (one_cut text 0 g.0 h.pieces (length text) at g.1 h.cut (none_at_end text) h.none).1, h.left)

-- a reading up to the end is one of the text
pub finished : (text : List ℕ) (at line : ℕ) (tokens : List Token) → Reading text at line tokens → length text ≤ at → Lexes text tokens
finished text at line tokens r end =
    let P : ℕ → Type 0 = λ n. IsCut text 0 r.pieces n in
    let same : at ≡ length text = omega (arith, r.within) in
    (r.pieces, subst P same r.cut, r.tokens_are)

-- a reading up to where no piece stands
pub stuck_there : (text : List ℕ) (at line : ℕ) (tokens : List Token) (starts : Bool) → Reading text at line tokens → starts ≡ starts_line text at → at < length text → HasNone starts (take (length text - at) (drop at text)) → StuckAt text at
stuck_there text at line tokens starts r at_start left none =
    let P : List ℕ → Type 0 = λ t. HasNone starts t in
    let Q : Bool → Type 0 = λ b. HasNone b (drop at text) in
    record { pieces = r.pieces; cut = r.cut; left = left; none = subst Q at_start (subst P (take_rest text at) none) }
