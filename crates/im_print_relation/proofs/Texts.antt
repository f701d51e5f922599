-- The printed text of words lexes to tokens with these words: behind a word stands a blank, which goes on with no token.
use Rattle.std.proofs.Common.{◌≡◌, ◌≢◌, ℕ, zero, suc, ◌+◌, ◌-◌, ◌≤◌, ◌<◌, ◌⊎◌, inl, inr, Bool, true, false, true≢false, ◌==◌, ◌&&◌, nat_le, List, [], ◌∷◌, ◌++◌, length, take, drop, sym, subst, ap, refl, ◌∙◌, arith, length-append, decimal}
use Rattle.std.specs.Prelude.{slice_index, slice_range}
use Rattle.std.specs.List.{list_all}
use Rattle.std.proofs.lemmas.Bool.{cases_lt}
use Rattle.std.proofs.lemmas.List.{length-take-le, length-drop, drop-drop}
use Rattle.im_tok.specs.Keywords.{keyword_text}
use Rattle.im_tok.specs.Punctuators.{punctuator_text}
use Rattle.im_tok.specs.Literals.{IsLiteral, IsCharacter, IsText}
use Rattle.im_tok.specs.declared.literal.Element.{Element}
use Rattle.im_tok.specs.declared.keyword.Keyword.{Keyword}
use Rattle.im_tok.specs.declared.punctuator.Punctuator.{Punctuator}
use Rattle.im_tok.specs.declared.punctuator.Punctuator.TheVariants.{Slash, SlashAssign}
use Rattle.im_tok.specs.declared.token.TokenKind.{TokenKind}
use Rattle.im_tok.specs.declared.token.TokenKind.TheVariants as kind
use Rattle.im_lex.specs.declared.piece.PieceKind.{PieceKind}
use Rattle.im_lex.specs.declared.piece.PieceKind.TheVariants as piece
use Rattle.im_lex.specs.declared.piece.Piece.{Piece}
use Rattle.im_lex.specs.Bytes.{IsNameStart, IsNameByte, IsBlank, GoesOn}
use Rattle.im_lex.specs.Pieces.{IsPiece, IsAccepted, IsNext, BeginsNumber}
use Rattle.im_lex.specs.Lexing.{starts_line, IsCut, tokens_of}
use Rattle.im_word.specs.Words.{Word, name, keyword, number, character, text, mark, unknown}
use Rattle.im_word.specs.Tokens.{IsWordOf}
use Rattle.im_print_relation.specs.Fit.{IsFit, AreFit}
use Rattle.im_print_relation.specs.Text.{word_text, literal_text, text_of, suffix_text, HaveWords, IsReadAs}
use Rattle.im_print_relation.proofs.Spellings.{no_blank, no_quote, keyword_seen, mark_seen, slash_led, some_byte, some_letter}
use Rattle.im_print_relation.proofs.Elements.{index_behind, index_first, take_front, drop_front, least_of, AreBytes, all_bytes, element_of, elements_of, values_are, literal_is, literal_ends}
use Rattle.im_print_relation.proofs.Numerals.{first_digit, number_run, value_bound, value_small, numeral_is}

-- what stands behind a word: a blank or an LF
abbrev IsSeparator : ℕ → Type 0
IsSeparator b = (b ≡ 32) ⊎ (b ≡ 10)

low : (b : ℕ) → IsSeparator b → b < 33
low b (inl e) = omega (arith, e)
low b (inr e) = omega (arith, e)

start_high : (b : ℕ) → IsNameStart b → 64 < b
start_high b (inl h) = omega (arith, h.0)
start_high b (inr (inl h)) = omega (arith, h.0)
start_high b (inr (inr h)) = omega (arith, h)

name_high : (b : ℕ) → IsNameByte b → 47 < b
name_high b (inl h) = omega (arith, start_high b h)
name_high b (inr h) = omega (arith, h.0)

sign_high : (b : ℕ) → (b ≡ 43) ⊎ (b ≡ 45) → 42 < b
sign_high b (inl h) = omega (arith, h)
sign_high b (inr h) = omega (arith, h)

on_high : (last b : ℕ) → GoesOn last b → 42 < b
on_high last b (inl h) = omega (arith, name_high b h)
on_high last b (inr (inl h)) = omega (arith, h)
on_high last b (inr (inr h)) = sign_high b h.1

begins_high : (u : List ℕ) → BeginsNumber u → 45 < slice_index u 0
begins_high u (inl h) = omega (arith, h.0)
begins_high u (inr h) = omega (arith, h.0)

and_true : (a b : Bool) → (a && b) ≡ true → (a ≡ true) × (b ≡ true)
and_true true b e = (refl, e)
and_true false b e = absurd (true≢false (sym e))

separator_seen : (b : ℕ) → IsSeparator b → no_blank b ≡ true → ⊥
separator_seen b (inl e) h = let f : no_blank 32 ≡ true = subst (λ z. no_blank z ≡ true) e h in true≢false (sym f)
separator_seen b (inr e) h = let f : no_blank 10 ≡ true = subst (λ z. no_blank z ≡ true) e h in true≢false (sym f)

blank_within : (u : List ℕ) (b : ℕ) (r : List ℕ) → IsSeparator b → list_all no_blank (u ++ (b ∷ r)) ≡ true → ⊥
blank_within [] b r sep h = separator_seen b sep (and_true (no_blank b) (list_all no_blank r) h).0
blank_within (x ∷ u) b r sep h = blank_within u b r sep (and_true (no_blank x) (list_all no_blank (u ++ (b ∷ r))) h).1

-- What is known of a word's bytes, for which no piece of these bytes, a blank and more stands.
record Closed (t : List ℕ) : Type 0 where
  hash : slice_index t 0 ≢ 35
  line : slice_index t 0 ≡ 47 → slice_index t 1 ≢ 47
  star : slice_index t 0 ≡ 47 → slice_index t 1 ≢ 42
  single : (es : List Element) → IsLiteral 39 t es → ⊥
  double : (es : List Element) → IsLiteral 34 t es → ⊥

none_longer : (u : List ℕ) (b : ℕ) (r : List ℕ) → 0 < length u → IsSeparator b → Closed (u ++ (b ∷ r)) → (start : Bool) (k : PieceKind) → IsPiece start k (u ++ (b ∷ r)) → ⊥
none_longer u b r some sep c start (piece.Token kind.Name) is =
    let h = is.0.each (length u) (omega (arith, length-append u (b ∷ r))) in
    omega (arith, low b sep, name_high (slice_index (u ++ (b ∷ r)) (length u)) h, index_behind u b r)
none_longer u b r some sep c start (piece.Token kind.Keyword) is =
    let h = (and_true (list_all no_blank (keyword_text is.0)) (nat_le 65 (slice_index (keyword_text is.0) 0)) (keyword_seen is.0)).0 in
    blank_within u b r sep (subst (λ z. list_all no_blank z ≡ true) (sym is.1) h)
none_longer u b r some sep c start (piece.Token kind.Number) is =
    let h = is.each (length u) some (omega (arith, length-append u (b ∷ r))) in
    omega (arith, low b sep, on_high (slice_index (u ++ (b ∷ r)) (length u - 1)) (slice_index (u ++ (b ∷ r)) (length u)) h, index_behind u b r)
none_longer u b r some sep c start (piece.Token kind.Character) is = c.single (is.1.0 ∷ []) is.1.1
none_longer u b r some sep c start (piece.Token kind.Text) is = c.double is.1.0 is.1.1
none_longer u b r some sep c start (piece.Token kind.Punctuator) is =
    let p = is.0 in
    let h = (and_true (list_all no_blank (punctuator_text p)) (no_quote (slice_index (punctuator_text p) 0)) (mark_seen p)).0 in
    blank_within u b r sep (subst (λ z. list_all no_blank z ≡ true) (sym is.1) h)
none_longer u b r some sep c start piece.Blank is = omega (arith, is.0, length-append u (b ∷ r), some)
none_longer u b r some sep c start piece.Comment (inl is) = c.line is.slash is.second
none_longer u b r some sep c start piece.Comment (inr is) = c.star is.slash is.star
none_longer u b r some sep c start piece.Marker is = c.hash is.1.hash
none_longer u b r some sep c start piece.OpenComment is = c.star is.slash is.star

-- a text that begins so is closed
closed_by : (t : List ℕ) → slice_index t 0 ≢ 35 → slice_index t 0 ≢ 47 → slice_index t 0 ≢ 39 → slice_index t 0 ≢ 34 → Closed t
closed_by t hash slash single double = record {
  hash = hash;
  line = λ e. absurd (slash e);
  star = λ e. absurd (slash e);
  single = λ es is. single is.begins;
  double = λ es is. double is.begins;
}

letters_closed : (t : List ℕ) → 47 < slice_index t 0 → Closed t
letters_closed t h = closed_by t (λ e. omega (arith, e, h)) (λ e. omega (arith, e, h)) (λ e. omega (arith, e, h)) (λ e. omega (arith, e, h))

single_closed : (c b : ℕ) (r : List ℕ) → c ≤ 255 → Closed (literal_text 39 (c ∷ []) ++ (b ∷ r))
single_closed c b r byte = record {
  hash = λ e. (let f : 39 ≡ 35 = e in omega (arith, f));
  line = λ e. absurd (let f : 39 ≡ 47 = e in omega (arith, f));
  star = λ e. absurd (let f : 39 ≡ 47 = e in omega (arith, f));
  single = λ es is. literal_ends 39 b (c ∷ []) r es (inl refl) (byte, tt) is;
  double = λ es is. (let f : 39 ≡ 34 = is.begins in omega (arith, f));
}

double_closed : (s : List ℕ) (b : ℕ) (r : List ℕ) → AreBytes s → Closed (literal_text 34 s ++ (b ∷ r))
double_closed s b r bytes = record {
  hash = λ e. (let f : 34 ≡ 35 = e in omega (arith, f));
  line = λ e. absurd (let f : 34 ≡ 47 = e in omega (arith, f));
  star = λ e. absurd (let f : 34 ≡ 47 = e in omega (arith, f));
  single = λ es is. (let f : 34 ≡ 39 = is.begins in omega (arith, f));
  double = λ es is. literal_ends 34 b s r es (inr refl) bytes is;
}

mark_some : (p : Punctuator) → 0 < length (punctuator_text p)
mark_some p = omega (arith, least_of 1 (length (punctuator_text p)) (some_byte p))

keyword_some : (k : Keyword) → 0 < length (keyword_text k)
keyword_some k = omega (arith, least_of 1 (length (keyword_text k)) (some_letter k))

keyword_high : (k : Keyword) → 47 < slice_index (keyword_text k) 0
keyword_high k =
    let h : nat_le 65 (slice_index (keyword_text k) 0) ≡ true = (and_true (list_all no_blank (keyword_text k)) (nat_le 65 (slice_index (keyword_text k) 0)) (keyword_seen k)).1 in
    omega (arith, least_of 65 (slice_index (keyword_text k) 0) h)

unseen : (b n : ℕ) → no_quote b ≡ true → no_quote n ≡ false → b ≢ n
unseen b n h f e = true≢false (sym h ∙ ap no_quote e ∙ f)

-- what stands behind a `/` is neither `/` nor `*`
abbrev NoComment : Punctuator → ℕ → List ℕ → Type 0
NoComment p b r = (slice_index (punctuator_text p ++ (b ∷ r)) 1 ≢ 47) × (slice_index (punctuator_text p ++ (b ∷ r)) 1 ≢ 42)

slash_comment : (b : ℕ) (r : List ℕ) → IsSeparator b → NoComment Slash b r
slash_comment b r sep = (λ e. (let f : b ≡ 47 = e in omega (arith, f, low b sep)), λ e. (let f : b ≡ 42 = e in omega (arith, f, low b sep)))

assign_comment : (b : ℕ) (r : List ℕ) → NoComment SlashAssign b r
assign_comment b r = (λ e. (let f : 61 ≡ 47 = e in omega (arith, f)), λ e. (let f : 61 ≡ 42 = e in omega (arith, f)))

comment_by : (p : Punctuator) (b : ℕ) (r : List ℕ) → IsSeparator b → slice_index (punctuator_text p ++ (b ∷ r)) 0 ≡ 47 → (p ≡ Slash) ⊎ ((p ≡ SlashAssign) ⊎ ((slice_index (punctuator_text p) 0 == 47) ≡ false)) → NoComment p b r
comment_by p b r sep e (inl is) = subst (λ z. NoComment z b r) (sym is) (slash_comment b r sep)
comment_by p b r sep e (inr (inl is)) = subst (λ z. NoComment z b r) (sym is) (assign_comment b r)
comment_by p b r sep e (inr (inr is)) =
    let first : slice_index (punctuator_text p) 0 ≡ 47 = sym (index_first (punctuator_text p) (b ∷ r) (mark_some p)) ∙ e in
    let f : (47 == 47) ≡ false = subst (λ z. (z == 47) ≡ false) first is in
    absurd (true≢false f)

mark_closed : (p : Punctuator) (b : ℕ) (r : List ℕ) → IsSeparator b → Closed (punctuator_text p ++ (b ∷ r))
mark_closed p b r sep =
    let first = index_first (punctuator_text p) (b ∷ r) (mark_some p) in
    let seen = (and_true (list_all no_blank (punctuator_text p)) (no_quote (slice_index (punctuator_text p) 0)) (mark_seen p)).1 in
    record {
      hash = λ e. unseen (slice_index (punctuator_text p) 0) 35 seen refl (sym first ∙ e);
      line = λ e. (comment_by p b r sep e (slash_led p)).0;
      star = λ e. (comment_by p b r sep e (slash_led p)).1;
      single = λ es is. unseen (slice_index (punctuator_text p) 0) 39 seen refl (sym first ∙ is.begins);
      double = λ es is. unseen (slice_index (punctuator_text p) 0) 34 seen refl (sym first ∙ is.begins);
    }

-- Words as tokens

abbrev kind_of : Word → TokenKind
kind_of (name n) = kind.Name
kind_of (keyword k) = kind.Keyword
kind_of (number n) = kind.Number
kind_of (character c) = kind.Character
kind_of (text s) = kind.Text
kind_of (mark m) = kind.Punctuator
kind_of unknown = kind.Name

-- what is known of a word's spelling
record Spelt (x : Word) : Type 0 where
  some : 0 < length (word_text x)
  is : (start : Bool) → IsPiece start (piece.Token (kind_of x)) (word_text x)
  accepted : IsAccepted (piece.Token (kind_of x)) (word_text x)
  known : IsWordOf (kind_of x) (word_text x) x
  closed : (b : ℕ) (r : List ℕ) → IsSeparator b → Closed (word_text x ++ (b ∷ r))

spelt : (x : Word) → IsFit x → Spelt x
spelt (name n) fit = record {
  some = fit.0.some;
  is = λ start. fit;
  accepted = tt;
  known = (refl, refl);
  closed = λ b r sep. letters_closed (n ++ (b ∷ r)) (omega (arith, start_high (slice_index n 0) fit.0.first, index_first n (b ∷ r) fit.0.some));
}
spelt (keyword k) fit = record {
  some = keyword_some k;
  is = λ start. (k, refl);
  accepted = tt;
  known = (refl, refl);
  closed = λ b r sep. letters_closed (keyword_text k ++ (b ∷ r)) (omega (arith, keyword_high k, index_first (keyword_text k) (b ∷ r) (keyword_some k)));
}
spelt (number n) fit =
    let bound = value_bound fit.0 n fit.1 in
    let small = value_small n bound in
    let run = number_run n small in
    record {
      some = run.some;
      is = λ start. run;
      accepted = (n, numeral_is n bound);
      known = (refl, numeral_is n bound);
      closed = λ b r sep. letters_closed ((decimal n.value ++ suffix_text n.number_type) ++ (b ∷ r)) (omega (arith, (first_digit n small (b ∷ r)).0));
    }
spelt (character c) fit =
    let one : IsCharacter (literal_text 39 (c ∷ [])) c = (element_of c, literal_is 39 (c ∷ []) (inl refl) (fit, tt), refl) in
    record {
      some = omega arith;
      is = λ start. (c, one);
      accepted = tt;
      known = (refl, one);
      closed = λ b r sep. single_closed c b r fit;
    }
spelt (text s) fit =
    let bytes = all_bytes s fit in
    let one : IsText (literal_text 34 s) s = (elements_of s, literal_is 34 s (inr refl) bytes, sym (values_are s)) in
    record {
      some = omega arith;
      is = λ start. (s, one);
      accepted = tt;
      known = (refl, one);
      closed = λ b r sep. double_closed s b r bytes;
    }
spelt (mark m) fit = record {
  some = mark_some m;
  is = λ start. (m, refl);
  accepted = tt;
  known = (refl, refl);
  closed = λ b r sep. mark_closed m b r sep;
}
spelt unknown fit = absurd fit

-- The pieces of a text

-- the first n bytes, where the word's bytes are fewer
take_past : (u : List ℕ) (b : ℕ) (r : List ℕ) (n : ℕ) → length u < n → take n (u ++ (b ∷ r)) ≡ u ++ (b ∷ take (n - suc (length u)) r)
take_past [] b r zero more = absurd (omega (arith, more))
take_past [] b r (suc n) more = ap (λ k. b ∷ take k r) (let f : n ≡ suc n - suc zero = omega arith in f)
take_past (x ∷ u) b r zero more = absurd (omega (arith, more))
take_past (x ∷ u) b r (suc n) more = ap (λ z. x ∷ z) (take_past u b r n (omega (arith, more)) ∙ ap (λ k. u ++ (b ∷ take k r)) (let f : n - suc (length u) ≡ suc n - suc (suc (length u)) = omega arith in f))

abbrev token_piece : Word → Piece
token_piece x = record { kind = piece.Token (kind_of x); length = length (word_text x) }

abbrev blank_piece : Piece
blank_piece = record { kind = piece.Blank; length = 1 }

next_word : (x : Word) → IsFit x → (b : ℕ) → IsSeparator b → (r : List ℕ) (start : Bool) → IsNext start (word_text x ++ (b ∷ r)) (token_piece x)
next_word x fit b sep r start =
    let s = spelt x fit in
    let u = word_text x in
    let front = sym (take_front u (b ∷ r)) in (
      record {
        within = omega (arith, length-append u (b ∷ r));
        is = subst (λ z. IsPiece start (piece.Token (kind_of x)) z) front (s.is start);
        longest = λ k n within is. longest_by s k n is (cases_lt (length u) n);
      },
      subst (λ z. IsAccepted (piece.Token (kind_of x)) z) front s.accepted,
    )
  where
    longest_by : Spelt x → (k : PieceKind) (n : ℕ) → IsPiece start k (take n (word_text x ++ (b ∷ r))) → (length (word_text x) < n) ⊎ (n ≤ length (word_text x)) → n ≤ length (word_text x)
    longest_by s k n is (inr le) = le
    longest_by s k n is (inl lt) =
        absurd (none_longer (word_text x) b (take (n - suc (length (word_text x))) r) s.some sep (s.closed b (take (n - suc (length (word_text x))) r) sep) start k (subst (λ z. IsPiece start k z) (take_past (word_text x) b r n lt) is))

is_blank : (b : ℕ) → IsSeparator b → IsBlank b
is_blank b (inl e) = inl e
is_blank b (inr e) = inr (omega (arith, e), omega (arith, e))

-- nothing but the blank itself begins with it
only_blank : (b : ℕ) (r : List ℕ) → IsSeparator b → (start : Bool) (k : PieceKind) → IsPiece start k (b ∷ r) → length (b ∷ r) ≡ 1
only_blank b r sep start (piece.Token kind.Name) is = absurd (omega (arith, low b sep, start_high b is.0.first))
only_blank b r sep start (piece.Token kind.Keyword) is =
    let h = (and_true (list_all no_blank (keyword_text is.0)) (nat_le 65 (slice_index (keyword_text is.0) 0)) (keyword_seen is.0)).0 in
    absurd (blank_within [] b r sep (subst (λ z. list_all no_blank z ≡ true) (sym is.1) h))
only_blank b r sep start (piece.Token kind.Number) is = absurd (omega (arith, low b sep, begins_high (b ∷ r) is.begins))
only_blank b r sep start (piece.Token kind.Character) is = absurd (let f : b ≡ 39 = is.1.1.begins in omega (arith, f, low b sep))
only_blank b r sep start (piece.Token kind.Text) is = absurd (let f : b ≡ 34 = is.1.1.begins in omega (arith, f, low b sep))
only_blank b r sep start (piece.Token kind.Punctuator) is =
    let p = is.0 in
    let h = (and_true (list_all no_blank (punctuator_text p)) (no_quote (slice_index (punctuator_text p) 0)) (mark_seen p)).0 in
    absurd (blank_within [] b r sep (subst (λ z. list_all no_blank z ≡ true) (sym is.1) h))
only_blank b r sep start piece.Blank is = is.0
only_blank b r sep start piece.Comment (inl is) = absurd (let f : b ≡ 47 = is.slash in omega (arith, f, low b sep))
only_blank b r sep start piece.Comment (inr is) = absurd (let f : b ≡ 47 = is.slash in omega (arith, f, low b sep))
only_blank b r sep start piece.Marker is = absurd (let f : b ≡ 35 = is.1.hash in omega (arith, f, low b sep))
only_blank b r sep start piece.OpenComment is = absurd (let f : b ≡ 47 = is.slash in omega (arith, f, low b sep))

next_blank : (b : ℕ) → IsSeparator b → (r : List ℕ) (start : Bool) → IsNext start (b ∷ r) blank_piece
next_blank b sep r start = (
  record {
    within = omega arith;
    is = (refl, is_blank b sep);
    longest = λ k n within is. longest_by k n is within;
  },
  tt,
)
  where
    longest_by : (k : PieceKind) (n : ℕ) → IsPiece start k (take n (b ∷ r)) → n ≤ length (b ∷ r) → n ≤ 1
    longest_by k zero is within = omega arith
    longest_by k (suc n) is within =
        let one = only_blank b (take n r) sep start k is in
        omega (arith, one, length-take-le n r (omega (arith, within)))

abbrev pieces_of : List Word → List Piece
pieces_of [] = blank_piece ∷ []
pieces_of (x ∷ []) = token_piece x ∷ blank_piece ∷ []
pieces_of (x ∷ y ∷ xs) = token_piece x ∷ blank_piece ∷ pieces_of (y ∷ xs)

behind : (source : List ℕ) (at : ℕ) (u v : List ℕ) → drop at source ≡ u ++ v → drop (at + length u) source ≡ v
behind source at u v e = sym (drop-drop (length u) at source) ∙ ap (λ z. drop (length u) z) e ∙ drop_front u v

-- where the last byte of a text stands
last_place : (source : List ℕ) (at b : ℕ) → drop at source ≡ b ∷ [] → at + 1 ≡ length source
last_place source at b e = let h : length (drop at source) ≡ 1 = ap length e in omega (arith, h, length-drop at source)

cut_into : (words : List Word) → AreFit words → (source : List ℕ) (at : ℕ) → drop at source ≡ text_of words → IsCut source at (pieces_of words) (length source)
cut_into [] fit source at e =
    (subst (λ z. IsNext (starts_line source at) z blank_piece) (sym e) (next_blank 10 (inr refl) [] (starts_line source at)), last_place source at 10 e)
cut_into (x ∷ []) fit source at e =
    let u = word_text x in
    let f = behind source at u (10 ∷ []) e in (
      subst (λ z. IsNext (starts_line source at) z (token_piece x)) (sym e) (next_word x fit.0 10 (inr refl) [] (starts_line source at)),
      (subst (λ z. IsNext (starts_line source (at + length u)) z blank_piece) (sym f) (next_blank 10 (inr refl) [] (starts_line source (at + length u))), last_place source (at + length u) 10 f),
    )
cut_into (x ∷ y ∷ xs) fit source at e =
    let u = word_text x in
    let r = text_of (y ∷ xs) in
    let f = behind source at u (32 ∷ r) e in
    let g = behind source (at + length u) (32 ∷ []) r f in (
      subst (λ z. IsNext (starts_line source at) z (token_piece x)) (sym e) (next_word x fit.0 32 (inl refl) r (starts_line source at)),
      (subst (λ z. IsNext (starts_line source (at + length u)) z blank_piece) (sym f) (next_blank 32 (inl refl) r (starts_line source (at + length u))), cut_into (y ∷ xs) fit.1 source (at + length u + 1) g),
    )

word_range : (source : List ℕ) (at : ℕ) (u v : List ℕ) → drop at source ≡ u ++ v → slice_range source at (at + length u) ≡ u
word_range source at u v e = ap (λ k. take k (drop at source)) (let f : (at + length u) - at ≡ length u = omega arith in f) ∙ ap (λ z. take (length u) z) e ∙ take_front u v

word_there : (x : Word) → IsFit x → (source : List ℕ) (at : ℕ) (v : List ℕ) → drop at source ≡ word_text x ++ v → IsWordOf (kind_of x) (slice_range source at (at + length (word_text x))) x
word_there x fit source at v e = subst (λ z. IsWordOf (kind_of x) z x) (sym (word_range source at (word_text x) v e)) (spelt x fit).known

have_words : (words : List Word) → AreFit words → (source : List ℕ) (at : ℕ) → drop at source ≡ text_of words → HaveWords source (tokens_of source at (pieces_of words)) words
have_words [] fit source at e = tt
have_words (x ∷ []) fit source at e = (word_there x fit.0 source at (10 ∷ []) e, tt)
have_words (x ∷ y ∷ xs) fit source at e =
    let u = word_text x in
    let r = text_of (y ∷ xs) in
    let f = behind source at u (32 ∷ r) e in
    (word_there x fit.0 source at (32 ∷ r) e, have_words (y ∷ xs) fit.1 source (at + length u + 1) (behind source (at + length u) (32 ∷ []) r f))

pub read_as : (words : List Word) → AreFit words → IsReadAs (text_of words) words
read_as words fit =
    let source = text_of words in
    record { tokens = tokens_of source 0 (pieces_of words); lexes = (pieces_of words, cut_into words fit source 0 refl, refl); have = have_words words fit source 0 refl }
