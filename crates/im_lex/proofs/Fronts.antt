-- What stands at the front of a text, by how far its bytes run.
use Rattle.std.proofs.Common.{◌≡◌, ◌≢◌, ℕ, zero, suc, ◌+◌, ◌-◌, ◌<◌, ◌≤◌, ◌⊎◌, inl, inr, List, Bool, true, false, IsTrue, length, take, refl, sym, ap, subst, ◌∙◌, arith}
use Rattle.std.specs.Prelude.{slice_index, Option, Some, None, MatchOption, is_some}
use Rattle.std.proofs.lemmas.Bool.{cases_lt}
use Rattle.std.proofs.lemmas.List.{get_or-take, length-take-le, get_or_past}
use Rattle.im_tok.specs.Keywords.{keyword_text}
use Rattle.im_tok.specs.Punctuators.{punctuator_text}
use Rattle.im_tok.specs.Numbers.{IsNumeral}
use Rattle.im_tok.specs.declared.keyword.Keyword.{Keyword}
use Rattle.im_tok.specs.declared.punctuator.Punctuator.{Punctuator}
use Rattle.im_tok.specs.declared.number.Number.{Number}
use Rattle.im_tok.specs.declared.token.TokenKind.TheVariants.{Name as NameToken, Keyword as KeywordToken, Number as NumberToken, Punctuator as PunctuatorToken}
use Rattle.im_lex.specs.declared.piece.PieceKind.{PieceKind}
use Rattle.im_lex.specs.declared.piece.PieceKind.TheVariants.{Token, Blank as BlankPiece, Comment as CommentPiece, Marker, OpenComment}
use Rattle.im_lex.specs.declared.piece.Piece.{Piece}
use Rattle.im_lex.specs.declared.opening.Opening.TheVariants.{Character, Text, Hash, Comment, Other}
use Rattle.im_lex.specs.Bytes.{IsDigit, IsNameStart, IsNameByte, IsBlank, GoesOn}
use Rattle.im_lex.specs.Runs.{IsRun, IsNumberEnd, IsCommentEnd}
use Rattle.im_lex.specs.Pieces.{IsPiece, IsLongest, IsNext, HasNone, BeginsNumber, IsLineComment, IsBlockComment, IsOpenComment, BeginsMarker, IsOneLine, ClosesAt}
use Rattle.im_lex.proofs.OpeningFacts.{opening, code, piece_opening, other_alone, name_opening, blank_opening, number_opening, byte_opening, two_bytes_opening}
use Rattle.im_lex.proofs.PieceFacts.{one_longest, opening_at, longest_from, if_blank, if_name, if_number, if_hash, if_comment, if_other}
use Rattle.im_lex.proofs.Readings.{piece_some}
use Rattle.im_lex.proofs.Spellings.{punctuator_length}

-- a byte of the front
at : (n : ℕ) (text : List ℕ) (i : ℕ) → i < n → slice_index (take n text) i ≡ slice_index text i
at n text i h = get_or-take n text i 0 h

-- a byte that isn't 0 stands in the text
pub stands : (text : List ℕ) (i : ℕ) → 0 < slice_index text i → i < length text
stands text i h = by_order (cases_lt i (length text))
  where
    by_order : (i < length text) ⊎ (length text ≤ i) → i < length text
    by_order (inl lt) = lt
    by_order (inr ge) = absurd (omega (arith, get_or_past text i 0 ge))

name_start_some : (b : ℕ) → IsNameStart b → 0 < b
name_start_some b (inl h) = omega arith
name_start_some b (inr (inl h)) = omega arith
name_start_some b (inr (inr h)) = omega arith

-- a piece's longest, where each kind that opens so is bounded
pub longest_by : (start : Bool) (text : List ℕ) (n : ℕ) → 1 ≤ n → ((k : PieceKind) (m : ℕ) → 2 ≤ m → m ≤ length text → IsPiece start k (take m text) → code k ≡ opening text → m ≤ n) → (k : PieceKind) (m : ℕ) → m ≤ length text → IsPiece start k (take m text) → m ≤ n
longest_by start text n some h k m within is = longest_from m n some (λ two. h k m two within is (opening_at start k m text two is))

-- names

pub name_run_some : (text : List ℕ) (n : ℕ) → IsNameStart (slice_index text 0) → IsRun IsNameByte text n → 1 ≤ n
name_run_some text zero first run = absurd (run.stops (stands text 0 (name_start_some (slice_index text 0) first)) (inl first))
name_run_some text (suc n) first run = omega arith

name_longest : (start : Bool) (text : List ℕ) (n : ℕ) → IsNameStart (slice_index text 0) → IsRun IsNameByte text n → (k : PieceKind) (m : ℕ) → m ≤ length text → IsPiece start k (take m text) → m ≤ n
name_longest start text n first run = longest_by start text n (name_run_some text n first run) (λ k m two within is e. by_order k m within is e (cases_lt n m))
  where
    by_order : (k : PieceKind) (m : ℕ) → m ≤ length text → IsPiece start k (take m text) → code k ≡ opening text → (n < m) ⊎ (m ≤ n) → m ≤ n
    by_order k m within is e (inr le) = le
    by_order k m within is e (inl lt) =
        let h = if_name start k (take m text) is (e ∙ name_opening (slice_index text 0) (slice_index text 1) first) n (omega (arith, length-take-le m text within)) in
        let P : ℕ → Type 0 = λ b. IsNameByte b in
        absurd (run.stops (omega arith) (subst P (at m text n lt) h))

pub next_name : (text : List ℕ) (n : ℕ) → IsNameStart (slice_index text 0) → IsRun IsNameByte text n → ((k : Keyword) → take n text ≢ keyword_text k) → (start : Bool) → IsNext start text (record { kind = Token NameToken; length = n })
next_name text n first run none start =
    let some = name_run_some text n first run in
    let P : ℕ → Type 0 = λ b. IsNameStart b in
    let Q : ℕ → Type 0 = λ b. IsNameByte b in (
      record {
        within = run.within;
        is = (
          record {
            some = omega (arith, length-take-le n text run.within);
            first = subst P (sym (at n text 0 (omega arith))) first;
            each = λ i h. (let lt : i < n = omega (arith, length-take-le n text run.within) in subst Q (sym (at n text i lt)) (run.each i lt));
          },
          none,
        );
        longest = name_longest start text n first run;
      },
      tt,
    )

pub next_keyword : (text : List ℕ) (n : ℕ) → IsNameStart (slice_index text 0) → IsRun IsNameByte text n → (k : Keyword) → take n text ≡ keyword_text k → (start : Bool) → IsNext start text (record { kind = Token KeywordToken; length = n })
next_keyword text n first run k e start = (record { within = run.within; is = (k, e); longest = name_longest start text n first run }, tt)

-- numbers

number_longest : (start : Bool) (text : List ℕ) (n : ℕ) → BeginsNumber text → IsNumberEnd text n → (k : PieceKind) (m : ℕ) → m ≤ length text → IsPiece start k (take m text) → m ≤ n
number_longest start text n begins run = longest_by start text n (omega (arith, run.some)) (λ k m two within is e. by_order k m within is e (cases_lt n m))
  where
    by_order : (k : PieceKind) (m : ℕ) → m ≤ length text → IsPiece start k (take m text) → code k ≡ opening text → (n < m) ⊎ (m ≤ n) → m ≤ n
    by_order k m within is e (inr le) = le
    by_order k m within is e (inl lt) =
        let h = (if_number start k (take m text) is (e ∙ number_opening text begins)).each n run.some (omega (arith, length-take-le m text within)) in
        let P : ℕ → Type 0 = λ b. GoesOn b (slice_index (take m text) n) in
        let Q : ℕ → Type 0 = λ b. GoesOn (slice_index text (n - 1)) b in
        absurd (run.stops (omega arith) (subst Q (at m text n lt) (subst P (at m text (n - 1) (omega (arith, run.some))) h)))

begins_front : (text : List ℕ) (n : ℕ) → BeginsNumber text → IsNumberEnd text n → BeginsNumber (take n text)
begins_front text n (inl h) run = let P : ℕ → Type 0 = λ b. IsDigit b in inl (subst P (sym (at n text 0 run.some)) h)
begins_front text n (inr h) run = by_order (cases_lt 1 n)
  where
    by_order : (1 < n) ⊎ (n ≤ 1) → BeginsNumber (take n text)
    by_order (inl lt) = let P : ℕ → Type 0 = λ b. IsDigit b in inr (at n text 0 run.some ∙ h.0, subst P (sym (at n text 1 lt)) h.1)
    by_order (inr le) =
        let one : 1 ≡ n = omega (arith, run.some) in
        let P : ℕ → Type 0 = λ k. GoesOn (slice_index text (k - 1)) (slice_index text k) in
        absurd (run.stops (omega (arith, stands text 1 (omega (arith, h.1)))) (subst P one (inl (inr h.1))))

number_run : (start : Bool) (text : List ℕ) (n : ℕ) → BeginsNumber text → IsNumberEnd text n → IsLongest start text (record { kind = Token NumberToken; length = n })
number_run start text n begins run =
    let P : ℕ → Type 0 = λ b. GoesOn b (slice_index text 0) in
    record {
      within = run.within;
      is = record {
        some = omega (arith, length-take-le n text run.within, run.some);
        begins = begins_front text n begins run;
        each = λ i pos h.
            let lt : i < n = omega (arith, length-take-le n text run.within) in
            let P : ℕ → Type 0 = λ b. GoesOn b (slice_index (take n text) i) in
            let Q : ℕ → Type 0 = λ b. GoesOn (slice_index text (i - 1)) b in
            subst P (sym (at n text (i - 1) (omega arith))) (subst Q (sym (at n text i lt)) (run.each i pos lt));
      };
      longest = number_longest start text n begins run;
    }

pub next_number : (text : List ℕ) (n : ℕ) → BeginsNumber text → IsNumberEnd text n → (number : Number) → IsNumeral (take n text) number → (start : Bool) → IsNext start text (record { kind = Token NumberToken; length = n })
next_number text n begins run number is start = (number_run start text n begins run, (number, is))

pub no_number : (text : List ℕ) (n : ℕ) → BeginsNumber text → IsNumberEnd text n → ((number : Number) → IsNumeral (take n text) number → ⊥) → (start : Bool) → HasNone start text
no_number text n begins run none start piece is =
    let P : Piece → Type 0 = λ p. IsNext start text p in
    let h : IsNext start text (record { kind = Token NumberToken; length = n }) = subst P (one_longest start text piece (record { kind = Token NumberToken; length = n }) is.0 (number_run start text n begins run)) is in
    none h.1.0 h.1.1

-- what opens otherwise is no piece
pub piece_within : (start : Bool) (text : List ℕ) (p : Piece) → IsNext start text p → (0 < p.length) × (p.length ≤ length text)
piece_within start text p is = (omega (arith, piece_some start p.kind (take p.length text) is.0.is, length-take-le p.length text is.0.within), is.0.within)

-- white space

pub next_blank : (text : List ℕ) → 0 < length text → IsBlank (slice_index text 0) → (start : Bool) → IsNext start text (record { kind = BlankPiece; length = 1 })
next_blank text some is start =
    let P : ℕ → Type 0 = λ b. IsBlank b in (
      record {
        within = omega arith;
        is = (length-take-le 1 text (omega arith), subst P (sym (at 1 text 0 (omega arith))) is);
        longest = longest_by start text 1 (omega arith) (λ k m two within p e.
            let one = if_blank start k (take m text) p (e ∙ blank_opening (slice_index text 0) (slice_index text 1) is) in
            omega (arith, length-take-le m text within));
      },
      tt,
    )

-- lines

-- a place with no LF up to it stands before the line's end
line_past : (text : List ℕ) (n i : ℕ) → IsRun (λ b. b ≢ 10) text n → i < length text → ((j : ℕ) → j ≤ i → slice_index text j ≢ 10) → i < n
line_past text n i run within none = by_order (cases_lt i n)
  where
    by_order : (i < n) ⊎ (n ≤ i) → i < n
    by_order (inl lt) = lt
    by_order (inr ge) = absurd (run.stops (omega arith) (none n ge))

line_front : (text : List ℕ) (n : ℕ) → IsRun (λ b. b ≢ 10) text n → IsOneLine (take n text)
line_front text n run i h e =
    let lt : i < n = omega (arith, length-take-le n text run.within) in
    run.each i lt (sym (at n text i lt) ∙ e)

line_bound : (text : List ℕ) (n m : ℕ) → IsRun (λ b. b ≢ 10) text n → m ≤ length text → IsOneLine (take m text) → m ≤ n
line_bound text n m run within line = by_order (cases_lt n m)
  where
    by_order : (n < m) ⊎ (m ≤ n) → m ≤ n
    by_order (inr le) = le
    by_order (inl lt) = absurd (run.stops (omega arith) (λ e. line n (omega (arith, length-take-le m text within)) (at m text n lt ∙ e)))

-- comments

two_first : (text : List ℕ) (b c : ℕ) → b ≢ 10 → c ≢ 10 → slice_index text 0 ≡ b → slice_index text 1 ≡ c → (j : ℕ) → j ≤ 1 → slice_index text j ≢ 10
two_first text b c nb nc e f zero h g = nb (sym e ∙ g)
two_first text b c nb nc e f (suc zero) h g = nc (sym f ∙ g)
two_first text b c nb nc e f (suc (suc j)) h g = absurd (omega arith)

pub next_line_comment : (text : List ℕ) (n : ℕ) → slice_index text 0 ≡ 47 → slice_index text 1 ≡ 47 → IsRun (λ b. b ≢ 10) text n → (start : Bool) → IsNext start text (record { kind = CommentPiece; length = n })
next_line_comment text n slash second run start =
    let two : 1 < n = line_past text n 1 run (stands text 1 (omega (arith, second))) (two_first text 47 47 (λ e. omega arith) (λ e. omega arith) slash second) in (
      record {
        within = run.within;
        is = inl (record { slash = at n text 0 (omega arith) ∙ slash; second = at n text 1 two ∙ second; line = line_front text n run });
        longest = longest_by start text n (omega arith) (λ k m more within p e. bound m more within (if_comment start k (take m text) p (e ∙ two_bytes_opening text 47 47 Comment slash second refl)));
      },
      tt,
    )
  where
    bound : (m : ℕ) → 2 ≤ m → m ≤ length text → (IsLineComment (take m text) ⊎ IsBlockComment (take m text)) ⊎ IsOpenComment (take m text) → m ≤ n
    bound m more within (inl (inl h)) = line_bound text n m run within h.line
    bound m more within (inl (inr h)) = absurd (omega (arith, second, h.star, at m text 1 (omega arith)))
    bound m more within (inr h) = absurd (omega (arith, second, h.star, at m text 1 (omega arith)))

closes_front : (text : List ℕ) (m i : ℕ) → i + 2 ≤ m → ClosesAt text i → ClosesAt (take m text) i
closes_front text m i h c = (at m text i (omega arith) ∙ c.0, at m text (i + 1) (omega arith) ∙ c.1)

closes_whole : (text : List ℕ) (m i : ℕ) → i + 2 ≤ m → ClosesAt (take m text) i → ClosesAt text i
closes_whole text m i h c = (sym (at m text i (omega arith)) ∙ c.0, sym (at m text (i + 1) (omega arith)) ∙ c.1)

pub next_block_comment : (text : List ℕ) (n : ℕ) → slice_index text 0 ≡ 47 → slice_index text 1 ≡ 42 → IsCommentEnd text n → (start : Bool) → IsNext start text (record { kind = CommentPiece; length = n })
next_block_comment text n slash star end start =
    let size = length-take-le n text end.within in
    let P : ℕ → Type 0 = λ k. ClosesAt (take n text) (k - 2) in (
      record {
        within = end.within;
        is = inr (record {
          slash = at n text 0 (omega (arith, end.some)) ∙ slash;
          star = at n text 1 (omega (arith, end.some)) ∙ star;
          some = omega (arith, size, end.some);
          closed = subst P (sym size) (closes_front text n (n - 2) (omega (arith, end.some)) end.closed);
          first = λ i two h c. end.first i two (omega (arith, size)) (closes_whole text n i (omega (arith, size)) c);
        });
        longest = longest_by start text n (omega (arith, end.some)) (λ k m more within p e. bound m more within (cases_lt n m) (if_comment start k (take m text) p (e ∙ two_bytes_opening text 47 42 Comment slash star refl)));
      },
      tt,
    )
  where
    bound : (m : ℕ) → 2 ≤ m → m ≤ length text → (n < m) ⊎ (m ≤ n) → (IsLineComment (take m text) ⊎ IsBlockComment (take m text)) ⊎ IsOpenComment (take m text) → m ≤ n
    bound m more within (inr le) h = le
    bound m more within (inl lt) (inl (inl h)) = absurd (omega (arith, star, h.second, at m text 1 (omega arith)))
    bound m more within (inl lt) (inl (inr h)) = absurd (h.first (n - 2) (omega (arith, end.some)) (omega (arith, end.some, length-take-le m text within)) (closes_front text m (n - 2) (omega (arith, end.some)) end.closed))
    bound m more within (inl lt) (inr h) = absurd (h.none (n - 2) (omega (arith, end.some)) (omega (arith, end.some, length-take-le m text within)) (closes_front text m (n - 2) (omega (arith, end.some)) end.closed))

open_comment : (start : Bool) (text : List ℕ) → slice_index text 0 ≡ 47 → slice_index text 1 ≡ 42 → ((i : ℕ) → 2 ≤ i → i + 2 ≤ length text → ClosesAt text i → ⊥) → IsLongest start text (record { kind = OpenComment; length = length text })
open_comment start text slash star none =
    let two : 1 < length text = stands text 1 (omega (arith, star)) in
    record {
      within = omega arith;
      is = record {
        slash = at (length text) text 0 (omega arith) ∙ slash;
        star = at (length text) text 1 two ∙ star;
        none = λ i h g c.
            let le : i + 2 ≤ length text = omega (arith, length-take-le (length text) text (omega arith)) in
            none i h le (closes_whole text (length text) i le c);
      };
      longest = λ k m within is. within;
    }

pub no_comment : (text : List ℕ) → slice_index text 0 ≡ 47 → slice_index text 1 ≡ 42 → ((i : ℕ) → 2 ≤ i → i + 2 ≤ length text → ClosesAt text i → ⊥) → (start : Bool) → HasNone start text
no_comment text slash star none start piece is =
    let P : Piece → Type 0 = λ p. IsNext start text p in
    let h : IsNext start text (record { kind = OpenComment; length = length text }) = subst P (one_longest start text piece (record { kind = OpenComment; length = length text }) is.0 (open_comment start text slash star none)) is in
    h.1

-- line markers

gap_line : (b : ℕ) → (b ≡ 32) ⊎ (b ≡ 9) → b ≢ 10
gap_line b (inl e) f = absurd (omega arith)
gap_line b (inr e) f = absurd (omega arith)

marker_line : (text : List ℕ) (h : BeginsMarker text) (j : ℕ) → j ≤ h.place → slice_index text j ≢ 10
marker_line text h zero le e = absurd (omega (arith, h.hash))
marker_line text h (suc j) le e = by_order (cases_lt (suc j) h.place)
  where
    by_order : (suc j < h.place) ⊎ (h.place ≤ suc j) → ⊥
    by_order (inl lt) = gap_line (slice_index text (suc j)) (h.gaps (suc j) (omega arith) lt) e
    by_order (inr ge) =
        let same : h.place ≡ suc j = omega arith in
        let P : ℕ → Type 0 = λ k. IsDigit (slice_index text k) in
        let d = subst P same h.digit in
        absurd (omega (arith, d.0, d.1))

marker_front : (text : List ℕ) (n : ℕ) (h : BeginsMarker text) → h.place < n → BeginsMarker (take n text)
marker_front text n h lt =
    let P : ℕ → Type 0 = λ b. (b ≡ 32) ⊎ (b ≡ 9) in
    let Q : ℕ → Type 0 = λ b. IsDigit b in
    record {
      hash = at n text 0 (omega (arith, h.behind)) ∙ h.hash;
      place = h.place;
      behind = h.behind;
      gaps = λ i pos below. subst P (sym (at n text i (omega arith))) (h.gaps i pos below);
      digit = subst Q (sym (at n text h.place lt)) h.digit;
    }

marker_whole : (text : List ℕ) (n : ℕ) → n ≤ length text → BeginsMarker (take n text) → BeginsMarker text
marker_whole text n within h =
    let lt : h.place < n = omega (arith, stands (take n text) h.place (omega (arith, h.digit.0)), length-take-le n text within) in
    let P : ℕ → Type 0 = λ b. (b ≡ 32) ⊎ (b ≡ 9) in
    let Q : ℕ → Type 0 = λ b. IsDigit b in
    record {
      hash = sym (at n text 0 (omega (arith, h.behind))) ∙ h.hash;
      place = h.place;
      behind = h.behind;
      gaps = λ i pos below. subst P (at n text i (omega arith)) (h.gaps i pos below);
      digit = subst Q (at n text h.place lt) h.digit;
    }

pub next_marker : (start : Bool) (text : List ℕ) (n : ℕ) → IsTrue start → BeginsMarker text → IsRun (λ b. b ≢ 10) text n → IsNext start text (record { kind = Marker; length = n })
next_marker start text n starts h run =
    let lt : h.place < n = line_past text n h.place run (stands text h.place (omega (arith, h.digit.0))) (marker_line text h) in (
      record {
        within = run.within;
        is = (starts, marker_front text n h lt, line_front text n run);
        longest = longest_by start text n (omega (arith, h.behind)) (λ k m more within p e. line_bound text n m run within (if_hash start k (take m text) p (e ∙ byte_opening text 35 Hash h.hash refl)).2);
      },
      tt,
    )

pub no_marker : (start : Bool) (text : List ℕ) → slice_index text 0 ≡ 35 → (IsTrue start → BeginsMarker text → ⊥) → HasNone start text
no_marker start text hash none p is =
    let size = piece_within start text p is in
    let opens = byte_opening (take p.length text) 35 Hash (at p.length text 0 size.0 ∙ hash) refl in
    let h = if_hash start p.kind (take p.length text) is.0.is (sym (piece_opening start p.kind (take p.length text) is.0.is) ∙ opens) in
    none h.0 (marker_whole text p.length size.1 h.1)

-- punctuators

pub next_punctuator : (text : List ℕ) (n : ℕ) → opening text ≡ Other → n ≤ length text → (p : Punctuator) → take n text ≡ punctuator_text p → ((m : ℕ) → n < m → m ≤ 3 → m ≤ length text → (q : Punctuator) → take m text ≢ punctuator_text q) → (start : Bool) → IsNext start text (record { kind = Token PunctuatorToken; length = n })
next_punctuator text n opens within p e none start =
    let size : length (take n text) ≡ length (punctuator_text p) = ap length e in (
      record {
        within = within;
        is = (p, e);
        longest = longest_by start text n (omega (arith, size, length-take-le n text within, punctuator_length p)) (λ k m more inside is f. bound m inside (cases_lt n m) (if_other start k (take m text) is (f ∙ opens)));
      },
      tt,
    )
  where
    bound : (m : ℕ) → m ≤ length text → (n < m) ⊎ (m ≤ n) → (q : Punctuator) × (take m text ≡ punctuator_text q) → m ≤ n
    bound m inside (inr le) h = le
    bound m inside (inl lt) h =
        let size : length (take m text) ≡ length (punctuator_text h.0) = ap length h.1 in
        absurd (none m lt (omega (arith, size, length-take-le m text inside, punctuator_length h.0)) inside h.0 h.1)

pub no_punctuator : (text : List ℕ) → opening text ≡ Other → ((m : ℕ) → 0 < m → m ≤ 3 → m ≤ length text → (q : Punctuator) → take m text ≢ punctuator_text q) → (start : Bool) → HasNone start text
no_punctuator text opens none start p is =
    let size = piece_within start text p is in
    let h = if_other start p.kind (take p.length text) is.0.is (by_order (cases_lt p.length 2)) in
    let same : length (take p.length text) ≡ length (punctuator_text h.0) = ap length h.1 in
    none p.length size.0 (omega (arith, same, length-take-le p.length text size.1, punctuator_length h.0)) size.1 h.0 h.1
  where
    by_order : (p.length < 2) ⊎ (2 ≤ p.length) → code p.kind ≡ Other
    by_order (inl lt) =
        let size = piece_within start text p is in
        let first = at p.length text 0 size.0 in
        let second : slice_index (take p.length text) 1 ≡ 0 = get_or_past (take p.length text) 1 0 (omega (arith, length-take-le p.length text size.1)) in
        sym (piece_opening start p.kind (take p.length text) is.0.is) ∙ two_bytes_opening (take p.length text) (slice_index text 0) 0 Other first second (other_alone (slice_index text 0) (slice_index text 1) opens)
    by_order (inr ge) = opening_at start p.kind p.length text ge is.0.is ∙ opens

pub bad_byte : (text : List ℕ) → opening text ≡ Other → (slice_index text 0 ≢ 35) × (slice_index text 0 ≢ 39) × (slice_index text 0 ≢ 34) × (BeginsNumber text → ⊥) × (slice_index text 0 ≡ 47 → slice_index text 1 ≢ 42)
bad_byte text opens = (
  λ e. (let f = sym opens ∙ byte_opening text 35 Hash e refl in absurd (cc)),
  λ e. (let f = sym opens ∙ byte_opening text 39 Character e refl in absurd (cc)),
  λ e. (let f = sym opens ∙ byte_opening text 34 Text e refl in absurd (cc)),
  λ h. (let f = sym opens ∙ number_opening text h in absurd (cc)),
  λ e g. (let f = sym opens ∙ two_bytes_opening text 47 42 Comment e g refl in absurd (cc)),
)

pub star_second : (text : List ℕ) → (slice_index text 1 ≡ 42) ⊎ (slice_index text 1 ≡ 47) → slice_index text 1 ≢ 47 → slice_index text 1 ≡ 42
star_second text (inl e) differs = e
star_second text (inr e) differs = absurd (differs e)

pub some_of : (o : Option Punctuator) (A : Type 0) (B : Punctuator → Type 0) → MatchOption o A B → is_some o ≡ true → (p : Punctuator) × B p
some_of None A B h e = absurd (cc)
some_of (Some p) A B h e = (p, h)

pub none_of : (o : Option Punctuator) (A : Type 0) (B : Punctuator → Type 0) → MatchOption o A B → is_some o ≡ false → A
none_of None A B h e = h
none_of (Some p) A B h e = absurd (cc)

pub also_shorter : (text : List ℕ) (n : ℕ) → n < 3 → ((m : ℕ) → 3 - n < m → m ≤ 3 → m ≤ length text → (q : Punctuator) → take m text ≢ punctuator_text q) → (3 - n ≤ length text → (q : Punctuator) → take (3 - n) text ≢ punctuator_text q) → (m : ℕ) → 3 - (n + 1) < m → m ≤ 3 → m ≤ length text → (q : Punctuator) → take m text ≢ punctuator_text q
also_shorter text n few longer here m gt le within q = by_order (cases_lt (3 - n) m)
  where
    by_order : (3 - n < m) ⊎ (m ≤ 3 - n) → take m text ≢ punctuator_text q
    by_order (inl lt) = longer m lt le within q
    by_order (inr ge) =
        let same : 3 - n ≡ m = omega arith in
        let P : ℕ → Type 0 = λ k. k ≤ length text → take k text ≢ punctuator_text q in
        subst P same (λ inside. here inside q) within

pub is_true : (b : Bool) → b ≡ true → IsTrue b
is_true b e = e
