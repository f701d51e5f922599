-- The first two bytes of a piece tell its kind.
use Rattle.std.proofs.Common.{◌≡◌, ℕ, ◌<◌, ◌≤◌, inl, inr, List, Bool, refl, ap, ◌∙◌, arith, true, false, nat_lt, cond}
use Rattle.std.specs.Prelude.{slice_index}
use Rattle.std.proofs.lemmas.Bool.{lt-ltb, le-ltb}
use Rattle.im_tok.specs.declared.token.TokenKind.TheVariants.{Name as NameToken, Keyword as KeywordToken, Number as NumberToken, Character as CharacterToken, Text as TextToken, Punctuator as PunctuatorToken}
use Rattle.im_lex.specs.declared.piece.PieceKind.{PieceKind}
use Rattle.im_lex.specs.declared.piece.PieceKind.TheVariants.{Token, Blank as BlankPiece, Comment as CommentPiece, Marker, OpenComment}
use Rattle.im_lex.specs.declared.opening.Opening.{Opening}
use Rattle.im_lex.specs.declared.opening.Opening.TheVariants.{Blank, Name, Number, Character, Text, Hash, Comment, Other}
use Rattle.im_lex.specs.Bytes.{IsDigit, IsNameStart, IsBlank}
use Rattle.im_lex.specs.Openings.{opening_of, after_dot}
use Rattle.im_lex.specs.Pieces.{IsPiece, BeginsNumber}
use Rattle.im_lex.proofs.Spellings.{keyword_opening, punctuator_opening}

abbrev pub opening : List ℕ → Opening
opening bytes = opening_of (slice_index bytes 0) (slice_index bytes 1)

-- what a piece of a kind opens with
abbrev pub code : PieceKind → Opening
code (Token NameToken) = Name
code (Token KeywordToken) = Name
code (Token NumberToken) = Number
code (Token CharacterToken) = Character
code (Token TextToken) = Text
code (Token PunctuatorToken) = Other
code BlankPiece = Blank
code CommentPiece = Comment
code Marker = Hash
code OpenComment = Comment

is_below : (b n : ℕ) → b < n → nat_lt b n ≡ true
is_below b n h = lt-ltb b n h

is_not : (b n : ℕ) → n ≤ b → nat_lt b n ≡ false
is_not b n h = le-ltb b n h

pub blank_opening : (b c : ℕ) → IsBlank b → opening_of b c ≡ Blank
blank_opening b c (inl e) = ap (λ n. opening_of n c) e
blank_opening b c (inr h) =
    let e9 : nat_lt b 9 ≡ false = is_not b 9 (omega arith) in
    let e14 : nat_lt b 14 ≡ true = is_below b 14 (omega arith) in
    rw (e9, e14) refl

pub name_opening : (b c : ℕ) → IsNameStart b → opening_of b c ≡ Name
name_opening b c (inl h) =
    let e9 : nat_lt b 9 ≡ false = is_not b 9 (omega arith) in
    let e14 : nat_lt b 14 ≡ false = is_not b 14 (omega arith) in
    let e32 : nat_lt b 32 ≡ false = is_not b 32 (omega arith) in
    let e33 : nat_lt b 33 ≡ false = is_not b 33 (omega arith) in
    let e34 : nat_lt b 34 ≡ false = is_not b 34 (omega arith) in
    let e35 : nat_lt b 35 ≡ false = is_not b 35 (omega arith) in
    let e36 : nat_lt b 36 ≡ false = is_not b 36 (omega arith) in
    let e39 : nat_lt b 39 ≡ false = is_not b 39 (omega arith) in
    let e40 : nat_lt b 40 ≡ false = is_not b 40 (omega arith) in
    let e46 : nat_lt b 46 ≡ false = is_not b 46 (omega arith) in
    let e47 : nat_lt b 47 ≡ false = is_not b 47 (omega arith) in
    let e48 : nat_lt b 48 ≡ false = is_not b 48 (omega arith) in
    let e58 : nat_lt b 58 ≡ false = is_not b 58 (omega arith) in
    let e65 : nat_lt b 65 ≡ false = is_not b 65 (omega arith) in
    let e91 : nat_lt b 91 ≡ true = is_below b 91 (omega arith) in
    rw (e9, e14, e32, e33, e34, e35, e36, e39, e40, e46, e47, e48, e58, e65, e91) refl
name_opening b c (inr (inl h)) =
    let e9 : nat_lt b 9 ≡ false = is_not b 9 (omega arith) in
    let e14 : nat_lt b 14 ≡ false = is_not b 14 (omega arith) in
    let e32 : nat_lt b 32 ≡ false = is_not b 32 (omega arith) in
    let e33 : nat_lt b 33 ≡ false = is_not b 33 (omega arith) in
    let e34 : nat_lt b 34 ≡ false = is_not b 34 (omega arith) in
    let e35 : nat_lt b 35 ≡ false = is_not b 35 (omega arith) in
    let e36 : nat_lt b 36 ≡ false = is_not b 36 (omega arith) in
    let e39 : nat_lt b 39 ≡ false = is_not b 39 (omega arith) in
    let e40 : nat_lt b 40 ≡ false = is_not b 40 (omega arith) in
    let e46 : nat_lt b 46 ≡ false = is_not b 46 (omega arith) in
    let e47 : nat_lt b 47 ≡ false = is_not b 47 (omega arith) in
    let e48 : nat_lt b 48 ≡ false = is_not b 48 (omega arith) in
    let e58 : nat_lt b 58 ≡ false = is_not b 58 (omega arith) in
    let e65 : nat_lt b 65 ≡ false = is_not b 65 (omega arith) in
    let e91 : nat_lt b 91 ≡ false = is_not b 91 (omega arith) in
    let e95 : nat_lt b 95 ≡ false = is_not b 95 (omega arith) in
    let e96 : nat_lt b 96 ≡ false = is_not b 96 (omega arith) in
    let e97 : nat_lt b 97 ≡ false = is_not b 97 (omega arith) in
    let e123 : nat_lt b 123 ≡ true = is_below b 123 (omega arith) in
    rw (e9, e14, e32, e33, e34, e35, e36, e39, e40, e46, e47, e48, e58, e65, e91, e95, e96, e97, e123) refl
name_opening b c (inr (inr e)) = ap (λ n. opening_of n c) e

pub digit_opening : (b c : ℕ) → IsDigit b → opening_of b c ≡ Number
digit_opening b c h =
    let e9 : nat_lt b 9 ≡ false = is_not b 9 (omega arith) in
    let e14 : nat_lt b 14 ≡ false = is_not b 14 (omega arith) in
    let e32 : nat_lt b 32 ≡ false = is_not b 32 (omega arith) in
    let e33 : nat_lt b 33 ≡ false = is_not b 33 (omega arith) in
    let e34 : nat_lt b 34 ≡ false = is_not b 34 (omega arith) in
    let e35 : nat_lt b 35 ≡ false = is_not b 35 (omega arith) in
    let e36 : nat_lt b 36 ≡ false = is_not b 36 (omega arith) in
    let e39 : nat_lt b 39 ≡ false = is_not b 39 (omega arith) in
    let e40 : nat_lt b 40 ≡ false = is_not b 40 (omega arith) in
    let e46 : nat_lt b 46 ≡ false = is_not b 46 (omega arith) in
    let e47 : nat_lt b 47 ≡ false = is_not b 47 (omega arith) in
    let e48 : nat_lt b 48 ≡ false = is_not b 48 (omega arith) in
    let e58 : nat_lt b 58 ≡ true = is_below b 58 (omega arith) in
    rw (e9, e14, e32, e33, e34, e35, e36, e39, e40, e46, e47, e48, e58) refl

dot_opening : (c : ℕ) → IsDigit c → after_dot c ≡ Number
dot_opening c h =
    let e48 : nat_lt c 48 ≡ false = is_not c 48 (omega arith) in
    let e58 : nat_lt c 58 ≡ true = is_below c 58 (omega arith) in
    rw (e48, e58) refl

pub number_opening : (bytes : List ℕ) → BeginsNumber bytes → opening bytes ≡ Number
number_opening bytes (inl h) = digit_opening (slice_index bytes 0) (slice_index bytes 1) h
number_opening bytes (inr h) = ap (λ n. opening_of n (slice_index bytes 1)) h.0 ∙ dot_opening (slice_index bytes 1) h.1

pub byte_opening : (bytes : List ℕ) (b : ℕ) (o : Opening) → slice_index bytes 0 ≡ b → opening_of b (slice_index bytes 1) ≡ o → opening bytes ≡ o
byte_opening bytes b o e f = ap (λ n. opening_of n (slice_index bytes 1)) e ∙ f

pub two_bytes_opening : (bytes : List ℕ) (b c : ℕ) (o : Opening) → slice_index bytes 0 ≡ b → slice_index bytes 1 ≡ c → opening_of b c ≡ o → opening bytes ≡ o
two_bytes_opening bytes b c o e f g = ap (λ n. opening_of n (slice_index bytes 1)) e ∙ ap (λ n. opening_of b n) f ∙ g

pub piece_opening : (start : Bool) (kind : PieceKind) (bytes : List ℕ) → IsPiece start kind bytes → opening bytes ≡ code kind
piece_opening start (Token NameToken) bytes h = name_opening (slice_index bytes 0) (slice_index bytes 1) h.0.first
piece_opening start (Token KeywordToken) bytes h = ap opening h.1 ∙ keyword_opening h.0
piece_opening start (Token NumberToken) bytes h = number_opening bytes h.begins
piece_opening start (Token CharacterToken) bytes h = byte_opening bytes 39 Character h.1.1.begins refl
piece_opening start (Token TextToken) bytes h = byte_opening bytes 34 Text h.1.1.begins refl
piece_opening start (Token PunctuatorToken) bytes h = ap opening h.1 ∙ punctuator_opening h.0
piece_opening start BlankPiece bytes h = blank_opening (slice_index bytes 0) (slice_index bytes 1) h.1
piece_opening start CommentPiece bytes (inl h) = two_bytes_opening bytes 47 47 Comment h.slash h.second refl
piece_opening start CommentPiece bytes (inr h) = two_bytes_opening bytes 47 42 Comment h.slash h.star refl
piece_opening start Marker bytes h = byte_opening bytes 35 Hash h.1.hash refl
piece_opening start OpenComment bytes h = two_bytes_opening bytes 47 42 Comment h.slash h.star refl

-- a number that tells openings apart
abbrev pub rank : Opening → ℕ
rank Blank = 0
rank Name = 1
rank Number = 2
rank Character = 3
rank Text = 4
rank Hash = 5
rank Comment = 6
rank Other = 7

if_other_so : (t : Bool) (x x' y y' : Opening) → (x ≡ Other → x' ≡ Other) → (y ≡ Other → y' ≡ Other) → cond t x y ≡ Other → cond t x' y' ≡ Other
if_other_so true x x' y y' f g e = f e
if_other_so false x x' y y' f g e = g e

-- what opens as nothing else does so alone too
pub other_alone : (b c : ℕ) → opening_of b c ≡ Other → opening_of b 0 ≡ Other
other_alone b c = if_other_so (nat_lt b 9) _ _ _ _ (λ e. e) (if_other_so (nat_lt b 14) _ _ _ _ (λ e. e) (if_other_so (nat_lt b 32) _ _ _ _ (λ e. e) (if_other_so (nat_lt b 33) _ _ _ _ (λ e. e) (if_other_so (nat_lt b 34) _ _ _ _ (λ e. e) (if_other_so (nat_lt b 35) _ _ _ _ (λ e. e) (if_other_so (nat_lt b 36) _ _ _ _ (λ e. e) (if_other_so (nat_lt b 39) _ _ _ _ (λ e. e) (if_other_so (nat_lt b 40) _ _ _ _ (λ e. e) (if_other_so (nat_lt b 46) _ _ _ _ (λ e. e) (if_other_so (nat_lt b 47) _ _ _ _ (λ e. refl) (if_other_so (nat_lt b 48) _ _ _ _ (λ e. refl) (if_other_so (nat_lt b 58) _ _ _ _ (λ e. e) (if_other_so (nat_lt b 65) _ _ _ _ (λ e. e) (if_other_so (nat_lt b 91) _ _ _ _ (λ e. e) (if_other_so (nat_lt b 95) _ _ _ _ (λ e. e) (if_other_so (nat_lt b 96) _ _ _ _ (λ e. e) (if_other_so (nat_lt b 97) _ _ _ _ (λ e. e) (if_other_so (nat_lt b 123) _ _ _ _ (λ e. e) (λ e. e)))))))))))))))))))
