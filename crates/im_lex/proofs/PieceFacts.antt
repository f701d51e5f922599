-- Two pieces of the same bytes are of one kind, and the bytes tell which kinds there may be.
use Rattle.std.proofs.Common.{◌≡◌, ℕ, ◌-◌, ◌<◌, ◌≤◌, ◌⊎◌, inl, inr, List, Bool, IsTrue, length, take, refl, sym, ap, subst, ◌∙◌, arith}
use Rattle.std.specs.Prelude.{slice_index}
use Rattle.std.proofs.lemmas.Bool.{cases_lt}
use Rattle.std.proofs.lemmas.List.{get_or-take}
use Rattle.im_tok.specs.Punctuators.{punctuator_text}
use Rattle.im_tok.specs.Literals.{IsCharacter, IsText}
use Rattle.im_tok.specs.declared.punctuator.Punctuator.{Punctuator}
use Rattle.im_tok.specs.declared.token.TokenKind.TheVariants.{Name as NameToken, Keyword as KeywordToken, Number as NumberToken, Character as CharacterToken, Text as TextToken, Punctuator as PunctuatorToken}
use Rattle.im_lex.specs.declared.piece.PieceKind.{PieceKind}
use Rattle.im_lex.specs.declared.piece.PieceKind.TheVariants.{Token, Blank as BlankPiece, Comment as CommentPiece, Marker, OpenComment}
use Rattle.im_lex.specs.declared.piece.Piece.{Piece}
use Rattle.im_lex.specs.declared.opening.Opening.TheVariants.{Blank, Name, Number, Character, Text, Hash, Comment, Other}
use Rattle.im_lex.specs.Bytes.{IsNameByte}
use Rattle.im_lex.specs.Openings.{opening_of}
use Rattle.im_lex.specs.Pieces.{IsPiece, IsLongest, IsNumberRun, IsLineComment, IsBlockComment, IsOpenComment, BeginsMarker, IsOneLine}
use Rattle.im_lex.proofs.OpeningFacts.{opening, code, piece_opening}
use Rattle.im_lex.proofs.KeywordNames.{keyword_name}

-- a closed comment isn't open
not_open : (bytes : List ℕ) → IsLineComment bytes ⊎ IsBlockComment bytes → IsOpenComment bytes → ⊥
not_open bytes (inl g) h = absurd (omega (arith, g.second, h.star))
not_open bytes (inr g) h = h.none (length bytes - 2) (omega (arith, g.some)) (omega (arith, g.some)) g.closed

kinds_from : (start : Bool) (k l : PieceKind) (bytes : List ℕ) → code k ≡ code l → IsPiece start k bytes → IsPiece start l bytes → k ≡ l
kinds_from start (Token NameToken) (Token NameToken) bytes e g h = refl
kinds_from start (Token NameToken) (Token KeywordToken) bytes e g h = absurd (g.1 h.0 h.1)
kinds_from start (Token NameToken) (Token NumberToken) bytes e g h = absurd (cc)
kinds_from start (Token NameToken) (Token CharacterToken) bytes e g h = absurd (cc)
kinds_from start (Token NameToken) (Token TextToken) bytes e g h = absurd (cc)
kinds_from start (Token NameToken) (Token PunctuatorToken) bytes e g h = absurd (cc)
kinds_from start (Token NameToken) BlankPiece bytes e g h = absurd (cc)
kinds_from start (Token NameToken) CommentPiece bytes e g h = absurd (cc)
kinds_from start (Token NameToken) Marker bytes e g h = absurd (cc)
kinds_from start (Token NameToken) OpenComment bytes e g h = absurd (cc)
kinds_from start (Token KeywordToken) (Token NameToken) bytes e g h = absurd (h.1 g.0 g.1)
kinds_from start (Token KeywordToken) (Token KeywordToken) bytes e g h = refl
kinds_from start (Token KeywordToken) (Token NumberToken) bytes e g h = absurd (cc)
kinds_from start (Token KeywordToken) (Token CharacterToken) bytes e g h = absurd (cc)
kinds_from start (Token KeywordToken) (Token TextToken) bytes e g h = absurd (cc)
kinds_from start (Token KeywordToken) (Token PunctuatorToken) bytes e g h = absurd (cc)
kinds_from start (Token KeywordToken) BlankPiece bytes e g h = absurd (cc)
kinds_from start (Token KeywordToken) CommentPiece bytes e g h = absurd (cc)
kinds_from start (Token KeywordToken) Marker bytes e g h = absurd (cc)
kinds_from start (Token KeywordToken) OpenComment bytes e g h = absurd (cc)
kinds_from start (Token NumberToken) (Token NameToken) bytes e g h = absurd (cc)
kinds_from start (Token NumberToken) (Token KeywordToken) bytes e g h = absurd (cc)
kinds_from start (Token NumberToken) (Token NumberToken) bytes e g h = refl
kinds_from start (Token NumberToken) (Token CharacterToken) bytes e g h = absurd (cc)
kinds_from start (Token NumberToken) (Token TextToken) bytes e g h = absurd (cc)
kinds_from start (Token NumberToken) (Token PunctuatorToken) bytes e g h = absurd (cc)
kinds_from start (Token NumberToken) BlankPiece bytes e g h = absurd (cc)
kinds_from start (Token NumberToken) CommentPiece bytes e g h = absurd (cc)
kinds_from start (Token NumberToken) Marker bytes e g h = absurd (cc)
kinds_from start (Token NumberToken) OpenComment bytes e g h = absurd (cc)
kinds_from start (Token CharacterToken) (Token NameToken) bytes e g h = absurd (cc)
kinds_from start (Token CharacterToken) (Token KeywordToken) bytes e g h = absurd (cc)
kinds_from start (Token CharacterToken) (Token NumberToken) bytes e g h = absurd (cc)
kinds_from start (Token CharacterToken) (Token CharacterToken) bytes e g h = refl
kinds_from start (Token CharacterToken) (Token TextToken) bytes e g h = absurd (cc)
kinds_from start (Token CharacterToken) (Token PunctuatorToken) bytes e g h = absurd (cc)
kinds_from start (Token CharacterToken) BlankPiece bytes e g h = absurd (cc)
kinds_from start (Token CharacterToken) CommentPiece bytes e g h = absurd (cc)
kinds_from start (Token CharacterToken) Marker bytes e g h = absurd (cc)
kinds_from start (Token CharacterToken) OpenComment bytes e g h = absurd (cc)
kinds_from start (Token TextToken) (Token NameToken) bytes e g h = absurd (cc)
kinds_from start (Token TextToken) (Token KeywordToken) bytes e g h = absurd (cc)
kinds_from start (Token TextToken) (Token NumberToken) bytes e g h = absurd (cc)
kinds_from start (Token TextToken) (Token CharacterToken) bytes e g h = absurd (cc)
kinds_from start (Token TextToken) (Token TextToken) bytes e g h = refl
kinds_from start (Token TextToken) (Token PunctuatorToken) bytes e g h = absurd (cc)
kinds_from start (Token TextToken) BlankPiece bytes e g h = absurd (cc)
kinds_from start (Token TextToken) CommentPiece bytes e g h = absurd (cc)
kinds_from start (Token TextToken) Marker bytes e g h = absurd (cc)
kinds_from start (Token TextToken) OpenComment bytes e g h = absurd (cc)
kinds_from start (Token PunctuatorToken) (Token NameToken) bytes e g h = absurd (cc)
kinds_from start (Token PunctuatorToken) (Token KeywordToken) bytes e g h = absurd (cc)
kinds_from start (Token PunctuatorToken) (Token NumberToken) bytes e g h = absurd (cc)
kinds_from start (Token PunctuatorToken) (Token CharacterToken) bytes e g h = absurd (cc)
kinds_from start (Token PunctuatorToken) (Token TextToken) bytes e g h = absurd (cc)
kinds_from start (Token PunctuatorToken) (Token PunctuatorToken) bytes e g h = refl
kinds_from start (Token PunctuatorToken) BlankPiece bytes e g h = absurd (cc)
kinds_from start (Token PunctuatorToken) CommentPiece bytes e g h = absurd (cc)
kinds_from start (Token PunctuatorToken) Marker bytes e g h = absurd (cc)
kinds_from start (Token PunctuatorToken) OpenComment bytes e g h = absurd (cc)
kinds_from start BlankPiece (Token NameToken) bytes e g h = absurd (cc)
kinds_from start BlankPiece (Token KeywordToken) bytes e g h = absurd (cc)
kinds_from start BlankPiece (Token NumberToken) bytes e g h = absurd (cc)
kinds_from start BlankPiece (Token CharacterToken) bytes e g h = absurd (cc)
kinds_from start BlankPiece (Token TextToken) bytes e g h = absurd (cc)
kinds_from start BlankPiece (Token PunctuatorToken) bytes e g h = absurd (cc)
kinds_from start BlankPiece BlankPiece bytes e g h = refl
kinds_from start BlankPiece CommentPiece bytes e g h = absurd (cc)
kinds_from start BlankPiece Marker bytes e g h = absurd (cc)
kinds_from start BlankPiece OpenComment bytes e g h = absurd (cc)
kinds_from start CommentPiece (Token NameToken) bytes e g h = absurd (cc)
kinds_from start CommentPiece (Token KeywordToken) bytes e g h = absurd (cc)
kinds_from start CommentPiece (Token NumberToken) bytes e g h = absurd (cc)
kinds_from start CommentPiece (Token CharacterToken) bytes e g h = absurd (cc)
kinds_from start CommentPiece (Token TextToken) bytes e g h = absurd (cc)
kinds_from start CommentPiece (Token PunctuatorToken) bytes e g h = absurd (cc)
kinds_from start CommentPiece BlankPiece bytes e g h = absurd (cc)
kinds_from start CommentPiece CommentPiece bytes e g h = refl
kinds_from start CommentPiece Marker bytes e g h = absurd (cc)
kinds_from start CommentPiece OpenComment bytes e g h = absurd (not_open bytes g h)
kinds_from start Marker (Token NameToken) bytes e g h = absurd (cc)
kinds_from start Marker (Token KeywordToken) bytes e g h = absurd (cc)
kinds_from start Marker (Token NumberToken) bytes e g h = absurd (cc)
kinds_from start Marker (Token CharacterToken) bytes e g h = absurd (cc)
kinds_from start Marker (Token TextToken) bytes e g h = absurd (cc)
kinds_from start Marker (Token PunctuatorToken) bytes e g h = absurd (cc)
kinds_from start Marker BlankPiece bytes e g h = absurd (cc)
kinds_from start Marker CommentPiece bytes e g h = absurd (cc)
kinds_from start Marker Marker bytes e g h = refl
kinds_from start Marker OpenComment bytes e g h = absurd (cc)
kinds_from start OpenComment (Token NameToken) bytes e g h = absurd (cc)
kinds_from start OpenComment (Token KeywordToken) bytes e g h = absurd (cc)
kinds_from start OpenComment (Token NumberToken) bytes e g h = absurd (cc)
kinds_from start OpenComment (Token CharacterToken) bytes e g h = absurd (cc)
kinds_from start OpenComment (Token TextToken) bytes e g h = absurd (cc)
kinds_from start OpenComment (Token PunctuatorToken) bytes e g h = absurd (cc)
kinds_from start OpenComment BlankPiece bytes e g h = absurd (cc)
kinds_from start OpenComment CommentPiece bytes e g h = absurd (not_open bytes h g)
kinds_from start OpenComment Marker bytes e g h = absurd (cc)
kinds_from start OpenComment OpenComment bytes e g h = refl

pub one_kind : (start : Bool) (k l : PieceKind) (bytes : List ℕ) → IsPiece start k bytes → IsPiece start l bytes → k ≡ l
one_kind start k l bytes g h = kinds_from start k l bytes (sym (piece_opening start k bytes g) ∙ piece_opening start l bytes h) g h

-- one piece alone is the longest at a place
pub one_longest : (start : Bool) (text : List ℕ) (a b : Piece) → IsLongest start text a → IsLongest start text b → a ≡ b
one_longest start text a b g h =
    let le = h.longest a.kind a.length g.within g.is in
    let ge = g.longest b.kind b.length h.within h.is in
    let size : a.length ≡ b.length = omega arith in
    let P : ℕ → Type 0 = λ n. IsPiece start a.kind (take n text) in
    let kind : a.kind ≡ b.kind = one_kind start a.kind b.kind (take b.length text) (subst P size g.is) h.is in
    let Q : PieceKind → Type 0 = λ k. a ≡ record { kind = k; length = a.length } in
    let R : ℕ → Type 0 = λ n. a ≡ record { kind = b.kind; length = n } in
    subst R size (subst Q kind refl)

-- a piece of two bytes or more opens as the text does
pub opening_at : (start : Bool) (kind : PieceKind) (n : ℕ) (text : List ℕ) → 2 ≤ n → IsPiece start kind (take n text) → code kind ≡ opening text
opening_at start kind n text two is =
    sym (piece_opening start kind (take n text) is) ∙ ap (λ b. opening_of b (slice_index (take n text) 1)) (get_or-take n text 0 0 (omega arith)) ∙ ap (λ c. opening_of (slice_index text 0) c) (get_or-take n text 1 0 (omega arith))

-- what bounds the longer pieces bounds all
pub longest_from : (m n : ℕ) → 1 ≤ n → (2 ≤ m → m ≤ n) → m ≤ n
longest_from m n some h = by_order (cases_lt m 2)
  where
    by_order : (m < 2) ⊎ (2 ≤ m) → m ≤ n
    by_order (inl lt) = omega arith
    by_order (inr ge) = h ge

pub if_blank : (start : Bool) (k : PieceKind) (bytes : List ℕ) → IsPiece start k bytes → code k ≡ Blank → length bytes ≡ 1
if_blank start (Token NameToken) bytes h e = absurd (cc)
if_blank start (Token KeywordToken) bytes h e = absurd (cc)
if_blank start (Token NumberToken) bytes h e = absurd (cc)
if_blank start (Token CharacterToken) bytes h e = absurd (cc)
if_blank start (Token TextToken) bytes h e = absurd (cc)
if_blank start (Token PunctuatorToken) bytes h e = absurd (cc)
if_blank start BlankPiece bytes h e = h.0
if_blank start CommentPiece bytes h e = absurd (cc)
if_blank start Marker bytes h e = absurd (cc)
if_blank start OpenComment bytes h e = absurd (cc)

pub if_name : (start : Bool) (k : PieceKind) (bytes : List ℕ) → IsPiece start k bytes → code k ≡ Name → ((i : ℕ) → i < length bytes → IsNameByte (slice_index bytes i))
if_name start (Token NameToken) bytes h e = h.0.each
if_name start (Token KeywordToken) bytes h e = keyword_name h.0 bytes h.1
if_name start (Token NumberToken) bytes h e = absurd (cc)
if_name start (Token CharacterToken) bytes h e = absurd (cc)
if_name start (Token TextToken) bytes h e = absurd (cc)
if_name start (Token PunctuatorToken) bytes h e = absurd (cc)
if_name start BlankPiece bytes h e = absurd (cc)
if_name start CommentPiece bytes h e = absurd (cc)
if_name start Marker bytes h e = absurd (cc)
if_name start OpenComment bytes h e = absurd (cc)

pub if_number : (start : Bool) (k : PieceKind) (bytes : List ℕ) → IsPiece start k bytes → code k ≡ Number → IsNumberRun bytes
if_number start (Token NameToken) bytes h e = absurd (cc)
if_number start (Token KeywordToken) bytes h e = absurd (cc)
if_number start (Token NumberToken) bytes h e = h
if_number start (Token CharacterToken) bytes h e = absurd (cc)
if_number start (Token TextToken) bytes h e = absurd (cc)
if_number start (Token PunctuatorToken) bytes h e = absurd (cc)
if_number start BlankPiece bytes h e = absurd (cc)
if_number start CommentPiece bytes h e = absurd (cc)
if_number start Marker bytes h e = absurd (cc)
if_number start OpenComment bytes h e = absurd (cc)

pub if_character : (start : Bool) (k : PieceKind) (bytes : List ℕ) → IsPiece start k bytes → code k ≡ Character → (value : ℕ) × IsCharacter bytes value
if_character start (Token NameToken) bytes h e = absurd (cc)
if_character start (Token KeywordToken) bytes h e = absurd (cc)
if_character start (Token NumberToken) bytes h e = absurd (cc)
if_character start (Token CharacterToken) bytes h e = h
if_character start (Token TextToken) bytes h e = absurd (cc)
if_character start (Token PunctuatorToken) bytes h e = absurd (cc)
if_character start BlankPiece bytes h e = absurd (cc)
if_character start CommentPiece bytes h e = absurd (cc)
if_character start Marker bytes h e = absurd (cc)
if_character start OpenComment bytes h e = absurd (cc)

pub if_text : (start : Bool) (k : PieceKind) (bytes : List ℕ) → IsPiece start k bytes → code k ≡ Text → (value : List ℕ) × IsText bytes value
if_text start (Token NameToken) bytes h e = absurd (cc)
if_text start (Token KeywordToken) bytes h e = absurd (cc)
if_text start (Token NumberToken) bytes h e = absurd (cc)
if_text start (Token CharacterToken) bytes h e = absurd (cc)
if_text start (Token TextToken) bytes h e = h
if_text start (Token PunctuatorToken) bytes h e = absurd (cc)
if_text start BlankPiece bytes h e = absurd (cc)
if_text start CommentPiece bytes h e = absurd (cc)
if_text start Marker bytes h e = absurd (cc)
if_text start OpenComment bytes h e = absurd (cc)

pub if_hash : (start : Bool) (k : PieceKind) (bytes : List ℕ) → IsPiece start k bytes → code k ≡ Hash → IsTrue start × BeginsMarker bytes × IsOneLine bytes
if_hash start (Token NameToken) bytes h e = absurd (cc)
if_hash start (Token KeywordToken) bytes h e = absurd (cc)
if_hash start (Token NumberToken) bytes h e = absurd (cc)
if_hash start (Token CharacterToken) bytes h e = absurd (cc)
if_hash start (Token TextToken) bytes h e = absurd (cc)
if_hash start (Token PunctuatorToken) bytes h e = absurd (cc)
if_hash start BlankPiece bytes h e = absurd (cc)
if_hash start CommentPiece bytes h e = absurd (cc)
if_hash start Marker bytes h e = h
if_hash start OpenComment bytes h e = absurd (cc)

pub if_comment : (start : Bool) (k : PieceKind) (bytes : List ℕ) → IsPiece start k bytes → code k ≡ Comment → (IsLineComment bytes ⊎ IsBlockComment bytes) ⊎ IsOpenComment bytes
if_comment start (Token NameToken) bytes h e = absurd (cc)
if_comment start (Token KeywordToken) bytes h e = absurd (cc)
if_comment start (Token NumberToken) bytes h e = absurd (cc)
if_comment start (Token CharacterToken) bytes h e = absurd (cc)
if_comment start (Token TextToken) bytes h e = absurd (cc)
if_comment start (Token PunctuatorToken) bytes h e = absurd (cc)
if_comment start BlankPiece bytes h e = absurd (cc)
if_comment start CommentPiece bytes h e = inl h
if_comment start Marker bytes h e = absurd (cc)
if_comment start OpenComment bytes h e = inr h

pub if_other : (start : Bool) (k : PieceKind) (bytes : List ℕ) → IsPiece start k bytes → code k ≡ Other → (p : Punctuator) × (bytes ≡ punctuator_text p)
if_other start (Token NameToken) bytes h e = absurd (cc)
if_other start (Token KeywordToken) bytes h e = absurd (cc)
if_other start (Token NumberToken) bytes h e = absurd (cc)
if_other start (Token CharacterToken) bytes h e = absurd (cc)
if_other start (Token TextToken) bytes h e = absurd (cc)
if_other start (Token PunctuatorToken) bytes h e = h
if_other start BlankPiece bytes h e = absurd (cc)
if_other start CommentPiece bytes h e = absurd (cc)
if_other start Marker bytes h e = absurd (cc)
if_other start OpenComment bytes h e = absurd (cc)
