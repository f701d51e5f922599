-- The pieces that a text is cut into (C11 6.4): tokens, white space, comments and line markers.
use Rattle.std.specs.Prelude.{ℕ, ◌≡◌, ◌≢◌, ◌+◌, ◌-◌, ◌≤◌, ◌<◌, ◌⊎◌, Bool, IsTrue, List, length, take, slice_index}
use Rattle.im_tok.specs.Keywords.{keyword_text}
use Rattle.im_tok.specs.Punctuators.{punctuator_text}
use Rattle.im_tok.specs.Numbers.{IsNumeral}
use Rattle.im_tok.specs.Literals.{IsCharacter, IsText}
use Rattle.im_tok.specs.declared.keyword.Keyword.{Keyword}
use Rattle.im_tok.specs.declared.punctuator.Punctuator.{Punctuator}
use Rattle.im_tok.specs.declared.number.Number.{Number}
use Rattle.im_tok.specs.declared.token.TokenKind.TheVariants.{Name, Keyword as KeywordToken, Number as NumberToken, Character, Text, Punctuator as PunctuatorToken}
use Rattle.im_lex.specs.declared.piece.PieceKind.{PieceKind}
use Rattle.im_lex.specs.declared.piece.PieceKind.TheVariants.{Token, Blank, Comment, Marker, OpenComment}
use Rattle.im_lex.specs.declared.piece.Piece.{Piece}
use Rattle.im_lex.specs.Bytes.{IsDigit, IsNameStart, IsNameByte, IsBlank, IsGap, GoesOn}

-- a letter or `_`, then letters, digits and `_`
pub record IsName (bytes : List ℕ) : Type 0 where
  pub some : 0 < length bytes
  pub first : IsNameStart (slice_index bytes 0)
  pub each : (i : ℕ) → i < length bytes → IsNameByte (slice_index bytes i)

-- a digit, or `.` and a digit
abbrev pub BeginsNumber : List ℕ → Type 0
BeginsNumber bytes = IsDigit (slice_index bytes 0) ⊎ ((slice_index bytes 0 ≡ 46) × IsDigit (slice_index bytes 1))

-- a preprocessing number (C11 6.4.8)
pub record IsNumberRun (bytes : List ℕ) : Type 0 where
  pub some : 0 < length bytes
  pub begins : BeginsNumber bytes
  pub each : (i : ℕ) → 0 < i → i < length bytes → GoesOn (slice_index bytes (i - 1)) (slice_index bytes i)

-- no LF
abbrev pub IsOneLine : List ℕ → Type 0
IsOneLine bytes = (i : ℕ) → i < length bytes → slice_index bytes i ≢ 10

-- `*/` stands at this place
abbrev pub ClosesAt : List ℕ → ℕ → Type 0
ClosesAt bytes i = (slice_index bytes i ≡ 42) × (slice_index bytes (i + 1) ≡ 47)

-- `//` up to before the end of the line
pub record IsLineComment (bytes : List ℕ) : Type 0 where
  pub slash : slice_index bytes 0 ≡ 47
  pub second : slice_index bytes 1 ≡ 47
  pub line : IsOneLine bytes

-- `/*` up to and with the first `*/` behind it
pub record IsBlockComment (bytes : List ℕ) : Type 0 where
  pub slash : slice_index bytes 0 ≡ 47
  pub star : slice_index bytes 1 ≡ 42
  pub some : 4 ≤ length bytes
  pub closed : ClosesAt bytes (length bytes - 2)
  pub first : (i : ℕ) → 2 ≤ i → i + 2 < length bytes → ClosesAt bytes i → ⊥

-- `/*` and bytes behind it without `*/`
pub record IsOpenComment (bytes : List ℕ) : Type 0 where
  pub slash : slice_index bytes 0 ≡ 47
  pub star : slice_index bytes 1 ≡ 42
  pub none : (i : ℕ) → 2 ≤ i → i + 2 ≤ length bytes → ClosesAt bytes i → ⊥

-- `#`, blanks and tabs, and a digit
pub record BeginsMarker (bytes : List ℕ) : Type 0 where
  pub hash : slice_index bytes 0 ≡ 35
  pub place : ℕ
  pub behind : 0 < place
  pub gaps : (i : ℕ) → 0 < i → i < place → IsGap (slice_index bytes i)
  pub digit : IsDigit (slice_index bytes place)

-- These bytes are a piece of this kind; start says that they stand at the start of a line. A comment that isn't
-- closed is a piece as well, so that nothing else is read there, and so is each run of a number.
abbrev pub IsPiece : Bool → PieceKind → List ℕ → Type 0
IsPiece start (Token Name) bytes = IsName bytes × ((keyword : Keyword) → bytes ≢ keyword_text keyword)
IsPiece start (Token KeywordToken) bytes = (keyword : Keyword) × (bytes ≡ keyword_text keyword)
IsPiece start (Token NumberToken) bytes = IsNumberRun bytes
IsPiece start (Token Character) bytes = (value : ℕ) × IsCharacter bytes value
IsPiece start (Token Text) bytes = (value : List ℕ) × IsText bytes value
IsPiece start (Token PunctuatorToken) bytes = (punctuator : Punctuator) × (bytes ≡ punctuator_text punctuator)
IsPiece start Blank bytes = (length bytes ≡ 1) × IsBlank (slice_index bytes 0)
IsPiece start Comment bytes = IsLineComment bytes ⊎ IsBlockComment bytes
IsPiece start Marker bytes = IsTrue start × BeginsMarker bytes × IsOneLine bytes
IsPiece start OpenComment bytes = IsOpenComment bytes

-- what may stand in a text: a number has to be an integer constant, and a comment has to be closed
abbrev pub IsAccepted : PieceKind → List ℕ → Type 0
IsAccepted (Token NumberToken) bytes = (number : Number) × IsNumeral bytes number
IsAccepted OpenComment bytes = ⊥
IsAccepted kind bytes = Unit {0}

-- the first bytes of the text are this piece, and no more of them are a piece of any kind
pub record IsLongest (start : Bool) (text : List ℕ) (piece : Piece) : Type 0 where
  pub within : piece.length ≤ length text
  pub is : IsPiece start piece.kind (take piece.length text)
  pub longest : (kind : PieceKind) (n : ℕ) → n ≤ length text → IsPiece start kind (take n text) → n ≤ piece.length

-- the longest piece at the front of the text, one that may stand there
abbrev pub IsNext : Bool → List ℕ → Piece → Type 0
IsNext start text piece = IsLongest start text piece × IsAccepted piece.kind (take piece.length text)

-- no such piece stands there
abbrev pub HasNone : Bool → List ℕ → Type 0
HasNone start text = (piece : Piece) → IsNext start text piece → ⊥
