-- What a text lexes to, and where it is stuck (C11 6.4).
use Rattle.std.specs.Prelude.{ℕ, ◌≡◌, ◌+◌, ◌-◌, ◌<◌, Bool, ◌==◌, ◌||◌, List, [], ◌∷◌, ◌++◌, length, take, drop, slice_index, count_by}
use Rattle.im_tok.specs.declared.token.Token.{Token}
use Rattle.im_lex.specs.declared.piece.PieceKind.{PieceKind}
use Rattle.im_lex.specs.declared.piece.PieceKind.TheVariants.{Token as TokenPiece, Blank, Comment, Marker, OpenComment}
use Rattle.im_lex.specs.declared.piece.Piece.{Piece}
use Rattle.im_lex.specs.Pieces.{IsNext, HasNone}

-- whether this place is the start of a line
abbrev pub starts_line : List ℕ → ℕ → Bool
starts_line text at = (at == 0) || (slice_index text (at - 1) == 10)

-- the line of this place, counted from 1
abbrev pub line_at : List ℕ → ℕ → ℕ
line_at text at = 1 + count_by (λ b. b == 10) (take at text)

-- from the place `at` on the text is cut into these pieces, up to the place `end`
abbrev pub IsCut : List ℕ → ℕ → List Piece → ℕ → Type 0
IsCut text at [] end = at ≡ end
IsCut text at (piece ∷ pieces) end = IsNext (starts_line text at) (drop at text) piece × IsCut text (at + piece.length) pieces end

-- the token that a piece at this place is, if it is one
abbrev pub token_of : List ℕ → ℕ → PieceKind → ℕ → List Token
token_of text at (TokenPiece kind) size = record { kind = kind; span = (at, at + size); line = line_at text at } ∷ []
token_of text at Blank size = []
token_of text at Comment size = []
token_of text at Marker size = []
token_of text at OpenComment size = []

-- the tokens of pieces, in order
abbrev pub tokens_of : List ℕ → ℕ → List Piece → List Token
tokens_of text at [] = []
tokens_of text at (piece ∷ pieces) = token_of text at piece.kind piece.length ++ tokens_of text (at + piece.length) pieces

-- the text is cut into pieces, and these are the tokens among them
abbrev pub Lexes : List ℕ → List Token → Type 0
Lexes text tokens = (pieces : List Piece) × IsCut text 0 pieces (length text) × (tokens ≡ tokens_of text 0 pieces)

-- the text is cut into pieces up to this place, and no piece stands there
pub record StuckAt (text : List ℕ) (at : ℕ) : Type 0 where
  pub pieces : List Piece
  pub cut : IsCut text 0 pieces at
  pub left : at < length text
  pub none : HasNone (starts_line text at) (drop at text)
