-- What is known of each token of a text.
use Rattle.std.specs.Prelude.{ℕ, ◌≤◌, false, List, length, slice_range}
use Rattle.im_tok.specs.declared.token.Token.{Token}
use Rattle.im_lex.specs.declared.piece.PieceKind.TheVariants.{Token as TokenPiece}
use Rattle.im_lex.specs.Pieces.{IsPiece, IsAccepted}

-- the token's bytes lie in the text, and are what its kind says
pub record IsTokenOf (text : List ℕ) (token : Token) : Type 0 where
  pub ordered : token.span.0 ≤ token.span.1
  pub within : token.span.1 ≤ length text
  pub is : IsPiece false (TokenPiece token.kind) (slice_range text token.span.0 token.span.1)
  pub accepted : IsAccepted (TokenPiece token.kind) (slice_range text token.span.0 token.span.1)
