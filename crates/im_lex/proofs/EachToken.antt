-- The tokens that a text lexes to lie in it, and a text that lexes has one answer.
use Rattle.std.proofs.Common.{◌≡◌, ℕ, zero, suc, ◌+◌, ◌≤◌, List, [], ◌∷◌, Bool, false, length, take, drop, sym, ap, subst, arith}
use Rattle.std.specs.Prelude.{All, slice_range}
use Rattle.std.proofs.lemmas.List.{length-drop}
use Rattle.std.proofs.lemmas.List.Elements.{All-append}
use Rattle.im_tok.specs.declared.token.Token.{Token}
use Rattle.im_tok.specs.declared.token.TokenKind.{TokenKind}
use Rattle.im_tok.specs.declared.token.TokenKind.TheVariants.{Name, Keyword, Number, Character, Text, Punctuator}
use Rattle.im_lex.specs.declared.piece.PieceKind.{PieceKind}
use Rattle.im_lex.specs.declared.piece.PieceKind.TheVariants.{Token as TokenPiece, Blank, Comment, Marker, OpenComment}
use Rattle.im_lex.specs.declared.piece.Piece.{Piece}
use Rattle.im_lex.specs.Pieces.{IsPiece, IsAccepted}
use Rattle.im_lex.specs.Lexing.{starts_line, line_at, IsCut, token_of, tokens_of, Lexes}
use Rattle.im_lex.specs.Tokens.{IsTokenOf}

-- a token is one wherever it stands
anywhere : (start : Bool) (kind : TokenKind) (bytes : List ℕ) → IsPiece start (TokenPiece kind) bytes → IsPiece false (TokenPiece kind) bytes
anywhere start Name bytes is = is
anywhere start Keyword bytes is = is
anywhere start Number bytes is = is
anywhere start Character bytes is = is
anywhere start Text bytes is = is
anywhere start Punctuator bytes is = is

none_fails : (text : List ℕ) → All (IsTokenOf text) []
none_fails text k d h = absurd (omega arith)

one_holds : (text : List ℕ) (token : Token) → IsTokenOf text token → All (IsTokenOf text) (token ∷ [])
one_holds text token is zero d h = is
one_holds text token is (suc k) d h = absurd (omega arith)

piece_token : (text : List ℕ) (at size : ℕ) (start : Bool) (kind : PieceKind) → at + size ≤ length text → IsPiece start kind (take size (drop at text)) → IsAccepted kind (take size (drop at text)) → All (IsTokenOf text) (token_of text at kind size)
piece_token text at size start (TokenPiece kind) within is accepted =
    let same : take size (drop at text) ≡ slice_range text at (at + size) = ap (λ n. take n (drop at text)) (omega arith) in
    let P : List ℕ → Type 0 = λ b. IsPiece false (TokenPiece kind) b in
    let Q : List ℕ → Type 0 = λ b. IsAccepted (TokenPiece kind) b in
    one_holds text (record { kind = kind; span = (at, at + size); line = line_at text at }) (record {
      ordered = omega arith;
      within = within;
      is = subst P same (anywhere start kind (take size (drop at text)) is);
      accepted = subst Q same accepted;
    })
piece_token text at size start Blank within is accepted = none_fails text
piece_token text at size start Comment within is accepted = none_fails text
piece_token text at size start Marker within is accepted = none_fails text
piece_token text at size start OpenComment within is accepted = none_fails text

pub each_token : (text : List ℕ) (at end : ℕ) (pieces : List Piece) → at ≤ length text → IsCut text at pieces end → All (IsTokenOf text) (tokens_of text at pieces)
each_token text at end [] within cut = none_fails text
each_token text at end (p ∷ pieces) within cut =
    let here : at + p.length ≤ length text = omega (arith, cut.0.0.within, length-drop at text) in
    All-append (IsTokenOf text) (token_of text at p.kind p.length) (tokens_of text (at + p.length) pieces) (piece_token text at p.length (starts_line text at) p.kind here cut.0.0.is cut.0.1) (each_token text (at + p.length) end pieces here cut.1)

pub each_of : (text : List ℕ) (tokens : List Token) → Lexes text tokens → All (IsTokenOf text) tokens
each_of text tokens lexes =
    let P : List Token → Type 0 = λ l. All (IsTokenOf text) l in
    subst P (sym lexes.2) (each_token text 0 (length text) lexes.0 (omega arith) lexes.1)
