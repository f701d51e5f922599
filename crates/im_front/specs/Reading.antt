-- What a source is read as: the tree that its tokens spell, and where these stand, or the place where it is no C.
use Rattle.std.specs.Prelude.{◌≡◌, ℕ, ◌<◌, ◌≤◌, List, map, length, drop, All, Option, Some, None, Result, Ok, Err, Vec, slice_get}
use Rattle.std.specs.Global.{Global}
use Rattle.im_tok.specs.declared.token.Token.{Token}
use Rattle.im_lex.specs.declared.fault.LexFaultKind.{LexFaultKind}
use Rattle.im_lex.specs.declared.fault.LexFaultKind.TheVariants as token
use Rattle.im_lex.specs.Lexing.{Lexes, StuckAt, line_at}
use Rattle.im_lex.specs.Faults.{IsFault}
use Rattle.im_lex.specs.Tokens.{IsTokenOf}
use Rattle.im_parse.specs.declared.text.ParseFault.{ParseFault}
use Rattle.im_parse.specs.declared.text.ParseFault.TheVariants as unit
use Rattle.im_parse.specs.Spelling.{IsParsedText}
use Rattle.im_fault.specs.declared.fault.LineFault.{LineFault}
use Rattle.im_fault.specs.declared.fault.LineFault.TheVariants.{BadByte, OpenComment, OpenLiteral, BadEscape, BadNumber, BadDirective, Syntax, Nesting, Dimensions, Rule}
use Rattle.im_fault.specs.declared.fault.Place.{Place}
use Rattle.im_fault.specs.declared.fault.Quantity.{Quantity}
use Rattle.im_fault.specs.declared.fault.Quantity.TheVariants.{Source, Parameters, Size, Statics, Frame, Code, Derivations}
use Rattle.im_fault.specs.declared.fault.SourceFault.{SourceFault}
use Rattle.im_fault.specs.declared.fault.SourceFault.TheVariants.{Line, Limit, OutOfMemory}
use Rattle.im_fault.specs.Texts.{limit_of}
use Rattle.im_front.specs.declared.reading.Text.{Text}

-- the place of these bytes
abbrev pub place_at : List ℕ → ℕ × ℕ → Place
place_at source span = record { line = line_at source span.0; start = span.0; end = span.1 }

abbrev pub span_or : ℕ → Option (ℕ × ℕ) → ℕ × ℕ
span_or end None = (end, end)
span_or end (Some span) = span

-- the place of the token of a number, given the bytes of all tokens; the end of the text where no token is left
abbrev pub place_among : List ℕ → List (ℕ × ℕ) → ℕ → Place
place_among source spans p = place_at source (span_or (length source) (slice_get spans p))

abbrev pub token_spans : List Token → List (ℕ × ℕ)
token_spans tokens = map (λ (token : Token). token.span) tokens

abbrev pub place_of_token : List ℕ → List Token → ℕ → Place
place_of_token source tokens p = place_among source (token_spans tokens) p

abbrev pub of_token : LexFaultKind → LineFault
of_token token.BadByte = BadByte
of_token token.OpenComment = OpenComment
of_token token.OpenLiteral = OpenLiteral
of_token token.BadEscape = BadEscape
of_token token.BadNumber = BadNumber
of_token token.BadDirective = BadDirective

-- no token begins at this place
pub record IsNoToken (source : List ℕ) (place : Place) (why : LineFault) : Type 0 where
  pub at : ℕ
  pub kind : LexFaultKind
  pub stuck : StuckAt source at
  pub fault : IsFault kind (drop at source)
  pub is_why : why ≡ of_token kind
  pub is_place : place ≡ place_at source (at, at)

abbrev pub IsTokenFault : List ℕ → SourceFault → Type 0
IsTokenFault source (Line place why) = IsNoToken source place why
IsTokenFault source (Limit quantity count) = ⊥
IsTokenFault source OutOfMemory = Unit {0}

abbrev pub AreTokens : List ℕ → Vec Token Global → Type 0
AreTokens source tokens = Lexes source tokens.items × All (IsTokenOf source) tokens.items

-- the tokens of the source, and the number of the one at this place with which it is refused
pub record IsRefusedAt (source : List ℕ) (place : Place) (fault : ℕ → ParseFault) : Type 0 where
  pub tokens : List Token
  pub lexes : Lexes source tokens
  pub number : ℕ
  pub refused : IsParsedText source tokens (Err (fault number))
  pub is_place : place ≡ place_of_token source tokens number

abbrev pub IsWrong : List ℕ → Place → LineFault → Type 0
IsWrong source place BadByte = IsNoToken source place BadByte
IsWrong source place OpenComment = IsNoToken source place OpenComment
IsWrong source place OpenLiteral = IsNoToken source place OpenLiteral
IsWrong source place BadEscape = IsNoToken source place BadEscape
IsWrong source place BadNumber = IsNoToken source place BadNumber
IsWrong source place BadDirective = IsNoToken source place BadDirective
IsWrong source place Nesting = IsRefusedAt source place unit.Depth
IsWrong source place Dimensions = IsRefusedAt source place unit.Dimensions
IsWrong source place Syntax = IsRefusedAt source place unit.Syntax
IsWrong source place (Rule number) = ⊥

abbrev pub IsOver : List ℕ → Quantity → ℕ → Type 0
IsOver source Source count = (limit_of Source < count) × (count ≡ length source)
IsOver source Parameters count = ⊥
IsOver source Size count = ⊥
IsOver source Statics count = ⊥
IsOver source Frame count = ⊥
IsOver source Code count = ⊥
IsOver source Derivations count = ⊥

-- the tree that the tokens of the source spell, and where these stand
pub record IsTextOf (source : List ℕ) (text : Text) : Type 0 where
  pub tokens : List Token
  pub lexes : Lexes source tokens
  pub each : All (IsTokenOf source) tokens
  pub parsed : IsParsedText source tokens (Ok text.tree)
  pub spans : text.spans.items ≡ token_spans tokens

-- what a source is read as
abbrev pub IsRead : List ℕ → Result Text SourceFault → Type 0
IsRead source (Ok text) = (length source ≤ limit_of Source) × IsTextOf source text
IsRead source (Err (Line place why)) = (length source ≤ limit_of Source) × IsWrong source place why
IsRead source (Err (Limit quantity count)) = IsOver source quantity count
IsRead source (Err OutOfMemory) = Unit {0}
