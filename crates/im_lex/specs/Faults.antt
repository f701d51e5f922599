-- What stands where a text is stuck.
use Rattle.std.specs.Prelude.{ℕ, ◌≡◌, ◌≢◌, ◌+◌, ◌⊎◌, List, drop, slice_index}
use Rattle.im_tok.specs.Literals.{AreElements, elements_length, NoElement, Refused}
use Rattle.im_tok.specs.declared.literal.Element.{Element}
use Rattle.im_tok.specs.declared.literal.ElementFault.{ElementFault}
use Rattle.im_tok.specs.declared.literal.ElementFault.TheVariants.{End, BadEscape as Escape}
use Rattle.im_lex.specs.declared.fault.LexFault.{LexFault}
use Rattle.im_lex.specs.declared.fault.LexFault.TheVariants.{Stuck, OutOfMemory}
use Rattle.im_lex.specs.declared.fault.LexFaultKind.{LexFaultKind}
use Rattle.im_lex.specs.declared.fault.LexFaultKind.TheVariants.{BadByte, OpenComment, OpenLiteral, BadEscape, BadNumber, BadDirective}
use Rattle.im_lex.specs.Pieces.{BeginsNumber}
use Rattle.im_lex.specs.Lexing.{StuckAt}

-- a literal begins, and behind these elements, the first of it, no other stands, for this reason
pub record IsBroken (fault : ElementFault) (text : List ℕ) : Type 0 where
  pub quote : (slice_index text 0 ≡ 39) ⊎ (slice_index text 0 ≡ 34)
  pub elements : List Element
  pub read : AreElements (slice_index text 0) (drop 1 text) elements
  pub none : NoElement (slice_index text 0) (drop (elements_length elements + 1) text)
  pub refused : Refused fault (slice_index text 0) (drop (elements_length elements + 1) text)

-- what the text begins with, where no piece stands at its front
abbrev pub IsFault : LexFaultKind → List ℕ → Type 0
IsFault BadDirective text = slice_index text 0 ≡ 35
IsFault OpenComment text = (slice_index text 0 ≡ 47) × (slice_index text 1 ≡ 42)
IsFault BadEscape text = IsBroken Escape text
IsFault OpenLiteral text = IsBroken End text
IsFault BadNumber text = BeginsNumber text
IsFault BadByte text = (slice_index text 0 ≢ 35) × (slice_index text 0 ≢ 39) × (slice_index text 0 ≢ 34) × (BeginsNumber text → ⊥) × (slice_index text 0 ≡ 47 → slice_index text 1 ≢ 42)

-- the text is stuck there, and this is why
abbrev pub IsLexFault : List ℕ → LexFault → Type 0
IsLexFault text (Stuck at kind) = StuckAt text at × IsFault kind (drop at text)
IsLexFault text OutOfMemory = Unit {0}
