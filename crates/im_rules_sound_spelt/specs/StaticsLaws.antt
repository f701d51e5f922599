-- What is said of the statics of a unit.
use Rattle.std.specs.Prelude.{ℕ, ◌<◌, ◌^◌, false, List, length}
use Rattle.im_tok.specs.declared.token.TokenKind.{TokenKind}
use Rattle.im_lex.specs.declared.piece.PieceKind.TheVariants.{Token as TokenPiece}
use Rattle.im_lex.specs.Pieces.{IsPiece}
use Rattle.im_word.specs.Words.{Word}
use Rattle.im_word.specs.Tokens.{IsWordOf}
use Rattle.im_ctree.specs.Tree as t
use Rattle.im_ctree.specs.Units.{Spells}
use Rattle.im_typed.specs.Program.{Prog}
use Rattle.im_typed.specs.Typing.{Each}
use Rattle.im_rules.specs.TypedUnit.{TypedUnit}
use Rattle.im_rules_limits.specs.Limits.{IsWithinLimits}
use Rattle.im_rules_sound_places.specs.Units.{IsWrittenUnit}
use Rattle.im_rules_sound_spelt.specs.Words.{AreLexical, IsNamedBy, AreNamedBy}
use Rattle.im_rules_sound_spelt.specs.Namable.{is_name, HasCell, IsNamable}

abbrev pub WordNamesLaw : Type 0
WordNamesLaw = (k : TokenKind) (bytes : List ℕ) (w : Word) → IsPiece false (TokenPiece k) bytes → IsWordOf k bytes w → length bytes < 2 ^ 32 → IsNamedBy is_name w

-- a static has a complete type, and so a cell
abbrev pub CellsLaw : Type 0
CellsLaw = (u : t.Tree) (g : Prog) → TypedUnit u g → IsWrittenUnit u → IsWithinLimits u → Each HasCell g.statics

-- where an image takes the names among the words, it can name each static
abbrev pub NamableLaw : Type 0
NamableLaw =
    (u : t.Tree) (words : List Word) (g : Prog) → Spells u words → AreLexical words → AreNamedBy is_name words → TypedUnit u g
    → IsWithinLimits u → Each IsNamable g.statics
