-- What is said of the trees and programs of sources.
use Rattle.std.specs.Prelude.{ℕ, ◌<◌, Bool, List, length}
use Rattle.im_tok.specs.declared.token.TokenKind.{TokenKind}
use Rattle.im_word.specs.Words.{Name, Word}
use Rattle.im_typed.specs.im_store.Statics.{StaticObject}
use Rattle.im_word.specs.Tokens.{IsWordOf}
use Rattle.im_ctree.specs.Tree as t
use Rattle.im_ctree.specs.Units.{Spells}
use Rattle.im_typed.specs.Program.{Prog}
use Rattle.im_typed.specs.Limits as typed
use Rattle.im_typed.specs.Typing.{Each, IsWellTyped}
use Rattle.im_rules.specs.TypedUnit.{TypedUnit}
use Rattle.im_rules_limits.specs.Limits.{IsWithinLimits}
use Rattle.im_rules_sound_expressions.specs.Written.{AreBytes}
use Rattle.im_rules_sound_places.specs.Units.{IsWrittenUnit}
use Rattle.im_rules_sound_spelt.specs.Words.{IsLexical, AreLexical, AreNamedBy, IsStaticName}

abbrev pub WordsLaw : Type 0
WordsLaw = (k : TokenKind) (bytes : List ℕ) (w : Word) → IsWordOf k bytes w → 0 < length bytes → AreBytes bytes → IsLexical w

abbrev pub SpeltLaw : Type 0
SpeltLaw = (u : t.Tree) (words : List Word) → Spells u words → AreLexical words → IsWrittenUnit u

-- what a source's tree is typed to, within the limits, is well typed
abbrev pub SourcesLaw : Type 0
SourcesLaw =
    (u : t.Tree) (words : List Word) (g : Prog) → Spells u words → AreLexical words → TypedUnit u g → IsWithinLimits u
    → IsWellTyped g × typed.IsWithinLimits g

-- a static has a name of the source, or that of a string literal: what holds of all names in the words holds of its name
abbrev pub NamesLaw : Type 0
NamesLaw =
    (test : Name → Bool) (u : t.Tree) (words : List Word) (g : Prog) → Spells u words → AreLexical words → AreNamedBy test words
    → TypedUnit u g → IsWithinLimits u → Each {A = StaticObject} (λ o. IsStaticName test (length g.statics) o.name) g.statics
