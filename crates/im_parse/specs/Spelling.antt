-- What `parse` gives, by the words of the tokens.
use Rattle.std.specs.Prelude.{◌≡◌, ℕ, suc, ◌<◌, ◌≤◌, List, [], ◌∷◌, take, length, slice_range, nat_lt, if◌then◌else◌, Result, Ok, Err}
use Rattle.im_tok.specs.declared.token.Token.{Token}
use Rattle.im_word.specs.Words.{Word}
use Rattle.im_word.specs.Tokens.{IsWordOf}
use Rattle.im_word.specs.Nesting.{IsFirstOver, NoneOver}
use Rattle.im_ctree.specs.Tree as t
use Rattle.im_parse.specs.Dimensions.{IsFirstDimensioned, NoneDimensioned, NoneDimensionedBefore}
use Rattle.im_parse_core.specs.declared.stop.Stop.{Stop}
use Rattle.im_parse_core.specs.declared.stop.Stop.TheVariants.{Syntax, Memory}
use Rattle.im_ctree.specs.Units.{Spells, IsFront}
use Rattle.im_ctree.specs.Shape.{tree_of}
use Rattle.im_ctree.specs.declared.unit.Tree.{Tree}
use Rattle.im_parse.specs.declared.text.ParseFault.{ParseFault}
use Rattle.im_parse.specs.declared.text.ParseFault.TheVariants as fault

-- the words of tokens, whose bytes stand in the source
pub data AreWords (source : List ℕ) : List Token → List Word → Type 0 where
  no_words : AreWords source [] []
  next_word : {token : Token} {tokens : List Token} {word : Word} {words : List Word} → IsWordOf token.kind (slice_range source token.span.0 token.span.1) word → AreWords source tokens words → AreWords source (token ∷ tokens) (word ∷ words)

-- Word p is the first that no unit goes on with: the words before it begin some unit, and with it they begin none. Where it is
-- the end, the words are no unit.
pub record IsFirstFault (words : List Word) (p : ℕ) : Type 0 where
  pub within : p ≤ length words
  pub begins : IsFront (take p words)
  pub stops : p < length words → IsFront (take (suc p) words) → ⊥
  pub unspelt : (tree : t.Tree) → Spells tree words → ⊥

-- why a text has no tree
abbrev pub StopsUnit : List Word → Stop → Type 0
StopsUnit words (Syntax p) = IsFirstFault words p
StopsUnit words Memory = Unit {0}

-- the bytes of a token stand in the source
pub record IsWithin (source : List ℕ) (token : Token) : Type 0 where
  pub ordered : token.span.0 ≤ token.span.1
  pub within : token.span.1 ≤ length source

-- What `parse` answers, by the words of the tokens: the nesting is looked at first. Of dimensions over their limit and a word that
-- no unit goes on with, what stands earlier is told.
abbrev pub IsParsed : List Word → Result Tree ParseFault → Type 0
IsParsed words (Ok tree) = NoneOver 200 words × NoneDimensioned 512 words × Spells (tree_of tree) words
IsParsed words (Err (fault.Depth p)) = IsFirstOver 200 words p
IsParsed words (Err (fault.Dimensions p)) = NoneOver 200 words × IsFirstDimensioned 512 words p × IsFront (take p words)
IsParsed words (Err (fault.Syntax p)) = NoneOver 200 words × NoneDimensionedBefore 512 words p × IsFirstFault words p
IsParsed words (Err fault.Memory) = Unit {0}

-- what stands first, a fault of syntax or dimensions over their limit
abbrev pub earlier : ℕ → ℕ → ParseFault
earlier p place = if nat_lt p place then fault.Syntax p else fault.Dimensions place

-- for private contracts: why words within the limit of dimensions have no tree
abbrev pub IsWholeFault : List Word → ParseFault → Type 0
IsWholeFault words (fault.Depth p) = ⊥
IsWholeFault words (fault.Dimensions p) = ⊥
IsWholeFault words (fault.Syntax p) = IsFirstFault words p
IsWholeFault words fault.Memory = Unit {0}

-- and those of which this is the first with dimensions over it: a word before it is a fault, or some unit begins with all before it
abbrev pub IsCutShort : List Word → ℕ → ParseFault → Type 0
IsCutShort words place (fault.Depth p) = ⊥
IsCutShort words place (fault.Dimensions p) = (p ≡ place) × IsFront (take place words)
IsCutShort words place (fault.Syntax p) = (p < place) × IsFirstFault words p
IsCutShort words place fault.Memory = Unit {0}

abbrev OfWords : List ℕ → List Token → (List Word → Type 0) → Type 0
OfWords source tokens P = (words : List Word) × AreWords source tokens words × P words

-- what `parse` answers, by the tokens of a source
abbrev pub IsParsedText : List ℕ → List Token → Result Tree ParseFault → Type 0
IsParsedText source tokens (Ok tree) = OfWords source tokens (λ words. IsParsed words (Ok tree))
IsParsedText source tokens (Err (fault.Depth p)) = OfWords source tokens (λ words. IsParsed words (Err (fault.Depth p)))
IsParsedText source tokens (Err (fault.Dimensions p)) = OfWords source tokens (λ words. IsParsed words (Err (fault.Dimensions p)))
IsParsedText source tokens (Err (fault.Syntax p)) = OfWords source tokens (λ words. IsParsed words (Err (fault.Syntax p)))
IsParsedText source tokens (Err fault.Memory) = Unit {0}
