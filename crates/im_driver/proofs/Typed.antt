-- What a source's tree is typed to, within the limits, is well typed.
use Rattle.std.proofs.Common.{ℕ, zero, suc, ◌-◌, ◌<◌, ◌^◌, List, [], ◌∷◌, length, take, drop, slice_index, slice_range, All, Ok, arith}
use Rattle.std.proofs.lemmas.List.{length-take, length-drop}
use Rattle.std.proofs.lemmas.List.Elements.{All-head, All-tail}
use Rattle.im_tok.specs.declared.token.Token.{Token}
use Rattle.im_lex.specs.Tokens.{IsTokenOf}
use Rattle.im_word.specs.Words.{Word}
use Rattle.im_ctree.specs.declared.unit.Tree.{Tree}
use Rattle.im_ctree.specs.Shape.{tree_of}
use Rattle.im_parse.specs.Spelling.{AreWords, no_words, next_word, IsParsedText}
use Rattle.im_typed.specs.Program.{Prog}
use Rattle.im_typed.specs.Limits as typed
use Rattle.im_typed.specs.Typing.{Each, IsWellTyped}
use Rattle.im_check.specs.im_rules.TypedUnit.{TypedUnit}
use Rattle.im_check.specs.im_rules_limits.Limits.{IsWithinLimits}
use Rattle.im_check.specs.im_rules_sound_places.Units.{IsWrittenUnit}
use Rattle.im_check.specs.im_rules_sound_expressions.Written.{AreBytes}
use Rattle.im_rules_sound_spelt.specs.Words.{AreLexical, AreNamedBy}
use Rattle.im_rules_sound_spelt.specs.Laws.{WordsLaw, SpeltLaw, SourcesLaw}
use Rattle.im_rules_sound_spelt.specs.Namable.{is_name, IsNamable}
use Rattle.im_rules_sound_spelt.specs.StaticsLaws.{WordNamesLaw, NamableLaw}
use Rattle.im_driver.proofs.Lexical.{token_some}

-- bytes of a text
abbrev pub AreSmall : List ℕ → Type 0
AreSmall text = (i : ℕ) → slice_index text i < 256

all_bytes : (text : List ℕ) → AreSmall text → AreBytes text
all_bytes [] h = tt
all_bytes (x ∷ text) h = ((let z = h 0 in omega arith), all_bytes text (λ i. h (suc i)))

take_bytes : (n : ℕ) (text : List ℕ) → AreBytes text → AreBytes (take n text)
take_bytes zero text h = tt
take_bytes (suc n) [] h = tt
take_bytes (suc n) (x ∷ text) h = (h.0, take_bytes n text h.1)

drop_bytes : (n : ℕ) (text : List ℕ) → AreBytes text → AreBytes (drop n text)
drop_bytes zero text h = h
drop_bytes (suc n) [] h = tt
drop_bytes (suc n) (x ∷ text) h = drop_bytes n text h.1

module _ (source : List ℕ) (small : AreSmall source) (law : WordsLaw) where
  are_lexical : (tokens : List Token) (words : List Word) → All (IsTokenOf source) tokens → AreWords source tokens words → AreLexical words
  are_lexical [] [] all no_words = tt
  are_lexical [] (word ∷ words) all x = elim x [ ]
  are_lexical (token ∷ tokens) [] all x = elim x [ ]
  are_lexical (token ∷ tokens) (word ∷ words) all (next_word w ws) =
      let t = All-head (IsTokenOf source) token tokens all in (
        law token.kind (slice_range source token.span.0 token.span.1) word w (token_some token.kind (slice_range source token.span.0 token.span.1) t.is)
            (take_bytes (token.span.1 - token.span.0) (drop token.span.0 source) (drop_bytes token.span.0 source (all_bytes source small))),
        are_lexical tokens words (All-tail (IsTokenOf source) token tokens all) ws,
      )

  pub is_written : (tokens : List Token) (tree : Tree) → SpeltLaw → All (IsTokenOf source) tokens → IsParsedText source tokens (Ok tree) → IsWrittenUnit (tree_of tree)
  is_written tokens tree spelt all parsed = spelt (tree_of tree) parsed.0 parsed.2.2 (are_lexical tokens parsed.0 all parsed.1)

  pub well_typed : (tokens : List Token) (tree : Tree) (g : Prog) → SourcesLaw → All (IsTokenOf source) tokens → IsParsedText source tokens (Ok tree) → TypedUnit (tree_of tree) g → IsWithinLimits (tree_of tree) → IsWellTyped g × typed.IsWithinLimits g
  well_typed tokens tree g sources all parsed typed within = sources (tree_of tree) parsed.0 g parsed.2.2 (are_lexical tokens parsed.0 all parsed.1) typed within

  -- the names among the words, and those of statics
  module _ (names : WordNamesLaw) (few : length source < 2 ^ 32) where
    few_bytes : (from end : ℕ) → length (slice_range source from end) < 2 ^ 32
    few_bytes from end =
        let taken = length-take (end - from) (drop from source) in
        let dropped = length-drop from source in
        omega (arith, taken, dropped, few)

    are_named : (tokens : List Token) (words : List Word) → All (IsTokenOf source) tokens → AreWords source tokens words → AreNamedBy is_name words
    are_named [] [] all no_words = tt
    are_named [] (word ∷ words) all x = elim x [ ]
    are_named (token ∷ tokens) [] all x = elim x [ ]
    are_named (token ∷ tokens) (word ∷ words) all (next_word w ws) =
        let t = All-head (IsTokenOf source) token tokens all in (
          names token.kind (slice_range source token.span.0 token.span.1) word t.is w (few_bytes token.span.0 token.span.1),
          are_named tokens words (All-tail (IsTokenOf source) token tokens all) ws,
        )

    pub namable : (tokens : List Token) (tree : Tree) (g : Prog) → NamableLaw → All (IsTokenOf source) tokens → IsParsedText source tokens (Ok tree) → TypedUnit (tree_of tree) g → IsWithinLimits (tree_of tree) → Each IsNamable g.statics
    namable tokens tree g statics all parsed typed within =
        statics (tree_of tree) parsed.0 g parsed.2.2 (are_lexical tokens parsed.0 all parsed.1) (are_named tokens parsed.0 all parsed.1) typed within
