-- The words of tokens, and what `parse` answers by them.
use Rattle.std.proofs.Common.{◌≡◌, ℕ, ◌+◌, ◌<◌, List, [], ◌∷◌, ◌++◌, length, map, drop, sym, refl, ap, ◌∙◌, subst, arith, append_assoc, length-drop, get_or, add-one, ◌≤◌, Result, Ok, Err}
use Rattle.std.proofs.lemmas.List.{append-nil, map-append}
use Rattle.std.proofs.Math.Seq.{drop-cons}
use Rattle.im_tok.specs.declared.token.Token.{Token}
use Rattle.im_word.specs.Words.{Word}
use Rattle.im_word.specs.Shown.{shown}
use Rattle.im_word.specs.declared.word.Word as w
use Rattle.im_word.specs.Tokens.{IsWordOf}
use Rattle.std.specs.Prelude.{slice_range}
use Rattle.im_ctree.specs.declared.unit.Tree.{Tree}
use Rattle.im_parse.specs.declared.text.ParseFault.{ParseFault}
use Rattle.im_parse.specs.declared.text.ParseFault.TheVariants as fault
use Rattle.im_parse.specs.Spelling.{AreWords, no_words, next_word, IsParsed, IsParsedText}

-- the words so far, before those of the tokens that are left
abbrev pub SoFar : List ℕ → List Token → List Word → ℕ → Type 0
SoFar source tokens words i = (rest : List Word) → AreWords source (drop i tokens) rest → AreWords source tokens (words ++ rest)

pub one_more : (source : List ℕ) (tokens : List Token) (words : List w.Word) (i k : ℕ) (token : Token) (word : w.Word) → drop i tokens ≡ token ∷ drop k tokens → IsWordOf token.kind (slice_range source token.span.0 token.span.1) (shown word) → SoFar source tokens (map shown words) i → SoFar source tokens (map shown (words ++ word ∷ [])) k
one_more source tokens words i k token word at is so rest h =
    subst (AreWords source tokens) (sym (append_assoc (map shown words) (shown word ∷ []) rest) ∙ ap (λ z. z ++ rest) (sym (map-append shown words (word ∷ []))))
    (so (shown word ∷ rest) (subst (λ z. AreWords source z (shown word ∷ rest)) (sym at) (next_word is h)))

pub one_token : (source : List ℕ) (tokens : List Token) (words : List w.Word) (i : ℕ) (d : Token) (word : w.Word) → i < length tokens → IsWordOf (get_or tokens i d).kind (slice_range source (get_or tokens i d).span.0 (get_or tokens i d).span.1) (shown word) → SoFar source tokens (map shown words) i → SoFar source tokens (map shown (words ++ word ∷ [])) (i + 1)
one_token source tokens words i d word h is so = one_more source tokens words i (i + 1) (get_or tokens i d) word (drop-cons tokens i d h ∙ ap (λ z. get_or tokens i d ∷ drop z tokens) (sym (add-one i))) is so

pub all_words : (source : List ℕ) (tokens : List Token) (words : List Word) (i : ℕ) → drop i tokens ≡ [] → SoFar source tokens words i → AreWords source tokens words
all_words source tokens words i none so = subst (AreWords source tokens) (append-nil words) (so [] (subst (λ z. AreWords source z []) (sym none) no_words))

pub parsed_text : (source : List ℕ) (tokens : List Token) (words : List Word) (result : Result Tree ParseFault) → AreWords source tokens words → IsParsed words result → IsParsedText source tokens result
parsed_text source tokens words (Ok tree) are h = (words, are, h)
parsed_text source tokens words (Err (fault.Depth p)) are h = (words, are, h)
parsed_text source tokens words (Err (fault.Dimensions p)) are h = (words, are, h)
parsed_text source tokens words (Err (fault.Syntax p)) are h = (words, are, h)
parsed_text source tokens words (Err fault.Memory) are h = tt

empty : (w : List Token) → length w ≡ 0 → w ≡ []
empty [] e = refl
empty (x ∷ w) e = absurd (omega (arith, e))

pub no_more_tokens : (tokens : List Token) (i : ℕ) → length tokens ≤ i → drop i tokens ≡ []
no_more_tokens tokens i h = empty (drop i tokens) (omega (arith, length-drop i tokens))
