-- The dimensions at a word: how many brackets stand in a row up to it, each `[` directly behind the `]` of the one before, or
-- behind that and closing parentheses, as in `a[1][1]` and `(a[1])[1]`. The nesting doesn't count them once they are closed, and
-- yet a declarator's make a type go down a step for each.
use Rattle.std.specs.Prelude.{ℕ, zero, suc, ◌+◌, ◌≤◌, ◌<◌, List, [], ◌∷◌, Option, Some, None, length, slice_get}
use Rattle.im_tok.specs.declared.punctuator.Punctuator.{Punctuator}
use Rattle.im_tok.specs.declared.punctuator.Punctuator.TheVariants.{OpenBracket, CloseBracket, CloseParen}
use Rattle.im_word.specs.Words.{Word, name, keyword, number, character, text, mark, unknown}
use Rattle.im_parse.specs.declared.dimensions.Sign.{Sign}
use Rattle.im_parse.specs.declared.dimensions.Sign.TheVariants as sign

-- ---- what a word is to them

abbrev pub mark_sign : Punctuator → Sign
mark_sign OpenBracket = sign.Opens
mark_sign CloseBracket = sign.Closes
mark_sign CloseParen = sign.GoesOn
mark_sign _ = sign.Ends

abbrev pub sign_of : Word → Sign
sign_of (mark m) = mark_sign m
sign_of (name n) = sign.Ends
sign_of (keyword k) = sign.Ends
sign_of (number n) = sign.Ends
sign_of (character c) = sign.Ends
sign_of (text s) = sign.Ends
sign_of unknown = sign.Ends

abbrev pub optional_sign : Option Word → Sign
optional_sign None = sign.Ends
optional_sign (Some word) = sign_of word

-- what word i is, and Ends where there is none
abbrev pub sign_at : List Word → ℕ → Sign
sign_at words i = optional_sign (slice_get words i)

-- ---- runs: of the brackets in a row up to here, and of those up to each bracket that is open, the innermost first

-- behind a closing bracket its own run goes on
abbrev pub closed : List ℕ → List ℕ
closed [] = 0 ∷ []
closed (run ∷ outer) = run ∷ outer

abbrev pub runs_behind : Sign → List ℕ → List ℕ
runs_behind word [] = []
runs_behind sign.Opens (run ∷ outer) = (run + 1) ∷ (run + 1) ∷ outer
runs_behind sign.Closes (run ∷ outer) = closed outer
runs_behind sign.GoesOn (run ∷ outer) = run ∷ outer
runs_behind sign.Ends (run ∷ outer) = 0 ∷ outer

-- before word i
abbrev pub runs_before : List Word → ℕ → List ℕ
runs_before words zero = 0 ∷ []
runs_before words (suc i) = runs_behind (sign_at words i) (runs_before words i)

abbrev pub innermost : List ℕ → ℕ
innermost [] = 0
innermost (run ∷ outer) = run

-- the dimensions at word i
abbrev pub dimensions_at : List Word → ℕ → ℕ
dimensions_at words i = innermost (runs_before words (suc i))

-- the first word whose dimensions are over the limit
pub record IsFirstDimensioned (limit : ℕ) (words : List Word) (place : ℕ) : Type 0 where
  pub within : place < length words
  pub over : limit < dimensions_at words place
  pub first : (i : ℕ) → i < place → dimensions_at words i ≤ limit

-- no word before this one has dimensions over the limit
abbrev pub NoneDimensionedBefore : ℕ → List Word → ℕ → Type 0
NoneDimensionedBefore limit words place = (i : ℕ) → i < place → dimensions_at words i ≤ limit

abbrev pub NoneDimensioned : ℕ → List Word → Type 0
NoneDimensioned limit words = NoneDimensionedBefore limit words (length words)
