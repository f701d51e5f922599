-- Casts in a row (C11 6.5.4).
use Rattle.std.specs.Prelude.{ℕ, ◌≡◌, ◌≤◌, List, [], ◌∷◌, drop, Option, Some}
use Rattle.im_tok.specs.declared.punctuator.Punctuator.TheVariants.{OpenParen}
use Rattle.im_word.specs.Words.{Name, Word, mark}
use Rattle.im_ctree.specs.Grammar.{IsCast, IsUnary}
use Rattle.im_ctree.specs.Tree as t
use Rattle.im_ctree.specs.Shape.{type_name_of}
use Rattle.im_parse_core.specs.Places.{IsAt}
use Rattle.im_parse_core.specs.Reads.{Within, head}
use Rattle.im_parse_expression.specs.Parsing.{Below, BeginsSpecifiers}
use Rattle.im_parse_expression.specs.declared.casts.CastType.{CastType}

-- an operand behind casts, of which the first is the outermost
abbrev pub cast_over : List CastType → t.Expression → t.Expression
cast_over [] e = e
cast_over (c ∷ cs) e = t.cast c.at (type_name_of c.name) (cast_over cs e)

-- a cast begins at place i, and what stands in its parentheses at place n
pub record CastBegins (T : List Name) (words : List Word) (i n : ℕ) : Type 0 where
  pub at : IsAt (mark OpenParen) words i n
  pub begins : BeginsSpecifiers T (head (drop n words))

-- none begins at place i: no parenthesis stands there, or one with what begins no type name
pub data NoCastBegins (T : List Name) (words : List Word) (i : ℕ) : Type 0 where
  unparenthesised : (head (drop i words) ≡ Some (mark OpenParen) → ⊥) → NoCastBegins T words i
  untyped : {n : ℕ} → IsAt (mark OpenParen) words i n → (BeginsSpecifiers T (head (drop n words)) → ⊥) → NoCastBegins T words i

-- casts stand from place i up to place n: behind them a unary expression makes a cast expression of place i
pub record StandCasts (T : List Name) (words : List Word) (i : ℕ) (cs : List CastType) (n : ℕ) : Type 0 where
  pub within : Within (IsCast T) (Below 14) i (drop i words) (IsUnary T) (Below 14) n (drop n words) (cast_over cs)
  pub order : i ≤ n
