-- What may stand behind each part of the grammar, for the contracts of functions that read them.
use Rattle.std.specs.Prelude.{ℕ, ◌≡◌, Bool, List, [], ◌∷◌}
use Rattle.std.specs.List.{Contains}
use Rattle.im_tok.specs.declared.number.Number.{Number}
use Rattle.im_tok.specs.declared.keyword.Keyword.{Keyword}
use Rattle.im_tok.specs.declared.keyword.Keyword.TheVariants as key
use Rattle.im_tok.specs.declared.keyword.Keyword.TheVariants.{Sizeof, Struct, Enum}
use Rattle.im_tok.specs.declared.punctuator.Punctuator.{Punctuator}
use Rattle.im_tok.specs.declared.punctuator.Punctuator.TheVariants as punctuator
use Rattle.im_word.specs.Words.{Name, Word, name, keyword, number, character, text, mark, unknown}
use Rattle.im_ctree.specs.declared.operator.StepOp.{StepOp}
use Rattle.im_ctree.specs.declared.operator.UnaryOp.{UnaryOp}
use Rattle.im_ctree.specs.declared.specifier.SpecifierWord.{SpecifierWord}
use Rattle.im_ctree.specs.Operators as op
use Rattle.im_ctree.specs.Grammar.{GoesOnSpecifiers}

-- how tightly a punctuator goes on with what stands before it, and 0 where it goes on with no expression
abbrev pub mark_rank : Punctuator → ℕ
mark_rank punctuator.Comma = 1
mark_rank punctuator.Assign = 2
mark_rank punctuator.StarAssign = 2
mark_rank punctuator.SlashAssign = 2
mark_rank punctuator.PercentAssign = 2
mark_rank punctuator.PlusAssign = 2
mark_rank punctuator.MinusAssign = 2
mark_rank punctuator.ShiftLeftAssign = 2
mark_rank punctuator.ShiftRightAssign = 2
mark_rank punctuator.AndAssign = 2
mark_rank punctuator.XorAssign = 2
mark_rank punctuator.OrAssign = 2
mark_rank punctuator.Question = 3
mark_rank punctuator.OrOr = 4
mark_rank punctuator.AndAnd = 5
mark_rank punctuator.Bar = 6
mark_rank punctuator.Caret = 7
mark_rank punctuator.Ampersand = 8
mark_rank punctuator.EqualEqual = 9
mark_rank punctuator.NotEqual = 9
mark_rank punctuator.Less = 10
mark_rank punctuator.Greater = 10
mark_rank punctuator.LessEqual = 10
mark_rank punctuator.GreaterEqual = 10
mark_rank punctuator.ShiftLeft = 11
mark_rank punctuator.ShiftRight = 11
mark_rank punctuator.Plus = 12
mark_rank punctuator.Minus = 12
mark_rank punctuator.Star = 13
mark_rank punctuator.Slash = 13
mark_rank punctuator.Percent = 13
mark_rank punctuator.OpenBracket = 14
mark_rank punctuator.OpenParen = 15
mark_rank punctuator.Dot = 16
mark_rank punctuator.Arrow = 17
mark_rank punctuator.Increment = 18
mark_rank punctuator.Decrement = 18
mark_rank _ = 0

abbrev pub rank : Word → ℕ
rank (mark m) = mark_rank m
rank (text s) = 19
rank (name n) = 0
rank (keyword k) = 0
rank (number n) = 0
rank (character n) = 0
rank unknown = 0

abbrev pub head_rank : List Word → ℕ
head_rank [] = 0
head_rank (x ∷ v) = rank x

pub data Closes : List Word → Type 0 where
  close_paren : {v : List Word} → Closes (mark punctuator.CloseParen ∷ v)
  close_bracket : {v : List Word} → Closes (mark punctuator.CloseBracket ∷ v)
  close_brace : {v : List Word} → Closes (mark punctuator.CloseBrace ∷ v)
  close_declaration : {v : List Word} → Closes (mark punctuator.Semicolon ∷ v)

pub data Separated : List Word → Type 0 where
  closes : {r : List Word} → Closes r → Separated r
  at_comma : {v : List Word} → Separated (mark punctuator.Comma ∷ v)

-- what goes on with specifiers
abbrev pub keyword_specifier : Keyword → ℕ
keyword_specifier key.Typedef = 1
keyword_specifier key.Extern = 1
keyword_specifier key.Static = 1
keyword_specifier key.Const = 1
keyword_specifier key.Void = 1
keyword_specifier key.Char = 1
keyword_specifier key.Short = 1
keyword_specifier key.Int = 1
keyword_specifier key.Long = 1
keyword_specifier key.Signed = 1
keyword_specifier key.Unsigned = 1
keyword_specifier key.Struct = 1
keyword_specifier key.Enum = 1
keyword_specifier _ = 0

abbrev pub mark_brace : Punctuator → ℕ
mark_brace punctuator.OpenBrace = 1
mark_brace _ = 0

abbrev pub head_brace : List Word → ℕ
head_brace (mark m ∷ v) = mark_brace m
head_brace _ = 0

abbrev pub head_specifier : List Word → ℕ
head_specifier (keyword k ∷ v) = keyword_specifier k
head_specifier (mark m ∷ v) = mark_brace m
head_specifier _ = 0

abbrev pub SpecifierEnds : List Name → Bool → List Word → Type 0
SpecifierEnds T seen r = (head_specifier r ≡ 0) × (GoesOnSpecifiers T seen r → ⊥)

-- stars, and `const` behind them
abbrev pub star_rank : Word → ℕ
star_rank (keyword key.Const) = 2
star_rank (mark punctuator.Star) = 1
star_rank _ = 0

abbrev pub head_star : List Word → ℕ
head_star [] = 0
head_star (x ∷ v) = star_rank x

-- what begins an expression
pub data StartsExpression (T : List Name) : Word → Type 0 where
  at_name : {n : Name} → (Contains T n → ⊥) → StartsExpression T (name n)
  at_number : {n : Number} → StartsExpression T (number n)
  at_character : {n : ℕ} → StartsExpression T (character n)
  at_text : {s : Name} → StartsExpression T (text s)
  at_open : StartsExpression T (mark punctuator.OpenParen)
  at_step : {o : StepOp} {m : Punctuator} → op.IsStep o m → StartsExpression T (mark m)
  at_prefix : {o : UnaryOp} {m : Punctuator} → op.IsPrefix o m → StartsExpression T (mark m)
  at_sizeof : StartsExpression T (keyword Sizeof)

-- what begins specifiers
pub data StartsSpecifier (T : List Name) : Word → Type 0 where
  at_typedef : {n : Name} → Contains T n → StartsSpecifier T (name n)
  at_word : {x : SpecifierWord} {k : Keyword} → op.IsSpecifierWord x k → StartsSpecifier T (keyword k)
  at_struct : StartsSpecifier T (keyword Struct)
  at_enum : StartsSpecifier T (keyword Enum)

-- what begins a declarator, or an abstract one
pub data StartsDeclarator : Word → Type 0 where
  at_declared : {n : Name} → StartsDeclarator (name n)
  at_star : StartsDeclarator (mark punctuator.Star)
  at_paren : StartsDeclarator (mark punctuator.OpenParen)

pub data StartsAbstract : Word → Type 0 where
  at_abstract_star : StartsAbstract (mark punctuator.Star)
  at_abstract_paren : StartsAbstract (mark punctuator.OpenParen)
  at_abstract_bracket : StartsAbstract (mark punctuator.OpenBracket)

abbrev pub Starting : (Word → Type 0) → List Word → Type 0
Starting P w = (x : Word) × (v : List Word) × (w ≡ x ∷ v) × P x
