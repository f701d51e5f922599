-- A word: what the grammar sees of a token.
use Rattle.std.specs.Prelude.{ℕ, List}
use Rattle.im_tok.specs.declared.keyword.Keyword.{Keyword}
use Rattle.im_tok.specs.declared.punctuator.Punctuator.{Punctuator}
use Rattle.im_tok.specs.declared.number.Number.{Number}

-- a name's bytes, or those that a string literal stands for
abbrev pub Name : Type 0
Name = List ℕ

pub data Word : Type 0 where
  name : Name → Word
  keyword : Keyword → Word
  number : Number → Word
  character : ℕ → Word
  text : Name → Word
  mark : Punctuator → Word
  -- a token whose text isn't of its kind; no line of the grammar has it
  unknown : Word
