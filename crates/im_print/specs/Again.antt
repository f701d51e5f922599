-- What it is that a printed tree is read back.
use Rattle.std.specs.Prelude.{ℕ, ◌≤◌, All, List}
use Rattle.im_tok.specs.declared.token.Token.{Token}
use Rattle.im_lex.specs.Lexing.{Lexes}
use Rattle.im_word.specs.Words.{Word}
use Rattle.im_ctree.specs.Tree.{Tree}
use Rattle.im_ctree.specs.Units.{Spells}
use Rattle.im_print_relation.specs.Text.{HaveWords, IsReadAs}
use Rattle.im_print_relation.specs.Again.{IsSpelledAgain}

-- the tokens of some text spell the tree
pub record IsSpelled (tree : Tree) : Type 0 where
  pub source : List ℕ
  pub bytes : All (λ byte. byte ≤ 255) source
  pub tokens : List Token
  pub lexes : Lexes source tokens
  pub words : List Word
  pub have : HaveWords source tokens words
  pub spells : Spells tree words

-- the text lexes to tokens, and these spell a tree that is this one but for the numbers of its tokens
pub record IsReadBack (tree : Tree) (text : List ℕ) : Type 0 where
  pub words : List Word
  pub read : IsReadAs text words
  pub again : IsSpelledAgain tree words
