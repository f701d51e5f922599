-- What it is that words spell a tree again.
use Rattle.std.specs.Prelude.{◌≡◌, List}
use Rattle.im_word.specs.Words.{Word}
use Rattle.im_ctree.specs.Tree.{Tree}
use Rattle.im_ctree.specs.Units.{Spells}
use Rattle.im_print_relation.specs.Unnumbered.{unnumbered}
use Rattle.im_print_relation.specs.Fit.{AreFit}

-- tokens may have these words, and they spell a tree that is this one but for the numbers of its tokens
pub record IsSpelledAgain (tree : Tree) (words : List Word) : Type 0 where
  pub fit : AreFit words
  pub again : Tree
  pub spells : Spells again words
  pub same : unnumbered again ≡ unnumbered tree
