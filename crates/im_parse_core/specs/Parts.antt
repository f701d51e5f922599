-- The parts that the grammar's lines are put together from.
use Rattle.std.specs.Prelude.{ℕ, suc, ◌+◌, List, [], ◌∷◌, ◌++◌, length}
use Rattle.im_word.specs.Words.{Word}
use Rattle.im_parse_core.specs.Reads.{Family}

-- one part, and then another, which has the first's tree
pub data Both {A B : Type 0} (D : Family A) (X : A → Family B) : ℕ → B → List Word → Type 0 where
  both : {p : ℕ} {a : A} {t : B} {u v : List Word} → D p a u → X a (p + length u) t v → Both D X p t (u ++ v)

-- this word, and then a part
pub data After {A : Type 0} (x : Word) (D : Family A) : ℕ → A → List Word → Type 0 where
  after : {p : ℕ} {t : A} {u : List Word} → D (suc p) t u → After x D p t (x ∷ u)

-- a part, and what its tree is made to
pub data Made {A B : Type 0} (f : A → B) (D : Family A) : ℕ → B → List Word → Type 0 where
  made : {p : ℕ} {t : A} {u : List Word} → D p t u → Made f D p (f t) u

-- no words, with this tree
pub data Done {A : Type 0} (tree : A) : ℕ → A → List Word → Type 0 where
  done : {p : ℕ} → Done tree p tree []
