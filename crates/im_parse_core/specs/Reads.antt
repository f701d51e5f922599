-- What a function finds that reads one nonterminal from the front of the words, for any nonterminal. A family D says
-- which words, of which the first has number p, are derived with which tree; an ending E, what stands behind such a
-- tree wherever the grammar lets it stand.
use Rattle.std.specs.Prelude.{ℕ, ◌+◌, ◌≡◌, List, [], ◌∷◌, ◌++◌, length, Option, Some, None}
use Rattle.im_word.specs.Words.{Word}

abbrev pub Family : Type 0 → Type 1
Family A = ℕ → A → List Word → Type 0

abbrev pub Ending : Type 0 → Type 1
Ending A = A → List Word → Type 0

-- the first word, if there is one
abbrev pub head : List Word → Option Word
head [] = None
head (x ∷ xs) = Some x

-- The tree is derived from the words before m, of which the first has number p, and the first of m number q. And in all
-- lists of words that begin with these and go on as m does by one word, or end where it ends, nothing else is derived
-- that has its ending behind it.
pub record Reads {A : Type 0} (D : Family A) (E : Ending A) (p : ℕ) (words : List Word) (tree : A) (q : ℕ) (m : List Word) : Type 0 where
  pub front : List Word
  pub cut : words ≡ front ++ m
  pub place : q ≡ p + length front
  pub derived : D p tree front
  pub sole : (others u r : List Word) (t : A) → head others ≡ head m → front ++ others ≡ u ++ r → D p t u → E t r → (t ≡ tree) × (u ≡ front)

-- Some derivation begins with the words before m. And in all lists of words that begin with these and go on as m does
-- by one word, or end where it ends, nothing is derived that has its ending behind it.
pub record Refuses {A : Type 0} (D : Family A) (E : Ending A) (p : ℕ) (words : List Word) (q : ℕ) (m : List Word) : Type 0 where
  pub front : List Word
  pub cut : words ≡ front ++ m
  pub place : q ≡ p + length front
  pub more : List Word
  pub whole : A
  pub begun : D p whole (front ++ more)
  pub none : (others u r : List Word) (t : A) → head others ≡ head m → front ++ others ≡ u ++ r → D p t u → E t r → ⊥

-- What X reads from m on gives what D reads of the words: D's tree is that of X put into what was read before m.
pub record Within {A B : Type 0} (D : Family A) (E : Ending A) (p : ℕ) (words : List Word) (X : Family B) (F : Ending B) (q : ℕ) (m : List Word) (put : B → A) : Type 0 where
  pub reads : (t : B) (n : ℕ) (rest : List Word) → Reads X F q m t n rest → Reads D E p words (put t) n rest
  pub refuses : (n : ℕ) (rest : List Word) → Refuses X F q m n rest → Refuses D E p words n rest
