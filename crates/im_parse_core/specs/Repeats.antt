-- Repetitions, for any kind of item: { item }. What an item may be depends on a state, which each item moves on.
use Rattle.std.specs.Prelude.{ℕ, ◌+◌, List, [], ◌∷◌, ◌++◌, length}
use Rattle.im_word.specs.Words.{Word}
use Rattle.im_parse_core.specs.Reads.{Family}

pub data Repeated {S A B : Type 0} (X : S → Family A) (step : S → A → S) (cons : A → B → B) (nil : B) : S → ℕ → B → List Word → Type 0 where
  no_more : {s : S} {p : ℕ} → Repeated X step cons nil s p nil []
  one_more : {s : S} {p : ℕ} {a : A} {b : B} {u v : List Word} → X s p a u → Repeated X step cons nil (step s a) (p + length u) b v → Repeated X step cons nil s p (cons a b) (u ++ v)

-- the state behind these items
abbrev pub moved : {S A : Type 0} → (S → A → S) → S → List A → S
moved step s [] = s
moved step s (a ∷ as') = moved step (step s a) as'
