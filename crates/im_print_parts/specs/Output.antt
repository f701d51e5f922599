-- What printing functions write.
use Rattle.std.specs.Prelude.{◌≡◌, ℕ, List, [], ◌∷◌, ◌++◌, map, reverse}
use Rattle.std.proofs.Common.{Bor}
use Rattle.im_word.specs.Words.{Name, Word}
use Rattle.im_print_relation.specs.Text.{word_text}

-- each word with a blank behind it
abbrev pub spaced : List Word → List ℕ
spaced [] = []
spaced (x ∷ xs) = word_text x ++ (32 ∷ spaced xs)

-- these words were written behind the bytes that stood there
pub record Writes (old new : List ℕ) (words : List Word) : Type 0 where
  pub behind : new ≡ old ++ spaced words

-- the words of one thing behind the other
abbrev pub each : {X : Type 0} → (X → List Word) → List X → List Word
each words [] = []
each words (x ∷ xs) = words x ++ each words xs

-- the typedef names in hand, the last one declared standing last
abbrev pub known : List (Bor Name) → List Name
known names = reverse (map (λ (one : Bor Name). one.now) names)
