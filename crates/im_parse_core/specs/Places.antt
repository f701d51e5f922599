-- The same by places in the words of a text: the words from place i on.
use Rattle.std.specs.Prelude.{ℕ, suc, ◌≡◌, ◌<◌, List, ◌∷◌, drop, length}
use Rattle.im_word.specs.Words.{Word}
use Rattle.im_parse_core.specs.declared.stop.Stop.{Stop}
use Rattle.im_parse_core.specs.declared.stop.Stop.TheVariants.{Syntax, Memory}
use Rattle.im_parse_core.specs.Reads.{Family, Ending, Reads, Refuses}

-- the word x stands at place i, and the next at place n
pub record IsAt (x : Word) (words : List Word) (i n : ℕ) : Type 0 where
  pub here : drop i words ≡ x ∷ drop n words
  pub next : n ≡ suc i
  pub within : i < length words

-- the tree stands from place i up to place n
abbrev pub ReadsAt : {A : Type 0} → Family A → Ending A → List Word → ℕ → A → ℕ → Type 0
ReadsAt D E words i tree n = Reads D E i (drop i words) tree n (drop n words)

-- Why nothing was read from place i on. A fault of syntax is at the first word that goes on no derivation; want of memory
-- says nothing of the words.
abbrev pub StopsAt : {A : Type 0} → Family A → Ending A → List Word → ℕ → Stop → Type 0
StopsAt D E words i (Syntax n) = Refuses D E i (drop i words) n (drop n words)
StopsAt D E words i Memory = Unit {0}
