-- C's numbers as words, and the machine's words as C's numbers.
use Rattle.std.specs.Prelude.{◌≡◌, ℕ, ℤ, pos, ◌<◌, ◌^◌, ◌-ℤ◌, ◌≤ℤ◌, ◌<ℤ◌}
use Rattle.im_num.specs.declared.kind.Kind.TheVariants.{I32}
use Rattle.im_num.specs.Kinds.{wrap, word}
use Rattle.im_rv.specs.Steps.{signed}
use Rattle.im_rv.specs.Steps as machine

-- the word of a number, which C's cells have, is the machine's where the number has at most 32 bits and a sign; and a word
-- read as signed is what C's conversion to a signed number of 32 bits gives
pub record WordsAgree : Type 0 where
  pub words : (z : ℤ) → (pos 0 -ℤ pos (2 ^ 32)) ≤ℤ z → z <ℤ pos (2 ^ 32) → word z ≡ machine.word z
  pub signed_words : (a : ℕ) → a < 2 ^ 32 → signed a ≡ wrap I32 (pos a)
