-- A typed program, as the passes see it.
use Rattle.std.specs.Prelude.{ℕ, List}
use Rattle.im_store.specs.Outcomes.{Outcome}
use Rattle.im_store.specs.Statics.{StaticObject}
use Rattle.im_typed.specs.Sound.{EndsRight}
use Rattle.im_block.specs.Meaning.{Setting}
use Rattle.im_keeps.specs.Keeps.{IsInput}

-- what it means with these frames, this stack, this capacity and this input, by its fuel; its nodes; its statics; the
-- bytes that the frame of each function may need
pub record Source : Type 0 where
  pub means : Setting → ℕ → Outcome
  pub nodes : ℕ
  pub statics : List StaticObject
  pub needs : List ℕ

-- an end shows a status of 32 bits, and for each static a value of each of its cells
pub record IsRightSource (source : Source) : Type 0 where
  pub ends : (g : Setting) (n : ℕ) → IsInput g.input → EndsRight source.statics (source.means g n)
