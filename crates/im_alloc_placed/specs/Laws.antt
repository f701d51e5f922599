-- What further cuts leave of placed and placeable code.
use Rattle.std.specs.Prelude.{ℕ, ◌≤◌}
use Rattle.im_block.specs.declared.code.Line.{Line}
use Rattle.im_block.specs.declared.unit.Function.{Function}
use Rattle.im_block.specs.declared.unit.Unit.{Unit as Code}
use Rattle.im_block.specs.Shape.{cost}
use Rattle.im_block.specs.Uncut.{SameButCuts}
use Rattle.im_alloc_placed.specs.Placed.{IsPlacedCode}
use Rattle.im_alloc_placed.specs.Placeable.{IsPlaceableLine, IsPlaceable}

pub record CutsKeepPlacesLaw : Type 0 where
  pub placed : (old new : Code) → SameButCuts old new → IsPlacedCode old → IsPlacedCode new
  pub placeable : (old new : Code) → SameButCuts old new → IsPlaceable old → IsPlaceable new

-- a line that can be placed costs at most 50 words
abbrev pub CostsLaw : Type 0
CostsLaw = (statics : ℕ) (f : Function) (line : Line) → IsPlaceableLine statics f line → cost line ≤ 50
