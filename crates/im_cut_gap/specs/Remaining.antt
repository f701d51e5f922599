-- What is left of paths without a cut, by which the words of linked code are numbered; and code with further cuts.
use Rattle.std.specs.Prelude.{◌≡◌, ℕ, ◌+◌, ◌≤◌, max, List, [], ◌∷◌, Some, slice_get}
use Rattle.im_block.specs.declared.code.Line.{Line}
use Rattle.im_block.specs.declared.code.Line.TheVariants.{Cut}
use Rattle.im_block.specs.declared.code.Exit.{Exit}
use Rattle.im_block.specs.declared.code.Exit.TheVariants.{Jump, Turn, Branch, Return}
use Rattle.im_block.specs.declared.code.Block.{Block}
use Rattle.im_block.specs.declared.unit.Function.{Function}
use Rattle.im_block.specs.Meaning.{Spot}
use Rattle.im_block.specs.Paths.{Begins, spot}
use Rattle.im_block.specs.Shape.{IsOrdered, with_cut}
use Rattle.im_block.specs.Forced.{CutAtTurn}
use Rattle.im_block.specs.Uncut.{WithCuts, SameFunction}
use Rattle.im_cut_gap.specs.Costs.{leave_cost, CostPath, NoneLonger}

-- the most that is left behind an exit, by what is left at the starts of blocks
abbrev pub most_behind : (ℕ → ℕ) → Exit → ℕ
most_behind left (Jump c) = left c
most_behind left (Turn c) = left c
most_behind left (Branch on x y) = max (left x) (left y)
most_behind left (Return from) = 0

-- and the most that a path still costs before these lines: to the next cut, or over the exit
abbrev pub cost_on : (ℕ → ℕ) → List Line → Exit → ℕ
cost_on left [] exit = leave_cost exit + most_behind left exit
cost_on left (Cut cause ∷ rest) exit = 0
cost_on left (line ∷ rest) exit = with_cut line + cost_on left rest exit

pub record IsRemaining (limit : ℕ) (f : Function) (left : ℕ → ℕ) : Type 0 where
  pub blocks : (b : ℕ) (block : Block) → slice_get f.blocks.items b ≡ Some block → left b ≡ cost_on left block.lines.items block.exit
  pub begins : (s : Spot) → Begins f s → cost_on left s.rest s.exit ≤ limit

-- where no path is longer, each block has such a number, and from where a section begins no more than the limit is left
abbrev pub RemainingLaw : Type 0
RemainingLaw =
    (limit : ℕ) (f : Function) → IsOrdered f.blocks.items →
    ((b : ℕ) (block : Block) → slice_get f.blocks.items b ≡ Some block → CutAtTurn block.exit block.lines.items) →
    NoneLonger limit f → (left : ℕ → ℕ) × IsRemaining limit f left

-- a spot of code with further cuts lies on a path of the old code
pub record LiesOn (old : Function) (s : Spot) : Type 0 where
  pub start : Spot
  pub begins : Begins old start
  pub cost : ℕ
  pub rest : List Line
  pub path : CostPath old.blocks.items start cost (spot s.block rest s.exit)
  pub more : WithCuts rest s.rest

-- further cuts that stand on paths of the old code leave no path longer
abbrev pub FurtherLaw : Type 0
FurtherLaw = (limit : ℕ) (old new : Function) → SameFunction old new → ((s : Spot) → Begins new s → LiesOn old s) → NoneLonger limit old → NoneLonger limit new
