-- Paths of placed code without a cut, and what they cost in words.
use Rattle.std.specs.Prelude.{◌≡◌, ℕ, ◌+◌, ◌≤◌, List, [], ◌∷◌, Some, slice_get}
use Rattle.im_block.specs.declared.code.Line.{Line}
use Rattle.im_block.specs.declared.code.Exit.{Exit}
use Rattle.im_block.specs.declared.code.Block.{Block}
use Rattle.im_block.specs.declared.unit.Function.{Function}
use Rattle.im_block.specs.Meaning.{Spot, at_block}
use Rattle.im_block.specs.Paths.{IsCut, IsEdge, spot, Begins}
use Rattle.im_block.specs.Shape.{with_cut, exit_words}

-- what an exit of placed code costs
abbrev pub leave_cost : Exit → ℕ
leave_cost exit = 1 + exit_words exit

-- the cost of what comes next in a block
abbrev pub next_cost : List Line → Exit → ℕ
next_cost [] exit = leave_cost exit
next_cost (line ∷ rest) exit = with_cut line

-- a path without a cut from one spot of a function to another, and what it costs
pub data CostPath (blocks : List Block) (start : Spot) : ℕ → Spot → Type 0 where
  Here : CostPath blocks start 0 start
  Along : (n b : ℕ) (line : Line) (rest : List Line) (exit : Exit) → (IsCut line → ⊥) → CostPath blocks start n (spot b (line ∷ rest) exit) → CostPath blocks start (n + with_cut line) (spot b rest exit)
  Across : (n b : ℕ) (exit : Exit) (c : ℕ) (block : Block) → IsEdge exit c → slice_get blocks c ≡ Some block → CostPath blocks start n (spot b [] exit) → CostPath blocks start (n + leave_cost exit) (at_block c block)

-- no path from where a section begins costs more, its last exit counted
pub record NoneLonger (limit : ℕ) (f : Function) : Type 0 where
  pub path : (start : Spot) → Begins f start → (n : ℕ) (s : Spot) → CostPath f.blocks.items start n s → n ≤ limit
  pub exit : (start : Spot) → Begins f start → (n b : ℕ) (exit : Exit) → CostPath f.blocks.items start n (spot b [] exit) → n + leave_cost exit ≤ limit
