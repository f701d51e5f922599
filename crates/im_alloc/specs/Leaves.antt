-- Functions that have no slot once they are placed: without calls, with at most 20 intervals at any line, and nothing but
-- parameters alive at the entry.
use Rattle.std.specs.Prelude.{◌≡◌, ℕ, Some, slice_get}
use Rattle.im_block.specs.declared.unit.Function.{Function}
use Rattle.im_block.specs.declared.unit.Unit.{Unit as Code}
use Rattle.im_alloc_intervals.specs.Leaves.{IsLeaf, IsTight, NothingElseEnters}

pub record LeavesLeaves (u v : Code) : Type 0 where
  pub none : (i : ℕ) (f g : Function) → slice_get u.functions.items i ≡ Some f → slice_get v.functions.items i ≡ Some g → IsLeaf f → IsTight f 20 → NothingElseEnters f → g.slots ≡ 0
