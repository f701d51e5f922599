-- The objects of an image by their addresses: for the code's own contracts alone.
use Rattle.std.specs.Prelude.{ℕ, ◌≤◌, ◌<◌, List, length, slice_index_or}
use Rattle.im_mem.specs.Map.{statics_start}
use Rattle.im_image.specs.Contents.{ObjectValue, AreObjects}

-- in the order of their addresses, among statics of at most a MiB
pub record AreLaidOut (objects : List ObjectValue) : Type 0 where
  pub count : length objects ≤ 1048576
  pub in_order : AreObjects 1048576 statics_start objects

-- so many objects, the lowest, begin no later than at an address
pub record HaveBegun (objects : List ObjectValue) (address begun : ℕ) : Type 0 where
  pub few : begun ≤ length objects
  pub low : (k : ℕ) (d : ObjectValue) → k < begun → (slice_index_or objects k d).at ≤ address
  pub high : (k : ℕ) (d : ObjectValue) → begun ≤ k → k < length objects → address < (slice_index_or objects k d).at
