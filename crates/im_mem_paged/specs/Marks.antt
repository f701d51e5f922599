-- The marks of pages: for the code's own contracts alone.
use Rattle.std.specs.Prelude.{◌≡◌, ℕ, ◌≤◌, ◌<◌, ◌+◌, ◌/◌, Bool, true, false, List, slice_index_or}
use Rattle.im_mem.specs.Map.{memory_size}
use Rattle.im_mem.specs.Memory.{Mem}

-- the bytes of a page without a mark are 0
abbrev pub UnmarkedAreZero : Mem → List Bool → Type 0
UnmarkedAreZero m marks = (k : ℕ) → k < memory_size → slice_index_or marks (k / 4096) true ≡ false → m k ≡ 0

-- no mark is taken away
abbrev pub KeepsMarks : (old new : List Bool) → Type 0
KeepsMarks old new = (page : ℕ) → slice_index_or new page true ≡ false → slice_index_or old page true ≡ false

-- these pages are marked, the last one excluded
abbrev pub MarksAll : (first end : ℕ) → List Bool → Type 0
MarksAll first end marks = (page : ℕ) → first ≤ page → page < end → slice_index_or marks page true ≡ true

-- the pages of so many bytes from a place on are marked
abbrev pub MarksBytes : (at count : ℕ) → List Bool → Type 0
MarksBytes at count marks = (k : ℕ) → at ≤ k → k < at + count → slice_index_or marks (k / 4096) true ≡ true

-- the page of an address is marked, where there is such a page
abbrev pub MarksPageOf : (at : ℕ) → List Bool → Type 0
MarksPageOf at marks = slice_index_or marks (at / 4096) true ≡ true
