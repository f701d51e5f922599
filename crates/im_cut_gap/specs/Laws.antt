-- What follows of gap cuts.
use Rattle.std.specs.Prelude.{◌≡◌, ℕ, ◌≤◌, Some, slice_get}
use Rattle.im_block.specs.declared.code.Block.{Block}
use Rattle.im_block.specs.declared.unit.Function.{Function}
use Rattle.im_block.specs.Uncut.{SameFunction}
use Rattle.im_alloc_placed.specs.Apart.{CutsApart}
use Rattle.im_cut_gap.specs.Gaps.{GapCutsTo}

-- gap cuts are further cuts alone
abbrev pub GapSameLaw : Type 0
GapSameLaw = (limit : ℕ) (old new : Function) → GapCutsTo limit old new → SameFunction old new

-- and none stands beside another where none did
abbrev pub GapApartLaw : Type 0
GapApartLaw =
    (limit : ℕ) (old new : Function) → 8 ≤ limit → GapCutsTo limit old new →
    ((b : ℕ) (block : Block) → slice_get old.blocks.items b ≡ Some block → CutsApart block.lines.items) →
    (b : ℕ) (block : Block) → slice_get new.blocks.items b ≡ Some block → CutsApart block.lines.items
