-- What follows of these definitions.
use Rattle.std.specs.Prelude.{◌≡◌, Bool, ℕ, List, Some, slice_get}
use Rattle.im_block.specs.declared.access.Tags.{Tags}
use Rattle.im_block.specs.declared.access.Dep.{Dep}
use Rattle.im_block.specs.declared.code.Block.{Block}
use Rattle.im_block.specs.declared.unit.Function.{Function}
use Rattle.im_block.specs.Meaning.{Site}
use Rattle.im_block.specs.Shape.{IsOrdered}
use Rattle.im_block.specs.Forced.{CutAtTurn}
use Rattle.im_block.specs.Uncut.{SameFunction}
use Rattle.im_alloc_placed.specs.Apart.{CutsApart}
use Rattle.im_cut.specs.Greedy.{CutsTo}
use Rattle.im_dep.specs.Sites.{Decides}
use Rattle.im_cut.specs.Sweep.{Swept}

-- greedy cuts are further cuts alone
abbrev pub SameLaw : Type 0
SameLaw = (tags : Tags) (old new : Function) (added : List Dep) → CutsTo tags old new added → SameFunction old new

-- and none stands beside another where none did
abbrev pub ApartLaw : Type 0
ApartLaw =
    (tags : Tags) (old new : Function) (added : List Dep) → CutsTo tags old new added →
    ((b : ℕ) (block : Block) → slice_get old.blocks.items b ≡ Some block → CutsApart block.lines.items) →
    (b : ℕ) (block : Block) → slice_get new.blocks.items b ≡ Some block → CutsApart block.lines.items

-- one sweep finds all: where edges but loop edges descend, and each loop edge is cut, a function that is swept is sectioned,
-- and each cut that was added is due
abbrev pub SweepLaw : Type 0
SweepLaw =
    (tags : Tags) (covers : Site → Site → Bool) (old new : Function) (added : List Dep) → Decides tags covers → Swept tags covers old new added → IsOrdered new.blocks.items →
    ((b : ℕ) (block : Block) → slice_get old.blocks.items b ≡ Some block → CutAtTurn block.exit block.lines.items) → CutsTo tags old new added
