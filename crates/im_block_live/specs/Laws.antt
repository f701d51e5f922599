-- Nothing lives that isn't a register of the function.
use Rattle.std.specs.Prelude.{◌≡◌, ◌<◌, ℕ, true}
use Rattle.im_block.specs.declared.unit.Function.{Function}
use Rattle.im_block_live.specs.Reads.{reads_first}
use Rattle.im_block_live.specs.Words.{AreWithin}

-- a path reads registers of the function alone
abbrev pub LiveWithinLaw : Type 0
LiveWithinLaw = (f : Function) → AreWithin f → (n b v : ℕ) → reads_first f.blocks.items n b v ≡ true → v < f.register_count
