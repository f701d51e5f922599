-- Why no register of the new code is read before it was written: no path reads a promoted object before it writes it.
use Rattle.std.specs.Prelude.{◌≡◌, ℕ, ◌==◌, ◌&&◌, ◌||◌, Bool, true, false, not, List, [], ◌∷◌, Option, Some, slice_get}
use Rattle.im_block.specs.declared.code.Place.{Place}
use Rattle.im_block.specs.declared.code.Place.TheVariants.{Static, Local, Through}
use Rattle.im_block.specs.declared.code.Line.{Line}
use Rattle.im_block.specs.declared.code.Line.TheVariants.{Read, Write}
use Rattle.im_block.specs.declared.code.Exit.{Exit}
use Rattle.im_block.specs.declared.code.Exit.TheVariants.{Jump, Turn, Branch, Return}
use Rattle.im_block.specs.declared.code.Block.{Block}
use Rattle.im_block.specs.declared.unit.Function.{Function}
use Rattle.im_promote.specs.Promote.{Owns}

abbrev pub names : Place → ℕ → Bool
names (Static object offset) n = false
names (Local object offset) n = n == object
names (Through pointer offset) n = false

abbrev pub reads_object : Line → ℕ → Bool
reads_object (Read to place kind access) n = names place n
reads_object line n = false

abbrev pub writes_object : Line → ℕ → Bool
writes_object (Write place kind from access) n = names place n
writes_object line n = false

-- live b: a path from block b on may read the object before it writes it
abbrev pub exit_objects : (ℕ → Bool) → Exit → Bool
exit_objects live (Jump b) = live b
exit_objects live (Turn b) = live b
exit_objects live (Branch on a b) = live a || live b
exit_objects live (Return from) = false

abbrev pub object_lives : (ℕ → Bool) → List Line → Exit → ℕ → Bool
object_lives live [] exit n = exit_objects live exit
object_lives live (line ∷ rest) exit n = reads_object line n || (not (writes_object line n) && object_lives live rest exit n)

-- no path from the entry reads the object before it writes it: what lives at the starts of blocks is closed along the edges,
-- and has no entry
pub record IsWrittenFirst (f : Function) (n : ℕ) : Type 0 where
  pub live : ℕ → Bool
  pub closed : (b : ℕ) (block : Block) → slice_get f.blocks.items b ≡ Some block → object_lives live block.lines.items block.exit n ≡ true → live b ≡ true
  pub entry : live f.entry ≡ false

pub record WritesObjectsFirst (homes : ℕ → Option ℕ) (f : Function) : Type 0 where
  pub each : (n r : ℕ) → Owns f n → homes n ≡ Some r → IsWrittenFirst f n
