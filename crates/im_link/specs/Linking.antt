-- What a linker has of the parts that were added.
use Rattle.std.specs.Prelude.{◌≡◌, ◌-◌, ◌^◌, ◌<◌, ◌≤◌, min, List, length, nat_eq}
use Rattle.std.specs.HashMap as hash
use Rattle.im_rv.specs.declared.code.Part.{Part}
use Rattle.im_rv.specs.Code.{address}
use Rattle.im_link.specs.declared.linker.Linker.{Linker}
use Rattle.im_link.specs.Parts.{word_count, lines_of, first_of, last_of}
use Rattle.im_link.specs.State.{AreLinesKept, AreFirstCuts}
use Rattle.im_link.specs.Code.{AreDependencesNamed, IsLinkable}

-- their words, aims, labels and cuts, and where the last of them begins
pub record AreKept (linker : Linker) (parts : List Part) : Type 0 where
  pub lines : AreLinesKept (lines_of parts) linker.words.items linker.aims.items (hash.get nat_eq linker.places)
  pub cuts : AreDependencesNamed parts → AreFirstCuts parts (word_count parts) linker.cuts.items
  pub entry : 0 < length parts → linker.entry ≡ address (first_of parts (last_of parts))

-- the linker has these parts, in this order: how many lines they have and, where a code may have so many, all of them
pub record Holds (linker : Linker) (parts : List Part) : Type 0 where
  pub count : linker.count ≡ min (word_count parts) (2 ^ 64 - 1)
  pub kept : word_count parts ≤ 261120 → AreKept linker parts

-- the linker has parts that may be linked
pub record HoldsLinkable (linker : Linker) : Type 0 where
  pub parts : List Part
  pub holds : Holds linker parts
  pub linkable : IsLinkable parts

-- the linker has more parts than before, as R says of the lists of both
abbrev pub Grows : Linker → Linker → (List Part → List Part → Type 0) → Type 0
Grows old new R = (parts : List Part) → Holds old parts → (more : List Part) × Holds new more × R parts more
