-- What a file gave or got, or why not, and what that leaves outside.
use Rattle.std.specs.Prelude.{ℕ, ◌≤◌, ◌⊎◌, List, length}
use Rattle.im_io.specs.Shelf.{ShelfState, WhereTold, SameCounts, ReadFaulted, WriteFaulted, WasAbsent, SameFiles, NotThere}
use Rattle.im_io.specs.Whole.{HasWhole, IsLonger, HoldsText, HoldsFirst}
use Rattle.im_cmd_lines.specs.Refusals.{Refused, CannotRead, FileTooLong, NoMemory}

-- no count rose, and no file changed
pub record Unchanged (old new : ShelfState) : Type 0 where
  pub counts : SameCounts old new
  pub files : WhereTold old.told new.told SameFiles

-- a file of at most so many bytes was read whole
pub record ReadsFile (name bytes : List ℕ) (limit : ℕ) (old new : ShelfState) : Type 0 where
  pub counts : SameCounts old new
  pub files : WhereTold old.told new.told (HasWhole name bytes limit)
  pub short : length bytes ≤ limit

-- why a file of at most so many bytes isn't read: a read failed, it isn't there, it has more bytes, or memory ran out
pub data RefusesFile (name : List ℕ) (limit : ℕ) (old new : ShelfState) : Refused → Type 0 where
  file_failed : ReadFaulted old new → WhereTold old.told new.told SameFiles → RefusesFile name limit old new (CannotRead name)
  file_absent : WasAbsent old new → WhereTold old.told new.told (NotThere name) → RefusesFile name limit old new (CannotRead name)
  file_too_long : SameCounts old new → WhereTold old.told new.told (IsLonger name limit) → RefusesFile name limit old new (FileTooLong name limit)
  file_starved : Unchanged old new → RefusesFile name limit old new NoMemory

-- the file holds the text, and no other file changed
pub record StoresText (name text : List ℕ) (old new : ShelfState) : Type 0 where
  pub counts : SameCounts old new
  pub files : WhereTold old.told new.told (HoldsText name text)

-- a write failed: the file holds first bytes of the text or is as it was, and no other file changed
pub record StoresPart (name text : List ℕ) (old new : ShelfState) : Type 0 where
  pub counts : WriteFaulted old new
  pub files : WhereTold old.told new.told (λ before after. SameFiles before after ⊎ HoldsFirst name text before after)
