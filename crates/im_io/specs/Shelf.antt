-- A shelf of files, of which one is open at a time: what it tells, and what its calls do to that.
use Rattle.std.specs.Prelude.{◌≡◌, ℕ, ◌+◌, ◌≤◌, ◌<◌, ⊤, Option, Some, None, IsSome, Result, Ok, Err, List, [], ◌++◌, length, take, drop, cond}
use Rattle.std.specs.Str.{bytes_eq}
use Rattle.im_io.specs.declared.fault.OpenFault.{OpenFault}
use Rattle.im_io.specs.declared.fault.OpenFault.TheVariants.{Absent, Failed}
use Rattle.im_io.specs.Counts.{Rose}

-- the bytes of each file by its name
abbrev pub Files : Type 0
Files = List ℕ → Option (List ℕ)

-- the files, where the one of this name has these bytes
abbrev pub with_file : Files → List ℕ → List ℕ → Files
with_file files name bytes = λ other. cond (bytes_eq other name) (Some bytes) (files other)

pub data Mode : Type 0 where
  Closed : Mode
  Reading : Mode
  Writing : Mode

-- what a shelf may tell: its files, the name of the one that is open, and how many bytes of it were read
pub record Told : Type 0 where
  pub files : Files
  pub name : List ℕ
  pub place : ℕ

pub record ShelfState : Type 0 where
  pub mode : Mode
  pub told : Option Told
  pub read_faults : ℕ
  pub write_faults : ℕ
  pub absences : ℕ

-- Where a shelf tells its files before a call it does so after it, and this holds of both.
abbrev pub WhereTold : Option Told → Option Told → (Told → Told → Type 0) → Type 0
WhereTold None None P = ⊤
WhereTold None (Some new) P = ⊥
WhereTold (Some old) None P = ⊥
WhereTold (Some old) (Some new) P = P old new

-- ---- counts: a call that isn't refused raises none, and one that is refused raises the one that is its cause

pub record SameCounts (old new : ShelfState) : Type 0 where
  pub read_faults : new.read_faults ≡ old.read_faults
  pub write_faults : new.write_faults ≡ old.write_faults
  pub absences : new.absences ≡ old.absences

pub record ReadFaulted (old new : ShelfState) : Type 0 where
  pub read_faults : Rose old.read_faults new.read_faults
  pub write_faults : new.write_faults ≡ old.write_faults
  pub absences : new.absences ≡ old.absences

pub record WriteFaulted (old new : ShelfState) : Type 0 where
  pub read_faults : new.read_faults ≡ old.read_faults
  pub write_faults : Rose old.write_faults new.write_faults
  pub absences : new.absences ≡ old.absences

pub record WasAbsent (old new : ShelfState) : Type 0 where
  pub read_faults : new.read_faults ≡ old.read_faults
  pub write_faults : new.write_faults ≡ old.write_faults
  pub absences : Rose old.absences new.absences

-- ---- open_file

abbrev pub OpenCounts : {A : Type 0} → Result A OpenFault → ShelfState → ShelfState → Type 0
OpenCounts (Ok opened) old new = SameCounts old new
OpenCounts (Err Absent) old new = WasAbsent old new
OpenCounts (Err Failed) old new = ReadFaulted old new

-- the file is open, read up to its start; what was open is closed
abbrev pub mode_opened : {A : Type 0} → Result A OpenFault → Mode
mode_opened (Ok opened) = Reading
mode_opened (Err fault) = Closed

pub record Opened (name : List ℕ) (old new : Told) : Type 0 where
  pub files : new.files ≡ old.files
  pub there : IsSome (old.files name)
  pub opened : new.name ≡ name
  pub place : new.place ≡ 0

-- no told file has this name
pub record NotThere (name : List ℕ) (old new : Told) : Type 0 where
  pub files : new.files ≡ old.files
  pub absent : old.files name ≡ None

pub record SameFiles (old new : Told) : Type 0 where
  pub files : new.files ≡ old.files

abbrev pub Opens : {A : Type 0} → List ℕ → Result A OpenFault → Told → Told → Type 0
Opens name (Ok opened) old new = Opened name old new
Opens name (Err Absent) old new = NotThere name old new
Opens name (Err Failed) old new = SameFiles old new

-- ---- read

abbrev pub ReadCounts : {A F : Type 0} → Result A F → ShelfState → ShelfState → Type 0
ReadCounts (Ok count) old new = SameCounts old new
ReadCounts (Err fault) old new = ReadFaulted old new

-- Bytes were read into a buffer: the next of the open file, and none only at its end or into an empty buffer.
pub record Took (buffer filled : List ℕ) (count : ℕ) (old new : Told) : Type 0 where
  pub files : new.files ≡ old.files
  pub name : new.name ≡ old.name
  pub place : new.place ≡ old.place + count
  pub bytes : List ℕ
  pub before : old.files old.name ≡ Some bytes
  pub next : take count filled ≡ take count (drop old.place bytes)
  pub inside : old.place + count ≤ length bytes
  pub end : count ≡ 0 → 0 < length buffer → old.place ≡ length bytes

-- a refused read leaves the files, the one that is open and the place in it
pub record SameTold (old new : Told) : Type 0 where
  pub files : new.files ≡ old.files
  pub name : new.name ≡ old.name
  pub place : new.place ≡ old.place

abbrev pub Reads : {F : Type 0} → List ℕ → List ℕ → Result ℕ F → Told → Told → Type 0
Reads buffer filled (Ok count) old new = Took buffer filled count old new
Reads buffer filled (Err fault) old new = SameTold old new

-- ---- create_file

abbrev pub WriteCounts : {A F : Type 0} → Result A F → ShelfState → ShelfState → Type 0
WriteCounts (Ok done) old new = SameCounts old new
WriteCounts (Err fault) old new = WriteFaulted old new

abbrev pub mode_created : {A F : Type 0} → Result A F → Mode
mode_created (Ok created) = Writing
mode_created (Err fault) = Closed

-- the file is there and empty, and no other changed
pub record Created (name : List ℕ) (old new : Told) : Type 0 where
  pub files : new.files ≡ with_file old.files name []
  pub opened : new.name ≡ name

abbrev pub Creates : {A F : Type 0} → List ℕ → Result A F → Told → Told → Type 0
Creates name (Ok created) old new = Created name old new
Creates name (Err fault) old new = SameFiles old new

-- ---- write

-- the first bytes of the piece stand at the end of the open file, and no other changed
pub record Put (piece : List ℕ) (count : ℕ) (old new : Told) : Type 0 where
  pub name : new.name ≡ old.name
  pub bytes : List ℕ
  pub before : old.files old.name ≡ Some bytes
  pub files : new.files ≡ with_file old.files old.name (bytes ++ take count piece)

pub record Kept (old new : Told) : Type 0 where
  pub files : new.files ≡ old.files
  pub name : new.name ≡ old.name

abbrev pub Writes : {F : Type 0} → List ℕ → Result ℕ F → Told → Told → Type 0
Writes piece (Ok count) old new = Put piece count old new
Writes piece (Err fault) old new = Kept old new

-- ---- how much a call takes or gives

-- at most as many bytes as the buffer has
abbrev pub Fits : {F : Type 0} → List ℕ → Result ℕ F → Type 0
Fits buffer (Ok count) = count ≤ length buffer
Fits buffer (Err fault) = ⊤

-- of a piece that isn't empty, at least one byte
abbrev pub TakesSome : {F : Type 0} → List ℕ → Result ℕ F → Type 0
TakesSome piece (Ok count) = 0 < length piece → 0 < count
TakesSome piece (Err fault) = ⊤
