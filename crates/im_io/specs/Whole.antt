-- Whole files and whole texts.
use Rattle.std.specs.Prelude.{◌≡◌, ℕ, ◌+◌, ◌≤◌, ◌<◌, ◌⊎◌, ⊤, Some, Result, Ok, Err, List, length, take}
use Rattle.im_io.specs.declared.fault.ReadFault.{ReadFault}
use Rattle.im_io.specs.declared.fault.ReadFault.TheVariants.{Absent, Fault, TooLong, OutOfMemory}
use Rattle.im_io.specs.Counts.{one_more}
use Rattle.im_io.specs.Shelf.{Told, ShelfState, SameCounts, ReadFaulted, WasAbsent, SameFiles, NotThere, with_file}
use Rattle.im_io.specs.Sink.{SinkState, Appended}

-- ---- reading a whole file

abbrev pub ReadWholeCounts : {A : Type 0} → Result A ReadFault → ShelfState → ShelfState → Type 0
ReadWholeCounts (Ok bytes) old new = SameCounts old new
ReadWholeCounts (Err Absent) old new = WasAbsent old new
ReadWholeCounts (Err Fault) old new = ReadFaulted old new
ReadWholeCounts (Err (TooLong limit)) old new = SameCounts old new
ReadWholeCounts (Err OutOfMemory) old new = SameCounts old new

-- these are the file's bytes, and all of them were read
pub record HasWhole (name bytes : List ℕ) (limit : ℕ) (old new : Told) : Type 0 where
  pub files : new.files ≡ old.files
  pub whole : old.files name ≡ Some bytes
  pub short : length bytes ≤ limit
  pub at_end : new.place ≡ length bytes

-- the file has more bytes than the limit; the first one over it was read, and none after that
pub record IsLonger (name : List ℕ) (limit : ℕ) (old new : Told) : Type 0 where
  pub files : new.files ≡ old.files
  pub bytes : List ℕ
  pub whole : old.files name ≡ Some bytes
  pub longer : limit < length bytes
  pub stopped : new.place ≡ limit + 1

-- a file that is too long is so by the limit that was asked
abbrev pub IsLimit : ℕ → ReadFault → Type 0
IsLimit limit (TooLong most) = most ≡ limit
IsLimit limit Absent = ⊤
IsLimit limit Fault = ⊤
IsLimit limit OutOfMemory = ⊤

-- by the bytes that a file has
abbrev pub ReadsWhole : {V : Type 0} → (V → List ℕ) → List ℕ → ℕ → Result V ReadFault → Told → Told → Type 0
ReadsWhole items name limit (Ok bytes) old new = HasWhole name (items bytes) limit old new
ReadsWhole items name limit (Err Absent) old new = NotThere name old new
ReadsWhole items name limit (Err Fault) old new = SameFiles old new
ReadsWhole items name limit (Err (TooLong most)) old new = (most ≡ limit) × IsLonger name limit old new
ReadsWhole items name limit (Err OutOfMemory) old new = SameFiles old new

-- a file with these bytes is open, and nothing of it was read
pub record AtStart (whole : List ℕ) (told : Told) : Type 0 where
  pub place : told.place ≡ 0
  pub there : told.files told.name ≡ Some whole

-- the answer of reading on to the end of a file with these bytes, and how many of them were read
abbrev pub OpenRead : {V : Type 0} → (V → List ℕ) → List ℕ → ℕ → Result V ReadFault → ℕ → Type 0
OpenRead items whole limit (Ok bytes) place = (items bytes ≡ whole) × (length whole ≤ limit) × (place ≡ length whole)
OpenRead items whole limit (Err Absent) place = ⊥
OpenRead items whole limit (Err Fault) place = ⊤
OpenRead items whole limit (Err (TooLong most)) place = (most ≡ limit) × (limit < length whole) × (place ≡ limit + 1)
OpenRead items whole limit (Err OutOfMemory) place = ⊤

pub record ReadsOpen {V : Type 0} (items : V → List ℕ) (limit : ℕ) (result : Result V ReadFault) (old new : Told) : Type 0 where
  pub files : new.files ≡ old.files
  pub answer : (whole : List ℕ) → AtStart whole old → OpenRead items whole limit result new.place

-- ---- writing a whole file

-- the file holds the first bytes of a text, and no other file changed
pub record HoldsFirst (name text : List ℕ) (old new : Told) : Type 0 where
  pub count : ℕ
  pub files : new.files ≡ with_file old.files name (take count text)

pub record HoldsText (name text : List ℕ) (old new : Told) : Type 0 where
  pub files : new.files ≡ with_file old.files name text

abbrev pub Stores : {A F : Type 0} → List ℕ → List ℕ → Result A F → Told → Told → Type 0
Stores name text (Ok done) old new = HoldsText name text old new
Stores name text (Err fault) old new = SameFiles old new ⊎ HoldsFirst name text old new

-- ---- sending a whole text

-- the first bytes of a text were taken and not all of it, and the count rose by one: one write was refused, the last
pub record SentFirst (text : List ℕ) (old new : SinkState) : Type 0 where
  pub count : ℕ
  pub short : count < length text
  pub taken : Appended (take count text) old.contents new.contents
  pub faults : new.faults ≡ one_more old.faults

pub record SentAll (text : List ℕ) (old new : SinkState) : Type 0 where
  pub taken : Appended text old.contents new.contents
  pub faults : new.faults ≡ old.faults

abbrev pub Sends : {A F : Type 0} → List ℕ → Result A F → SinkState → SinkState → Type 0
Sends text (Ok done) old new = SentAll text old new
Sends text (Err fault) old new = SentFirst text old new
