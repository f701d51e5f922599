-- A shelf in memory, and what its calls do to it.
use Rattle.std.specs.Prelude.{◌≡◌, ℕ, ◌-◌, Some, Result, Ok, Err, List, length}
use Rattle.im_io.specs.Counts.{one_more, NextFails}
use Rattle.im_io.specs.Shelf.{ShelfState}
use Rattle.im_io.specs.MemFiles.{File, file_at, bytes_of, no_file, rooms_of, mode_of, told_of}
use Rattle.im_io.specs.declared.fault.OpenFault.{OpenFault}
use Rattle.im_io.specs.declared.fault.OpenFault.TheVariants.{Absent, Failed}
use Rattle.im_io.specs.declared.mem_shelf.Place.{Place}
use Rattle.im_io.specs.declared.mem_shelf.Place.TheVariants.{Closed, Reading, Writing}

-- its files, what is open, how many calls were made, the numbers of those that are to fail, and what was
-- refused so far
pub record MemoryShelf : Type 0 where
  pub files : List File
  pub place : Place
  pub made : ℕ
  pub failing : List ℕ
  pub read_faults : ℕ
  pub write_faults : ℕ
  pub absences : ℕ

-- what it tells as a shelf: all of its files
abbrev pub state_of : MemoryShelf → ShelfState
state_of shelf = record {
  mode = mode_of shelf.files shelf.place;
  told = Some (told_of shelf.files shelf.place);
  read_faults = shelf.read_faults;
  write_faults = shelf.write_faults;
  absences = shelf.absences;
}

-- the next call is to fail
abbrev pub Fails : MemoryShelf → Type 0
Fails shelf = NextFails shelf.failing shelf.made

-- the file that is open
abbrev pub file_open : List File → Place → File
file_open files Closed = no_file
file_open files (Reading number read) = file_at files number
file_open files (Writing number) = file_at files number

-- how many bytes of it were read
abbrev pub place_read : Place → ℕ
place_read Closed = 0
place_read (Reading number read) = read
place_read (Writing number) = 0

-- how many of its bytes weren't read yet
abbrev pub bytes_left : MemoryShelf → ℕ
bytes_left shelf = length (bytes_of (file_open shelf.files shelf.place).content) - place_read shelf.place

-- a call is counted, and the calls that are to fail, the names and the rooms stay
pub record CallMade (old new : MemoryShelf) : Type 0 where
  pub made : new.made ≡ one_more old.made
  pub failing : new.failing ≡ old.failing
  pub rooms : rooms_of new.files ≡ rooms_of old.files

-- ---- counts after a call

abbrev pub faults_after : {A F : Type 0} → Result A F → ℕ → ℕ
faults_after (Ok done) faults = faults
faults_after (Err fault) faults = one_more faults

abbrev pub read_faults_after : {A : Type 0} → Result A OpenFault → ℕ → ℕ
read_faults_after (Ok opened) faults = faults
read_faults_after (Err Absent) faults = faults
read_faults_after (Err Failed) faults = one_more faults

abbrev pub absences_after : {A : Type 0} → Result A OpenFault → ℕ → ℕ
absences_after (Ok opened) absences = absences
absences_after (Err Absent) absences = one_more absences
absences_after (Err Failed) absences = absences
