-- Files in memory, each with its name: what a shelf of them tells.
use Rattle.std.specs.Prelude.{◌≡◌, ℕ, max, map, Any, Bool, ◌&&◌, cond, eqb, leb, Option, Some, None, is_some, option_map, List, [], length, slice_index_or}
use Rattle.std.specs.List.{position_or_len}
use Rattle.std.specs.Str.{bytes_eq}
use Rattle.im_io.specs.Rooms.{room_left}
use Rattle.im_io.specs.Shelf as shelf
use Rattle.im_io.specs.Shelf.{Files, Mode, Told}
use Rattle.im_io.specs.declared.mem_shelf.Place.{Place}
use Rattle.im_io.specs.declared.mem_shelf.Place.TheVariants.{Closed, Reading, Writing}

-- a name, the bytes of the file where one of that name is there, and its room in bytes
pub record File : Type 0 where
  pub name : List ℕ
  pub content : Option (List ℕ)
  pub room : ℕ

abbrev pub bytes_of : Option (List ℕ) → List ℕ
bytes_of None = []
bytes_of (Some bytes) = bytes

-- a file as it is made: it has room at least for the bytes that it has
abbrev pub new_file : List ℕ → Option (List ℕ) → ℕ → File
new_file name content room = record { name = name; content = content; room = max room (length (bytes_of content)) }

-- what a maker of a shelf gives of a file: a name, bytes or none, and room
abbrev pub given_file : {T V : Type 0} → (T → List ℕ) → (V → List ℕ) → T × Option V × ℕ → File
given_file text items given = new_file (text given.0) (option_map items given.1) given.2

-- what is left of a file's room
abbrev pub left : File → ℕ
left file = room_left file.room (bytes_of file.content)

-- the names of the files, each with its room
abbrev pub rooms_of : List File → List (List ℕ × ℕ)
rooms_of files = map (λ file. (file.name, file.room)) files

-- a shelf of these files was given one of this name, which is there or not
abbrev pub IsGiven : List ℕ → List File → Type 0
IsGiven name files = Any (λ file. file.name ≡ name) files

-- what stands past the last file
abbrev pub no_file : File
no_file = record { name = []; content = None; room = 0 }

-- the file of this number; past the last, one that isn't there
abbrev pub file_at : List File → ℕ → File
file_at files number = slice_index_or files number no_file

-- the number of the first file of this name
abbrev pub number_of : List File → List ℕ → ℕ
number_of files name = position_or_len (λ file. bytes_eq name file.name) files

-- the first file of each name
abbrev pub files_of : List File → Files
files_of files = λ name. (file_at files (number_of files name)).content

-- the file of this number is there, and is the first of its name
abbrev pub is_first : List File → ℕ → Bool
is_first files number = is_some (file_at files number).content && eqb (number_of files (file_at files number).name) number

abbrev pub is_readable : List File → ℕ → ℕ → Bool
is_readable files number read = is_first files number && leb read (length (bytes_of (file_at files number).content))

abbrev pub mode_of : List File → Place → Mode
mode_of files Closed = shelf.Closed
mode_of files (Reading number read) = cond (is_readable files number read) shelf.Reading shelf.Closed
mode_of files (Writing number) = cond (is_first files number) shelf.Writing shelf.Closed

abbrev pub told_of : List File → Place → Told
told_of files Closed = record { files = files_of files; name = []; place = 0 }
told_of files (Reading number read) = record { files = files_of files; name = (file_at files number).name; place = read }
told_of files (Writing number) = record { files = files_of files; name = (file_at files number).name; place = 0 }
