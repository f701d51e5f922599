-- The parts that a code is linked from, one after another.
use Rattle.std.specs.Prelude.{◌≡◌, ℕ, ◌-◌, ◌*◌, ◌<◌, List, [], ◌∷◌, ◌++◌, Some, length, take, slice_get}
use Rattle.std.specs.List.{sum_by}
use Rattle.im_rv.specs.declared.code.Line.{Line}
use Rattle.im_rv.specs.declared.code.Part.{Part}

abbrev pub part_size : Part → ℕ
part_size part = length part.lines.items

-- how many lines the parts have together
abbrev pub word_count : List Part → ℕ
word_count parts = sum_by part_size parts

-- the bytes of their code
abbrev pub byte_count : List Part → ℕ
byte_count parts = 4 * word_count parts

-- the lines of all parts, in order; line i becomes word i
abbrev pub lines_of : List Part → List Line
lines_of [] = []
lines_of (part ∷ parts) = part.lines.items ++ lines_of parts

-- the number of the word that part p begins with
abbrev pub first_of : List Part → ℕ → ℕ
first_of parts p = word_count (take p parts)

-- part p has these lines
abbrev pub IsPart : List Part → ℕ → Part → Type 0
IsPart parts p part = slice_get parts p ≡ Some part

abbrev pub last_of : List Part → ℕ
last_of parts = length parts - 1

-- there is a last part, and it has a line
pub record HasLastLine (parts : List Part) : Type 0 where
  pub some : 0 < length parts
  pub last : Part
  pub is_last : IsPart parts (last_of parts) last
  pub line : 0 < part_size last
