-- The rows of a table.
use Rattle.std.specs.Prelude.{ℕ, Bool, false, not, ◌==◌, ◌||◌, List, [], ◌∷◌, ◌++◌, map, Option, Some, None, string_bytes, if◌then◌else◌}
use Rattle.std.specs.List.{slice_split}
use Rattle.std.specs.Str.Lines.{lines}
use Rattle.im_trial.specs.declared.row.Row.{Row}

-- a row as it is written: the fields, and the lines below, each with an LF
pub record Written : Type 0 where
  pub fields : List (List ℕ)
  pub below : List ℕ

-- what a row says
abbrev pub said_of : Row → Written
said_of row = record { fields = map (λ field. field.now) row.fields.items; below = string_bytes row.below }

-- the parts of a line that tabulators part
abbrev pub fields_in : List ℕ → List (List ℕ)
fields_in line = slice_split (λ byte. byte == 9) line

-- a line is a row if it is not empty and begins neither with `#`, as a remark, nor with `|`, as what stands below a row
abbrev pub is_row : List ℕ → Bool
is_row [] = false
is_row (byte ∷ bytes) = not (byte == 35 || byte == 124)

-- what a line puts below the row before it: what stands behind the `|`, with an LF
abbrev pub put_by : List ℕ → List ℕ
put_by [] = []
put_by (byte ∷ bytes) = if byte == 124 then bytes ++ 10 ∷ [] else []

-- what lines put below the row before them, up to the next row
abbrev pub below_of : List (List ℕ) → List ℕ
below_of [] = []
below_of (line ∷ lines) = if is_row line then [] else put_by line ++ below_of lines

abbrev pub rows_of : List (List ℕ) → List Written
rows_of [] = []
rows_of (line ∷ lines) = if is_row line then record { fields = fields_in line; below = below_of lines } ∷ rows_of lines else rows_of lines

abbrev pub if_none : List ℕ → List Written → Option (List Written)
if_none [] rows = Some rows
if_none (byte ∷ bytes) rows = None

-- the rows of a table; none where a line stands below no row
abbrev pub rows_in : List ℕ → Option (List Written)
rows_in table = if_none (below_of (lines table)) (rows_of (lines table))

-- more is put below the last row
abbrev pub add_below : List Written → List ℕ → List Written
add_below [] more = []
add_below (row ∷ []) more = record { fields = row.fields; below = row.below ++ more } ∷ []
add_below (row ∷ next ∷ rows) more = row ∷ add_below (next ∷ rows) more

abbrev pub below_last : List Written → List ℕ → Option (List Written)
below_last rows [] = Some rows
below_last [] (byte ∷ bytes) = None
below_last (row ∷ rows) (byte ∷ bytes) = Some (add_below (row ∷ rows) (byte ∷ bytes))

abbrev pub new_row : List ℕ → Written
new_row line = record { fields = fields_in line; below = [] }

-- what rows are with one line more
abbrev pub put_line : List Written → List ℕ → Option (List Written)
put_line rows line = if is_row line then Some (rows ++ new_row line ∷ []) else below_last rows (put_by line)
