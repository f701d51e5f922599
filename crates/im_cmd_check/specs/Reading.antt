-- Where a place of a source stands for its user: in the file and on the line that line markers tell (C11 6.10.4).
use Rattle.std.specs.Prelude.{ℕ, ◌+◌, ◌-◌, ◌*◌, ◌^◌, ◌==◌, ◌&&◌, nat_lt, Bool, List, [], drop, fold, length, slice_index, Option, Some, None, if◌then◌else◌}
use Rattle.std.specs.List.{list_all, slice_split}
use Rattle.im_cmd_check.specs.declared.reading.Reading.{Reading as CodeReading}
use Rattle.im_cmd_check.specs.declared.runs.Run.TheVariants.{Gaps, Digits, Quoted}
use Rattle.im_cmd_check.specs.Runs.{is_digit, run, behind}

-- the number that decimal digits make
unfoldable pub value_of : List ℕ → ℕ
value_of digits = fold (λ n digit. 10 * n + (digit - 48)) 0 digits

-- the number of digits, where there are some and it is below 2^32
unfoldable pub number : List ℕ → Option ℕ
number digits = if list_all is_digit digits && nat_lt (value_of digits) (2 ^ 32) then Some (value_of digits) else None

-- the number of a marker with these digits
abbrev pub number_where_some : List ℕ → Option ℕ
number_where_some digits = if length digits == 0 then None else number digits

abbrev pub begins_marker : List ℕ → Bool
begins_marker line = slice_index line 0 == 35

-- behind `#`, blanks and tabs
abbrev pub marker_digits : List ℕ → List ℕ
marker_digits line = run Digits (behind Gaps (drop 1 line))

-- the number of the line behind this one, where this one is a line marker
abbrev pub marked_line : List ℕ → Option ℕ
marked_line line = if begins_marker line then number_where_some (marker_digits line) else None

abbrev pub begins_quoted : List ℕ → Bool
begins_quoted text = slice_index text 0 == 34

-- what stands in quotation marks, where the text begins with one
abbrev pub quoted_or : List ℕ → List ℕ → List ℕ
quoted_or name text = if begins_quoted text then run Quoted (drop 1 text) else name

-- what stands behind the number of a line marker, and blanks and tabs
abbrev pub behind_number : List ℕ → List ℕ
behind_number line = behind Gaps (behind Digits (behind Gaps (drop 1 line)))

-- the name of the file behind a line marker: where none stands behind the number, the one before it
abbrev pub marked_name : List ℕ → List ℕ → List ℕ
marked_name name line = quoted_or name (behind_number line)

-- the file, the number of a line, and the line or its front
pub record Reading : Type 0 where
  pub name : List ℕ
  pub line : ℕ
  pub front : List ℕ

abbrev pub entered : Option ℕ → Reading → List ℕ → Reading
entered None before text = record { name = before.name; line = before.line + 1; front = text }
entered (Some number) before text = record { name = marked_name before.name before.front; line = number; front = text }

-- this text is the next line
abbrev pub enter : Reading → List ℕ → Reading
enter before text = entered (marked_line before.front) before text

-- before the first line of a file
abbrev pub unread : List ℕ → Reading
unread name = record { name = name; line = 0; front = [] }

abbrev pub is_line_end : ℕ → Bool
is_line_end byte = byte == 10

-- the line that a text ends in, where it is of the file of this name
unfoldable pub presumed : List ℕ → List ℕ → Reading
presumed name text = fold enter (unread name) (slice_split is_line_end text)

-- the code's reading
abbrev pub reading_of : CodeReading → Reading
reading_of reading = record { name = reading.name.now; line = reading.line; front = reading.front.now }
