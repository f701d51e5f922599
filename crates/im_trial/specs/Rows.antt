-- What the fields of a row say.
use denote.Bor.{Bor}
use Rattle.std.specs.Prelude.{ℕ, ◌-◌, List, [], codes, bytes_eq, Option, Some, None, slice_get, string_bytes, vec_len, if◌then◌else◌}
use Rattle.im_trial.specs.declared.row.Row.{Row}

abbrev pub text_of : Option (Bor (List ℕ)) → List ℕ
text_of None = []
text_of (Some field) = field.now

-- the field of this number, from 0, and nothing where there is none
abbrev pub field_of : Row → ℕ → List ℕ
field_of row number = text_of (slice_get row.fields.items number)

abbrev pub last_of : Row → List ℕ
last_of row = field_of row (vec_len row.fields - 1)

-- what the case should find: the last field, or the lines below where that is `|`
abbrev pub wanted_of : Row → List ℕ
wanted_of row = if bytes_eq (last_of row) (codes "|") then string_bytes row.below else last_of row
