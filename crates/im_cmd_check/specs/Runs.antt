-- Parts of a text: runs of bytes at its front, and the bytes between two places.
use Rattle.std.specs.Prelude.{ℕ, ◌-◌, ◌==◌, ◌&&◌, ◌||◌, nat_le, not, Bool, List, take, drop}
use Rattle.std.specs.List.{prefix_len}
use Rattle.im_cmd_check.specs.declared.runs.Run.{Run}
use Rattle.im_cmd_check.specs.declared.runs.Run.TheVariants.{Gaps, Digits, Quoted, Line}

abbrev pub is_digit : ℕ → Bool
is_digit byte = nat_le 48 byte && nat_le byte 57

-- whether a byte goes on with such a run: a blank or a tab, a digit, no quotation mark, no LF
abbrev pub goes_on : Run → ℕ → Bool
goes_on Gaps byte = byte == 32 || byte == 9
goes_on Digits byte = is_digit byte
goes_on Quoted byte = not (byte == 34)
goes_on Line byte = not (byte == 10)

-- the longest such run with which a text begins
abbrev pub run : Run → List ℕ → List ℕ
run kind text = take (prefix_len (goes_on kind) text) text

-- what stands behind it
abbrev pub behind : Run → List ℕ → List ℕ
behind kind text = drop (prefix_len (goes_on kind) text) text

-- the bytes from the first place on, up to before the second
abbrev pub part : List ℕ → ℕ → ℕ → List ℕ
part text start end = take (end - start) (drop start text)
