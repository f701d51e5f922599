-- The numbers that words write.
use Rattle.std.specs.Prelude.{ℕ, Bool, ◌&&◌, ◌||◌, ◌^◌, Option, Some, None, List, if◌then◌else◌, option_and_then, option_map}
use Rattle.std.specs.Prelude.{codes, length, nat_le, nat_lt, slice_index}
use Rattle.std.specs.Char.{is_digit}
use Rattle.std.specs.List.{list_all}
use Rattle.std.specs.Str.{bytes_eq}
use Rattle.std.specs.Str.Parse.{digits_value}

-- the text is `0`, or begins with one of the digits 1 to 9
abbrev pub starts_plainly : List ℕ → Bool
starts_plainly text = bytes_eq text (codes "0")
    || (nat_le 49 (slice_index text 0) && nat_le (slice_index text 0) 57)

-- one decimal digit or more, and nothing else
abbrev pub is_numeral : List ℕ → Bool
is_numeral text = nat_lt 0 (length text) && list_all (λ digit. is_digit digit 10) text

-- the number below 2^32 that decimal digits write with no sign and no zero before them
abbrev pub plain_number : List ℕ → Option ℕ
plain_number text =
    if starts_plainly text && (is_numeral text && nat_lt (digits_value 10 text) (2 ^ 32))
    then Some (digits_value 10 text) else None

-- the number, where it isn't below the first bound or above the second
abbrev pub within : ℕ → ℕ → ℕ → Option ℕ
within least most number = if nat_lt number least || nat_lt most number then None else Some number

-- the number in these bounds that decimal digits write so
abbrev pub number_between : ℕ → ℕ → List ℕ → Option ℕ
number_between least most text = option_and_then (within least most) (plain_number text)

-- no number where there is no text, else the number in these bounds that the text writes
abbrev pub optional_between : ℕ → ℕ → Option (List ℕ) → Option (Option ℕ)
optional_between least most None = Some None
optional_between least most (Some text) = option_map Some (number_between least most text)
