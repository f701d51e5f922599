-- The numbers that the text of a field is read as, and the digits that a word is told by.
use Rattle.std.specs.Prelude.{ℕ, ◌-◌, ◌/◌, ◌%◌, ◌^◌, Bool, true, nat_lt, nat_le, ◌&&◌, List, [], ◌∷◌, ◌++◌, Option, Some, None, length, drop, ℤ, pos, neg_ℤ, if◌then◌else◌}
use Rattle.std.specs.Char.{digit_char, digit_value}
use Rattle.std.specs.Str.Parse.{digits_value, starts_with_minus, without_leading_plus}

-- each byte is a digit of the radix, a small letter or a capital one
abbrev pub are_digits : ℕ → List ℕ → Bool
are_digits radix [] = true
are_digits radix (byte ∷ bytes) = nat_lt (digit_value byte) radix && are_digits radix bytes

-- the number that one digit or more write, where it is at most `most`
abbrev pub number_up_to : ℕ → ℕ → List ℕ → Option ℕ
number_up_to most radix bytes = if nat_lt 0 (length bytes) && (are_digits radix bytes && nat_le (digits_value radix bytes) most) then Some (digits_value radix bytes) else None

-- the number below 2^32 that a text writes, maybe behind a plus
abbrev pub word_in : ℕ → List ℕ → Option ℕ
word_in radix text = number_up_to (2 ^ 32 - 1) radix (without_leading_plus text)

abbrev pub signed : (ℕ → ℤ) → Option ℕ → Option ℤ
signed sign None = None
signed sign (Some number) = Some (sign number)

-- the number from -2^63 to 2^63-1 that a text writes in decimal digits, maybe behind a sign
abbrev pub integer_in : List ℕ → Option ℤ
integer_in text =
    if starts_with_minus text
    then signed (λ n. neg_ℤ (pos n)) (number_up_to (2 ^ 63) 10 (drop 1 text))
    else signed pos (number_up_to (2 ^ 63 - 1) 10 (without_leading_plus text))

-- the words that the parts of a text write in hexadecimal digits; a part that is empty writes none
abbrev pub put_word : Option ℕ → Option (List ℕ) → Option (List ℕ)
put_word (Some word) (Some words) = Some (word ∷ words)
put_word (Some word) None = None
put_word None words = None

abbrev pub words_in : List (List ℕ) → Option (List ℕ)
words_in [] = Some []
words_in ([] ∷ parts) = words_in parts
words_in ((byte ∷ bytes) ∷ parts) = put_word (word_in 16 (byte ∷ bytes)) (words_in parts)

-- a byte as two hexadecimal digits, and a word as eight, the highest first
abbrev pub byte_digits : ℕ → List ℕ
byte_digits byte = digit_char (byte / 16) ∷ digit_char (byte % 16) ∷ []

abbrev pub word_digits : ℕ → List ℕ
word_digits word = byte_digits (word / 2 ^ 24) ++ (byte_digits (word / 2 ^ 16 % 256) ++ (byte_digits (word / 2 ^ 8 % 256) ++ byte_digits (word % 256)))
