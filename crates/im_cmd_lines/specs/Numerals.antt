-- Words in hexadecimal digits.
use Rattle.std.specs.Prelude.{ℕ, ◌/◌, ◌%◌, ◌^◌, false, List, [], ◌∷◌, map}
use Rattle.std.specs.Fmt.{digit_glyph}

-- the digit of this place, the lowest being 0, as a lower-case letter from ten on
abbrev pub hex_digit : ℕ → ℕ → ℕ
hex_digit word place = digit_glyph false (word / 16 ^ place % 16)

-- all eight digits
abbrev pub hex_word : ℕ → List ℕ
hex_word word = map (hex_digit word) (7 ∷ 6 ∷ 5 ∷ 4 ∷ 3 ∷ 2 ∷ 1 ∷ 0 ∷ [])
