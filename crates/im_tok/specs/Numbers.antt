-- Integer constants, their values and their types (C11 6.4.4.1), where int and long have 32 bits.
use Rattle.std.specs.Prelude.{◌≡◌, ◌≢◌, ℕ, ◌≤◌, ◌<◌, ◌⊎◌, List, [], ◌∷◌, Some, length, drop, find, nat_le, slice_index, slice_range}
use Rattle.im_tok.specs.Digits.{IsDigitOf, digits_value}
use Rattle.im_tok.specs.declared.number.Base.{Base}
use Rattle.im_tok.specs.declared.number.Base.TheVariants.{Decimal, Octal, Hexadecimal}
use Rattle.im_tok.specs.declared.number.Suffix.{Suffix}
use Rattle.im_tok.specs.declared.number.Suffix.TheVariants.{Absent, U, L, Ul}
use Rattle.im_tok.specs.declared.number.NumberType.{NumberType}
use Rattle.im_tok.specs.declared.number.NumberType.TheVariants.{Int, UnsignedInt, Long, UnsignedLong}
use Rattle.im_tok.specs.declared.number.Number.{Number}

abbrev pub radix_of : Base → ℕ
radix_of Decimal = 10
radix_of Octal = 8
radix_of Hexadecimal = 16

-- how many bytes stand before the digits
abbrev pub prefix_length : Base → ℕ
prefix_length Decimal = 0
prefix_length Octal = 0
prefix_length Hexadecimal = 2

-- what a constant of this base begins with: 1 to 9; 0, but no x or X behind it; 0x or 0X
abbrev pub Begins : Base → List ℕ → Type 0
Begins Decimal text = (49 ≤ slice_index text 0) × (slice_index text 0 ≤ 57)
Begins Octal text = (slice_index text 0 ≡ 48) × (slice_index text 1 ≢ 120) × (slice_index text 1 ≢ 88)
Begins Hexadecimal text = (slice_index text 0 ≡ 48) × ((slice_index text 1 ≡ 120) ⊎ (slice_index text 1 ≡ 88))

abbrev pub IsU : ℕ → Type 0
IsU byte = (byte ≡ 117) ⊎ (byte ≡ 85)

abbrev pub IsL : ℕ → Type 0
IsL byte = (byte ≡ 108) ⊎ (byte ≡ 76)

-- at most one u or U, and at most one l or L, in either order
abbrev pub IsSuffix : Suffix → List ℕ → Type 0
IsSuffix Absent bytes = length bytes ≡ 0
IsSuffix U bytes = (length bytes ≡ 1) × IsU (slice_index bytes 0)
IsSuffix L bytes = (length bytes ≡ 1) × IsL (slice_index bytes 0)
IsSuffix Ul bytes = (length bytes ≡ 2) × ((IsU (slice_index bytes 0) × IsL (slice_index bytes 1)) ⊎ (IsL (slice_index bytes 0) × IsU (slice_index bytes 1)))

abbrev pub greatest : NumberType → ℕ
greatest Int = 2147483647
greatest UnsignedInt = 4294967295
greatest Long = 2147483647
greatest UnsignedLong = 4294967295

-- the types that a constant may have, in the order in which they are tried
abbrev pub candidates : Base → Suffix → List NumberType
candidates Decimal Absent = Int ∷ []
candidates Decimal L = Long ∷ []
candidates Octal Absent = Int ∷ UnsignedInt ∷ []
candidates Octal L = Long ∷ UnsignedLong ∷ []
candidates Hexadecimal Absent = Int ∷ UnsignedInt ∷ []
candidates Hexadecimal L = Long ∷ UnsignedLong ∷ []
candidates base U = UnsignedInt ∷ []
candidates base Ul = UnsignedLong ∷ []

-- the text is an integer constant, and some type holds its value; the number has the first of these
pub record IsNumeral (text : List ℕ) (number : Number) : Type 0 where
  pub base : Base
  pub suffix : Suffix
  pub end : ℕ
  pub begins : Begins base text
  pub some : prefix_length base < end
  pub within : end ≤ length text
  pub digits : (i : ℕ) → prefix_length base ≤ i → i < end → IsDigitOf (radix_of base) (slice_index text i)
  pub ends : IsSuffix suffix (drop end text)
  pub value : number.value ≡ digits_value (radix_of base) (slice_range text (prefix_length base) end)
  pub holds : find (λ t. nat_le number.value (greatest t)) (candidates base suffix) ≡ Some number.number_type
