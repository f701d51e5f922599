-- Texts of bytes, in which a backslash begins what stands for one byte.
use Rattle.std.specs.Prelude.{ℕ, ◌+◌, ◌-◌, ◌*◌, nat_le, ◌&&◌, ◌==◌, List, [], ◌∷◌, ◌++◌, codes, Option, Some, None, if◌then◌else◌}
use Rattle.std.specs.List.{flat_map}
use Rattle.im_trial.specs.declared.escapes.Within.{Within}
use Rattle.im_trial.specs.declared.escapes.Within.TheVariants.{Nothing, Escape, High, Low}
use Rattle.im_trial.specs.Numbers.{byte_digits}

-- `n`, `t`, `r`, `\` and `"` behind a backslash
abbrev pub simple : ℕ → Option ℕ
simple byte =
    if byte == 110 then Some 10 else (
    if byte == 116 then Some 9 else (
    if byte == 114 then Some 13 else (
    if byte == 92 then Some 92 else (
    if byte == 34 then Some 34 else None))))

-- a hexadecimal digit, its letter a small one
abbrev pub digit_of : ℕ → Option ℕ
digit_of byte =
    if nat_le 48 byte && nat_le byte 57 then Some (byte - 48) else (
    if nat_le 97 byte && nat_le byte 102 then Some (byte - 87) else None)

abbrev pub put : Option ℕ → Option (List ℕ) → Option (List ℕ)
put (Some byte) (Some bytes) = Some (byte ∷ bytes)
put (Some byte) None = None
put None bytes = None

abbrev pub pair : Option ℕ → Option ℕ → Option ℕ
pair (Some high) (Some low) = Some (16 * high + low)
pair (Some high) None = None
pair None low = None

-- the bytes that a text stands for; none where a backslash begins nothing that stands for a byte
abbrev mutual
  pub unescaped : List ℕ → Option (List ℕ)
  unescaped [] = Some []
  unescaped (byte ∷ bytes) = if byte == 92 then behind_backslash bytes else put (Some byte) (unescaped bytes)

  pub behind_backslash : List ℕ → Option (List ℕ)
  behind_backslash [] = None
  behind_backslash (byte ∷ bytes) = if byte == 120 then two_digits bytes else put (simple byte) (unescaped bytes)

  pub two_digits : List ℕ → Option (List ℕ)
  two_digits [] = None
  two_digits (byte ∷ bytes) = second_digit byte bytes

  pub second_digit : ℕ → List ℕ → Option (List ℕ)
  second_digit high [] = None
  second_digit high (byte ∷ bytes) = put (pair (digit_of high) (digit_of byte)) (unescaped bytes)

-- the bytes of what is left of a text, behind what stands before it
abbrev pub left_in : Within → List ℕ → Option (List ℕ)
left_in Nothing text = unescaped text
left_in Escape text = behind_backslash text
left_in High text = two_digits text
left_in (Low high) text = second_digit high text

abbrev pub put_ended : Option ℕ → Option (List ℕ) → Option (List ℕ)
put_ended None bytes = bytes
put_ended (Some byte) bytes = put (Some byte) bytes

-- a byte as it is told: between the blank and `~` as it is, but for the quote and the backslash
abbrev pub escape : ℕ → List ℕ
escape byte =
    if byte == 10 then codes "\\n" else (
    if byte == 9 then codes "\\t" else (
    if byte == 92 then codes "\\\\" else (
    if byte == 34 then codes "\\\"" else (
    if nat_le 32 byte && nat_le byte 126 then byte ∷ [] else codes "\\x" ++ byte_digits byte))))

-- bytes as they are told, behind a blank and between quotes
abbrev pub quoted : List ℕ → List ℕ
quoted bytes = codes " \"" ++ (flat_map escape bytes ++ codes "\"")
