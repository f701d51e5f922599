-- Character constants and string literals (C11 6.4.4.4, 6.4.5).
use Rattle.std.specs.Prelude.{◌≡◌, ◌≢◌, ℕ, ◌+◌, ◌≤◌, ◌<◌, ◌⊎◌, ◌==◌, if◌then◌else◌, Option, Some, None, List, [], ◌∷◌, length, drop, map, slice_index, slice_range}
use Rattle.im_tok.specs.Digits.{IsDigitOf, digits_value}
use Rattle.im_tok.specs.declared.literal.Element.{Element}
use Rattle.im_tok.specs.declared.literal.ElementFault.{ElementFault}
use Rattle.im_tok.specs.declared.literal.ElementFault.TheVariants.{End, BadEscape}

-- what a backslash and this byte stand for
abbrev pub simple_escape : ℕ → Option ℕ
simple_escape byte = if byte == 39 then Some 39 else (if byte == 34 then Some 34 else (if byte == 63 then Some 63 else (if byte == 92 then Some 92 else (if byte == 97 then Some 7 else (if byte == 98 then Some 8 else (if byte == 102 then Some 12 else (if byte == 110 then Some 10 else (if byte == 114 then Some 13 else (if byte == 116 then Some 9 else (if byte == 118 then Some 11 else None))))))))))

-- a byte that stands for itself
pub record IsPlain (quote : ℕ) (text : List ℕ) (element : Element) : Type 0 where
  pub some : 0 < length text
  pub line : slice_index text 0 ≢ 10
  pub inside : slice_index text 0 ≢ quote
  pub no_escape : slice_index text 0 ≢ 92
  pub value : element.value ≡ slice_index text 0
  pub size : element.length ≡ 1

pub record IsSimple (text : List ℕ) (element : Element) : Type 0 where
  pub within : 2 ≤ length text
  pub begins : slice_index text 0 ≡ 92
  pub value : simple_escape (slice_index text 1) ≡ Some element.value
  pub size : element.length ≡ 2

-- a backslash and all of the digits from the place `first` on, which are at most `most`
pub record IsNumeric (radix first most : ℕ) (text : List ℕ) (element : Element) : Type 0 where
  pub within : element.length ≤ length text
  pub begins : slice_index text 0 ≡ 92
  pub some : first < element.length
  pub few : element.length ≤ first + most
  pub digits : (i : ℕ) → first ≤ i → i < element.length → IsDigitOf radix (slice_index text i)
  pub all : (element.length ≡ first + most) ⊎ (IsDigitOf radix (slice_index text element.length) → ⊥)
  pub value : element.value ≡ digits_value radix (slice_range text first element.length)
  pub fits : element.value ≤ 255

-- the text begins with this character or escape, in a literal that this quote closes
pub data IsElement (quote : ℕ) (text : List ℕ) (element : Element) : Type 0 where
  plain : IsPlain quote text element → IsElement quote text element
  simple : IsSimple text element → IsElement quote text element
  octal : IsNumeric 8 1 3 text element → IsElement quote text element
  hexadecimal : slice_index text 1 ≡ 120 → IsNumeric 16 2 (length text) text element → IsElement quote text element

-- the text begins with these, one behind the other
abbrev pub AreElements : ℕ → List ℕ → List Element → Type 0
AreElements quote text [] = Unit {0}
AreElements quote text (element ∷ elements) = IsElement quote text element × AreElements quote (drop element.length text) elements

-- the bytes that elements take
abbrev pub elements_length : List Element → ℕ
elements_length [] = 0
elements_length (element ∷ elements) = element.length + elements_length elements

-- the text is a quote, these elements, and the quote again
pub record IsLiteral (quote : ℕ) (text : List ℕ) (elements : List Element) : Type 0 where
  pub begins : slice_index text 0 ≡ quote
  pub inner : AreElements quote (drop 1 text) elements
  pub closed : slice_index text (elements_length elements + 1) ≡ quote
  pub whole : length text ≡ elements_length elements + 2

-- a character constant of this value
abbrev pub IsCharacter : List ℕ → ℕ → Type 0
IsCharacter text value = (element : Element) × IsLiteral 39 text (element ∷ []) × (value ≡ element.value)

-- a string literal of these bytes
abbrev pub IsText : List ℕ → List ℕ → Type 0
IsText text bytes = (elements : List Element) × IsLiteral 34 text elements × (bytes ≡ map (λ element. element.value) elements)

-- no character and no escape stands at the front of the text
abbrev pub NoElement : ℕ → List ℕ → Type 0
NoElement quote text = (element : Element) → IsElement quote text element → ⊥

-- what stands where an element is refused: the end of the line, of the text or of the literal, or a backslash
abbrev pub Refused : ElementFault → ℕ → List ℕ → Type 0
Refused End quote text = (length text ≡ 0) ⊎ ((slice_index text 0 ≡ 10) ⊎ (slice_index text 0 ≡ quote))
Refused BadEscape quote text = slice_index text 0 ≡ 92
