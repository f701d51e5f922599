-- One character or escape stands at a place, and one list of them up to a closing quote.
use Rattle.std.proofs.Common.{◌≡◌, ◌≢◌, ℕ, ◌+◌, ◌-◌, ◌≤◌, ◌<◌, ◌⊎◌, inl, inr, List, Some, length, take, drop, get_or, refl, sym, ◌∙◌, ap, subst, arith}
use Rattle.std.specs.Prelude.{slice_index, slice_range}
use Rattle.std.proofs.lemmas.Bool.{cases_lt}
use Rattle.std.proofs.lemmas.Option.{none-some}
use Rattle.std.proofs.lemmas.List.{take_rest, get_or-drop, get_or_default, length-drop}
use Rattle.im_tok.specs.Digits.{IsDigitOf, digits_value}
use Rattle.im_tok.specs.Literals.{IsNumeric, IsElement, simple_escape, IsCharacter, NoElement}
use Rattle.im_tok.specs.Literals.IsElement.{plain, simple, octal, hexadecimal}
use Rattle.im_tok.specs.declared.literal.Element.{Element}

same_element : (a b : Element) → a.value ≡ b.value → a.length ≡ b.length → a ≡ b
same_element a b v l =
    let P : ℕ → Type 0 = λ n. a ≡ record { value = n; length = a.length } in
    let Q : ℕ → Type 0 = λ n. a ≡ record { value = b.value; length = n } in
    subst Q l (subst P v refl)

octal_digit : (b : ℕ) → IsDigitOf 8 b → (48 ≤ b) × (b ≤ 55)
octal_digit b is = (grind arith, grind arith)

no_simple_octal : (b v : ℕ) → IsDigitOf 8 b → simple_escape b ≡ Some v → ⊥
no_simple_octal b v is e = grind (arith, octal_digit)

same_numeric_length : (radix first most : ℕ) (text : List ℕ) (a b : Element) → IsNumeric radix first most text a → IsNumeric radix first most text b → a.length ≡ b.length
same_numeric_length radix first most text a b g h = by_order (cases_lt a.length b.length) (cases_lt b.length a.length)
  where
    by_order : (a.length < b.length) ⊎ (b.length ≤ a.length) → (b.length < a.length) ⊎ (a.length ≤ b.length) → a.length ≡ b.length
    by_order (inl lt) _ = elim g.all [ inl e ↦ absurd (omega (arith, h.few)) | inr f ↦ absurd (f (h.digits a.length (omega (arith, g.some)) lt)) ]
    by_order (inr ge) (inl gt) = elim h.all [ inl e ↦ absurd (omega (arith, g.few)) | inr f ↦ absurd (f (g.digits b.length (omega (arith, h.some)) gt)) ]
    by_order (inr ge) (inr le) = omega arith

same_numeric : (radix first most : ℕ) (text : List ℕ) (a b : Element) → IsNumeric radix first most text a → IsNumeric radix first most text b → a ≡ b
same_numeric radix first most text a b g h =
    let e = same_numeric_length radix first most text a b g h in
    same_element a b (g.value ∙ ap (λ n. digits_value radix (slice_range text first n)) e ∙ sym h.value) e

-- the byte behind the backslash of an octal escape
octal_second : (text : List ℕ) (a : Element) → IsNumeric 8 1 3 text a → IsDigitOf 8 (slice_index text 1)
octal_second text a g = g.digits 1 (omega arith) g.some

pub one_element : (quote : ℕ) (text : List ℕ) (a b : Element) → IsElement quote text a → IsElement quote text b → a ≡ b
one_element quote text a b (plain g) (plain h) = same_element a b (g.value ∙ sym h.value) (g.size ∙ sym h.size)
one_element quote text a b (plain g) (simple h) = absurd (g.no_escape h.begins)
one_element quote text a b (plain g) (octal h) = absurd (g.no_escape h.begins)
one_element quote text a b (plain g) (hexadecimal x h) = absurd (g.no_escape h.begins)
one_element quote text a b (simple g) (plain h) = absurd (h.no_escape g.begins)
one_element quote text a b (simple g) (simple h) = same_element a b (let e : Some a.value ≡ Some b.value = sym g.value ∙ h.value in cc) (g.size ∙ sym h.size)
one_element quote text a b (simple g) (octal h) = absurd (no_simple_octal (slice_index text 1) _ (octal_second text b h) g.value)
one_element quote text a b (simple g) (hexadecimal x h) = absurd (none-some a.value (rw x at g.value))
one_element quote text a b (octal g) (plain h) = absurd (h.no_escape g.begins)
one_element quote text a b (octal g) (simple h) = absurd (no_simple_octal (slice_index text 1) _ (octal_second text a g) h.value)
one_element quote text a b (octal g) (octal h) = same_numeric 8 1 3 text a b g h
one_element quote text a b (octal g) (hexadecimal x h) = absurd (omega (arith, rw x at (octal_second text a g)))
one_element quote text a b (hexadecimal x g) (plain h) = absurd (h.no_escape g.begins)
one_element quote text a b (hexadecimal x g) (simple h) = absurd (none-some b.value (rw x at h.value))
one_element quote text a b (hexadecimal x g) (octal h) = absurd (omega (arith, rw x at (octal_second text b h)))
one_element quote text a b (hexadecimal x g) (hexadecimal y h) = same_numeric 16 2 (length text) text a b g h

pub no_quote : (quote : ℕ) (text : List ℕ) (a : Element) → quote ≢ 92 → slice_index text 0 ≡ quote → IsElement quote text a → ⊥
no_quote quote text a not begins (plain g) = g.inside begins
no_quote quote text a not begins (simple g) = not (sym begins ∙ g.begins)
no_quote quote text a not begins (octal g) = not (sym begins ∙ g.begins)
no_quote quote text a not begins (hexadecimal x g) = not (sym begins ∙ g.begins)

-- an element takes a byte, and no more than there are
pub element_size : (quote : ℕ) (text : List ℕ) (a : Element) → IsElement quote text a → (0 < a.length) × (a.length ≤ length text)
element_size quote text a (plain g) = (omega (arith, g.size), omega (arith, g.size, g.some))
element_size quote text a (simple g) = (omega (arith, g.size), omega (arith, g.size, g.within))
element_size quote text a (octal g) = (omega (arith, g.some), g.within)
element_size quote text a (hexadecimal x g) = (omega (arith, g.some), g.within)

-- what a character constant is, where this element stands behind its quote
pub the_character : (text : List ℕ) (a : Element) (value : ℕ) → IsElement 39 (drop 1 text) a → IsCharacter text value → (value ≡ a.value) × (length text ≡ a.length + 2) × (slice_index text (a.length + 1) ≡ 39)
the_character text a value is found =
    let e = one_element 39 (drop 1 text) found.0 a found.1.inner.0 is in
    let size : found.0.length ≡ a.length = ap (λ x. x.length) e in
    (found.2 ∙ ap (λ x. x.value) e, omega (arith, found.1.whole, size), let P : ℕ → Type 0 = λ n. slice_index text n ≡ 39 in subst P (omega (arith, size)) found.1.closed)

pub is_character : (text : List ℕ) (a : Element) → slice_index text 0 ≡ 39 → IsElement 39 (drop 1 text) a → length text ≡ a.length + 2 → slice_index text (a.length + 1) ≡ 39 → IsCharacter text a.value
is_character text a begins is whole closed =
    let P : ℕ → Type 0 = λ n. slice_index text n ≡ 39 in
    (a, record { begins = begins; inner = (is, tt); closed = subst P (omega arith) closed; whole = omega arith }, refl)

pub behind_quote : (quote : ℕ) (text : List ℕ) (a : Element) → IsElement quote (take (length text - 1) (drop 1 text)) a → IsElement quote (drop 1 text) a
behind_quote quote text a is = let P : List ℕ → Type 0 = λ t. IsElement quote t a in subst P (take_rest text 1) is

pub none_behind_quote : (quote : ℕ) (text : List ℕ) → NoElement quote (take (length text - 1) (drop 1 text)) → NoElement quote (drop 1 text)
none_behind_quote quote text none = let P : List ℕ → Type 0 = λ t. NoElement quote t in subst P (take_rest text 1) none

pub not_whole : (text : List ℕ) (a : Element) → length (take (length text - 1) (drop 1 text)) ≢ a.length + 1 → IsElement 39 (take (length text - 1) (drop 1 text)) a → (value : ℕ) → IsCharacter text value → ⊥
not_whole text a differs is value found =
    let h = the_character text a value (behind_quote 39 text a is) found in
    differs (ap length (take_rest text 1) ∙ length-drop 1 text ∙ omega (arith, h.1))

pub not_closed : (text : List ℕ) (a : Element) (d : ℕ) → get_or (take (length text - 1) (drop 1 text)) a.length d ≢ 39 → IsElement 39 (take (length text - 1) (drop 1 text)) a → (value : ℕ) → IsCharacter text value → ⊥
not_closed text a d differs is value found =
    let h = the_character text a value (behind_quote 39 text a is) found in
    differs (ap (λ t. get_or t a.length d) (take_rest text 1) ∙ get_or-drop 1 text a.length d ∙ ap (λ n. get_or text n d) (omega arith) ∙ get_or_default text (a.length + 1) d 0 (omega (arith, h.1)) ∙ h.2)
