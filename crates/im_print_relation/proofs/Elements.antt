-- Literals as they are printed: which elements they have, and that no others stand at their front.
use Rattle.std.proofs.Common.{◌≡◌, ◌≢◌, ℕ, zero, suc, ◌+◌, ◌*◌, ◌/◌, ◌%◌, ◌≤◌, ◌<◌, ◌⊎◌, inl, inr, Bool, true, false, not, ◌&&◌, ◌==◌, cond, true≢false, nat_le, nat_lt, All, List, [], ◌∷◌, ◌++◌, length, drop, take, map, sym, subst, ap, refl, ◌∙◌, arith, append_assoc, length-append}
use Rattle.std.specs.Prelude.{slice_index, slice_range}
use Rattle.std.specs.Char.{digit_value}
use Rattle.std.proofs.lemmas.Bool.Decides.{nat_tests}
use Rattle.im_tok.specs.Digits.{digits_value}
use Rattle.im_tok.specs.Literals.{IsElement, AreElements, elements_length, IsLiteral}
use Rattle.im_tok.specs.Literals.IsElement.{plain, octal}
use Rattle.im_tok.specs.declared.literal.Element.{Element}
use Rattle.im_tok.proofs.Elements.{one_element, no_quote}
use Rattle.im_print_relation.specs.Text.{is_plain, byte_text, bytes_text, literal_text}

-- Parts of lists

pub index_behind : (u : List ℕ) (b : ℕ) (v : List ℕ) → slice_index (u ++ (b ∷ v)) (length u) ≡ b
index_behind [] b v = refl
index_behind (x ∷ u) b v = index_behind u b v

pub index_first : (u v : List ℕ) → 0 < length u → slice_index (u ++ v) 0 ≡ slice_index u 0
index_first [] v some = absurd (omega (arith, some))
index_first (x ∷ u) v some = refl

pub take_front : (u v : List ℕ) → take (length u) (u ++ v) ≡ u
take_front [] v = refl
take_front (x ∷ u) v = ap (λ z. x ∷ z) (take_front u v)

pub drop_front : (u v : List ℕ) → drop (length u) (u ++ v) ≡ v
drop_front [] v = refl
drop_front (x ∷ u) v = drop_front u v

-- Bytes of literals

and_true : (a b : Bool) → (a && b) ≡ true → (a ≡ true) × (b ≡ true)
and_true true b e = (refl, e)
and_true false b e = absurd (true≢false (sym e))

pub least_of : (a b : ℕ) → nat_le a b ≡ true → a ≤ b
least_of a b h = grind (arith, nat_tests)

pub record PlainFacts (b : ℕ) : Type 0 where
  pub least : 32 ≤ b
  pub no_double : b ≢ 34
  pub no_single : b ≢ 39
  pub no_escape : b ≢ 92

plain_facts : (b : ℕ) → is_plain b ≡ true → PlainFacts b
plain_facts b is =
    let one = and_true (nat_le 32 b) (nat_lt b 127 && (not (b == 34) && (not (b == 39) && not (b == 92)))) is in
    let two = and_true (nat_lt b 127) (not (b == 34) && (not (b == 39) && not (b == 92))) one.1 in
    let three = and_true (not (b == 34)) (not (b == 39) && not (b == 92)) two.1 in
    let four = and_true (not (b == 39)) (not (b == 92)) three.1 in
    record {
      least = least_of 32 b one.0;
      no_double = λ e. (let f : not (34 == 34) ≡ true = subst (λ z. not (z == 34) ≡ true) e three.0 in true≢false (sym f));
      no_single = λ e. (let f : not (39 == 39) ≡ true = subst (λ z. not (z == 39) ≡ true) e four.0 in true≢false (sym f));
      no_escape = λ e. (let f : not (92 == 92) ≡ true = subst (λ z. not (z == 92) ≡ true) e four.1 in true≢false (sym f));
    }

abbrev pub IsQuote : ℕ → Type 0
IsQuote q = (q ≡ 39) ⊎ (q ≡ 34)

pub quote_no_escape : (q : ℕ) → IsQuote q → q ≢ 92
quote_no_escape q (inl e) f = omega (arith, e, f)
quote_no_escape q (inr e) f = omega (arith, e, f)

no_such_quote : (q b : ℕ) → IsQuote q → PlainFacts b → b ≢ q
no_such_quote q b (inl e) h f = h.no_single (f ∙ e)
no_such_quote q b (inr e) h f = h.no_double (f ∙ e)

octal_digit : (k : ℕ) → k < 8 → digit_value (48 + k) ≡ k
octal_digit zero h = refl
octal_digit (suc zero) h = refl
octal_digit (suc (suc zero)) h = refl
octal_digit (suc (suc (suc zero))) h = refl
octal_digit (suc (suc (suc (suc zero)))) h = refl
octal_digit (suc (suc (suc (suc (suc zero))))) h = refl
octal_digit (suc (suc (suc (suc (suc (suc zero)))))) h = refl
octal_digit (suc (suc (suc (suc (suc (suc (suc zero))))))) h = refl
octal_digit (suc (suc (suc (suc (suc (suc (suc (suc k)))))))) h = absurd (omega (arith, h))

three_digits : (a c d : ℕ) (v : List ℕ) → digit_value a < 8 → digit_value c < 8 → digit_value d < 8 → (i : ℕ) → 1 ≤ i → i < 4 → digit_value (slice_index (92 ∷ a ∷ c ∷ d ∷ v) i) < 8
three_digits a c d v x y z zero least most = absurd (omega (arith, least))
three_digits a c d v x y z (suc zero) least most = x
three_digits a c d v x y z (suc (suc zero)) least most = y
three_digits a c d v x y z (suc (suc (suc zero))) least most = z
three_digits a c d v x y z (suc (suc (suc (suc i)))) least most = absurd (omega (arith, most))

-- a byte, and how many bytes it is printed as
abbrev pub element_of : ℕ → Element
element_of b = record { value = b; length = length (byte_text b) }

-- the element that a byte is printed as
element_by : (q b : ℕ) (v : List ℕ) → IsQuote q → b ≤ 255 → (shown : Bool) → is_plain b ≡ shown → (e : Element) → e.value ≡ b → e.length ≡ length (cond shown (b ∷ []) (92 ∷ (48 + b / 64) ∷ (48 + b / 8 % 8) ∷ (48 + b % 8) ∷ [])) → IsElement q (cond shown (b ∷ []) (92 ∷ (48 + b / 64) ∷ (48 + b / 8 % 8) ∷ (48 + b % 8) ∷ []) ++ v) e
element_by q b v quote byte true is e value size =
    let h = plain_facts b is in
    plain (record { some = omega arith; line = λ f. (let e10 : b ≡ 10 = f in omega (arith, e10, h.least)); inside = no_such_quote q b quote h; no_escape = h.no_escape; value = value; size = size })
element_by q b v quote byte false is e value size =
    let x = octal_digit (b / 64) (omega (arith, byte)) in
    let y = octal_digit (b / 8 % 8) (omega arith) in
    let z = octal_digit (b % 8) (omega arith) in
    let four : e.length ≡ 4 = size in
    let whole : b ≡ 8 * (8 * (8 * 0 + digit_value (48 + b / 64)) + digit_value (48 + b / 8 % 8)) + digit_value (48 + b % 8) = omega (arith, x, y, z, byte) in
    octal (record {
      within = omega (arith, four);
      begins = refl;
      some = omega (arith, four);
      few = omega (arith, four);
      digits = λ i least most. three_digits (48 + b / 64) (48 + b / 8 % 8) (48 + b % 8) v (omega (arith, x, byte)) (omega (arith, y)) (omega (arith, z)) i least (omega (arith, most, four));
      all = inl (omega (arith, four));
      value = value ∙ whole ∙ sym (ap (λ n. digits_value 8 (slice_range (92 ∷ (48 + b / 64) ∷ (48 + b / 8 % 8) ∷ (48 + b % 8) ∷ v) 1 n)) four);
      fits = omega (arith, value, byte);
    })

element_is : (q b : ℕ) (v : List ℕ) → IsQuote q → b ≤ 255 → IsElement q (byte_text b ++ v) (element_of b)
element_is q b v quote byte = element_by q b v quote byte (is_plain b) refl (element_of b) refl refl

abbrev pub AreBytes : List ℕ → Type 0
AreBytes [] = Unit {0}
AreBytes (b ∷ bs) = (b ≤ 255) × AreBytes bs

pub all_bytes : (bs : List ℕ) → All (λ b. b ≤ 255) bs → AreBytes bs
all_bytes [] h = tt
all_bytes (b ∷ bs) h = (h 0 b (omega arith), all_bytes bs (λ k d within. h (suc k) d (omega (arith, within))))

abbrev pub elements_of : List ℕ → List Element
elements_of [] = []
elements_of (b ∷ bs) = element_of b ∷ elements_of bs

pub values_are : (bs : List ℕ) → map (λ (e : Element). e.value) (elements_of bs) ≡ bs
values_are [] = refl
values_are (b ∷ bs) = ap (λ z. b ∷ z) (values_are bs)

bytes_length : (bs : List ℕ) → elements_length (elements_of bs) ≡ length (bytes_text bs)
bytes_length [] = refl
bytes_length (b ∷ bs) = omega (arith, bytes_length bs, length-append (byte_text b) (bytes_text bs))

elements_are : (q : ℕ) (bs v : List ℕ) → IsQuote q → AreBytes bs → AreElements q (bytes_text bs ++ v) (elements_of bs)
elements_are q [] v quote are = tt
elements_are q (b ∷ bs) v quote are =
    let same = append_assoc (byte_text b) (bytes_text bs) v in
    let rest : drop (length (byte_text b)) ((byte_text b ++ bytes_text bs) ++ v) ≡ bytes_text bs ++ v = ap (λ z. drop (length (byte_text b)) z) same ∙ drop_front (byte_text b) (bytes_text bs ++ v) in (
      subst (λ z. IsElement q z (element_of b)) (sym same) (element_is q b (bytes_text bs ++ v) quote are.0),
      subst (λ z. AreElements q z (elements_of bs)) (sym rest) (elements_are q bs v quote are.1),
    )

pub literal_is : (q : ℕ) (bs : List ℕ) → IsQuote q → AreBytes bs → IsLiteral q (literal_text q bs) (elements_of bs)
literal_is q bs quote are =
    let size = bytes_length bs in
    record {
      begins = refl;
      inner = elements_are q bs (q ∷ []) quote are;
      closed = ap (λ k. slice_index (q ∷ (bytes_text bs ++ (q ∷ []))) k) (let e : elements_length (elements_of bs) + 1 ≡ suc (length (bytes_text bs)) = omega (arith, size) in e) ∙ index_behind (bytes_text bs) q [];
      whole = omega (arith, size, length-append (bytes_text bs) (q ∷ []));
    }

-- elements that stand at the front of these bytes and a quote end before the quote
few_elements : (q : ℕ) (bs v : List ℕ) (es : List Element) → IsQuote q → AreBytes bs → AreElements q (bytes_text bs ++ (q ∷ v)) es → elements_length es ≤ length (bytes_text bs)
few_elements q bs v [] quote are these = omega arith
few_elements q [] v (e ∷ es) quote are these = absurd (no_quote q (q ∷ v) e (quote_no_escape q quote) refl these.0)
few_elements q (b ∷ bs) v (e ∷ es) quote are these =
    let same = append_assoc (byte_text b) (bytes_text bs) (q ∷ v) in
    let front = subst (λ z. IsElement q z e) same these.0 in
    let one : e ≡ element_of b = one_element q (byte_text b ++ (bytes_text bs ++ (q ∷ v))) e (element_of b) front (element_is q b (bytes_text bs ++ (q ∷ v)) quote are.0) in
    let size : e.length ≡ length (byte_text b) = ap (λ (z : Element). z.length) one in
    let rest : drop e.length ((byte_text b ++ bytes_text bs) ++ (q ∷ v)) ≡ bytes_text bs ++ (q ∷ v) = ap (λ z. drop e.length z) same ∙ ap (λ k. drop k (byte_text b ++ (bytes_text bs ++ (q ∷ v)))) size ∙ drop_front (byte_text b) (bytes_text bs ++ (q ∷ v)) in
    let less = few_elements q bs v es quote are.1 (subst (λ z. AreElements q z es) rest these.1) in
    omega (arith, less, size, length-append (byte_text b) (bytes_text bs))

-- a literal with more bytes behind it is none
pub literal_ends : (q b : ℕ) (bs r : List ℕ) (es : List Element) → IsQuote q → AreBytes bs → IsLiteral q (literal_text q bs ++ (b ∷ r)) es → ⊥
literal_ends q b bs r es quote are is =
    let same = append_assoc (bytes_text bs) (q ∷ []) (b ∷ r) in
    let less = few_elements q bs (b ∷ r) es quote are (subst (λ z. AreElements q z es) same is.inner) in
    omega (arith, less, is.whole, length-append (bytes_text bs ++ (q ∷ [])) (b ∷ r), length-append (bytes_text bs) (q ∷ []))
