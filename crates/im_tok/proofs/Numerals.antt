-- A text has one reading as an integer constant.
use Rattle.std.proofs.Common.{◌≡◌, ◌≢◌, ℕ, ◌+◌, ◌≤◌, ◌<◌, ◌^◌, ◌⊎◌, inl, inr, List, [], ◌∷◌, Some, cond, true, false, Bool, length, take, drop, ◌-◌, get_or, nat_le, refl, sym, ◌∙◌, ap, subst, arith}
use Rattle.std.specs.Prelude.{find, slice_index, slice_range}
use Rattle.std.proofs.lemmas.Bool.{cases_lt, leb-true}
use Rattle.std.proofs.lemmas.List.{length-drop, length-take, get_or-drop, get_or-take, get_or_default, take_rest}
use Rattle.im_tok.specs.Digits.{IsDigitOf, DigitsEnd, digits_value}
use Rattle.im_tok.specs.Numbers.{radix_of, prefix_length, Begins, IsU, IsL, IsSuffix, greatest, candidates, IsNumeral}
use Rattle.im_tok.specs.declared.number.Base.{Base}
use Rattle.im_tok.specs.declared.number.Base.TheVariants.{Decimal, Octal, Hexadecimal}
use Rattle.im_tok.specs.declared.number.Suffix.{Suffix}
use Rattle.im_tok.specs.declared.number.Suffix.TheVariants.{Absent, U, L, Ul}
use Rattle.im_tok.specs.declared.number.NumberType.{NumberType}
use Rattle.im_tok.specs.declared.number.NumberType.TheVariants.{Int, UnsignedInt, Long, UnsignedLong}
use Rattle.im_tok.specs.declared.number.Number.{Number}

no_x : (b : ℕ) → (b ≡ 120) ⊎ (b ≡ 88) → b ≢ 120 → b ≢ 88 → ⊥
no_x b (inl e) x y = x e
no_x b (inr e) x y = y e

same_base : (text : List ℕ) (a b : Base) → Begins a text → Begins b text → a ≡ b
same_base text Decimal Decimal g h = refl
same_base text Decimal Octal g h = absurd (omega arith)
same_base text Decimal Hexadecimal g h = absurd (omega arith)
same_base text Octal Decimal g h = absurd (omega arith)
same_base text Octal Octal g h = refl
same_base text Octal Hexadecimal g h = absurd (no_x _ h.1 g.1 g.2)
same_base text Hexadecimal Decimal g h = absurd (omega arith)
same_base text Hexadecimal Octal g h = absurd (no_x _ g.1 h.1 h.2)
same_base text Hexadecimal Hexadecimal g h = refl

-- what a suffix begins with is no digit
suffix_first : (base : Base) (b : ℕ) → IsU b ⊎ IsL b → IsDigitOf (radix_of base) b → ⊥
suffix_first base b (inl (inl e)) h = first_u base (let P : ℕ → Type 0 = λ n. IsDigitOf (radix_of base) n in subst P e h)
  where
    first_u : (base : Base) → IsDigitOf (radix_of base) 117 → ⊥
    first_u Decimal h = absurd (omega arith)
    first_u Octal h = absurd (omega arith)
    first_u Hexadecimal h = absurd (omega arith)
suffix_first base b (inl (inr e)) h = first_u base (let P : ℕ → Type 0 = λ n. IsDigitOf (radix_of base) n in subst P e h)
  where
    first_u : (base : Base) → IsDigitOf (radix_of base) 85 → ⊥
    first_u Decimal h = absurd (omega arith)
    first_u Octal h = absurd (omega arith)
    first_u Hexadecimal h = absurd (omega arith)
suffix_first base b (inr (inl e)) h = first_u base (let P : ℕ → Type 0 = λ n. IsDigitOf (radix_of base) n in subst P e h)
  where
    first_u : (base : Base) → IsDigitOf (radix_of base) 108 → ⊥
    first_u Decimal h = absurd (omega arith)
    first_u Octal h = absurd (omega arith)
    first_u Hexadecimal h = absurd (omega arith)
suffix_first base b (inr (inr e)) h = first_u base (let P : ℕ → Type 0 = λ n. IsDigitOf (radix_of base) n in subst P e h)
  where
    first_u : (base : Base) → IsDigitOf (radix_of base) 76 → ⊥
    first_u Decimal h = absurd (omega arith)
    first_u Octal h = absurd (omega arith)
    first_u Hexadecimal h = absurd (omega arith)

suffix_begins : (s : Suffix) (bytes : List ℕ) → IsSuffix s bytes → 0 < length bytes → IsU (slice_index bytes 0) ⊎ IsL (slice_index bytes 0)
suffix_begins Absent bytes h some = absurd (omega arith)
suffix_begins U bytes h some = inl h.1
suffix_begins L bytes h some = inr h.1
suffix_begins Ul bytes h some = elim h.1 [ inl g ↦ inl g.0 | inr g ↦ inr g.0 ]

u_or_l : (b : ℕ) → IsU b → IsL b → ⊥
u_or_l b (inl e) (inl f) = absurd (omega arith)
u_or_l b (inl e) (inr f) = absurd (omega arith)
u_or_l b (inr e) (inl f) = absurd (omega arith)
u_or_l b (inr e) (inr f) = absurd (omega arith)

same_suffix : (bytes : List ℕ) (a b : Suffix) → IsSuffix a bytes → IsSuffix b bytes → a ≡ b
same_suffix bytes Absent Absent g h = refl
same_suffix bytes Absent U g h = absurd (omega arith)
same_suffix bytes Absent L g h = absurd (omega arith)
same_suffix bytes Absent Ul g h = absurd (omega arith)
same_suffix bytes U Absent g h = absurd (omega arith)
same_suffix bytes U U g h = refl
same_suffix bytes U L g h = absurd (u_or_l _ g.1 h.1)
same_suffix bytes U Ul g h = absurd (omega arith)
same_suffix bytes L Absent g h = absurd (omega arith)
same_suffix bytes L U g h = absurd (u_or_l _ h.1 g.1)
same_suffix bytes L L g h = refl
same_suffix bytes L Ul g h = absurd (omega arith)
same_suffix bytes Ul Absent g h = absurd (omega arith)
same_suffix bytes Ul U g h = absurd (omega arith)
same_suffix bytes Ul L g h = absurd (omega arith)
same_suffix bytes Ul Ul g h = refl

small_type : (t : NumberType) → greatest t < 2 ^ 32
small_type Int = omega arith
small_type UnsignedInt = omega arith
small_type Long = omega arith
small_type UnsignedLong = omega arith

-- what some type holds is below 2^32
small : (value : ℕ) (types : List NumberType) (t : NumberType) → find (λ u. nat_le value (greatest u)) types ≡ Some t → value < 2 ^ 32
small value [] t e = absurd (cc)
small value (u ∷ types) t e = by_test (small value types t) (nat_le value (greatest u)) refl
  where
    by_test : (find (λ w. nat_le value (greatest w)) types ≡ Some t → value < 2 ^ 32) → (b : Bool) → nat_le value (greatest u) ≡ b → value < 2 ^ 32
    by_test rest true is = omega (arith, leb-true value (greatest u) is, small_type u)
    by_test rest false is = rest (sym (ap (λ c. cond c (Some u) (find (λ w. nat_le value (greatest w)) types)) is) ∙ e)

-- a constant seen from its base and the end of its digits
pub record Parts (text : List ℕ) (number : Number) (base : Base) (end : ℕ) : Type 0 where
  pub some : prefix_length base < end
  pub suffix : Suffix
  pub ends : IsSuffix suffix (drop end text)
  pub value : number.value ≡ digits_value (radix_of base) (slice_range text (prefix_length base) end)
  pub small : number.value < 2 ^ 32
  pub holds : find (λ t. nat_le number.value (greatest t)) (candidates base suffix) ≡ Some number.number_type

same_end : (text : List ℕ) (base : Base) (suffix : Suffix) (m n : ℕ) → DigitsEnd (radix_of base) text (prefix_length base) (length text) m → prefix_length base < n → n ≤ length text → ((i : ℕ) → prefix_length base ≤ i → i < n → IsDigitOf (radix_of base) (slice_index text i)) → IsSuffix suffix (drop n text) → n ≡ m
same_end text base suffix m n run some within digits ends = by_order (cases_lt n m) (cases_lt m n)
  where
    by_order : (n < m) ⊎ (m ≤ n) → (m < n) ⊎ (n ≤ m) → n ≡ m
    by_order (inl lt) _ =
        let first = suffix_begins suffix (drop n text) ends (omega (arith, length-drop n text, run.within)) in
        let e : slice_index (drop n text) 0 ≡ slice_index text n = get_or-drop n text 0 0 ∙ ap (λ k. slice_index text k) (omega arith) in
        absurd (suffix_first base (slice_index text n) (let P : ℕ → Type 0 = λ b. IsU b ⊎ IsL b in subst P e first) (run.digits n (omega arith) lt))
    by_order (inr ge) (inl gt) = elim run.all [ inl e ↦ absurd (omega arith) | inr f ↦ absurd (f (digits m run.from gt)) ]
    by_order (inr ge) (inr le) = omega arith

pub parts : (text : List ℕ) (number : Number) (base : Base) → Begins base text → IsNumeral text number → (end : ℕ) → DigitsEnd (radix_of base) text (prefix_length base) (length text) end → Parts text number base end
parts text number base begins is end run = at_base base begins (same_base text is.base base is.begins begins) run
  where
    own : Parts text number is.base is.end
    own = record { some = is.some; suffix = is.suffix; ends = is.ends; value = is.value; small = small number.value (candidates is.base is.suffix) number.number_type is.holds; holds = is.holds }

    at_base : (b : Base) → Begins b text → is.base ≡ b → DigitsEnd (radix_of b) text (prefix_length b) (length text) end → Parts text number b end
    at_base b begins e run =
        let P : Base → Type 0 = λ b. DigitsEnd (radix_of b) text (prefix_length b) (length text) end → Parts text number b end in
        subst P e (λ run. (let Q : ℕ → Type 0 = λ n. Parts text number is.base n in subst Q (same_end text is.base is.suffix end is.end run is.some is.within is.digits is.ends) own)) run

-- the text must have a byte behind what stands before the digits
pub some_digit : (text : List ℕ) (number : Number) (base : Base) → Begins base text → IsNumeral text number → prefix_length base < length text
some_digit text number base begins is =
    let P : Base → Type 0 = λ b. prefix_length b < length text in
    let own : prefix_length is.base < length text = omega (arith, is.some, is.within) in
    subst P (same_base text is.base base is.begins begins) own

pub the_suffix : {text : List ℕ} {number : Number} {base : Base} {end : ℕ} → Parts text number base end → (suffix : Suffix) → IsSuffix suffix (drop end text) → find (λ t. nat_le number.value (greatest t)) (candidates base suffix) ≡ Some number.number_type
the_suffix {text} {number} {base} {end} p suffix is =
    let P : Suffix → Type 0 = λ s. find (λ t. nat_le number.value (greatest t)) (candidates base s) ≡ Some number.number_type in
    subst P (same_suffix (drop end text) p.suffix suffix p.ends is) p.holds

-- a run of digits, seen from the base
pub run_at : {text : List ℕ} (base : Base) {radix start end : ℕ} → radix ≡ radix_of base → start ≡ prefix_length base → DigitsEnd radix text start (length text) end → DigitsEnd (radix_of base) text (prefix_length base) (length text) end
run_at {text} base {radix} {start} {end} r s run =
    let P : ℕ → Type 0 = λ n. DigitsEnd n text (prefix_length base) (length text) end in
    let Q : ℕ → Type 0 = λ n. DigitsEnd radix text n (length text) end in
    subst P r (subst Q s run)

pub digits_within : (text : List ℕ) (base : Base) (radix again start end : ℕ) → again ≡ radix_of base → radix ≡ radix_of base → DigitsEnd radix text start (length text) end → (k d : ℕ) → k < length (take (end - start) (drop start text)) → IsDigitOf again (get_or (take (end - start) (drop start text)) k d)
digits_within text base radix again start end r s run k d within =
    let lt : k < end - start = omega (arith, length-take (end - start) (drop start text)) in
    let e : get_or (take (end - start) (drop start text)) k d ≡ slice_index text (start + k) = get_or-take (end - start) (drop start text) k d lt ∙ get_or-drop start text k d ∙ get_or_default text (start + k) d 0 (omega (arith, run.within)) in
    let P : ℕ → Type 0 = λ b. IsDigitOf again b in
    let Q : ℕ → Type 0 = λ n. IsDigitOf n (slice_index text (start + k)) in
    subst P (sym e) (subst Q (s ∙ sym r) (run.digits (start + k) (omega arith) (omega arith)))

pub no_suffix : (text : List ℕ) (end : ℕ) → ((suffix : Suffix) → IsSuffix suffix (take (length text - end) (drop end text)) → ⊥) → (suffix : Suffix) → IsSuffix suffix (drop end text) → ⊥
no_suffix text end none =
    let P : List ℕ → Type 0 = λ b. (suffix : Suffix) → IsSuffix suffix b → ⊥ in
    subst P (take_rest text end) none

pub is_suffix : (text : List ℕ) (end : ℕ) (suffix : Suffix) → IsSuffix suffix (take (length text - end) (drop end text)) → IsSuffix suffix (drop end text)
is_suffix text end suffix is =
    let P : List ℕ → Type 0 = λ b. IsSuffix suffix b in
    subst P (take_rest text end) is
