-- A text has one reading as an integer constant.
use Rattle.std.proofs.Common.{◌≡◌, ◌≢◌, ℕ, ◌≤◌, ◌<◌, ◌⊎◌, inl, inr, List, Some, length, drop, nat_le, refl, sym, ◌∙◌, ap, subst, arith}
use Rattle.std.specs.Prelude.{find, slice_index, slice_range}
use Rattle.std.proofs.lemmas.Bool.{cases_lt}
use Rattle.std.proofs.lemmas.List.{length-drop, get_or-drop}
use Rattle.im_tok.specs.Digits.{IsDigitOf, digits_value}
use Rattle.im_tok.specs.Numbers.{radix_of, prefix_length, Begins, IsU, IsL, IsSuffix, greatest, candidates, IsNumeral}
use Rattle.im_tok.specs.declared.number.Base.{Base}
use Rattle.im_tok.specs.declared.number.Base.TheVariants.{Decimal, Octal, Hexadecimal}
use Rattle.im_tok.specs.declared.number.Suffix.{Suffix}
use Rattle.im_tok.specs.declared.number.Suffix.TheVariants.{Absent, U, L, Ul}
use Rattle.im_tok.specs.declared.number.NumberType.{NumberType}
use Rattle.im_tok.specs.declared.number.Number.{Number}

no_x : (b : ℕ) → (b ≡ 120) ⊎ (b ≡ 88) → b ≢ 120 → b ≢ 88 → ⊥
no_x b (inl e) x y = x e
no_x b (inr e) x y = y e

same_base : (text : List ℕ) (a b : Base) → Begins a text → Begins b text → a ≡ b
same_base text Decimal Decimal g h = refl
same_base text Decimal Octal g h = absurd (omega arith)
same_base text Decimal Hexadecimal g h = absurd (omega arith)
same_base text Octal Decimal g h = absurd (omega arith)
same_base text Octal Octal g h = refl
same_base text Octal Hexadecimal g h = absurd (no_x _ h.1 g.1 g.2)
same_base text Hexadecimal Decimal g h = absurd (omega arith)
same_base text Hexadecimal Octal g h = absurd (no_x _ g.1 h.1 h.2)
same_base text Hexadecimal Hexadecimal g h = refl

-- what a suffix begins with is no digit
suffix_first : (base : Base) (b : ℕ) → IsU b ⊎ IsL b → IsDigitOf (radix_of base) b → ⊥
suffix_first base b (inl (inl e)) h = first_u base (let P : ℕ → Type 0 = λ n. IsDigitOf (radix_of base) n in subst P e h)
  where
    first_u : (base : Base) → IsDigitOf (radix_of base) 117 → ⊥
    first_u Decimal h = absurd (omega arith)
    first_u Octal h = absurd (omega arith)
    first_u Hexadecimal h = absurd (omega arith)
suffix_first base b (inl (inr e)) h = first_u base (let P : ℕ → Type 0 = λ n. IsDigitOf (radix_of base) n in subst P e h)
  where
    first_u : (base : Base) → IsDigitOf (radix_of base) 85 → ⊥
    first_u Decimal h = absurd (omega arith)
    first_u Octal h = absurd (omega arith)
    first_u Hexadecimal h = absurd (omega arith)
suffix_first base b (inr (inl e)) h = first_u base (let P : ℕ → Type 0 = λ n. IsDigitOf (radix_of base) n in subst P e h)
  where
    first_u : (base : Base) → IsDigitOf (radix_of base) 108 → ⊥
    first_u Decimal h = absurd (omega arith)
    first_u Octal h = absurd (omega arith)
    first_u Hexadecimal h = absurd (omega arith)
suffix_first base b (inr (inr e)) h = first_u base (let P : ℕ → Type 0 = λ n. IsDigitOf (radix_of base) n in subst P e h)
  where
    first_u : (base : Base) → IsDigitOf (radix_of base) 76 → ⊥
    first_u Decimal h = absurd (omega arith)
    first_u Octal h = absurd (omega arith)
    first_u Hexadecimal h = absurd (omega arith)

suffix_begins : (s : Suffix) (bytes : List ℕ) → IsSuffix s bytes → 0 < length bytes → IsU (slice_index bytes 0) ⊎ IsL (slice_index bytes 0)
suffix_begins Absent bytes h some = absurd (omega arith)
suffix_begins U bytes h some = inl h.1
suffix_begins L bytes h some = inr h.1
suffix_begins Ul bytes h some = elim h.1 [ inl g ↦ inl g.0 | inr g ↦ inr g.0 ]

u_or_l : (b : ℕ) → IsU b → IsL b → ⊥
u_or_l b (inl e) (inl f) = absurd (omega arith)
u_or_l b (inl e) (inr f) = absurd (omega arith)
u_or_l b (inr e) (inl f) = absurd (omega arith)
u_or_l b (inr e) (inr f) = absurd (omega arith)

same_suffix : (bytes : List ℕ) (a b : Suffix) → IsSuffix a bytes → IsSuffix b bytes → a ≡ b
same_suffix bytes Absent Absent g h = refl
same_suffix bytes Absent U g h = absurd (omega arith)
same_suffix bytes Absent L g h = absurd (omega arith)
same_suffix bytes Absent Ul g h = absurd (omega arith)
same_suffix bytes U Absent g h = absurd (omega arith)
same_suffix bytes U U g h = refl
same_suffix bytes U L g h = absurd (u_or_l _ g.1 h.1)
same_suffix bytes U Ul g h = absurd (omega arith)
same_suffix bytes L Absent g h = absurd (omega arith)
same_suffix bytes L U g h = absurd (u_or_l _ h.1 g.1)
same_suffix bytes L L g h = refl
same_suffix bytes L Ul g h = absurd (omega arith)
same_suffix bytes Ul Absent g h = absurd (omega arith)
same_suffix bytes Ul U g h = absurd (omega arith)
same_suffix bytes Ul L g h = absurd (omega arith)
same_suffix bytes Ul Ul g h = refl

-- the digits go on as far as they can
no_further : (text : List ℕ) (base : Base) (suffix : Suffix) (m n : ℕ) → IsSuffix suffix (drop m text) → n ≤ length text
    → ((i : ℕ) → prefix_length base ≤ i → i < n → IsDigitOf (radix_of base) (slice_index text i)) → prefix_length base < m → m < n → ⊥
no_further text base suffix m n ends within digits some lt =
    let first = suffix_begins suffix (drop m text) ends (omega (arith, length-drop m text, within)) in
    let e : slice_index (drop m text) 0 ≡ slice_index text m = get_or-drop m text 0 0 ∙ ap (λ k. slice_index text k) (omega arith) in
    suffix_first base (slice_index text m) (let P : ℕ → Type 0 = λ b. IsU b ⊎ IsL b in subst P e first) (digits m (omega arith) lt)

same_end : (text : List ℕ) (base : Base) (s t : Suffix) (m n : ℕ) → prefix_length base < m → m ≤ length text → ((i : ℕ) → prefix_length base ≤ i → i < m → IsDigitOf (radix_of base) (slice_index text i)) → IsSuffix s (drop m text)
    → prefix_length base < n → n ≤ length text → ((i : ℕ) → prefix_length base ≤ i → i < n → IsDigitOf (radix_of base) (slice_index text i)) → IsSuffix t (drop n text) → m ≡ n
same_end text base s t m n some within digits ends more inside others closes = by_order (cases_lt m n) (cases_lt n m)
  where
    by_order : (m < n) ⊎ (n ≤ m) → (n < m) ⊎ (m ≤ n) → m ≡ n
    by_order (inl lt) _ = absurd (no_further text base s m n ends inside others some lt)
    by_order (inr ge) (inl gt) = absurd (no_further text base t n m closes within digits more gt)
    by_order (inr ge) (inr le) = omega arith

-- a constant seen from its base, suffix and end
record IsRead (text : List ℕ) (number : Number) (base : Base) (suffix : Suffix) (end : ℕ) : Type 0 where
  pub value : number.value ≡ digits_value (radix_of base) (slice_range text (prefix_length base) end)
  pub holds : find (λ t. nat_le number.value (greatest t)) (candidates base suffix) ≡ Some number.number_type

same_read : (text : List ℕ) (a b : Number) (base : Base) (suffix : Suffix) (end : ℕ) → IsRead text a base suffix end → IsRead text b base suffix end → a ≡ b
same_read text a b base suffix end g h =
    let value : a.value ≡ b.value = g.value ∙ sym h.value in
    let found : Some a.number_type ≡ Some b.number_type = sym g.holds ∙ ap (λ n. find (λ t. nat_le n (greatest t)) (candidates base suffix)) value ∙ h.holds in
    let type : a.number_type ≡ b.number_type = cc in
    ap (λ (n : ℕ). record a { value = n }) value ∙ ap (λ (t : NumberType). record b { number_type = t }) type

pub same-numeral : (text : List ℕ) (a b : Number) → IsNumeral text a → IsNumeral text b → a ≡ b
same-numeral text a b g h = at_base g.base (same_base text h.base g.base h.begins g.begins) g.begins g.some g.digits own
  where
    own : IsRead text a g.base g.suffix g.end
    own = record { value = g.value; holds = g.holds }

    at_base : (base : Base) → h.base ≡ base → Begins base text → prefix_length base < g.end → ((i : ℕ) → prefix_length base ≤ i → i < g.end → IsDigitOf (radix_of base) (slice_index text i)) → IsRead text a base g.suffix g.end → a ≡ b
    at_base base e begins some digits read =
        let P : Base → Type 0 = λ c. prefix_length c < g.end → ((i : ℕ) → prefix_length c ≤ i → i < g.end → IsDigitOf (radix_of c) (slice_index text i)) → IsRead text a c g.suffix g.end → a ≡ b in
        subst P e from_own some digits read
      where
        from_own : prefix_length h.base < g.end → ((i : ℕ) → prefix_length h.base ≤ i → i < g.end → IsDigitOf (radix_of h.base) (slice_index text i)) → IsRead text a h.base g.suffix g.end → a ≡ b
        from_own some digits read =
            let end : g.end ≡ h.end = same_end text h.base g.suffix h.suffix g.end h.end some g.within digits g.ends h.some h.within h.digits h.ends in
            let suffix : g.suffix ≡ h.suffix = same_suffix (drop h.end text) g.suffix h.suffix (let Q : ℕ → Type 0 = λ n. IsSuffix g.suffix (drop n text) in subst Q end g.ends) h.ends in
            let Q : ℕ → Type 0 = λ n. IsRead text a h.base g.suffix n in
            let R : Suffix → Type 0 = λ s. IsRead text a h.base s h.end in
            same_read text a b h.base h.suffix h.end (subst R suffix (subst Q end read)) (record { value = h.value; holds = h.holds })
