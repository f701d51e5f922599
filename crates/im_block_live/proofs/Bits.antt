-- Sets of registers as the bits of words.
use Rattle.std.proofs.Common.{◌≡◌, ◌≢◌, inl, inr, ℕ, zero, suc, ◌+◌, ◌-◌, ◌*◌, ◌%◌, ◌^◌, ◌<◌, ◌≤◌, Bool, true, false, refl, sym, ap, ◌∙◌, arith, eq-eqb}
use Rattle.std.specs.Prelude.{◌==◌, ◌&&◌, ◌||◌, not, nat_le, nat_lt, max, min, bit_or, bit_and}
use Rattle.std.specs.Int.{w32, bit_at, bit_not}
use Rattle.std.proofs.lemmas.Bool.{cases_lt}
use Rattle.std.proofs.lemmas.Bool.Decides.{nat_tests}
use Rattle.std.proofs.lemmas.Nat.Bits.{bit_at_or, bit_at_and, bit_at_not, bit_at-lt, bit_at-zero, bit_at_set_same, bit_at_set_other}
use Rattle.im_block_live.specs.Words.{has}

pub same_of : (a b : ℕ) → (a == b) ≡ true → a ≡ b
same_of a b h = grind (arith, nat_tests)

pub other_of : (a b : ℕ) → (a == b) ≡ false → a ≢ b
other_of a b h e = let t : (a == b) ≡ true = eq-eqb a b e in absurd cc

pub not_equal : (a b : ℕ) → a ≢ b → (a == b) ≡ false
not_equal a b ne = by (a == b) refl
  where
    by : (t : Bool) → (a == b) ≡ t → (a == b) ≡ false
    by true e = absurd (ne (same_of a b e))
    by false e = e

-- ---- two bits

max_bits : (x y : ℕ) → x < 2 → y < 2 → (max x y == 1) ≡ ((x == 1) || (y == 1))
max_bits zero zero a b = refl
max_bits zero (suc zero) a b = refl
max_bits (suc zero) zero a b = refl
max_bits (suc zero) (suc zero) a b = refl
max_bits zero (suc (suc y)) a b = absurd (omega arith)
max_bits (suc zero) (suc (suc y)) a b = absurd (omega arith)
max_bits (suc (suc x)) y a b = absurd (omega arith)

min_bits : (x y : ℕ) → x < 2 → y < 2 → (min x (1 - y) == 1) ≡ (not (y == 1) && (x == 1))
min_bits zero zero a b = refl
min_bits zero (suc zero) a b = refl
min_bits (suc zero) zero a b = refl
min_bits (suc zero) (suc zero) a b = refl
min_bits zero (suc (suc y)) a b = absurd (omega arith)
min_bits (suc zero) (suc (suc y)) a b = absurd (omega arith)
min_bits (suc (suc x)) y a b = absurd (omega arith)

pub has_zero : (j : ℕ) → has 0 j ≡ false
has_zero j = ap (λ z. z == 1) (bit_at-zero j)

pub has_or : (a b j : ℕ) → has (bit_or a b) j ≡ (has a j || has b j)
has_or a b j = ap (λ z. z == 1) (bit_at_or a b j) ∙ max_bits (bit_at a j) (bit_at b j) (bit_at-lt a j) (bit_at-lt b j)

-- what is left of a set
pub has_kept : (word gone j : ℕ) → gone < 2 ^ 32 → j < 32 → has (bit_and word (bit_not w32 gone)) j ≡ (not (has gone j) && has word j)
has_kept word gone j small lt =
    ap (λ z. z == 1) (bit_at_and word (bit_not w32 gone) j)
    ∙ ap (λ z. min (bit_at word j) z == 1) (bit_at_not w32 gone j small lt)
    ∙ min_bits (bit_at word j) (bit_at gone j) (bit_at-lt word j) (bit_at-lt gone j)

has_one : (k j : ℕ) → k < 32 → has (1 * 2 ^ k % 2 ^ 32) j ≡ (j == k)
has_one k j lt = by (j == k) refl
  where
    by : (t : Bool) → (j == k) ≡ t → has (1 * 2 ^ k % 2 ^ 32) j ≡ (j == k)
    by true e = let q : j ≡ k = same_of j k e in ap (λ z. has (1 * 2 ^ k % 2 ^ 32) z) q ∙ ap (λ z. z == 1) (bit_at_set_same w32 0 k lt) ∙ sym e
    by false e = ap (λ z. z == 1) (bit_at_set_other w32 0 k lt j (other_of j k e) ∙ bit_at-zero j) ∙ sym e

-- ---- the set of one register

shifted : (base j number : ℕ) → base ≤ number → (j == number - base) ≡ (base + j == number)
shifted base j number le = by (j == number - base) refl
  where
    by : (t : Bool) → (j == number - base) ≡ t → (j == number - base) ≡ (base + j == number)
    by true e = (let q : j ≡ number - base = same_of j (number - base) e in e ∙ sym (eq-eqb (base + j) number (omega arith)))
    by false e = (let q : j ≢ number - base = other_of j (number - base) e in e ∙ sym (not_equal (base + j) number (λ s. q (omega arith))))

pub among : (base j number : ℕ) → base ≤ number → number - base < 32 → has (1 * 2 ^ (number - base) % 2 ^ 32) j ≡ (base + j == number)
among base j number le lt = has_one (number - base) j lt ∙ shifted base j number le

pub not_among : (base j number : ℕ) → base + j ≢ number → has 0 j ≡ (base + j == number)
not_among base j number ne = has_zero j ∙ sym (not_equal (base + j) number ne)

-- ---- registers side by side

pub run_none : (first n : ℕ) → (nat_le first n && nat_lt n (first + 0)) ≡ false
run_none first n = by (nat_le first n) refl
  where
    by : (t : Bool) → nat_le first n ≡ t → (nat_le first n && nat_lt n (first + 0)) ≡ false
    by false e = ap (λ z. z && nat_lt n (first + 0)) e
    by true e =
        let le : first ≤ n = grind (arith, nat_tests) in
        let no : nat_lt n (first + 0) ≡ false = grind (arith, nat_tests) in
        ap (λ z. z && nat_lt n (first + 0)) e ∙ no

tests : (a b c d a' b' c' d' : Bool) → a ≡ a' → b ≡ b' → c ≡ c' → d ≡ d' → ((a' && b') || c') ≡ (a' && d') → ((a && b) || c) ≡ (a && d)
tests a b c d a' b' c' d' p q r s h =
    ap (λ z. (z && b) || c) p ∙ ap (λ z. (a' && z) || c) q ∙ ap (λ z. (a' && b') || z) r ∙ h ∙ sym (ap (λ z. z && d) p ∙ ap (λ z. a' && z) s)

pub run_more : (first n i : ℕ) → ((nat_le first n && nat_lt n (first + i)) || n == first + i) ≡ (nat_le first n && nat_lt n (first + (i + 1)))
run_more first n i = elim (cases_lt n first) [
  | inl lt ↦ (let a : nat_le first n ≡ false = grind (arith, nat_tests) in
      tests (nat_le first n) (nat_lt n (first + i)) (n == first + i) (nat_lt n (first + (i + 1))) false (nat_lt n (first + i)) false (nat_lt n (first + (i + 1))) a refl (not_equal n (first + i) (λ e. omega arith)) refl refl)
  | inr le ↦ (let a : nat_le first n ≡ true = grind (arith, nat_tests) in by a (nat_lt n (first + i)) refl (n == first + i) refl)
]
  where
    by : nat_le first n ≡ true → (t : Bool) → nat_lt n (first + i) ≡ t → (u : Bool) → (n == first + i) ≡ u → ((nat_le first n && nat_lt n (first + i)) || n == first + i) ≡ (nat_le first n && nat_lt n (first + (i + 1)))
    by a true e u f = (let d : nat_lt n (first + (i + 1)) ≡ true = grind (arith, nat_tests) in
        tests (nat_le first n) (nat_lt n (first + i)) (n == first + i) (nat_lt n (first + (i + 1))) true true (n == first + i) true a e refl d refl)
    by a false e true f = (let q : n ≡ first + i = same_of n (first + i) f in let d : nat_lt n (first + (i + 1)) ≡ true = grind (arith, nat_tests) in
        tests (nat_le first n) (nat_lt n (first + i)) (n == first + i) (nat_lt n (first + (i + 1))) true false true true a e f d refl)
    by a false e false f =
        let ne : n ≢ first + i = other_of n (first + i) f in
        let ge : first + i ≤ n = grind (arith, nat_tests) in
        let d : nat_lt n (first + (i + 1)) ≡ false = grind (arith, nat_tests) in
        tests (nat_le first n) (nat_lt n (first + i)) (n == first + i) (nat_lt n (first + (i + 1))) true false false false a e f d refl
