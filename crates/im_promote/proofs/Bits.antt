-- Sets of objects as the bits of words.
use Rattle.std.proofs.Common.{◌≡◌, ◌≢◌, ℕ, zero, suc, ◌+◌, ◌-◌, ◌*◌, ◌%◌, ◌^◌, ◌<◌, ◌≤◌, Bool, true, false, refl, sym, ap, ◌∙◌, arith, eq-eqb}
use Rattle.std.specs.Prelude.{◌==◌, ◌&&◌, ◌||◌, not, max, min, bit_or, bit_and}
use Rattle.std.specs.Int.{w32, bit_at, bit_not}
use Rattle.std.proofs.lemmas.Bool.Decides.{nat_tests}
use Rattle.std.proofs.lemmas.Nat.Bits.{bit_at_or, bit_at_and, bit_at_not, bit_at-lt, bit_at-zero, bit_at_set_same, bit_at_set_other}
use Rattle.im_promote.specs.Words.{has}

pub same_of : (a b : ℕ) → (a == b) ≡ true → a ≡ b
same_of a b h = grind (arith, nat_tests)

pub other_of : (a b : ℕ) → (a == b) ≡ false → a ≢ b
other_of a b h e = let t : (a == b) ≡ true = eq-eqb a b e in absurd cc

pub not_equal : (a b : ℕ) → a ≢ b → (a == b) ≡ false
not_equal a b ne = by (a == b) refl
  where
    by : (t : Bool) → (a == b) ≡ t → (a == b) ≡ false
    by true e = absurd (ne (same_of a b e))
    by false e = e

-- ---- two bits

max_bits : (x y : ℕ) → x < 2 → y < 2 → (max x y == 1) ≡ ((x == 1) || (y == 1))
max_bits zero zero a b = refl
max_bits zero (suc zero) a b = refl
max_bits (suc zero) zero a b = refl
max_bits (suc zero) (suc zero) a b = refl
max_bits zero (suc (suc y)) a b = absurd (omega arith)
max_bits (suc zero) (suc (suc y)) a b = absurd (omega arith)
max_bits (suc (suc x)) y a b = absurd (omega arith)

min_bits : (x y : ℕ) → x < 2 → y < 2 → (min x (1 - y) == 1) ≡ (not (y == 1) && (x == 1))
min_bits zero zero a b = refl
min_bits zero (suc zero) a b = refl
min_bits (suc zero) zero a b = refl
min_bits (suc zero) (suc zero) a b = refl
min_bits zero (suc (suc y)) a b = absurd (omega arith)
min_bits (suc zero) (suc (suc y)) a b = absurd (omega arith)
min_bits (suc (suc x)) y a b = absurd (omega arith)

no_bit : (y : ℕ) → y < 2 → (1 - y == 1) ≡ not (y == 1)
no_bit zero lt = refl
no_bit (suc zero) lt = refl
no_bit (suc (suc y)) lt = absurd (omega arith)

pub has_zero : (j : ℕ) → has 0 j ≡ false
has_zero j = ap (λ z. z == 1) (bit_at-zero j)

pub has_or : (a b j : ℕ) → has (bit_or a b) j ≡ (has a j || has b j)
has_or a b j = ap (λ z. z == 1) (bit_at_or a b j) ∙ max_bits (bit_at a j) (bit_at b j) (bit_at-lt a j) (bit_at-lt b j)

-- what is left of a set
pub has_kept : (word gone j : ℕ) → gone < 2 ^ 32 → j < 32 → has (bit_and word (bit_not w32 gone)) j ≡ (not (has gone j) && has word j)
has_kept word gone j small lt =
    ap (λ z. z == 1) (bit_at_and word (bit_not w32 gone) j)
    ∙ ap (λ z. min (bit_at word j) z == 1) (bit_at_not w32 gone j small lt)
    ∙ min_bits (bit_at word j) (bit_at gone j) (bit_at-lt word j) (bit_at-lt gone j)

pub has_not : (word j : ℕ) → word < 2 ^ 32 → j < 32 → has (bit_not w32 word) j ≡ not (has word j)
has_not word j small lt = ap (λ z. z == 1) (bit_at_not w32 word j small lt) ∙ no_bit (bit_at word j) (bit_at-lt word j)

has_one : (k j : ℕ) → k < 32 → has (1 * 2 ^ k % 2 ^ 32) j ≡ (j == k)
has_one k j lt = by (j == k) refl
  where
    by : (t : Bool) → (j == k) ≡ t → has (1 * 2 ^ k % 2 ^ 32) j ≡ (j == k)
    by true e = let q : j ≡ k = same_of j k e in ap (λ z. has (1 * 2 ^ k % 2 ^ 32) z) q ∙ ap (λ z. z == 1) (bit_at_set_same w32 0 k lt) ∙ sym e
    by false e = ap (λ z. z == 1) (bit_at_set_other w32 0 k lt j (other_of j k e) ∙ bit_at-zero j) ∙ sym e

-- ---- the set of one object

shifted : (base j object : ℕ) → base ≤ object → (j == object - base) ≡ (base + j == object)
shifted base j object le = by (j == object - base) refl
  where
    by : (t : Bool) → (j == object - base) ≡ t → (j == object - base) ≡ (base + j == object)
    by true e = (let q : j ≡ object - base = same_of j (object - base) e in e ∙ sym (eq-eqb (base + j) object (omega arith)))
    by false e = (let q : j ≢ object - base = other_of j (object - base) e in e ∙ sym (not_equal (base + j) object (λ s. q (omega arith))))

pub among : (base j object : ℕ) → base ≤ object → object - base < 32 → has (1 * 2 ^ (object - base) % 2 ^ 32) j ≡ (base + j == object)
among base j object le lt = has_one (object - base) j lt ∙ shifted base j object le

pub not_among : (base j object : ℕ) → base + j ≢ object → has 0 j ≡ (base + j == object)
not_among base j object ne = has_zero j ∙ sym (not_equal (base + j) object ne)

-- ---- either, both

pub or_first : (a b : Bool) → (a || b) ≡ false → a ≡ false
or_first true b e = e
or_first false b e = refl

pub or_second : (a b : Bool) → (a || b) ≡ false → b ≡ false
or_second true b e = absurd cc
or_second false b e = e

pub not_true : (a : Bool) → not a ≡ true → a ≡ false
not_true true e = absurd cc
not_true false e = refl

pub must_be_false : (a b : Bool) → (a ≡ true → b ≡ true) → b ≡ false → a ≡ false
must_be_false true b f e = (let t = f refl in absurd cc)
must_be_false false b f e = refl
