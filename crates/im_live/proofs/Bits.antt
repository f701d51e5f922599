-- Sets of registers as the bits of words.
use Rattle.std.proofs.Common.{◌≡◌, ◌≢◌, ℕ, zero, suc, ◌+◌, ◌-◌, ◌*◌, ◌%◌, ◌^◌, ◌<◌, ◌≤◌, Bool, true, false, refl, sym, ap, ◌∙◌, subst, arith, eq-eqb}
use Rattle.std.specs.Prelude.{◌==◌, ◌&&◌, ◌||◌, not, nat_le, nat_lt, max, min, bit_or, bit_and}
use Rattle.std.specs.Int.{w32, bit_at, bit_not}
use Rattle.std.proofs.lemmas.Bool.Decides.{nat_tests}
use Rattle.std.proofs.lemmas.Nat.Bits.{bit_at_or, bit_at_and, bit_at_not, bit_at-lt, bit_at-zero, bit_at_set_same, bit_at_set_other, bit_at_mask_inside, bit_at_mask_below, bit_at_mask_above, bit_at-pow_same, bit_at-pow_other, same_from_bits}
use Rattle.std.proofs.Math.Nat.{pow-le-pow_right}
use Rattle.im_live.specs.Reads.{called}
use Rattle.im_live.specs.Words.{has}

pub same_of : (a b : ℕ) → (a == b) ≡ true → a ≡ b
same_of a b h = grind (arith, nat_tests)

other_of : (a b : ℕ) → (a == b) ≡ false → a ≢ b
other_of a b h e = let t : (a == b) ≡ true = eq-eqb a b e in absurd cc

-- ---- two bits

max_bits : (x y : ℕ) → x < 2 → y < 2 → (max x y == 1) ≡ ((x == 1) || (y == 1))
max_bits zero zero a b = refl
max_bits zero (suc zero) a b = refl
max_bits (suc zero) zero a b = refl
max_bits (suc zero) (suc zero) a b = refl
max_bits zero (suc (suc y)) a b = absurd (omega arith)
max_bits (suc zero) (suc (suc y)) a b = absurd (omega arith)
max_bits (suc (suc x)) y a b = absurd (omega arith)

min_bits : (x y : ℕ) → x < 2 → y < 2 → (min x (1 - y) == 1) ≡ (not (y == 1) && (x == 1))
min_bits zero zero a b = refl
min_bits zero (suc zero) a b = refl
min_bits (suc zero) zero a b = refl
min_bits (suc zero) (suc zero) a b = refl
min_bits zero (suc (suc y)) a b = absurd (omega arith)
min_bits (suc zero) (suc (suc y)) a b = absurd (omega arith)
min_bits (suc (suc x)) y a b = absurd (omega arith)

pub has_zero : (r : ℕ) → has 0 r ≡ false
has_zero r = ap (λ z. z == 1) (bit_at-zero r)

pub has_or : (a b r : ℕ) → has (bit_or a b) r ≡ (has a r || has b r)
has_or a b r = ap (λ z. z == 1) (bit_at_or a b r) ∙ max_bits (bit_at a r) (bit_at b r) (bit_at-lt a r) (bit_at-lt b r)

pub has_kept : (word written r : ℕ) → written < 2 ^ 32 → r < 32 → has (bit_and word (bit_not w32 written)) r ≡ (not (has written r) && has word r)
has_kept word written r small lt =
    ap (λ z. z == 1) (bit_at_and word (bit_not w32 written) r)
    ∙ ap (λ z. min (bit_at word r) z == 1) (bit_at_not w32 written r small lt)
    ∙ min_bits (bit_at word r) (bit_at written r) (bit_at-lt word r) (bit_at-lt written r)

pub has_one : (k r : ℕ) → k < 32 → has (1 * 2 ^ k % 2 ^ 32) r ≡ (r == k)
has_one k r lt = by (r == k) refl
  where
    by : (t : Bool) → (r == k) ≡ t → has (1 * 2 ^ k % 2 ^ 32) r ≡ (r == k)
    by true e = let q : r ≡ k = same_of r k e in ap (λ z. has (1 * 2 ^ k % 2 ^ 32) z) q ∙ ap (λ z. z == 1) (bit_at_set_same w32 0 k lt) ∙ sym e
    by false e = ap (λ z. z == 1) (bit_at_set_other w32 0 k lt r (other_of r k e) ∙ bit_at-zero r) ∙ sym e

-- registers side by side
pub has_run : (lo hi r : ℕ) → has (2 ^ hi - 2 ^ lo) r ≡ (nat_le lo r && nat_lt r hi)
has_run lo hi r = by (nat_le lo r) (nat_lt r hi) refl refl
  where
    by : (a b : Bool) → nat_le lo r ≡ a → nat_lt r hi ≡ b → has (2 ^ hi - 2 ^ lo) r ≡ (nat_le lo r && nat_lt r hi)
    by false b e f = (let l : r < lo = grind (arith, nat_tests) in ap (λ z. z == 1) (bit_at_mask_below lo hi r l) ∙ sym (ap (λ z. z && nat_lt r hi) e))
    by true false e f = (let l : hi ≤ r = grind (arith, nat_tests) in ap (λ z. z == 1) (bit_at_mask_above lo hi r l) ∙ sym (ap (λ z. z && nat_lt r hi) e ∙ f))
    by true true e f = (let l : lo ≤ r = grind (arith, nat_tests) in let m : r < hi = grind (arith, nat_tests) in ap (λ z. z == 1) (bit_at_mask_inside lo hi r l m) ∙ sym (ap (λ z. z && nat_lt r hi) e ∙ f))

-- ---- known words, bit by bit

same_bool : Bool → Bool → Bool
same_bool true b = b
same_bool false b = not b

same_bool_is : (a b : Bool) → same_bool a b ≡ true → a ≡ b
unfolding same_bool
same_bool_is true true e = refl
same_bool_is true false e = absurd cc
same_bool_is false true e = absurd cc
same_bool_is false false e = refl

abbrev all_below : (ℕ → Bool) → ℕ → Bool
all_below f zero = true
all_below f (suc n) = f n && all_below f n

and_left : (a b : Bool) → (a && b) ≡ true → a ≡ true
and_left true b e = refl
and_left false b e = absurd cc

and_right : (a b : Bool) → (a && b) ≡ true → b ≡ true
and_right true b e = e
and_right false b e = absurd cc

below_is : (f : ℕ → Bool) (n r : ℕ) → all_below f n ≡ true → r < n → f r ≡ true
below_is f zero r e lt = absurd (omega arith)
below_is f (suc n) r e lt = by (λ l. below_is f n r (and_right (f n) (all_below f n) e) l) (r == n) refl
  where
    by : (r < n → f r ≡ true) → (t : Bool) → (r == n) ≡ t → f r ≡ true
    by k true q = let s : r ≡ n = same_of r n q in ap f s ∙ and_left (f n) (all_below f n) e
    by k false q = let ne = other_of r n q in k (omega arith)

pub has_called : (r : ℕ) → r < 32 → has 0xFFFFFFE2 r ≡ called r
unfolding same_bool
has_called r lt = same_bool_is (has 0xFFFFFFE2 r) (called r) (below_is (λ k. same_bool (has 0xFFFFFFE2 k) (called k)) 32 r refl lt)

pub has_returned : (r : ℕ) → r < 32 → has 6 r ≡ (r == 1 || r == 2)
unfolding same_bool
has_returned r lt = same_bool_is (has 6 r) (r == 1 || r == 2) (below_is (λ k. same_bool (has 6 k) (k == 1 || k == 2)) 32 r refl lt)

pub has_four : (r : ℕ) → r < 32 → has 4 r ≡ (r == 2)
unfolding same_bool
has_four r lt = same_bool_is (has 4 r) (r == 2) (below_is (λ k. same_bool (has 4 k) (k == 2)) 32 r refl lt)

-- ---- the three parts of what lives before a line

pub parts : (k u s : Bool) → ((k || u) || s) ≡ ((u || s) || k)
parts true true true = refl
parts true true false = refl
parts true false true = refl
parts true false false = refl
parts false true true = refl
parts false true false = refl
parts false false true = refl
parts false false false = refl

pub shifted : (k : ℕ) → k < 32 → 1 * 2 ^ k % 2 ^ 32 ≡ 2 ^ k
shifted k lt = same_from_bits (1 * 2 ^ k % 2 ^ 32) (2 ^ k) (λ i. by i (i == k) refl)
  where
    by : (i : ℕ) (t : Bool) → (i == k) ≡ t → bit_at (1 * 2 ^ k % 2 ^ 32) i ≡ bit_at (2 ^ k) i
    by i true e = let q : i ≡ k = same_of i k e in ap (λ z. bit_at (1 * 2 ^ k % 2 ^ 32) z) q ∙ bit_at_set_same w32 0 k lt ∙ sym (ap (λ z. bit_at (2 ^ k) z) q ∙ bit_at-pow_same k)
    by i false e = let ne = other_of i k e in bit_at_set_other w32 0 k lt i ne ∙ bit_at-zero i ∙ sym (bit_at-pow_other k i ne)

pub shifts_grow : (a b : ℕ) → a + b < 32 → 1 * 2 ^ a % 2 ^ 32 ≤ 1 * 2 ^ (a + b) % 2 ^ 32
shifts_grow a b lt =
    let x : 1 * 2 ^ a % 2 ^ 32 ≡ 2 ^ a = shifted a (omega arith) in
    let y : 1 * 2 ^ (a + b) % 2 ^ 32 ≡ 2 ^ (a + b) = shifted (a + b) lt in
    let le : 2 ^ a ≤ 2 ^ (a + b) = pow-le-pow_right {n = 2} (omega arith) {i = a} {j = a + b} (omega arith) in
    subst (λ z. z ≤ 1 * 2 ^ (a + b) % 2 ^ 32) (sym x) (subst (λ z. 2 ^ a ≤ z) (sym y) le)
