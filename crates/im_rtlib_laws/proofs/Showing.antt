-- The output and its length, as memory has them.
use Rattle.std.proofs.Common.{◌≡◌, ℕ, zero, suc, ◌+◌, ◌<◌, ◌≤◌, Bool, true, false, cond, [], ◌∷◌, ◌++◌, refl, sym, ap, ◌∙◌, arith, length}
use Rattle.std.specs.Prelude.{◌==◌, min}
use Rattle.std.proofs.Math.Nat.{min-eq_left}
use Rattle.im_mem.specs.Memory.{Mem, little, bytes_from}
use Rattle.im_image.specs.declared.form.Form.TheVariants.{TwoLengths}
use Rattle.im_device.specs.Shows.{output_length}
use Rattle.im_rv_reach.specs.Shown.{shown}
use Rattle.im_rv_reach.proofs.Reach.{length_output}

pub byte_is : (m : Mem) (a : ℕ) → little m a 1 ≡ m a
byte_is m a = let q : m a + 0 ≡ m a = omega arith in q

pub bytes_alike : (m k : Mem) (a n : ℕ) → ((i : ℕ) → a ≤ i → i < a + n → k i ≡ m i) → bytes_from k a n ≡ bytes_from m a n
bytes_alike m k a zero h = refl
bytes_alike m k a (suc n) h = ap (λ z. z ∷ bytes_from k (a + 1) n) (h a (omega arith) (omega arith)) ∙ ap (λ z. m a ∷ z) (bytes_alike m k (a + 1) n (λ i x y. h i (omega arith) (omega arith)))

pub one_more_byte : (m : Mem) (a n : ℕ) → bytes_from m a (suc n) ≡ bytes_from m a n ++ m (a + n) ∷ []
one_more_byte m a zero = ap (λ z. m z ∷ []) (let q : a ≡ a + 0 = omega arith in q)
one_more_byte m a (suc n) = ap (λ z. m a ∷ z) (one_more_byte m (a + 1) n ∙ ap (λ z. bytes_from m (a + 1) n ++ m z ∷ []) (let q : a + 1 + n ≡ a + suc n = omega arith in q))

pub shown_is : (m : Mem) (n : ℕ) → output_length TwoLengths m ≡ n → n ≤ 1048576 → shown m ≡ bytes_from m 4194304 n
shown_is m n e l = ap (λ z. bytes_from m 4194304 (min z 1048576)) e ∙ ap (bytes_from m 4194304) (min-eq_left l)

pub length_shown : (m : Mem) (n : ℕ) → output_length TwoLengths m ≡ n → n ≤ 1048576 → length (shown m) ≡ n
length_shown m n e l = ap length (shown_is m n e l) ∙ length_output m 4194304 n

-- the same length and the same bytes
pub shown_alike : (m k : Mem) (n : ℕ) → output_length TwoLengths m ≡ n → output_length TwoLengths k ≡ n → n ≤ 1048576 → ((i : ℕ) → 4194304 ≤ i → i < 4194304 + n → k i ≡ m i) → shown k ≡ shown m
shown_alike m k n e f l h = shown_is k n f l ∙ bytes_alike m k 4194304 n h ∙ sym (shown_is m n e l)

-- the length that holds, where OUT_SEL is 0 or not, and the other one
abbrev pub selected : Bool → ℕ
selected b = cond b 12 32

abbrev pub other : Bool → ℕ
other b = cond b 32 12

pub length_by : (m : Mem) (b : Bool) → (m 36 == 0) ≡ b → output_length TwoLengths m ≡ little m (selected b) 4
length_by m true e = ap (λ z. cond z (little m 12 4) (little m 32 4)) e
length_by m false e = ap (λ z. cond z (little m 12 4) (little m 32 4)) e
