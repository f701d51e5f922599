-- Operators on promoted values are operations on their words.
use Rattle.std.proofs.Common.{◌≡◌, ℕ, suc, ◌-◌, ◌*◌, ◌/◌, ◌%◌, ◌^◌, ◌<◌, ◌≤◌, inl, inr, ℤ, pos, negsuc, ◌+ℤ◌, ◌-ℤ◌, ◌*ℤ◌, ◌≤ℤ◌, ◌<ℤ◌, sym, ap, ◌∙◌, arith}
use Rattle.std.specs.Prelude.{neg_ℤ, nat_lt, int_lt, bit_and, bit_or, bit_xor}
use Rattle.std.specs.Int.{int_wrap, cast_signed, cast_unsigned, w32}
use Rattle.std.specs.Int.Bits.{and_lt}
use Rattle.std.proofs.lemmas.Nat.{or_lt, xor_lt}
use Rattle.std.proofs.lemmas.Int.{ints, of_z-to_z, wrapping_mul-bits, int_wrap-mul_left, int_wrap-mul_right}
use Rattle.std.proofs.Math.Pow.{pow-lt}
use Rattle.im_num.specs.declared.kind.Kind.{Kind}
use Rattle.im_num.specs.declared.kind.Kind.TheVariants.{I32, U32}
use Rattle.im_num.specs.Kinds.{wrap, word}
use Rattle.im_store.specs.Numbers.{bits_of}
use Rattle.im_rv.specs.Steps.{signed, sum_of, difference_of, less_signed}
use Rattle.im_select_relation.specs.OperatorTables.{IsPromoted}
use Rattle.im_select_relation.proofs.Words.{word_only, word_small, word_wrap, word_sum, word_difference, wrap_unsigned, wrap_signed, word_of}

word_pos : (n : ℕ) → word (pos n) ≡ n % 2 ^ 32
word_pos n = word_only (pos n) (pos (n / 2 ^ 32)) (n % 2 ^ 32) (omega arith) (omega (arith, ints))

pub sum_word : (k : Kind) (a b : ℤ) → IsPromoted k → word (wrap k (wrap k a +ℤ wrap k b)) ≡ sum_of (word a) (word b)
sum_word k a b h = word_wrap k _ h ∙ word_sum (wrap k a) (wrap k b) ∙ ap (λ z. sum_of z (word (wrap k b))) (word_wrap k a h) ∙ ap (λ z. sum_of (word a) z) (word_wrap k b h)

pub difference_word : (k : Kind) (a b : ℤ) → IsPromoted k → word (wrap k (wrap k a -ℤ wrap k b)) ≡ difference_of (word a) (word b)
difference_word k a b h = word_wrap k _ h ∙ word_difference (wrap k a) (wrap k b) ∙ ap (λ z. difference_of z (word (wrap k b))) (word_wrap k a h) ∙ ap (λ z. difference_of (word a) z) (word_wrap k b h)

signed_product : (a b : ℕ) → a < 2 ^ 32 → b < 2 ^ 32 → word (signed a *ℤ signed b) ≡ a * b % 2 ^ 32
unfolding word int_wrap
signed_product a b x y =
    let q = word (signed a *ℤ signed b) in
    let e : cast_signed w32 (a * b % 2 ^ 32) ≡ cast_signed w32 q = wrapping_mul-bits w32 a b x y in
    let f : cast_unsigned w32 (cast_signed w32 (a * b % 2 ^ 32)) ≡ a * b % 2 ^ 32 = of_z-to_z w32 (a * b % 2 ^ 32) (omega arith) in
    let g : cast_unsigned w32 (cast_signed w32 q) ≡ q = of_z-to_z w32 q (word_small (signed a *ℤ signed b)) in
    sym g ∙ ap (cast_unsigned w32) (sym e) ∙ f

pub product_word : (k : Kind) (a b : ℤ) → IsPromoted k → word (wrap k (wrap k a *ℤ wrap k b)) ≡ word a * word b % 2 ^ 32
product_word k a b (inl e) =
    let s : word (wrap I32 a *ℤ wrap I32 b) ≡ word a * word b % 2 ^ 32 = ap (λ z. word (z *ℤ wrap I32 b)) (wrap_signed a) ∙ ap (λ z. word (signed (word a) *ℤ z)) (wrap_signed b) ∙ signed_product (word a) (word b) (word_small a) (word_small b) in
    word_wrap k _ (inl e) ∙ ap (λ q. word (wrap q a *ℤ wrap q b)) e ∙ s
product_word k a b (inr e) =
    let s : word (wrap U32 a *ℤ wrap U32 b) ≡ word a * word b % 2 ^ 32 = ap (λ z. word (z *ℤ wrap U32 b)) (wrap_unsigned a) ∙ ap (λ z. word (pos (word a) *ℤ z)) (wrap_unsigned b) ∙ word_pos (word a * word b) in
    word_wrap k _ (inr e) ∙ ap (λ q. word (wrap q a *ℤ wrap q b)) e ∙ s

-- the bits of a promoted number are its word
promoted_bits : (k : Kind) (z : ℤ) → IsPromoted k → bits_of k z ≡ word z
unfolding word
promoted_bits k z (inl e) = ap (λ q. bits_of q z) e
promoted_bits k z (inr e) = ap (λ q. bits_of q z) e

bits_word : (f : ℕ → ℕ → ℕ) (k : Kind) (a b : ℤ) → IsPromoted k → ((x y : ℕ) → x < 2 ^ 32 → y < 2 ^ 32 → f x y < 2 ^ 32) → word (wrap k (pos (f (bits_of k (wrap k a)) (bits_of k (wrap k b))))) ≡ f (word a) (word b)
bits_word f k a b h small =
    let e : f (bits_of k (wrap k a)) (bits_of k (wrap k b)) ≡ f (word a) (word b) = ap (λ z. f z (bits_of k (wrap k b))) (promoted_bits k (wrap k a) h ∙ word_wrap k a h) ∙ ap (f (word a)) (promoted_bits k (wrap k b) h ∙ word_wrap k b h) in
    word_wrap k _ h ∙ ap (λ z. word (pos z)) e ∙ word_of (f (word a) (word b)) (small (word a) (word b) (word_small a) (word_small b))

pub and_word : (k : Kind) (a b : ℤ) → IsPromoted k → word (wrap k (pos (bit_and (bits_of k (wrap k a)) (bits_of k (wrap k b))))) ≡ bit_and (word a) (word b)
and_word k a b h = bits_word bit_and k a b h (λ x y p q. and_lt 32 x y p q)

pub or_word : (k : Kind) (a b : ℤ) → IsPromoted k → word (wrap k (pos (bit_or (bits_of k (wrap k a)) (bits_of k (wrap k b))))) ≡ bit_or (word a) (word b)
or_word k a b h = bits_word bit_or k a b h (λ x y p q. or_lt 32 x y p q)

pub xor_word : (k : Kind) (a b : ℤ) → IsPromoted k → word (wrap k (pos (bit_xor (bits_of k (wrap k a)) (bits_of k (wrap k b))))) ≡ bit_xor (word a) (word b)
xor_word k a b h = bits_word bit_xor k a b h (λ x y p q. xor_lt 32 x y p q)

-- negation; the complement is a difference from -1

pub negated_word : (k : Kind) (a : ℤ) → IsPromoted k → word (wrap k (neg_ℤ (wrap k a))) ≡ difference_of 0 (word a)
negated_word k a h =
    let e : neg_ℤ (wrap k a) ≡ pos 0 -ℤ wrap k a = omega (arith, ints) in
    word_wrap k _ h ∙ ap word e ∙ word_difference (pos 0) (wrap k a) ∙ ap (λ z. difference_of z (word (wrap k a))) (word_of 0 (omega arith)) ∙ ap (difference_of 0) (word_wrap k a h)

-- comparisons

pub unsigned_less : (a b : ℤ) → int_lt (wrap U32 a) (wrap U32 b) ≡ nat_lt (word a) (word b)
unsigned_less a b = ap (λ z. int_lt z (wrap U32 b)) (wrap_unsigned a) ∙ ap (λ z. int_lt (pos (word a)) z) (wrap_unsigned b)

pub signed_less : (a b : ℤ) → int_lt (wrap I32 a) (wrap I32 b) ≡ less_signed (word a) (word b)
signed_less a b = ap (λ z. int_lt z (wrap I32 b)) (wrap_signed a) ∙ ap (λ z. int_lt (signed (word a)) z) (wrap_signed b)

-- products of any integers

wrapped_left : (a b : ℤ) → word (signed (word a) *ℤ b) ≡ word (a *ℤ b)
unfolding word int_wrap
wrapped_left a b =
    let e : cast_signed w32 (word (signed (word a) *ℤ b)) ≡ cast_signed w32 (word (a *ℤ b)) = int_wrap-mul_left w32 a b in
    sym (of_z-to_z w32 (word (signed (word a) *ℤ b)) (word_small (signed (word a) *ℤ b))) ∙ ap (cast_unsigned w32) e ∙ of_z-to_z w32 (word (a *ℤ b)) (word_small (a *ℤ b))

wrapped_right : (a b : ℤ) → word (a *ℤ signed (word b)) ≡ word (a *ℤ b)
unfolding word int_wrap
wrapped_right a b =
    let e : cast_signed w32 (word (a *ℤ signed (word b))) ≡ cast_signed w32 (word (a *ℤ b)) = int_wrap-mul_right w32 a b in
    sym (of_z-to_z w32 (word (a *ℤ signed (word b))) (word_small (a *ℤ signed (word b)))) ∙ ap (cast_unsigned w32) e ∙ of_z-to_z w32 (word (a *ℤ b)) (word_small (a *ℤ b))

pub word_product : (a b : ℤ) → word (a *ℤ b) ≡ word a * word b % 2 ^ 32
word_product a b = sym (wrapped_left a b) ∙ sym (wrapped_right (signed (word a)) b) ∙ signed_product (word a) (word b) (word_small a) (word_small b)

-- shifts up

below_word : (n : ℕ) → n < 32 → 2 ^ n < 2 ^ 32
below_word n h = pow-lt h

pub shifted_word : (k : Kind) (a : ℤ) (n : ℕ) → IsPromoted k → n < 32 → word (wrap k (wrap k a *ℤ pos (2 ^ n))) ≡ word a * 2 ^ n % 2 ^ 32
shifted_word k a n h less =
    word_wrap k _ h ∙ word_product (wrap k a) (pos (2 ^ n)) ∙ ap (λ z. z * word (pos (2 ^ n)) % 2 ^ 32) (word_wrap k a h) ∙ ap (λ z. word a * z % 2 ^ 32) (word_of (2 ^ n) (below_word n less))

-- quotients and remainders

pub word_cast : (z : ℤ) → (pos 0 -ℤ pos 4294967296) ≤ℤ z → z <ℤ pos 4294967296 → word z ≡ cast_unsigned w32 z
word_cast (pos n) low high = word_of n (omega (arith, ints))
word_cast (negsuc n) low high = word_only (negsuc n) (negsuc 0) (4294967296 - suc n) (omega arith) (let h : suc n ≤ 4294967296 = omega (arith, ints) in omega (arith, ints))
