-- Quotients, remainders and shifts down of promoted values; narrow values by two shifts; the complement.
use Rattle.std.proofs.Common.{◌≡◌, ◌≢◌, ℕ, zero, suc, ◌+◌, ◌-◌, ◌/◌, ◌%◌, ◌^◌, ◌<◌, ◌≤◌, inl, inr, ℤ, pos, negsuc, ◌-ℤ◌, ◌≤ℤ◌, ◌<ℤ◌, Bool, true, false, cond, sym, ap, ◌∙◌, refl, arith}
use Rattle.std.specs.Prelude.{◌==◌, ◌&&◌, bit_and, bit_xor, int_div, int_rem}
use Rattle.std.specs.Int.{int_div_euclid, int_shr, cast_unsigned, w32}
use Rattle.std.specs.Int.Bits.{xor_add_and}
use Rattle.std.specs.Ordering.{int_eq}
use Rattle.std.proofs.Math.Nat.{div-le_self, mod-lt}
use Rattle.std.proofs.lemmas.Nat.{and_mask}
use Rattle.std.proofs.lemmas.Int.{ints}
use Rattle.std.proofs.lemmas.Bool.Decides.{nat_tests}
use Rattle.im_num.specs.declared.kind.Kind.{Kind}
use Rattle.im_num.specs.declared.kind.Kind.TheVariants.{I8, U8, I16, U16, I32, U32}
use Rattle.im_num.specs.Kinds.{is_signed, least, wrap, word}
use Rattle.im_rv.specs.declared.effect.Extension.TheVariants.{Sign}
use Rattle.im_rv.specs.Steps.{signed, difference_of, extended, overflows, quotient, quotient_unsigned, remainder, remainder_unsigned, shift_left, shift_right, shift_right_signed}
use Rattle.im_store.specs.Checks.{Fine, Bad}
use Rattle.im_store.specs.declared.undefined.Undefined.TheVariants.{ZeroDivisor, QuotientOverflow}
use Rattle.im_store.specs.Numbers.{divided}
use Rattle.im_select_relation.specs.OperatorTables.{IsPromoted}
use Rattle.im_select_relation.proofs.Words.{below_or_not, signed_low, signed_high, extended8, extended16, word_only, word_small, word_of, word_wrap, word_difference, loaded_wrap}
use Rattle.im_select_relation.proofs.Arithmetic.{word_cast}

fine_is : (a b : ℤ) → Fine a ≡ Fine b → a ≡ b
fine_is a b e = cc

-- what was divided, where a quotient or remainder is given
record Divides (k : Kind) (f : ℤ → ℤ → ℤ) (a b z : ℤ) : Type 0 where
  some : int_eq b (pos 0) ≡ false
  fits : (is_signed k && (int_eq a (least k) && int_eq b (negsuc 0))) ≡ false
  is : f a b ≡ z

divided_fine : (k : Kind) (f : ℤ → ℤ → ℤ) (a b z : ℤ) → divided k f a b ≡ Fine z → Divides k f a b z
divided_fine k f a b z h = by (int_eq b (pos 0)) (is_signed k && (int_eq a (least k) && int_eq b (negsuc 0))) refl refl h
  where
    by : (p q : Bool) → int_eq b (pos 0) ≡ p → (is_signed k && (int_eq a (least k) && int_eq b (negsuc 0))) ≡ q → cond p (Bad ZeroDivisor) (cond q (Bad QuotientOverflow) (Fine (f a b))) ≡ Fine z → Divides k f a b z
    by true q s t e = absurd cc
    by false true s t e = absurd cc
    by false false s t e = record { some = s; fits = t; is = fine_is (f a b) z e }

not_zero : (b : ℕ) (z : ℤ) → (b ≡ 0 → z ≡ pos 0) → int_eq z (pos 0) ≡ false → (b == 0) ≡ false
not_zero zero z h t = absurd (let e : int_eq z (pos 0) ≡ true = ap (λ q. int_eq q (pos 0)) (h refl) in cc)
not_zero (suc b) z h t = grind (arith, nat_tests)

-- unsigned

small_quotient : (a b : ℕ) → a < 2 ^ 32 → a / b < 2 ^ 32
small_quotient a b h = let l = div-le_self a b in omega arith

small_remainder : (a b : ℕ) → a < 2 ^ 32 → b ≢ 0 → b < 2 ^ 32 → a % b < 2 ^ 32
small_remainder a b h ne k = let p : 0 < b = omega arith in let l = mod-lt a p in omega arith

unsigned_zero : (b : ℕ) → b ≡ 0 → pos b ≡ pos 0
unsigned_zero b e = ap pos e

pub unsigned_quotient : (a b : ℕ) (z : ℤ) → a < 2 ^ 32 → divided U32 int_div (pos a) (pos b) ≡ Fine z → quotient_unsigned a b ≡ word z
unsigned_quotient a b z h e =
    let d = divided_fine U32 int_div (pos a) (pos b) z e in
    let t = not_zero b (pos b) (unsigned_zero b) d.some in
    ap (λ q. cond q 0xFFFFFFFF (a / b)) t ∙ sym (word_of (a / b) (small_quotient a b h)) ∙ ap word d.is

pub unsigned_remainder : (a b : ℕ) (z : ℤ) → a < 2 ^ 32 → b < 2 ^ 32 → divided U32 int_rem (pos a) (pos b) ≡ Fine z → remainder_unsigned a b ≡ word z
unsigned_remainder a b z h k e =
    let d = divided_fine U32 int_rem (pos a) (pos b) z e in
    let t = not_zero b (pos b) (unsigned_zero b) d.some in
    let ne : b ≢ 0 = grind (arith, nat_tests) in
    ap (λ q. cond q a (a % b)) t ∙ sym (word_of (a % b) (small_remainder a b h ne k)) ∙ ap word d.is

-- signed

no_overflow : (a b : ℕ) → (is_signed I32 && (int_eq (signed a) (least I32) && int_eq (signed b) (negsuc 0))) ≡ false → overflows a b ≡ false
no_overflow a b t = by (a == 0x80000000) (b == 0xFFFFFFFF) refl refl
  where
    equal : (x y : ℕ) → (x == y) ≡ true → x ≡ y
    equal x y h = grind (arith, nat_tests)

    by : (p q : Bool) → (a == 0x80000000) ≡ p → (b == 0xFFFFFFFF) ≡ q → (p && q) ≡ false
    by false q s r = refl
    by true false s r = refl
    by true true s r =
        let e : (int_eq (signed a) (least I32) && int_eq (signed b) (negsuc 0)) ≡ true = ap (λ z. int_eq (signed z) (least I32) && int_eq (signed b) (negsuc 0)) (equal a 0x80000000 s) ∙ ap (λ z. int_eq (signed 0x80000000) (least I32) && int_eq (signed z) (negsuc 0)) (equal b 0xFFFFFFFF r) in
        absurd (cc (e, t))

signed_zero : (b : ℕ) → b ≡ 0 → signed b ≡ pos 0
signed_zero b e = ap signed e

record Middle (z : ℤ) : Type 0 where
  low : (pos 0 -ℤ pos 4294967296) ≤ℤ z
  high : z <ℤ pos 4294967296

signed_middle : (a : ℕ) → a < 2 ^ 32 → ((pos 0 -ℤ pos 2147483648) ≤ℤ signed a) × (signed a <ℤ pos 2147483648)
signed_middle a h = elim (below_or_not a (2 ^ 31)) [
  | inl x ↦ (let e = signed_low a x in (omega (arith, ints), omega (arith, ints)))
  | inr x ↦ (let e = signed_high a x h in (omega (arith, ints), omega (arith, ints)))
]

quotient_middle : (x y : ℤ) → (pos 0 -ℤ pos 2147483648) ≤ℤ x → x <ℤ pos 2147483648 → Middle (int_div x y)
quotient_middle (pos a) (pos b) l h = let d = div-le_self a b in record { low = omega (arith, ints); high = omega (arith, ints) }
quotient_middle (pos a) (negsuc b) l h = let d = div-le_self a (suc b) in record { low = omega (arith, ints); high = omega (arith, ints) }
quotient_middle (negsuc a) (pos b) l h = let d = div-le_self (suc a) b in record { low = omega (arith, ints); high = omega (arith, ints) }
quotient_middle (negsuc a) (negsuc b) l h = let d = div-le_self (suc a) (suc b) in record { low = omega (arith, ints); high = omega (arith, ints) }

mod_le : (a b : ℕ) → a % b ≤ a
mod_le a b = omega arith

remainder_middle : (x y : ℤ) → (pos 0 -ℤ pos 2147483648) ≤ℤ x → x <ℤ pos 2147483648 → Middle (int_rem x y)
remainder_middle (pos a) (pos b) l h = let d = mod_le a b in record { low = omega (arith, ints); high = omega (arith, ints) }
remainder_middle (pos a) (negsuc b) l h = let d = mod_le a (suc b) in record { low = omega (arith, ints); high = omega (arith, ints) }
remainder_middle (negsuc a) (pos b) l h = let d = mod_le (suc a) b in record { low = omega (arith, ints); high = omega (arith, ints) }
remainder_middle (negsuc a) (negsuc b) l h = let d = mod_le (suc a) (suc b) in record { low = omega (arith, ints); high = omega (arith, ints) }

pub signed_quotient : (a b : ℕ) (z : ℤ) → a < 2 ^ 32 → divided I32 int_div (signed a) (signed b) ≡ Fine z → quotient a b ≡ word z
signed_quotient a b z h e =
    let d = divided_fine I32 int_div (signed a) (signed b) z e in
    let t = not_zero b (signed b) (signed_zero b) d.some in
    let o = no_overflow a b d.fits in
    let s = signed_middle a h in
    let m = quotient_middle (signed a) (signed b) s.0 s.1 in
    ap (λ q. cond q 0xFFFFFFFF (cond (overflows a b) 0x80000000 (cast_unsigned w32 (int_div (signed a) (signed b))))) t
    ∙ ap (λ q. cond q 0x80000000 (cast_unsigned w32 (int_div (signed a) (signed b)))) o
    ∙ sym (word_cast (int_div (signed a) (signed b)) m.low m.high) ∙ ap word d.is

pub signed_remainder : (a b : ℕ) (z : ℤ) → a < 2 ^ 32 → divided I32 int_rem (signed a) (signed b) ≡ Fine z → remainder a b ≡ word z
signed_remainder a b z h e =
    let d = divided_fine I32 int_rem (signed a) (signed b) z e in
    let t = not_zero b (signed b) (signed_zero b) d.some in
    let o = no_overflow a b d.fits in
    let s = signed_middle a h in
    let m = remainder_middle (signed a) (signed b) s.0 s.1 in
    ap (λ q. cond q a (cond (overflows a b) 0 (cast_unsigned w32 (int_rem (signed a) (signed b))))) t
    ∙ ap (λ q. cond q 0 (cast_unsigned w32 (int_rem (signed a) (signed b)))) o
    ∙ sym (word_cast (int_rem (signed a) (signed b)) m.low m.high) ∙ ap word d.is

-- shifts down

shift_middle : (x : ℤ) (m : ℕ) → (pos 0 -ℤ pos 2147483648) ≤ℤ x → x <ℤ pos 2147483648 → Middle (int_div_euclid x (pos m))
shift_middle (pos a) m l h = let d = div-le_self a m in record { low = omega (arith, ints); high = omega (arith, ints) }
shift_middle (negsuc a) m l h = let d = div-le_self a m in record { low = omega (arith, ints); high = omega (arith, ints) }

shr_is : (x : ℤ) (k : ℕ) → int_shr x k ≡ int_div_euclid x (pos (2 ^ k))
shr_is (pos a) k = refl
shr_is (negsuc a) k = refl

pub signed_shift : (a n : ℕ) → a < 2 ^ 32 → n < 32 → shift_right_signed a n ≡ word (int_div_euclid (signed a) (pos (2 ^ n)))
signed_shift a n h less =
    let e : n % 32 ≡ n = omega arith in
    let s = signed_middle a h in
    let m = shift_middle (signed a) (2 ^ n) s.0 s.1 in
    ap (λ q. cast_unsigned w32 (int_shr (signed a) q)) e ∙ ap (cast_unsigned w32) (shr_is (signed a) n) ∙ sym (word_cast (int_div_euclid (signed a) (pos (2 ^ n))) m.low m.high)

pub unsigned_shift : (a n : ℕ) → a < 2 ^ 32 → n < 32 → shift_right a n ≡ word (int_div_euclid (pos a) (pos (2 ^ n)))
unsigned_shift a n h less =
    let e : n % 32 ≡ n = omega arith in
    ap (λ q. a / 2 ^ q) e ∙ sym (word_of (a / 2 ^ n) (small_quotient a (2 ^ n) h))

-- narrow values, shifted up and down again

pub narrowed_u8 : (z : ℤ) → shift_right (shift_left (word z) 24) 24 ≡ word (wrap U8 z)
narrowed_u8 z = (let e : shift_right (shift_left (word z) 24) 24 ≡ word z % 256 = omega arith in e) ∙ loaded_wrap U8 z

pub narrowed_u16 : (z : ℤ) → shift_right (shift_left (word z) 16) 16 ≡ word (wrap U16 z)
narrowed_u16 z = (let e : shift_right (shift_left (word z) 16) 16 ≡ word z % 65536 = omega arith in e) ∙ loaded_wrap U16 z

shifted_low : (s k : ℕ) → s < 2 ^ 31 → k < 32 → shift_right_signed s k ≡ s / 2 ^ k
shifted_low s k h less =
    let e : k % 32 ≡ k = omega arith in
    ap (λ q. cast_unsigned w32 (int_shr (signed s) q)) e ∙ ap (λ (q : ℤ). cast_unsigned w32 (int_shr q k)) (signed_low s h)

shifted_high : (s k : ℕ) → 2 ^ 31 ≤ s → s < 2 ^ 32 → k < 32 → shift_right_signed s k ≡ 4294967296 - suc ((4294967296 - suc s) / 2 ^ k)
shifted_high s k h small less =
    let e : k % 32 ≡ k = omega arith in
    let f : signed s ≡ negsuc (4294967296 - suc s) = signed_high s h small ∙ (omega (arith, ints)) in
    ap (λ q. cast_unsigned w32 (int_shr (signed s) q)) e ∙ ap (λ (q : ℤ). cast_unsigned w32 (int_shr q k)) f

pub narrowed_i8 : (z : ℤ) → shift_right_signed (shift_left (word z) 24) 24 ≡ word (wrap I8 z)
narrowed_i8 z = by (word z) ∙ loaded_wrap I8 z
  where
    by : (w : ℕ) → shift_right_signed (shift_left w 24) 24 ≡ extended 1 Sign (w % 256)
    by w = elim (extended8 (w % 256)) [
      | inl q ↦ (let x = q.0 in let s = shifted_low (shift_left w 24) 24 (omega arith) (omega arith) in let e : shift_left w 24 / 16777216 ≡ w % 256 = omega arith in s ∙ e ∙ sym q.1)
      | inr q ↦ (let x = q.0 in let s = shifted_high (shift_left w 24) 24 (omega arith) (omega arith) (omega arith) in let e : 4294967296 - suc ((4294967296 - suc (shift_left w 24)) / 16777216) ≡ (w % 256 + 4294967040) % 4294967296 = omega arith in s ∙ e ∙ sym q.1)
    ]

pub narrowed_i16 : (z : ℤ) → shift_right_signed (shift_left (word z) 16) 16 ≡ word (wrap I16 z)
narrowed_i16 z = by (word z) ∙ loaded_wrap I16 z
  where
    by : (w : ℕ) → shift_right_signed (shift_left w 16) 16 ≡ extended 2 Sign (w % 65536)
    by w = elim (extended16 (w % 65536)) [
      | inl q ↦ (let x = q.0 in let s = shifted_low (shift_left w 16) 16 (omega arith) (omega arith) in let e : shift_left w 16 / 65536 ≡ w % 65536 = omega arith in s ∙ e ∙ sym q.1)
      | inr q ↦ (let x = q.0 in let s = shifted_high (shift_left w 16) 16 (omega arith) (omega arith) (omega arith) in let e : 4294967296 - suc ((4294967296 - suc (shift_left w 16)) / 65536) ≡ (w % 65536 + 4294901760) % 4294967296 = omega arith in s ∙ e ∙ sym q.1)
    ]

-- the complement

xor_ones : (a : ℕ) → a < 2 ^ 32 → bit_xor a 0xFFFFFFFF ≡ 4294967295 - a
xor_ones a h = let e = xor_add_and a 0xFFFFFFFF in let m : bit_and a 0xFFFFFFFF ≡ a % 2 ^ 32 = and_mask a 32 in omega arith

pub complemented_word : (k : Kind) (a : ℤ) → IsPromoted k → bit_xor (word a) 0xFFFFFFFF ≡ word (wrap k (negsuc 0 -ℤ wrap k a))
complemented_word k a h =
    let w = word_small a in
    let one : word (negsuc 0) ≡ 4294967295 = word_only (negsuc 0) (negsuc 0) 4294967295 (omega arith) (omega (arith, ints)) in
    let e : bit_xor (word a) 0xFFFFFFFF ≡ difference_of 4294967295 (word a) = xor_ones (word a) w ∙ (omega arith) in
    e ∙ ap (λ z. difference_of z (word a)) (sym one) ∙ ap (difference_of (word (negsuc 0))) (sym (word_wrap k a h)) ∙ sym (word_difference (negsuc 0) (wrap k a)) ∙ sym (word_wrap k (negsuc 0 -ℤ wrap k a) h)

-- a quotient by a divisor that is neither 0 nor -1
pub quotient_word : (a b : ℕ) → a < 2 ^ 32 → 0 < b → b < 2 ^ 31 → quotient a b ≡ word (int_div (signed a) (pos b))
quotient_word a b h some less =
    let t : (b == 0) ≡ false = grind (arith, nat_tests) in
    let f : (b == 0xFFFFFFFF) ≡ false = grind (arith, nat_tests) in
    let s = signed_middle a h in
    let m = quotient_middle (signed a) (signed b) s.0 s.1 in
    ap (λ q. cond q 0xFFFFFFFF (cond (overflows a b) 0x80000000 (cast_unsigned w32 (int_div (signed a) (signed b))))) t
    ∙ ap (λ q. cond q 0x80000000 (cast_unsigned w32 (int_div (signed a) (signed b)))) (never (a == 0x80000000) (b == 0xFFFFFFFF) f)
    ∙ sym (word_cast (int_div (signed a) (signed b)) m.low m.high) ∙ ap (λ q. word (int_div (signed a) q)) (signed_low b less)
  where
    never : (p q : Bool) → q ≡ false → (p && q) ≡ false
    never true q e = e
    never false q e = refl
