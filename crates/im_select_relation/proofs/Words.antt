-- Integers modulo 2^32.
use Rattle.std.proofs.Common.{◌≡◌, ℕ, suc, ◌+◌, ◌-◌, ◌*◌, ◌%◌, ◌^◌, ◌<◌, ◌≤◌, ◌⊎◌, inl, inr, ℤ, pos, negsuc, ◌+ℤ◌, ◌-ℤ◌, ◌*ℤ◌, ◌≤ℤ◌, true, false, cond, sym, ap, ◌∙◌, subst, refl, arith}
use Rattle.std.specs.Prelude.{nat_abs, nat_lt}
use Rattle.std.specs.Int.{int_rem_euclid}
use Rattle.std.proofs.lemmas.Int.{ints}
use Rattle.std.proofs.lemmas.Bool.Decides.{nat_tests}
use Rattle.im_num.specs.declared.kind.Kind.{Kind}
use Rattle.im_num.specs.declared.kind.Kind.TheVariants.{I8, U8, I16, U16, I32, U32, Ptr}
use Rattle.im_num.specs.Kinds.{kind_size, wrap, word}
use Rattle.im_num.proofs.Wrapping.{wrap-of_kind, wrap-modulo}
use Rattle.im_rv.specs.declared.effect.Extension.TheVariants.{Sign}
use Rattle.im_rv.specs.Steps.{signed, sum_of, difference_of, extended}
use Rattle.im_select_relation.specs.OperatorTables.{IsPromoted, extension_of}

-- a number is its word and a multiple of 2^32
pub record AsWord (z : ℤ) : Type 0 where
  pub turns : ℤ
  pub is : z ≡ pos (word z) +ℤ turns *ℤ pos 4294967296
  pub small : word z < 2 ^ 32

abs_is : (r : ℤ) → pos 0 ≤ℤ r → pos (nat_abs r) ≡ r
abs_is (pos n) h = refl
abs_is (negsuc n) h = absurd (omega (arith, ints))

add_none : (r : ℤ) → r +ℤ pos 0 ≡ r
add_none r = omega (arith, ints)

less_none : (r : ℤ) → r -ℤ pos 0 ≡ r
less_none r = omega (arith, ints)

unsigned_word : (z : ℤ) → pos (word z) ≡ wrap U32 z
unfolding wrap word
unsigned_word z =
    let e : wrap U32 z ≡ int_rem_euclid z (pos 4294967296) = ap (λ (q : ℤ). int_rem_euclid q (pos 4294967296) +ℤ pos 0) (less_none z) ∙ add_none (int_rem_euclid z (pos 4294967296)) in
    let low : pos 0 ≤ℤ int_rem_euclid z (pos 4294967296) = subst (λ (q : ℤ). pos 0 ≤ℤ q) e (wrap-of_kind U32 z).low in
    abs_is (int_rem_euclid z (pos 4294967296)) low ∙ sym e

pub as_word : (z : ℤ) → AsWord z
as_word z =
    let e = unsigned_word z in
    let m = wrap-modulo U32 z in
    let k = wrap-of_kind U32 z in
    record { turns = m.0; is = (let f = m.1 in omega (arith, ints)); small = (let h = k.high in omega (arith, ints)) }

pub word_only : (z m : ℤ) (w : ℕ) → w < 2 ^ 32 → z ≡ pos w +ℤ m *ℤ pos 4294967296 → word z ≡ w
word_only z m w small e = let a = as_word z in let i = a.is in let s = a.small in omega (arith, ints)

pub word_small : (z : ℤ) → word z < 2 ^ 32
word_small z = (as_word z).small

pub word_of : (n : ℕ) → n < 2 ^ 32 → word (pos n) ≡ n
word_of n h = word_only (pos n) (pos 0) n h (omega (arith, ints))

-- a number and its value in a kind of four bytes have one word
pub word_wrap32 : (k : Kind) (z : ℤ) → kind_size k ≡ 4 → word (wrap k z) ≡ word z
word_wrap32 I8 z h = absurd (omega arith)
word_wrap32 U8 z h = absurd (omega arith)
word_wrap32 I16 z h = absurd (omega arith)
word_wrap32 U16 z h = absurd (omega arith)
word_wrap32 I32 z h = let m = wrap-modulo I32 z in let e = m.1 in let a = as_word (wrap I32 z) in let b = as_word z in let i = a.is in let j = b.is in let s = a.small in let t = b.small in omega (arith, ints)
word_wrap32 U32 z h = let m = wrap-modulo U32 z in let e = m.1 in let a = as_word (wrap U32 z) in let b = as_word z in let i = a.is in let j = b.is in let s = a.small in let t = b.small in omega (arith, ints)
word_wrap32 Ptr z h = let m = wrap-modulo Ptr z in let e = m.1 in let a = as_word (wrap Ptr z) in let b = as_word z in let i = a.is in let j = b.is in let s = a.small in let t = b.small in omega (arith, ints)

pub promoted_size : (k : Kind) → IsPromoted k → kind_size k ≡ 4
promoted_size k (inl e) = ap kind_size e
promoted_size k (inr e) = ap kind_size e

pub word_wrap : (k : Kind) (z : ℤ) → IsPromoted k → word (wrap k z) ≡ word z
word_wrap k z h = word_wrap32 k z (promoted_size k h)

pub word_sum : (a b : ℤ) → word (a +ℤ b) ≡ sum_of (word a) (word b)
word_sum a b = let x = as_word a in let y = as_word b in let q = as_word (a +ℤ b) in let i = x.is in let j = y.is in let k = q.is in let s = x.small in let t = y.small in let r = q.small in omega (arith, ints)

pub word_difference : (a b : ℤ) → word (a -ℤ b) ≡ difference_of (word a) (word b)
word_difference a b = let x = as_word a in let y = as_word b in let q = as_word (a -ℤ b) in let i = x.is in let j = y.is in let k = q.is in let s = x.small in let t = y.small in let r = q.small in omega (arith, ints)

-- a value of unsigned is its word; a value of int is its word, read as a signed number
pub wrap_unsigned : (z : ℤ) → wrap U32 z ≡ pos (word z)
wrap_unsigned z = sym (unsigned_word z)

pub below_or_not : (n k : ℕ) → (n < k) ⊎ (k ≤ n)
below_or_not n k = grind arith

pub signed_low : (n : ℕ) → n < 2 ^ 31 → signed n ≡ pos n
signed_low n h = omega (arith, ints)

pub signed_negative : (n : ℕ) → 2 ^ 31 ≤ n → n < 2 ^ 32 → signed n ≡ negsuc (4294967296 - suc n)
signed_negative n h k =
    let t : nat_lt n (2 ^ 31) ≡ false = grind (arith, nat_tests) in
    first_of (grind (arith, ints, nat_tests), grind (arith, ints), cc, search (arith, ints, nat_tests))

pub signed_high : (n : ℕ) → 2 ^ 31 ≤ n → n < 2 ^ 32 → signed n ≡ pos n -ℤ pos 4294967296
signed_high n h k =
    let e = signed_negative n h k in
    e ∙ (omega (arith, ints))

pub wrap_signed : (z : ℤ) → wrap I32 z ≡ signed (word z)
wrap_signed z =
    let m = wrap-modulo I32 z in
    let e = m.1 in
    let l = (wrap-of_kind I32 z).low in
    let h = (wrap-of_kind I32 z).high in
    let b = as_word z in
    let j = b.is in
    let t = b.small in
    elim (below_or_not (word z) (2 ^ 31)) [
      | inl x ↦ (let q : wrap I32 z ≡ pos (word z) = omega (arith, ints) in q ∙ sym (signed_low (word z) x))
      | inr x ↦ (let q : wrap I32 z ≡ pos (word z) -ℤ pos 4294967296 = omega (arith, ints) in q ∙ sym (signed_high (word z) x t))
    ]

pub extended8 : (v : ℕ) → ((v < 128) × (extended 1 Sign v ≡ v)) ⊎ ((128 ≤ v) × (extended 1 Sign v ≡ (v + 4294967040) % 4294967296))
extended8 v = elim (below_or_not v 128) [
  | inl h ↦ inl (h, (let t : nat_lt v 128 ≡ true = grind (arith, nat_tests) in ap (λ b. cond b v (sum_of v 4294967040)) t))
  | inr h ↦ inr (h, (let t : nat_lt v 128 ≡ false = grind (arith, nat_tests) in ap (λ b. cond b v (sum_of v 4294967040)) t))
]

pub extended16 : (v : ℕ) → ((v < 32768) × (extended 2 Sign v ≡ v)) ⊎ ((32768 ≤ v) × (extended 2 Sign v ≡ (v + 4294901760) % 4294967296))
extended16 v = elim (below_or_not v 32768) [
  | inl h ↦ inl (h, (let t : nat_lt v 32768 ≡ true = grind (arith, nat_tests) in ap (λ b. cond b v (sum_of v 4294901760)) t))
  | inr h ↦ inr (h, (let t : nat_lt v 32768 ≡ false = grind (arith, nat_tests) in ap (λ b. cond b v (sum_of v 4294901760)) t))
]

-- what a cell of a kind gives back of a stored word
pub loaded_wrap : (k : Kind) (z : ℤ) → extended (kind_size k) (extension_of k) (word z % 2 ^ (8 * kind_size k)) ≡ word (wrap k z)
loaded_wrap I8 z = let m = wrap-modulo I8 z in let e = m.1 in let l = (wrap-of_kind I8 z).low in let h = (wrap-of_kind I8 z).high in let a = as_word (wrap I8 z) in let b = as_word z in let i = a.is in let j = b.is in let s = a.small in let t = b.small in elim (extended8 (word z % 256)) [
  | inl q ↦ (let x = q.0 in let r : word z % 256 ≡ word (wrap I8 z) = omega (arith, ints) in q.1 ∙ r)
  | inr q ↦ (let x = q.0 in let r : (word z % 256 + 4294967040) % 4294967296 ≡ word (wrap I8 z) = omega (arith, ints) in q.1 ∙ r)
]
loaded_wrap U8 z = let m = wrap-modulo U8 z in let e = m.1 in let l = (wrap-of_kind U8 z).low in let h = (wrap-of_kind U8 z).high in let a = as_word (wrap U8 z) in let b = as_word z in let i = a.is in let j = b.is in let s = a.small in let t = b.small in omega (arith, ints)
loaded_wrap I16 z = let m = wrap-modulo I16 z in let e = m.1 in let l = (wrap-of_kind I16 z).low in let h = (wrap-of_kind I16 z).high in let a = as_word (wrap I16 z) in let b = as_word z in let i = a.is in let j = b.is in let s = a.small in let t = b.small in elim (extended16 (word z % 65536)) [
  | inl q ↦ (let x = q.0 in let r : word z % 65536 ≡ word (wrap I16 z) = omega (arith, ints) in q.1 ∙ r)
  | inr q ↦ (let x = q.0 in let r : (word z % 65536 + 4294901760) % 4294967296 ≡ word (wrap I16 z) = omega (arith, ints) in q.1 ∙ r)
]
loaded_wrap U16 z = let m = wrap-modulo U16 z in let e = m.1 in let l = (wrap-of_kind U16 z).low in let h = (wrap-of_kind U16 z).high in let a = as_word (wrap U16 z) in let b = as_word z in let i = a.is in let j = b.is in let s = a.small in let t = b.small in omega (arith, ints)
loaded_wrap I32 z = let t = word_small z in let e = word_wrap32 I32 z refl in omega arith
loaded_wrap U32 z = let t = word_small z in let e = word_wrap32 U32 z refl in omega arith
loaded_wrap Ptr z = let t = word_small z in let e = word_wrap32 Ptr z refl in omega arith
