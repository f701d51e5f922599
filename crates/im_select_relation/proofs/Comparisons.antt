-- Comparisons of promoted values and of words, and the machine's lines for them.
use Rattle.std.proofs.Common.{◌≡◌, ◌≢◌, ℕ, zero, suc, ◌+◌, ◌-◌, ◌^◌, ◌<◌, inl, inr, ℤ, pos, negsuc, Bool, true, false, cond, sym, ap, ◌∙◌, refl, arith}
use Rattle.std.specs.Prelude.{nat_le, nat_lt, int_lt, int_le, not, ◌==◌, bit_xor}
use Rattle.std.specs.Int.{cast_unsigned, w32}
use Rattle.std.specs.Ordering.{int_eq}
use Rattle.std.proofs.lemmas.Int.{of_z-to_z}
use Rattle.std.proofs.lemmas.Bool.Decides.{nat_tests, same_from_decides, Decides-like, Decides-eqb, Decides-int_eq}
use Rattle.im_num.specs.declared.kind.Kind.{Kind}
use Rattle.im_num.specs.declared.kind.Kind.TheVariants.{I32, U32}
use Rattle.im_num.specs.Kinds.{is_signed, wrap, word}
use Rattle.im_rv.specs.declared.instr.Op.TheVariants.{Slt, Sltu, Slti, Sltiu}
use Rattle.im_rv.specs.declared.effect.Effect.TheVariants.{Puts}
use Rattle.im_rv.specs.Steps.{signed, sum_of, difference_of, less_signed, as_number, row}
use Rattle.im_store.specs.declared.operators.Comparison.{Comparison}
use Rattle.im_store.specs.declared.operators.Comparison.TheVariants.{Less, Greater, LessOrEqual, GreaterOrEqual, Equal, NotEqual}
use Rattle.im_store.specs.Numbers.{compares}
use Rattle.im_select_relation.specs.OperatorTables.{IsPromoted, less_op, less_by, least}
use Rattle.im_select_relation.proofs.Words.{word_small, wrap_unsigned, wrap_signed, below_or_not, signed_low, signed_negative}
use Rattle.im_select_relation.proofs.Arithmetic.{unsigned_less, signed_less}

-- whether a word is less than another, in a kind
abbrev pub word_less : Kind → ℕ → ℕ → Bool
word_less k x y = cond (is_signed k) (less_signed x y) (nat_lt x y)

-- what the machine's lines for a comparison find of two words
abbrev pub outcome : (ℕ → ℕ → Bool) → Comparison → ℕ → ℕ → Bool
outcome less Less x y = less x y
outcome less Greater x y = less y x
outcome less LessOrEqual x y = not (less y x)
outcome less GreaterOrEqual x y = not (less x y)
outcome less Equal x y = nat_lt (difference_of x y) 1
outcome less NotEqual x y = nat_lt 0 (difference_of x y)

pub less_row : (k : Kind) (pc a b imm : ℕ) → row (less_op k) pc a b imm ≡ Puts (as_number (word_less k a b)) (sum_of pc 4)
less_row k pc a b imm = by (is_signed k)
  where
    by : (t : Bool) → row (cond t Slt Sltu) pc a b imm ≡ Puts (as_number (cond t (less_signed a b) (nat_lt a b))) (sum_of pc 4)
    by true = refl
    by false = refl

pub less_by_row : (k : Kind) (pc a b imm : ℕ) → row (less_by k) pc a b imm ≡ Puts (as_number (word_less k a imm)) (sum_of pc 4)
less_by_row k pc a b imm = by (is_signed k)
  where
    by : (t : Bool) → row (cond t Slti Sltiu) pc a b imm ≡ Puts (as_number (cond t (less_signed a imm) (nat_lt a imm))) (sum_of pc 4)
    by true = refl
    by false = refl

pub turned : (b : Bool) → bit_xor (as_number b) 1 ≡ as_number (not b)
turned true = refl
turned false = refl

pub no_difference : (x y : ℕ) → x < 2 ^ 32 → y < 2 ^ 32 → nat_lt (difference_of x y) 1 ≡ (x == y)
no_difference x y a b = grind (arith, nat_tests)

pub some_difference : (x y : ℕ) → x < 2 ^ 32 → y < 2 ^ 32 → nat_lt 0 (difference_of x y) ≡ not (x == y)
some_difference x y a b = grind (arith, nat_tests)

not_less : (a b : ℕ) → nat_le a b ≡ not (nat_lt b a)
not_less a b = grind (arith, nat_tests)

pub le_is : (a b : ℤ) → int_le a b ≡ not (int_lt b a)
le_is (pos a) (pos b) = not_less a b
le_is (pos a) (negsuc b) = refl
le_is (negsuc a) (pos b) = refl
le_is (negsuc a) (negsuc b) = not_less b a

signed_one : (a b : ℕ) → a < 2 ^ 32 → b < 2 ^ 32 → signed a ≡ signed b → a ≡ b
signed_one a b h k e = sym (of_z-to_z w32 a h) ∙ ap (cast_unsigned w32) e ∙ of_z-to_z w32 b k

signed_equal : (a b : ℕ) → a < 2 ^ 32 → b < 2 ^ 32 → int_eq (signed a) (signed b) ≡ (a == b)
signed_equal a b h k = same_from_decides (int_eq (signed a) (signed b)) (a == b) (Decides-int_eq (signed a) (signed b)) (Decides-like (a == b) (ap signed) (signed_one a b h k) (Decides-eqb a b))

pos_one : (a b : ℕ) → pos a ≡ pos b → a ≡ b
pos_one a b e = cc

pub pos_equal : (a b : ℕ) → int_eq (pos a) (pos b) ≡ (a == b)
pos_equal a b = same_from_decides (int_eq (pos a) (pos b)) (a == b) (Decides-int_eq (pos a) (pos b)) (Decides-like (a == b) (ap pos) (pos_one a b) (Decides-eqb a b))

less_word : (k : Kind) (a b : ℤ) → IsPromoted k → int_lt (wrap k a) (wrap k b) ≡ word_less k (word a) (word b)
less_word k a b (inl e) = ap (λ q. int_lt (wrap q a) (wrap q b)) e ∙ signed_less a b ∙ ap (λ q. word_less q (word a) (word b)) (sym e)
less_word k a b (inr e) = ap (λ q. int_lt (wrap q a) (wrap q b)) e ∙ unsigned_less a b ∙ ap (λ q. word_less q (word a) (word b)) (sym e)

equal_word : (k : Kind) (a b : ℤ) → IsPromoted k → int_eq (wrap k a) (wrap k b) ≡ (word a == word b)
equal_word k a b (inl e) = ap (λ q. int_eq (wrap q a) (wrap q b)) e ∙ ap (λ q. int_eq q (wrap I32 b)) (wrap_signed a) ∙ ap (λ q. int_eq (signed (word a)) q) (wrap_signed b) ∙ signed_equal (word a) (word b) (word_small a) (word_small b)
equal_word k a b (inr e) = ap (λ q. int_eq (wrap q a) (wrap q b)) e ∙ ap (λ q. int_eq q (wrap U32 b)) (wrap_unsigned a) ∙ ap (λ q. int_eq (pos (word a)) q) (wrap_unsigned b) ∙ pos_equal (word a) (word b)

pub compares_word : (op : Comparison) (k : Kind) (a b : ℤ) → IsPromoted k → compares op (wrap k a) (wrap k b) ≡ outcome (word_less k) op (word a) (word b)
compares_word Less k a b h = less_word k a b h
compares_word Greater k a b h = less_word k b a h
compares_word LessOrEqual k a b h = le_is (wrap k a) (wrap k b) ∙ ap not (less_word k b a h)
compares_word GreaterOrEqual k a b h = le_is (wrap k b) (wrap k a) ∙ ap not (less_word k a b h)
compares_word Equal k a b h = equal_word k a b h ∙ sym (no_difference (word a) (word b) (word_small a) (word_small b))
compares_word NotEqual k a b h = ap not (equal_word k a b h) ∙ sym (some_difference (word a) (word b) (word_small a) (word_small b))

-- two words as two numbers that differ from them by one start
pub compares_shifted : (op : Comparison) (s i j : ℕ) → s + i < 2 ^ 32 → s + j < 2 ^ 32 → compares op (pos i) (pos j) ≡ outcome nat_lt op (s + i) (s + j)
compares_shifted Less s i j h k = less s i j
  where
    less : (s i j : ℕ) → nat_lt i j ≡ nat_lt (s + i) (s + j)
    less s i j = grind (arith, nat_tests)
compares_shifted Greater s i j h k = less s j i
  where
    less : (s i j : ℕ) → nat_lt i j ≡ nat_lt (s + i) (s + j)
    less s i j = grind (arith, nat_tests)
compares_shifted LessOrEqual s i j h k = le_is (pos i) (pos j) ∙ ap not (less s j i)
  where
    less : (s i j : ℕ) → nat_lt i j ≡ nat_lt (s + i) (s + j)
    less s i j = grind (arith, nat_tests)
compares_shifted GreaterOrEqual s i j h k = le_is (pos j) (pos i) ∙ ap not (less s i j)
  where
    less : (s i j : ℕ) → nat_lt i j ≡ nat_lt (s + i) (s + j)
    less s i j = grind (arith, nat_tests)
compares_shifted Equal s i j h k = pos_equal i j ∙ same s i j ∙ sym (no_difference (s + i) (s + j) h k)
  where
    same : (s i j : ℕ) → (i == j) ≡ (s + i == s + j)
    same s i j = grind (arith, nat_tests)
compares_shifted NotEqual s i j h k = ap not (pos_equal i j ∙ same s i j) ∙ sym (some_difference (s + i) (s + j) h k)
  where
    same : (s i j : ℕ) → (i == j) ≡ (s + i == s + j)
    same s i j = grind (arith, nat_tests)

-- ---- at most a word: less than the next one

abbrev next_z : ℤ → ℤ
next_z (pos n) = pos (suc n)
next_z (negsuc zero) = pos zero
next_z (negsuc (suc n)) = negsuc n

at_most : (a b : ℕ) → not (nat_lt b a) ≡ nat_lt a (suc b)
at_most a b = grind (arith, nat_tests)

at_least : (a b : ℕ) → not (nat_lt a (suc b)) ≡ nat_lt b a
at_least a b = grind (arith, nat_tests)

none_below : (a : ℕ) → nat_lt a 0 ≡ false
none_below a = grind (arith, nat_tests)

at_most_z : (a b : ℤ) → not (int_lt b a) ≡ int_lt a (next_z b)
at_most_z (pos a) (pos b) = at_most a b
at_most_z (negsuc a) (pos b) = refl
at_most_z (pos a) (negsuc zero) = sym (none_below a)
at_most_z (pos a) (negsuc (suc b)) = refl
at_most_z (negsuc a) (negsuc zero) = ap not (none_below a)
at_most_z (negsuc a) (negsuc (suc b)) = at_least a b

below_top : (n above : ℕ) → n < 2 ^ 31 → sum_of n 1 ≡ above → above ≢ 2 ^ 31 → above < 2 ^ 31
below_top n above low e ne = elim (below_or_not above (2 ^ 31)) [ inl x ↦ x | inr y ↦ absurd (ne (omega arith)) ]

next_is : (n above : ℕ) → n < 2 ^ 32 → sum_of n 1 ≡ above → above ≢ 0 → suc n ≡ above
next_is n above small e ne = elim (below_or_not (suc n) (2 ^ 32)) [ inl x ↦ omega arith | inr y ↦ absurd (ne (omega arith)) ]

signed_above : (n above : ℕ) → n < 2 ^ 32 → sum_of n 1 ≡ above → above ≢ 2 ^ 31 → signed above ≡ next_z (signed n)
signed_above n above small e ne = elim (below_or_not n (2 ^ 31)) [
  | inl low ↦ signed_low above (below_top n above low e ne) ∙ ap pos (let q : above ≡ suc n = omega arith in q) ∙ ap next_z (sym (signed_low n low))
  | inr high ↦ elim (below_or_not (suc n) (2 ^ 32)) [
    | inl more ↦ (
        let up : 4294967296 - suc above ≡ 4294967296 - suc (suc n) = omega arith in
        let down : 4294967296 - suc n ≡ suc (4294967296 - suc (suc n)) = omega arith in
        signed_negative above (omega arith) (omega arith) ∙ ap negsuc up ∙ ap next_z (sym (signed_negative n high small ∙ ap negsuc down))
        )
    | inr last ↦ (
        let up : above ≡ 0 = omega arith in
        let down : 4294967296 - suc n ≡ 0 = omega arith in
        ap signed up ∙ signed_low 0 (omega arith) ∙ ap next_z (sym (signed_negative n high small ∙ ap negsuc down))
        )
  ]
]

pub less_above : (k : Kind) (x n above : ℕ) → n < 2 ^ 32 → sum_of n 1 ≡ above → above ≢ least k → not (word_less k n x) ≡ word_less k x above
less_above k x n above small e = by (is_signed k)
  where
    by : (t : Bool) → above ≢ cond t (2 ^ 31) 0 → not (cond t (less_signed n x) (nat_lt n x)) ≡ cond t (less_signed x above) (nat_lt x above)
    by true ne = at_most_z (signed x) (signed n) ∙ ap (int_lt (signed x)) (sym (signed_above n above small e ne))
    by false ne = at_most x n ∙ ap (nat_lt x) (next_is n above small e ne)

not_not : (b : Bool) → not (not b) ≡ b
not_not true = refl
not_not false = refl

pub more_above : (k : Kind) (x n above : ℕ) → n < 2 ^ 32 → sum_of n 1 ≡ above → above ≢ least k → not (word_less k x above) ≡ word_less k n x
more_above k x n above small e ne = ap not (sym (less_above k x n above small e ne)) ∙ not_not (word_less k n x)
