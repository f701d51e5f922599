-- What lines compute of values, the machine computes of their words.
use Rattle.std.proofs.Common.{◌≡◌, ◌≢◌, ℕ, zero, suc, ◌*◌, ◌%◌, ◌^◌, ◌<◌, inl, inr, ℤ, pos, negsuc, ◌*ℤ◌, Bool, true, false, cond, List, sym, ap, ◌∙◌, subst, refl, arith}
use Rattle.std.specs.Prelude.{nat_lt, not, ◌==◌, int_div, int_rem}
use Rattle.std.specs.Int.{int_div_euclid}
use Rattle.std.proofs.lemmas.Bool.Decides.{nat_tests}
use Rattle.std.proofs.lemmas.Nat.{and_comm, or_comm, xor_comm}
use Rattle.std.proofs.Math.Nat.{mul_comm}
use Rattle.im_num.specs.declared.kind.Kind.{Kind}
use Rattle.im_num.specs.declared.kind.Kind.TheVariants.{I32, U32}
use Rattle.im_num.specs.Kinds.{bits, is_signed, wrap, word}
use Rattle.im_rv.specs.declared.effect.Effect.TheVariants.{Puts}
use Rattle.im_rv.specs.Steps.{sum_of, as_number as number_as, difference_of, row, signed, shift_right, shift_right_signed}
use Rattle.im_rv.specs.declared.instr.Op.{Op}
use Rattle.im_rv.specs.declared.instr.Op.TheVariants.{Sra, Srl, Srai, Srli}
use Rattle.im_select_relation.specs.OperatorTables.{IsPromoted, operation, commutes}
use Rattle.im_select_relation.proofs.Words.{word_of, word_small, word_wrap, wrap_unsigned, wrap_signed}
use Rattle.im_select_relation.proofs.Arithmetic.{sum_word, difference_word, word_product, and_word, or_word, xor_word, shifted_word}
use Rattle.im_select_relation.proofs.Division.{unsigned_quotient, unsigned_remainder, signed_quotient, signed_remainder, signed_shift, unsigned_shift}
use Rattle.im_store.specs.declared.undefined.Undefined.TheVariants.{ShiftCount}
use Rattle.im_store.specs.declared.operators.BinaryOp.{BinaryOp}
use Rattle.im_store.specs.declared.operators.BinaryOp.TheVariants.{Add, Subtract, Multiply, Divide, Remainder, BitAnd, BitOr, BitXor, ShiftLeft, ShiftRight}
use Rattle.im_store.specs.Checks.{Checked, Fine, Bad}
use Rattle.im_store.specs.Numbers.{apply, shifted, divided}
use Rattle.im_store.specs.Objects.{Value, Number, Null, Pointer, Unset, Store, lives}
use Rattle.im_block.specs.Meaning.{number_of, as_number, as_truth, right_of, converted, computed, condition}
use Rattle.im_select_relation.specs.Linking.{Linking, Means}
use Rattle.im_select_relation.specs.Selected.{Immediate, AddsBy, SubtractsBy, AndsBy, OrsBy, XorsBy, ShiftsLeftBy, ShiftsRightBy}
use Rattle.im_select_relation.proofs.Mapped.{Mark, Mapped}
use Rattle.im_select_relation.proofs.Values.{live, within_live, no_wrap, unless_fine}
use Rattle.im_select_relation.proofs.Checks.{fine_is, then_fine}
use Rattle.im_select_relation.proofs.Calls.{number_word}

-- a line that gives a number, or a truth value

pub numbers_mean : (p : Linking) (c : Checked ℤ) (v : Value) (w : ℕ) → as_number c ≡ Fine v → ((z : ℤ) → c ≡ Fine z → w ≡ word z) → Means p v w
numbers_mean p c v w h f =
    let t = then_fine c _ v h in
    subst (λ q. Means p q w) (fine_is (Number t.a) v t.second) (f t.a t.first)

pub truth_word : (b : Bool) → number_as b ≡ word (cond b (pos 1) (pos 0))
truth_word true = sym (word_of 1 (omega arith))
truth_word false = sym (word_of 0 (omega arith))

pub truths_mean : (p : Linking) (c : Checked Bool) (v : Value) (w : ℕ) → as_truth c ≡ Fine v → ((b : Bool) → c ≡ Fine b → w ≡ number_as b) → Means p v w
truths_mean p c v w h f =
    let t = then_fine c _ v h in
    subst (λ q. Means p q w) (fine_is (Number (cond t.a (pos 1) (pos 0))) v t.second) (f t.a t.first ∙ truth_word t.a)

-- a number brought into a kind
pub record Converts (kind : Kind) (w : ℕ) (a : ℤ) : Type 0 where
  pub z : ℤ
  pub word_is : w ≡ word z
  pub is : a ≡ wrap kind z

pub converted_word : (p : Linking) (kind : Kind) (v : Value) (w : ℕ) (a : ℤ) → converted kind v ≡ Fine a → Means p v w → Converts kind w a
converted_word p kind v w a h m =
    let t = then_fine (number_of v) _ a h in
    record { z = t.a; word_is = number_word p v w t.a t.first m; is = sym (fine_is (wrap kind t.a) a t.second) }

-- shifts by counts in range
promoted_bits : (k : Kind) → IsPromoted k → bits k ≡ 32
promoted_bits k (inl h) = ap bits h
promoted_bits k (inr h) = ap bits h

shifted_fine : (k : Kind) (f : ℕ → ℤ) (b z : ℤ) → IsPromoted k → shifted k f b ≡ Fine z → (n : ℕ) × (b ≡ pos n) × (n < 32) × (f n ≡ z)
shifted_fine k f (negsuc n) z p h = absurd cc
shifted_fine k f (pos n) z p h = by (nat_lt n 32) refl (subst (λ m. cond (nat_lt n m) (Fine (f n)) (Bad ShiftCount) ≡ Fine z) (promoted_bits k p) h)
  where
    below : (n : ℕ) → nat_lt n 32 ≡ true → n < 32
    below n t = grind (arith, nat_tests)

    by : (t : Bool) → nat_lt n 32 ≡ t → cond t (Fine (f n)) (Bad ShiftCount) ≡ Fine z → (k : ℕ) × (pos n ≡ pos k) × (k < 32) × (f k ≡ z)
    by true t e = (n, refl, below n t, fine_is (f n) z e)
    by false t e = absurd cc

shift_place : (n : ℕ) → n < 32 → word (pos n) % 32 ≡ n
shift_place n h = let e = word_of n (omega arith) in omega arith

-- an operator on promoted values, by the table
pub operator_row : (op : BinaryOp) (k : Kind) (a b z : ℤ) (pc imm : ℕ) → IsPromoted k → apply op k (wrap k a) (right_of op k b) ≡ Fine z → row (operation op k) pc (word a) (word b) imm ≡ Puts (word z) (sum_of pc 4)
unfolding apply
operator_row Add k a b z pc imm h e = ap (λ q. Puts q (sum_of pc 4)) (sym (sum_word k a b h) ∙ ap word (fine_is _ z e))
operator_row Subtract k a b z pc imm h e = ap (λ q. Puts q (sum_of pc 4)) (sym (difference_word k a b h) ∙ ap word (fine_is _ z e))
operator_row Multiply k a b z pc imm h e =
    ap (λ q. Puts q (sum_of pc 4)) (ap (λ q. q * word b % 2 ^ 32) (sym (word_wrap k a h)) ∙ ap (λ q. word (wrap k a) * q % 2 ^ 32) (sym (word_wrap k b h)) ∙ sym (word_product (wrap k a) (wrap k b)) ∙ sym (word_wrap k (wrap k a *ℤ wrap k b) h) ∙ ap word (fine_is _ z e))
operator_row Divide k a b z pc imm (inl h) e =
    let f : divided I32 int_div (wrap I32 a) (wrap I32 b) ≡ Fine z = subst (λ q. divided q int_div (wrap q a) (wrap q b) ≡ Fine z) h e in
    let g : divided I32 int_div (signed (word a)) (signed (word b)) ≡ Fine z = subst (λ q. divided I32 int_div (signed (word a)) q ≡ Fine z) (wrap_signed b) (subst (λ q. divided I32 int_div q (wrap I32 b) ≡ Fine z) (wrap_signed a) f) in
    ap (λ q. row (operation Divide q) pc (word a) (word b) imm) h ∙ ap (λ q. Puts q (sum_of pc 4)) (signed_quotient (word a) (word b) z (word_small a) g)
operator_row Divide k a b z pc imm (inr h) e =
    let f : divided U32 int_div (wrap U32 a) (wrap U32 b) ≡ Fine z = subst (λ q. divided q int_div (wrap q a) (wrap q b) ≡ Fine z) h e in
    let g : divided U32 int_div (pos (word a)) (pos (word b)) ≡ Fine z = subst (λ q. divided U32 int_div (pos (word a)) q ≡ Fine z) (wrap_unsigned b) (subst (λ q. divided U32 int_div q (wrap U32 b) ≡ Fine z) (wrap_unsigned a) f) in
    ap (λ q. row (operation Divide q) pc (word a) (word b) imm) h ∙ ap (λ q. Puts q (sum_of pc 4)) (unsigned_quotient (word a) (word b) z (word_small a) g)
operator_row Remainder k a b z pc imm (inl h) e =
    let f : divided I32 int_rem (wrap I32 a) (wrap I32 b) ≡ Fine z = subst (λ q. divided q int_rem (wrap q a) (wrap q b) ≡ Fine z) h e in
    let g : divided I32 int_rem (signed (word a)) (signed (word b)) ≡ Fine z = subst (λ q. divided I32 int_rem (signed (word a)) q ≡ Fine z) (wrap_signed b) (subst (λ q. divided I32 int_rem q (wrap I32 b) ≡ Fine z) (wrap_signed a) f) in
    ap (λ q. row (operation Remainder q) pc (word a) (word b) imm) h ∙ ap (λ q. Puts q (sum_of pc 4)) (signed_remainder (word a) (word b) z (word_small a) g)
operator_row Remainder k a b z pc imm (inr h) e =
    let f : divided U32 int_rem (wrap U32 a) (wrap U32 b) ≡ Fine z = subst (λ q. divided q int_rem (wrap q a) (wrap q b) ≡ Fine z) h e in
    let g : divided U32 int_rem (pos (word a)) (pos (word b)) ≡ Fine z = subst (λ q. divided U32 int_rem (pos (word a)) q ≡ Fine z) (wrap_unsigned b) (subst (λ q. divided U32 int_rem q (wrap U32 b) ≡ Fine z) (wrap_unsigned a) f) in
    ap (λ q. row (operation Remainder q) pc (word a) (word b) imm) h ∙ ap (λ q. Puts q (sum_of pc 4)) (unsigned_remainder (word a) (word b) z (word_small a) (word_small b) g)
operator_row BitAnd k a b z pc imm h e = ap (λ q. Puts q (sum_of pc 4)) (sym (and_word k a b h) ∙ ap word (fine_is _ z e))
operator_row BitOr k a b z pc imm h e = ap (λ q. Puts q (sum_of pc 4)) (sym (or_word k a b h) ∙ ap word (fine_is _ z e))
operator_row BitXor k a b z pc imm h e = ap (λ q. Puts q (sum_of pc 4)) (sym (xor_word k a b h) ∙ ap word (fine_is _ z e))
operator_row ShiftLeft k a b z pc imm h e =
    let s = shifted_fine k (λ n. wrap k (wrap k a *ℤ pos (2 ^ n))) b z h e in
    let c : word b % 32 ≡ s.0 = ap (λ q. word q % 32) s.1 ∙ shift_place s.0 s.2 in
    ap (λ q. Puts q (sum_of pc 4)) (ap (λ q. word a * 2 ^ q % 2 ^ 32) c ∙ sym (shifted_word k a s.0 h s.2) ∙ ap word s.3)
operator_row ShiftRight k a b z pc imm (inl h) e =
    let s = shifted_fine k (λ n. int_div_euclid (wrap k a) (pos (2 ^ n))) b z (inl h) e in
    let c : word b ≡ s.0 = ap word s.1 ∙ word_of s.0 (let q = s.2 in omega arith) in
    let d : wrap k a ≡ signed (word a) = ap (λ q. wrap q a) h ∙ wrap_signed a in
    ap (λ q. row (operation ShiftRight q) pc (word a) (word b) imm) h ∙ ap (λ q. Puts (shift_right_signed (word a) q) (sum_of pc 4)) c
    ∙ ap (λ q. Puts q (sum_of pc 4)) (signed_shift (word a) s.0 (word_small a) s.2 ∙ ap (λ q. word (int_div_euclid q (pos (2 ^ s.0)))) (sym d) ∙ ap word s.3)
operator_row ShiftRight k a b z pc imm (inr h) e =
    let s = shifted_fine k (λ n. int_div_euclid (wrap k a) (pos (2 ^ n))) b z (inr h) e in
    let c : word b ≡ s.0 = ap word s.1 ∙ word_of s.0 (let q = s.2 in omega arith) in
    let d : wrap k a ≡ pos (word a) = ap (λ q. wrap q a) h ∙ wrap_unsigned a in
    ap (λ q. row (operation ShiftRight q) pc (word a) (word b) imm) h ∙ ap (λ q. Puts (shift_right (word a) q) (sum_of pc 4)) c
    ∙ ap (λ q. Puts q (sum_of pc 4)) (unsigned_shift (word a) s.0 (word_small a) s.2 ∙ ap (λ q. word (int_div_euclid q (pos (2 ^ s.0)))) (sym d) ∙ ap word s.3)

pub computed_row : (p : Linking) (op : BinaryOp) (k : Kind) (v w : Value) (x y : ℕ) (z : ℤ) (pc imm : ℕ) → IsPromoted k → computed op k v w ≡ Fine z → Means p v x → Means p w y → row (operation op k) pc x y imm ≡ Puts (word z) (sum_of pc 4)
computed_row p op k v w x y z pc imm h e m n =
    let t = then_fine (converted k v) _ z e in
    let c = converted_word p k v x t.a t.first m in
    let r = then_fine (number_of w) _ z t.second in
    let d : y ≡ word r.a = number_word p w y r.a r.first n in
    ap (λ q. row (operation op k) pc q y imm) c.word_is ∙ ap (λ q. row (operation op k) pc (word c.z) q imm) d
    ∙ operator_row op k c.z r.a z pc imm h (subst (λ q. apply op k q (right_of op k r.a) ≡ Fine z) c.is r.second)

-- an instruction with an immediate is that of registers, of which one has the constant
pub immediate_row : (n : ℕ) (k : Kind) (op : BinaryOp) (by : Op) (imm pc x y : ℕ) → n < 2 ^ 32 → Immediate n k op by imm → row by pc x y imm ≡ row (operation op k) pc x n 0
immediate_row n k op by imm pc x y small AddsBy = refl
immediate_row n k op by imm pc x y small (SubtractsBy i e) = let q : sum_of x i ≡ difference_of x n = omega arith in ap (λ a. Puts a (sum_of pc 4)) q
immediate_row n k op by imm pc x y small AndsBy = refl
immediate_row n k op by imm pc x y small OrsBy = refl
immediate_row n k op by imm pc x y small XorsBy = refl
immediate_row n k op by imm pc x y small ShiftsLeftBy = refl
immediate_row n k op by imm pc x y small ShiftsRightBy = by_kind (is_signed k)
  where
    by_kind : (t : Bool) → row (cond t Srai Srli) pc x y n ≡ row (cond t Sra Srl) pc x n 0
    by_kind true = refl
    by_kind false = refl

-- operands that change places
sum_turned : (x y : ℕ) → sum_of x y ≡ sum_of y x
sum_turned x y = omega arith

pub turned_row : (op : BinaryOp) (k : Kind) (pc x y imm : ℕ) → commutes op ≡ true → row (operation op k) pc x y imm ≡ row (operation op k) pc y x imm
turned_row Add k pc x y imm e = ap (λ a. Puts a (sum_of pc 4)) (sum_turned x y)
turned_row Subtract k pc x y imm e = absurd cc
turned_row Multiply k pc x y imm e = ap (λ a. Puts (a % 2 ^ 32) (sum_of pc 4)) (mul_comm x y)
turned_row Divide k pc x y imm e = absurd cc
turned_row Remainder k pc x y imm e = absurd cc
turned_row BitAnd k pc x y imm e = ap (λ a. Puts a (sum_of pc 4)) (and_comm x y)
turned_row BitOr k pc x y imm e = ap (λ a. Puts a (sum_of pc 4)) (or_comm x y)
turned_row BitXor k pc x y imm e = ap (λ a. Puts a (sum_of pc 4)) (xor_comm x y)
turned_row ShiftLeft k pc x y imm e = absurd cc
turned_row ShiftRight k pc x y imm e = absurd cc

-- a value as a condition: its word is other than 0
pub condition_word : (p : Linking) (store : Store) (frames : List Mark) (v : Value) (w : ℕ) (b : Bool) → Mapped p store.shape frames → condition store v ≡ Fine b → Means p v w → b ≡ not (w == 0)
condition_word p store frames (Number z) w b m h k = sym (fine_is _ b h) ∙ ap (λ q. not (q == 0)) (sym k)
condition_word p store frames Null w b m h k = sym (fine_is _ b h) ∙ ap (λ q. not (q == 0)) (sym k)
condition_word p store frames (Pointer o i) w b m h k =
    let f = unless_fine (lives store o) true b _ h in
    let n = no_wrap p store.shape frames o i m (within_live p store.shape frames o i m k.1 (live store o f.0)) in
    let e : (w == 0) ≡ false = other w (let a = k.0 in let c = n.0 in let d = n.1 in omega arith) in
    sym f.1 ∙ ap not (sym e)
  where
    other : (w : ℕ) → w ≢ 0 → (w == 0) ≡ false
    other w ne = grind (arith, nat_tests)
condition_word p store frames Unset w b m h k = absurd cc

pub zero_test : (w : ℕ) → nat_lt w 1 ≡ not (not (w == 0))
zero_test zero = refl
zero_test (suc w) = grind (arith, nat_tests)
