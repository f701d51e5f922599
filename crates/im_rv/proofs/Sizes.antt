-- Registers hold words: what a row gives, and what a load gives.
use Rattle.std.proofs.Common.{◌≡◌, ℕ, zero, suc, ◌+◌, ◌-◌, ◌*◌, ◌/◌, ◌%◌, ◌^◌, ◌<◌, ◌≤◌, ◌⊎◌, inl, inr, Bool, true, false, cond, Option, Some, None, List, refl, sym, subst, arith}
use Rattle.std.specs.Prelude.{ℤ, pos, negsuc, neg_ℤ, ◌*ℤ◌, unsigned_abs, int_div, int_rem, ◌==◌, ◌&&◌, nat_lt, bit_and}
use Rattle.std.specs.Int.{int_shr}
use Rattle.std.proofs.lemmas.Bool.Decides.{nat_tests}
use Rattle.std.proofs.Math.Nat.{div-le_self, mod-le}
use Rattle.std.proofs.lemmas.Nat.{or_of_32, xor_of_32, and_le_l, mul-lt}
use Rattle.std.proofs.lemmas.Int.{ints, unsigned_abs-mul}
use Rattle.im_num.specs.Bytes.{bytes_of}
use Rattle.im_mem.specs.Memory.{Mem, little, loaded, is_place}
use Rattle.im_mem.proofs.Words.{word-small}
use Rattle.im_rv.specs.declared.format.Format.{Format}
use Rattle.im_rv.specs.declared.format.Format.TheVariants.{Register, Immediate, Shift, Store, Branch, Upper, Jump, Order, Whole}
use Rattle.im_rv.specs.declared.instr.Op.{Op}
use Rattle.im_rv.specs.declared.instr.Op.TheVariants.{Lui, Auipc, Jal, Jalr, Addi, Slti, Sltiu, Xori, Ori, Andi, Slli, Srli, Srai, Add, Sub, Sll, Slt, Sltu, Xor, Srl, Sra, Or, And, Mul, Mulh, Mulhsu, Mulhu, Div, Divu, Rem, Remu}
use Rattle.im_rv.specs.declared.effect.Extension.{Extension}
use Rattle.im_rv.specs.declared.effect.Extension.TheVariants.{Sign, Zero}
use Rattle.im_rv.specs.declared.effect.Effect.{Effect}
use Rattle.im_rv.specs.declared.effect.Effect.TheVariants.{Puts, Goes, Loads, Stores, Stops}
use Rattle.im_rv.specs.Formats.{format_of}
use Rattle.im_rv.specs.Decode.{fields, bits, line_at, op_in}
use Rattle.im_rv.specs.Runs.{decoded, fetched}
use Rattle.im_rv.specs.Laws.{WordsStay}
use Rattle.im_rv.proofs.Locality.{saved_at}
use Rattle.im_rv.specs.Steps.{Cpu, with_reg, signed_bits, extended, sign_extended, loads, effected, word, signed, row, as_number, overflows, upper_word}

div_le : (a b : ℕ) → a / b ≤ a
div_le a b = div-le_self a b

mod_le : (a b : ℕ) → a % b ≤ a
mod_le a b = mod-le a b

neg_word : (n : ℕ) → word (neg_ℤ (pos n)) < 2 ^ 32
neg_word zero = omega arith
neg_word (suc n) = omega arith

signed_small : (a : ℕ) → a < 2 ^ 32 → unsigned_abs (signed a) ≤ 2 ^ 31
signed_small a l = omega (arith, ints)

quotient_word : (a d : ℤ) → unsigned_abs a ≤ 2 ^ 31 → word (int_div a d) < 2 ^ 32
quotient_word (pos a) (pos b) l = let q = div_le a b in omega arith
quotient_word (pos a) (negsuc b) l = neg_word (a / suc b)
quotient_word (negsuc a) (pos b) l = neg_word (suc a / b)
quotient_word (negsuc a) (negsuc b) l = let q = div_le (suc a) (suc b) in omega arith

remainder_word : (a d : ℤ) → unsigned_abs a ≤ 2 ^ 31 → word (int_rem a d) < 2 ^ 32
remainder_word (pos a) d l = let q = mod_le a (unsigned_abs d) in omega arith
remainder_word (negsuc a) d l = neg_word (suc a % unsigned_abs d)

shifted_word : (a : ℤ) (k : ℕ) → unsigned_abs a ≤ 2 ^ 31 → word (int_shr a k) < 2 ^ 32
shifted_word (pos a) k l = let q = div_le a (2 ^ k) in omega arith
shifted_word (negsuc a) k l = omega arith

upper_small : (z : ℤ) → unsigned_abs z < 2 ^ 64 → upper_word z < 2 ^ 32
upper_small (pos n) l = omega arith
upper_small (negsuc n) l = omega arith

product_small : (a b : ℤ) → unsigned_abs a ≤ 2 ^ 31 → unsigned_abs b < 2 ^ 32 → unsigned_abs (a *ℤ b) < 2 ^ 64
product_small a b p q = subst (λ z. z < 2 ^ 64) (sym (unsigned_abs-mul a b)) (let h = mul-lt (unsigned_abs a) (unsigned_abs b) (2 ^ 31 + 1) (2 ^ 32) (omega arith) q in omega (arith, h))

-- the value of a row that puts one; 0 for any other
abbrev pub value_of : Effect → ℕ
value_of (Puts v target) = v
value_of (Goes target) = 0
value_of (Loads a n extension) = 0
value_of (Stores a n v) = 0
value_of Stops = 0

flag_word : (b : Bool) → as_number b < 2 ^ 32
flag_word true = omega arith
flag_word false = omega arith

either_word : (b : Bool) (v w : ℕ) → v < 2 ^ 32 → w < 2 ^ 32 → cond b v w < 2 ^ 32
either_word true v w p q = p
either_word false v w p q = q

below : (x a : ℕ) → x ≤ a → a < 2 ^ 32 → x < 2 ^ 32
below x a p q = omega arith

signed_below : (a : ℕ) → a < 2 ^ 32 → unsigned_abs (signed a) < 2 ^ 32
signed_below a l = let h = signed_small a l in omega (arith, h)

unsigned_product : (a b : ℕ) → a < 2 ^ 32 → b < 2 ^ 32 → a * b / 2 ^ 32 < 2 ^ 32
unsigned_product a b p q = let h = mul-lt a b (2 ^ 32) (2 ^ 32) p q in omega (arith, h)

-- each row gives a word
pub row_word : (op : Op) (pc a b imm : ℕ) → a < 2 ^ 32 → b < 2 ^ 32 → imm < 2 ^ 32 → value_of (row op pc a b imm) < 2 ^ 32
row_word Lui pc a b imm p q r = omega arith
row_word Auipc pc a b imm p q r = omega arith
row_word Jal pc a b imm p q r = omega arith
row_word Jalr pc a b imm p q r = omega arith
row_word Addi pc a b imm p q r = omega arith
row_word Slti pc a b imm p q r = flag_word _
row_word Sltiu pc a b imm p q r = flag_word _
row_word Xori pc a b imm p q r = xor_of_32 a imm p r
row_word Ori pc a b imm p q r = or_of_32 a imm p r
row_word Andi pc a b imm p q r = below (bit_and a imm) a (and_le_l a imm) p
row_word Slli pc a b imm p q r = omega arith
row_word Srli pc a b imm p q r = below (a / 2 ^ (imm % 32)) a (div_le a (2 ^ (imm % 32))) p
row_word Srai pc a b imm p q r = shifted_word (signed a) (imm % 32) (signed_small a p)
row_word Add pc a b imm p q r = omega arith
row_word Sub pc a b imm p q r = omega arith
row_word Sll pc a b imm p q r = omega arith
row_word Slt pc a b imm p q r = flag_word _
row_word Sltu pc a b imm p q r = flag_word _
row_word Xor pc a b imm p q r = xor_of_32 a b p q
row_word Srl pc a b imm p q r = below (a / 2 ^ (b % 32)) a (div_le a (2 ^ (b % 32))) p
row_word Sra pc a b imm p q r = shifted_word (signed a) (b % 32) (signed_small a p)
row_word Or pc a b imm p q r = or_of_32 a b p q
row_word And pc a b imm p q r = below (bit_and a b) a (and_le_l a b) p
row_word Mul pc a b imm p q r = omega arith
row_word Mulh pc a b imm p q r = upper_small (signed a *ℤ signed b) (product_small (signed a) (signed b) (signed_small a p) (signed_below b q))
row_word Mulhsu pc a b imm p q r = upper_small (signed a *ℤ pos b) (product_small (signed a) (pos b) (signed_small a p) q)
row_word Mulhu pc a b imm p q r = unsigned_product a b p q
row_word Div pc a b imm p q r = either_word (b == 0) 0xFFFFFFFF _ (omega arith) (either_word (overflows a b) 0x80000000 _ (omega arith) (quotient_word (signed a) (signed b) (signed_small a p)))
row_word Divu pc a b imm p q r = either_word (b == 0) 0xFFFFFFFF _ (omega arith) (below (a / b) a (div_le a b) p)
row_word Rem pc a b imm p q r = either_word (b == 0) a _ p (either_word (overflows a b) 0 _ (omega arith) (remainder_word (signed a) (signed b) (signed_small a p)))
row_word Remu pc a b imm p q r = either_word (b == 0) a _ p (below (a % b) a (mod_le a b) p)
row_word _ pc a b imm p q r = omega arith

-- ---- immediates

signed_12 : (v : ℕ) → v < 4096 → signed_bits 12 v < 2 ^ 32
signed_12 v l = either_word (nat_lt v 2048) v (v + (2 ^ 32 - 2 ^ 12)) (omega arith) (omega arith)

signed_13 : (v : ℕ) → v < 8192 → signed_bits 13 v < 2 ^ 32
signed_13 v l = either_word (nat_lt v 4096) v (v + (2 ^ 32 - 2 ^ 13)) (omega arith) (omega arith)

signed_21 : (v : ℕ) → v < 2097152 → signed_bits 21 v < 2 ^ 32
signed_21 v l = either_word (nat_lt v 1048576) v (v + (2 ^ 32 - 2 ^ 21)) (omega arith) (omega arith)

imm_word : (f : Format) (op : Op) (w : ℕ) → (fields f op w).imm < 2 ^ 32
imm_word Register op w = omega arith
imm_word Immediate op w = signed_12 (bits w 20 12) (omega arith)
imm_word Shift op w = omega arith
imm_word Store op w = signed_12 (bits w 25 7 * 32 + bits w 7 5) (omega arith)
imm_word Branch op w = signed_13 (bits w 31 1 * 4096 + bits w 7 1 * 2048 + bits w 25 6 * 32 + bits w 8 4 * 2) (omega arith)
imm_word Upper op w = omega arith
imm_word Jump op w = signed_21 (bits w 31 1 * 1048576 + bits w 12 8 * 4096 + bits w 20 1 * 2048 + bits w 21 10 * 2) (omega arith)
imm_word Order op w = omega arith
imm_word Whole op w = omega arith

-- ---- steps

abbrev AllWords : (ℕ → ℕ) → Type 0
AllWords x = (i : ℕ) → x i < 2 ^ 32

one_word : (x : ℕ → ℕ) (rd v : ℕ) → AllWords x → v < 2 ^ 32 → AllWords (with_reg x rd v)
one_word x rd v h l i = either_word (i == rd && nat_lt 0 rd) v (x i) l (h i)

extended_word : (n v : ℕ) (extension : Extension) → v < 2 ^ 32 → extended n extension v < 2 ^ 32
extended_word n v Zero l = l
extended_word n v Sign l = either_word (n == 1) (sign_extended 8 v) _ (either_word (nat_lt v 128) v _ l (omega arith)) (either_word (n == 2) (sign_extended 16 v) v (either_word (nat_lt v 32768) v _ l (omega arith)) l)

place_sizes : (a n : ℕ) → is_place a n ≡ true → (n ≡ 1) ⊎ ((n ≡ 2) ⊎ (n ≡ 4))
place_sizes a n h = grind (arith, nat_tests)

little_word : (m : Mem) (a n : ℕ) → ((k : ℕ) → m k < 256) → is_place a n ≡ true → little m a n < 2 ^ 32
little_word m a n s p = elim (place_sizes a n p) [
  | inl e ↦ subst (λ z. little m a z < 2 ^ 32) (sym e) (let x = s a in omega arith)
  | inr (inl e) ↦ subst (λ z. little m a z < 2 ^ 32) (sym e) (let x = s a in let y = s (a + 1) in omega arith)
  | inr (inr e) ↦ subst (λ z. little m a z < 2 ^ 32) (sym e) (word-small m a s)
]

loads_words : (c : Cpu) (m : Mem) (rd a n : ℕ) (extension : Extension) (b : Bool) → AllWords c.x → (b ≡ true → little m a n < 2 ^ 32) → AllWords (loads c m rd n extension (cond b (Some (little m a n)) None)).cpu.x
loads_words c m rd a n extension true h l = one_word c.x rd (extended n extension (little m a n)) h (extended_word n (little m a n) extension (l refl))
loads_words c m rd a n extension false h l = h

stores_words : (b : Bool) (c : Cpu) (m : Mem) (a : ℕ) (bs : List ℕ) → AllWords c.x → AllWords (saved_at b c m a bs).cpu.x
stores_words true c m a bs h = h
stores_words false c m a bs h = h

effect_words : (c : Cpu) (m : Mem) (rd : ℕ) (e : Effect) → AllWords c.x → ((k : ℕ) → m k < 256) → value_of e < 2 ^ 32 → AllWords (effected c m rd e).cpu.x
effect_words c m rd (Puts v target) h s l = one_word c.x rd v h l
effect_words c m rd (Goes target) h s l = h
effect_words c m rd (Loads a n extension) h s l = loads_words c m rd a n extension (is_place a n) h (λ p. little_word m a n s p)
effect_words c m rd (Stores a n v) h s l = stores_words (is_place a n) c m a (bytes_of n v) h
effect_words c m rd Stops h s l = h

decoded_words : (c : Cpu) (m : Mem) (w : ℕ) (o : Option Op) → AllWords c.x → ((k : ℕ) → m k < 256) → AllWords (decoded c m (line_at w o)).cpu.x
decoded_words c m w None h s = h
decoded_words c m w (Some op) h s =
    let l = fields (format_of op) op w in
    effect_words c m l.rd (row l.op c.pc (c.x l.rs1) (c.x l.rs2) l.imm) h s (row_word l.op c.pc (c.x l.rs1) (c.x l.rs2) l.imm (h l.rs1) (h l.rs2) (imm_word (format_of op) op w))

fetched_words : (c : Cpu) (m : Mem) (o : Option ℕ) → AllWords c.x → ((k : ℕ) → m k < 256) → AllWords (fetched c m o).cpu.x
fetched_words c m None h s = h
fetched_words c m (Some w) h s = decoded_words c m w (op_in w) h s

-- after any step registers hold words, if they did before and memory holds bytes
pub step_words : WordsStay
step_words c m h s = fetched_words c m (loaded m c.pc 4) h s
