-- Encoding and decoding are inverse to one another, by format.
use Rattle.std.proofs.Common.{◌≡◌, ◌≤◌, ◌<◌, ◌⊎◌, inl, inr, ℕ, ℤ, pos, negsuc, ◌+◌, ◌*◌, ◌/◌, ◌%◌, ◌^◌, Bool, true, false, cond, Some, sym, ap, ◌∙◌, arith, refl, subst}
use Rattle.std.specs.Prelude.{◌==◌, ◌&&◌, nat_lt}
use Rattle.std.proofs.lemmas.Bool.Decides.{nat_tests}
use Rattle.im_rv.specs.declared.instr.Op.{Op}
use Rattle.im_rv.specs.declared.instr.Op.TheVariants.{Lui, Auipc, Jal, Jalr, Beq, Bne, Blt, Bge, Bltu, Bgeu, Lb, Lh, Lw, Lbu, Lhu, Sb, Sh, Sw, Addi, Slti, Sltiu, Xori, Ori, Andi, Slli, Srli, Srai, Add, Sub, Sll, Slt, Sltu, Xor, Srl, Sra, Or, And, Mul, Mulh, Mulhsu, Mulhu, Div, Divu, Rem, Remu, Fence, Ebreak}
use Rattle.im_rv.specs.declared.format.Format.{Format}
use Rattle.im_rv.specs.declared.format.Format.TheVariants.{Register, Immediate, Shift, Store, Branch, Upper, Jump, Order, Whole}
use Rattle.im_rv.specs.Formats.{format_of}
use Rattle.im_rv.specs.Fits.{fits, format_fits, in_signed, in_bits, is_even, is_zero}
use Rattle.im_rv.specs.Steps.{signed_bits, sum_of, word}
use Rattle.im_rv.specs.Encode.{assembled, encoded}
use Rattle.im_rv.specs.Decode.{Line, bits, fields, op_of, op_in, line_at, decode, i_imm, s_imm, b_imm, j_imm}

-- a word with these code numbers stands for this operation
pub op_found : (w o f g : ℕ) (op : Op) → o < 115 → w % 128 ≡ o → w / 4096 % 8 ≡ f → w / 33554432 % 128 ≡ g → op_of o f g ≡ Some op → op_in w ≡ Some op
op_found w o f g op small eo ef eg h =
    let no : (w == 0x00100073) ≡ false = grind (arith, nat_tests) in
    let e0 : bits w 0 7 ≡ o = omega arith in
    ap (λ b. cond b (Some Ebreak) (op_of (bits w 0 7) (bits w 12 3) (bits w 25 7))) no
    ∙ ap (λ z. op_of z (bits w 12 3) (bits w 25 7)) e0
    ∙ ap (λ z. op_of o z (bits w 25 7)) ef
    ∙ ap (λ z. op_of o f z) eg
    ∙ h

abbrev pub made : Op → ℕ → ℕ → ℕ → ℕ → Line
made op d a b i = record { op = op; rd = d; rs1 = a; rs2 = b; imm = i }

same_fields : (op : Op) (d d' a a' b b' i i' : ℕ) → d ≡ d' → a ≡ a' → b ≡ b' → i ≡ i' → made op d a b i ≡ made op d' a' b' i'
same_fields op d d' a a' b b' i i' p q r s =
    ap (λ z. made op z a b i) p
    ∙ ap (λ z. made op d' z b i) q
    ∙ ap (λ z. made op d' a' z i) r
    ∙ ap (λ z. made op d' a' b' z) s

decoded_as : (w : ℕ) (op : Op) (f : Format) (l : Line) → op_in w ≡ Some op → format_of op ≡ f → fields f op w ≡ l → decode w ≡ Some l
decoded_as w op f l p q r = ap (line_at w) p ∙ ap (λ z. Some (fields z op w)) q ∙ ap Some r

-- the code numbers in their places
abbrev pub numbers : ℕ → ℕ → ℕ → ℕ
numbers o f g = o + f * 4096 + g * 33554432

pub both : (p q : Bool) → (p && q) ≡ true → (p ≡ true) × (q ≡ true)
both true q h = (refl, h)
both false q h = absurd cc

is_below : (a n : ℕ) → nat_lt a n ≡ true → a < n
is_below a n h = grind (arith, nat_tests)

pub is_same : (a n : ℕ) → (a == n) ≡ true → a ≡ n
is_same a n h = grind (arith, nat_tests)

-- a signed immediate as a word
signed_word : (n : ℕ) (i : ℤ) → 2 ^ n ≤ 1048576 → in_signed n i ≡ true → (word i < 2 ^ n) ⊎ ((4294967296 ≤ word i + 2 ^ n) × (word i < 4294967296))
signed_word n (pos k) l h = inl (grind (arith, nat_tests))
signed_word n (negsuc k) l h = inr (grind (arith, nat_tests), grind (arith, nat_tests))

even_word : (n : ℕ) (i : ℤ) → 2 ^ n ≤ 1048576 → in_signed n i ≡ true → is_even i ≡ true → word i % 2 ≡ 0
even_word n (pos k) l h e = is_same (k % 2) 0 e
even_word n (negsuc k) l h e =
    let odd : k % 2 ≡ 1 = is_same (k % 2) 1 e in
    let small : k < 2 ^ n = is_below k (2 ^ n) h in
    omega arith

bits_word : (n : ℕ) (i : ℤ) → in_bits n i ≡ true → word i < 2 ^ n
bits_word n (pos k) h = grind (arith, nat_tests)
bits_word n (negsuc k) h = absurd cc

zero_word : (i : ℤ) → is_zero i ≡ true → word i ≡ 0
zero_word (pos k) h = grind (arith, nat_tests)
zero_word (negsuc k) h = absurd cc

-- a signed immediate is back from its bits
signed_back : (v : ℕ) → (v < 2048) ⊎ ((4294967296 ≤ v + 2048) × (v < 4294967296)) → signed_bits 12 (v % 4096) ≡ v
signed_back v (inl l) = let e : v % 4096 ≡ v = omega arith in grind (arith, nat_tests)
signed_back v (inr l) = let a = l.0 in let b = l.1 in let e : v % 4096 + 4294963200 ≡ v = omega arith in grind (arith, nat_tests)

branch_back : (v : ℕ) → (v < 4096) ⊎ ((4294967296 ≤ v + 4096) × (v < 4294967296)) → signed_bits 13 (v % 8192) ≡ v
branch_back v (inl l) = let e : v % 8192 ≡ v = omega arith in grind (arith, nat_tests)
branch_back v (inr l) = let a = l.0 in let b = l.1 in let e : v % 8192 + 4294959104 ≡ v = omega arith in grind (arith, nat_tests)

jump_back : (v : ℕ) → (v < 1048576) ⊎ ((4294967296 ≤ v + 1048576) × (v < 4294967296)) → signed_bits 21 (v % 2097152) ≡ v
jump_back v (inl l) = let e : v % 2097152 ≡ v = omega arith in grind (arith, nat_tests)
jump_back v (inr l) = let a = l.0 in let b = l.1 in let e : v % 2097152 + 4292870144 ≡ v = omega arith in grind (arith, nat_tests)

-- the code numbers of an operation that has all, funct3 alone, or neither, whatever stands elsewhere
r_back : (op : Op) (o f g d a b : ℕ) → o < 115 → f < 8 → g < 128 → d < 32 → a < 32 → b < 32 → op_of o f g ≡ Some op → format_of op ≡ Register → decode (sum_of (numbers o f g) (assembled Register d a b 0)) ≡ Some (made op d a b 0)
r_back op o f g d a b lo lf lg ld la lb h q =
    let w = sum_of (numbers o f g) (assembled Register d a b 0) in
    decoded_as w op Register (made op d a b 0) (op_found w o f g op lo (omega arith) (omega arith) (omega arith) h) q
    (same_fields op (bits w 7 5) d (bits w 15 5) a (bits w 20 5) b 0 0 (omega arith) (omega arith) (omega arith) refl)

i_back : (op : Op) (o f d a v : ℕ) → o < 115 → f < 8 → d < 32 → a < 32 → (v < 2048) ⊎ ((4294967296 ≤ v + 2048) × (v < 4294967296)) → ((g : ℕ) → op_of o f g ≡ Some op) → format_of op ≡ Immediate → decode (sum_of (numbers o f 0) (assembled Immediate d a 0 v)) ≡ Some (made op d a 0 v)
i_back op o f d a v lo lf ld la lv h q =
    let w = sum_of (numbers o f 0) (assembled Immediate d a 0 v) in
    let e : bits w 20 12 ≡ v % 4096 = omega arith in
    decoded_as w op Immediate (made op d a 0 v) (op_found w o f (w / 33554432 % 128) op lo (omega arith) (omega arith) refl (h (w / 33554432 % 128))) q
    (same_fields op (bits w 7 5) d (bits w 15 5) a 0 0 (i_imm w) v (omega arith) (omega arith) refl (ap (signed_bits 12) e ∙ signed_back v lv))

shift_back : (op : Op) (o f g d a v : ℕ) → o < 115 → f < 8 → g < 128 → d < 32 → a < 32 → v < 32 → op_of o f g ≡ Some op → format_of op ≡ Shift → decode (sum_of (numbers o f g) (assembled Shift d a 0 v)) ≡ Some (made op d a 0 v)
shift_back op o f g d a v lo lf lg ld la lv h q =
    let w = sum_of (numbers o f g) (assembled Shift d a 0 v) in
    decoded_as w op Shift (made op d a 0 v) (op_found w o f g op lo (omega arith) (omega arith) (omega arith) h) q
    (same_fields op (bits w 7 5) d (bits w 15 5) a 0 0 (bits w 20 5) v (omega arith) (omega arith) refl (omega arith))

s_back : (op : Op) (o f a b v : ℕ) → o < 115 → f < 8 → a < 32 → b < 32 → (v < 2048) ⊎ ((4294967296 ≤ v + 2048) × (v < 4294967296)) → ((g : ℕ) → op_of o f g ≡ Some op) → format_of op ≡ Store → decode (sum_of (numbers o f 0) (assembled Store 0 a b v)) ≡ Some (made op 0 a b v)
s_back op o f a b v lo lf la lb lv h q =
    let w = sum_of (numbers o f 0) (assembled Store 0 a b v) in
    let e : bits w 25 7 * 32 + bits w 7 5 ≡ v % 4096 = omega arith in
    decoded_as w op Store (made op 0 a b v) (op_found w o f (w / 33554432 % 128) op lo (omega arith) (omega arith) refl (h (w / 33554432 % 128))) q
    (same_fields op 0 0 (bits w 15 5) a (bits w 20 5) b (s_imm w) v refl (omega arith) (omega arith) (ap (signed_bits 12) e ∙ signed_back v lv))

b_back : (op : Op) (o f a b v : ℕ) → o < 115 → f < 8 → a < 32 → b < 32 → (v < 4096) ⊎ ((4294967296 ≤ v + 4096) × (v < 4294967296)) → v % 2 ≡ 0 → ((g : ℕ) → op_of o f g ≡ Some op) → format_of op ≡ Branch → decode (sum_of (numbers o f 0) (assembled Branch 0 a b v)) ≡ Some (made op 0 a b v)
b_back op o f a b v lo lf la lb lv even h q =
    let w = sum_of (numbers o f 0) (assembled Branch 0 a b v) in
    let e : bits w 31 1 * 4096 + bits w 7 1 * 2048 + bits w 25 6 * 32 + bits w 8 4 * 2 ≡ v % 8192 = omega arith in
    decoded_as w op Branch (made op 0 a b v) (op_found w o f (w / 33554432 % 128) op lo (omega arith) (omega arith) refl (h (w / 33554432 % 128))) q
    (same_fields op 0 0 (bits w 15 5) a (bits w 20 5) b (b_imm w) v refl (omega arith) (omega arith) (ap (signed_bits 13) e ∙ branch_back v lv))

u_back : (op : Op) (o d v : ℕ) → o < 115 → d < 32 → v < 1048576 → ((f g : ℕ) → op_of o f g ≡ Some op) → format_of op ≡ Upper → decode (sum_of (numbers o 0 0) (assembled Upper d 0 0 v)) ≡ Some (made op d 0 0 v)
u_back op o d v lo ld lv h q =
    let w = sum_of (numbers o 0 0) (assembled Upper d 0 0 v) in
    decoded_as w op Upper (made op d 0 0 v) (op_found w o (w / 4096 % 8) (w / 33554432 % 128) op lo (omega arith) refl refl (h (w / 4096 % 8) (w / 33554432 % 128))) q
    (same_fields op (bits w 7 5) d 0 0 0 0 (bits w 12 20) v (omega arith) refl refl (omega arith))

j_back : (op : Op) (o d v : ℕ) → o < 115 → d < 32 → (v < 1048576) ⊎ ((4294967296 ≤ v + 1048576) × (v < 4294967296)) → v % 2 ≡ 0 → ((f g : ℕ) → op_of o f g ≡ Some op) → format_of op ≡ Jump → decode (sum_of (numbers o 0 0) (assembled Jump d 0 0 v)) ≡ Some (made op d 0 0 v)
j_back op o d v lo ld lv even h q =
    let w = sum_of (numbers o 0 0) (assembled Jump d 0 0 v) in
    let e : bits w 31 1 * 1048576 + bits w 12 8 * 4096 + bits w 20 1 * 2048 + bits w 21 10 * 2 ≡ v % 2097152 = omega arith in
    decoded_as w op Jump (made op d 0 0 v) (op_found w o (w / 4096 % 8) (w / 33554432 % 128) op lo (omega arith) refl refl (h (w / 4096 % 8) (w / 33554432 % 128))) q
    (same_fields op (bits w 7 5) d 0 0 0 0 (j_imm w) v (omega arith) refl refl (ap (signed_bits 21) e ∙ jump_back v lv))

order_back : (op : Op) (o f d a v : ℕ) → o < 115 → f < 8 → d < 32 → a < 32 → v < 4096 → ((g : ℕ) → op_of o f g ≡ Some op) → format_of op ≡ Order → decode (sum_of (numbers o f 0) (assembled Order d a 0 v)) ≡ Some (made op d a 0 v)
order_back op o f d a v lo lf ld la lv h q =
    let w = sum_of (numbers o f 0) (assembled Order d a 0 v) in
    decoded_as w op Order (made op d a 0 v) (op_found w o f (w / 33554432 % 128) op lo (omega arith) (omega arith) refl (h (w / 33554432 % 128))) q
    (same_fields op (bits w 7 5) d (bits w 15 5) a 0 0 (bits w 20 12) v (omega arith) (omega arith) refl (omega arith))

-- the same from what an instruction can hold
r_case : (op : Op) (o f g d a b : ℕ) (i : ℤ) → o < 115 → f < 8 → g < 128 → op_of o f g ≡ Some op → format_of op ≡ Register → format_fits Register d a b i ≡ true → decode (sum_of (numbers o f g) (assembled Register d a b (word i))) ≡ Some (made op d a b (word i))
r_case op o f g d a b i lo lf lg h q fit =
    let p = both _ _ fit in
    let p1 = both _ _ p.0 in
    let p2 = both _ _ p1.0 in
    subst (λ z. decode (sum_of (numbers o f g) (assembled Register d a b z)) ≡ Some (made op d a b z)) (sym (zero_word i p.1))
    (r_back op o f g d a b lo lf lg (is_below d 32 p2.0) (is_below a 32 p2.1) (is_below b 32 p1.1) h q)

i_case : (op : Op) (o f d a b : ℕ) (i : ℤ) → o < 115 → f < 8 → ((g : ℕ) → op_of o f g ≡ Some op) → format_of op ≡ Immediate → format_fits Immediate d a b i ≡ true → decode (sum_of (numbers o f 0) (assembled Immediate d a b (word i))) ≡ Some (made op d a b (word i))
i_case op o f d a b i lo lf h q fit =
    let p = both _ _ fit in
    let p1 = both _ _ p.0 in
    let p2 = both _ _ p1.0 in
    subst (λ z. decode (sum_of (numbers o f 0) (assembled Immediate d a z (word i))) ≡ Some (made op d a z (word i))) (sym (is_same b 0 p1.1))
    (i_back op o f d a (word i) lo lf (is_below d 32 p2.0) (is_below a 32 p2.1) (signed_word 11 i (omega arith) p.1) h q)

shift_case : (op : Op) (o f g d a b : ℕ) (i : ℤ) → o < 115 → f < 8 → g < 128 → op_of o f g ≡ Some op → format_of op ≡ Shift → format_fits Shift d a b i ≡ true → decode (sum_of (numbers o f g) (assembled Shift d a b (word i))) ≡ Some (made op d a b (word i))
shift_case op o f g d a b i lo lf lg h q fit =
    let p = both _ _ fit in
    let p1 = both _ _ p.0 in
    let p2 = both _ _ p1.0 in
    subst (λ z. decode (sum_of (numbers o f g) (assembled Shift d a z (word i))) ≡ Some (made op d a z (word i))) (sym (is_same b 0 p1.1))
    (shift_back op o f g d a (word i) lo lf lg (is_below d 32 p2.0) (is_below a 32 p2.1) (bits_word 5 i p.1) h q)

s_case : (op : Op) (o f d a b : ℕ) (i : ℤ) → o < 115 → f < 8 → ((g : ℕ) → op_of o f g ≡ Some op) → format_of op ≡ Store → format_fits Store d a b i ≡ true → decode (sum_of (numbers o f 0) (assembled Store d a b (word i))) ≡ Some (made op d a b (word i))
s_case op o f d a b i lo lf h q fit =
    let p = both _ _ fit in
    let p1 = both _ _ p.0 in
    let p2 = both _ _ p1.0 in
    subst (λ z. decode (sum_of (numbers o f 0) (assembled Store z a b (word i))) ≡ Some (made op z a b (word i))) (sym (is_same d 0 p2.0))
    (s_back op o f a b (word i) lo lf (is_below a 32 p2.1) (is_below b 32 p1.1) (signed_word 11 i (omega arith) p.1) h q)

b_case : (op : Op) (o f d a b : ℕ) (i : ℤ) → o < 115 → f < 8 → ((g : ℕ) → op_of o f g ≡ Some op) → format_of op ≡ Branch → format_fits Branch d a b i ≡ true → decode (sum_of (numbers o f 0) (assembled Branch d a b (word i))) ≡ Some (made op d a b (word i))
b_case op o f d a b i lo lf h q fit =
    let e = both _ _ fit in
    let p = both _ _ e.0 in
    let p1 = both _ _ p.0 in
    let p2 = both _ _ p1.0 in
    subst (λ z. decode (sum_of (numbers o f 0) (assembled Branch z a b (word i))) ≡ Some (made op z a b (word i))) (sym (is_same d 0 p2.0))
    (b_back op o f a b (word i) lo lf (is_below a 32 p2.1) (is_below b 32 p1.1) (signed_word 12 i (omega arith) p.1) (even_word 12 i (omega arith) p.1 e.1) h q)

u_case : (op : Op) (o d a b : ℕ) (i : ℤ) → o < 115 → ((f g : ℕ) → op_of o f g ≡ Some op) → format_of op ≡ Upper → format_fits Upper d a b i ≡ true → decode (sum_of (numbers o 0 0) (assembled Upper d a b (word i))) ≡ Some (made op d a b (word i))
u_case op o d a b i lo h q fit =
    let p = both _ _ fit in
    let p1 = both _ _ p.0 in
    let p2 = both _ _ p1.0 in
    subst (λ z. decode (sum_of (numbers o 0 0) (assembled Upper d z b (word i))) ≡ Some (made op d z b (word i))) (sym (is_same a 0 p2.1))
    (subst (λ z. decode (sum_of (numbers o 0 0) (assembled Upper d 0 z (word i))) ≡ Some (made op d 0 z (word i))) (sym (is_same b 0 p1.1))
    (u_back op o d (word i) lo (is_below d 32 p2.0) (bits_word 20 i p.1) h q))

j_case : (op : Op) (o d a b : ℕ) (i : ℤ) → o < 115 → ((f g : ℕ) → op_of o f g ≡ Some op) → format_of op ≡ Jump → format_fits Jump d a b i ≡ true → decode (sum_of (numbers o 0 0) (assembled Jump d a b (word i))) ≡ Some (made op d a b (word i))
j_case op o d a b i lo h q fit =
    let e = both _ _ fit in
    let p = both _ _ e.0 in
    let p1 = both _ _ p.0 in
    let p2 = both _ _ p1.0 in
    subst (λ z. decode (sum_of (numbers o 0 0) (assembled Jump d z b (word i))) ≡ Some (made op d z b (word i))) (sym (is_same a 0 p2.1))
    (subst (λ z. decode (sum_of (numbers o 0 0) (assembled Jump d 0 z (word i))) ≡ Some (made op d 0 z (word i))) (sym (is_same b 0 p1.1))
    (j_back op o d (word i) lo (is_below d 32 p2.0) (signed_word 20 i (omega arith) p.1) (even_word 20 i (omega arith) p.1 e.1) h q))

order_case : (op : Op) (o f d a b : ℕ) (i : ℤ) → o < 115 → f < 8 → ((g : ℕ) → op_of o f g ≡ Some op) → format_of op ≡ Order → format_fits Order d a b i ≡ true → decode (sum_of (numbers o f 0) (assembled Order d a b (word i))) ≡ Some (made op d a b (word i))
order_case op o f d a b i lo lf h q fit =
    let p = both _ _ fit in
    let p1 = both _ _ p.0 in
    let p2 = both _ _ p1.0 in
    subst (λ z. decode (sum_of (numbers o f 0) (assembled Order d a z (word i))) ≡ Some (made op d a z (word i))) (sym (is_same b 0 p1.1))
    (order_back op o f d a (word i) lo lf (is_below d 32 p2.0) (is_below a 32 p2.1) (bits_word 12 i p.1) h q)

whole_case : (d a b : ℕ) (i : ℤ) → format_fits Whole d a b i ≡ true → decode 0x00100073 ≡ Some (made Ebreak d a b (word i))
whole_case d a b i fit =
    let p = both _ _ fit in
    let p1 = both _ _ p.0 in
    let p2 = both _ _ p1.0 in
    ap Some (same_fields Ebreak 0 d 0 a 0 b 0 (word i) (sym (is_same d 0 p2.0)) (sym (is_same a 0 p2.1)) (sym (is_same b 0 p1.1)) (sym (zero_word i p.1)))

-- each instruction comes back from its word
pub decode-encoded : (op : Op) (d a b : ℕ) (i : ℤ) → fits op d a b i ≡ true → decode (encoded (made op d a b (word i))) ≡ Some (made op d a b (word i))
decode-encoded Lui d a b i fit = u_case Lui 0x37 d a b i (omega arith) (λ f g. refl) refl fit
decode-encoded Auipc d a b i fit = u_case Auipc 0x17 d a b i (omega arith) (λ f g. refl) refl fit
decode-encoded Jal d a b i fit = j_case Jal 0x6F d a b i (omega arith) (λ f g. refl) refl fit
decode-encoded Jalr d a b i fit = i_case Jalr 0x67 0 d a b i (omega arith) (omega arith) (λ g. refl) refl fit
decode-encoded Beq d a b i fit = b_case Beq 0x63 0 d a b i (omega arith) (omega arith) (λ g. refl) refl fit
decode-encoded Bne d a b i fit = b_case Bne 0x63 1 d a b i (omega arith) (omega arith) (λ g. refl) refl fit
decode-encoded Blt d a b i fit = b_case Blt 0x63 4 d a b i (omega arith) (omega arith) (λ g. refl) refl fit
decode-encoded Bge d a b i fit = b_case Bge 0x63 5 d a b i (omega arith) (omega arith) (λ g. refl) refl fit
decode-encoded Bltu d a b i fit = b_case Bltu 0x63 6 d a b i (omega arith) (omega arith) (λ g. refl) refl fit
decode-encoded Bgeu d a b i fit = b_case Bgeu 0x63 7 d a b i (omega arith) (omega arith) (λ g. refl) refl fit
decode-encoded Lb d a b i fit = i_case Lb 0x03 0 d a b i (omega arith) (omega arith) (λ g. refl) refl fit
decode-encoded Lh d a b i fit = i_case Lh 0x03 1 d a b i (omega arith) (omega arith) (λ g. refl) refl fit
decode-encoded Lw d a b i fit = i_case Lw 0x03 2 d a b i (omega arith) (omega arith) (λ g. refl) refl fit
decode-encoded Lbu d a b i fit = i_case Lbu 0x03 4 d a b i (omega arith) (omega arith) (λ g. refl) refl fit
decode-encoded Lhu d a b i fit = i_case Lhu 0x03 5 d a b i (omega arith) (omega arith) (λ g. refl) refl fit
decode-encoded Sb d a b i fit = s_case Sb 0x23 0 d a b i (omega arith) (omega arith) (λ g. refl) refl fit
decode-encoded Sh d a b i fit = s_case Sh 0x23 1 d a b i (omega arith) (omega arith) (λ g. refl) refl fit
decode-encoded Sw d a b i fit = s_case Sw 0x23 2 d a b i (omega arith) (omega arith) (λ g. refl) refl fit
decode-encoded Addi d a b i fit = i_case Addi 0x13 0 d a b i (omega arith) (omega arith) (λ g. refl) refl fit
decode-encoded Slti d a b i fit = i_case Slti 0x13 2 d a b i (omega arith) (omega arith) (λ g. refl) refl fit
decode-encoded Sltiu d a b i fit = i_case Sltiu 0x13 3 d a b i (omega arith) (omega arith) (λ g. refl) refl fit
decode-encoded Xori d a b i fit = i_case Xori 0x13 4 d a b i (omega arith) (omega arith) (λ g. refl) refl fit
decode-encoded Ori d a b i fit = i_case Ori 0x13 6 d a b i (omega arith) (omega arith) (λ g. refl) refl fit
decode-encoded Andi d a b i fit = i_case Andi 0x13 7 d a b i (omega arith) (omega arith) (λ g. refl) refl fit
decode-encoded Slli d a b i fit = shift_case Slli 0x13 1 0 d a b i (omega arith) (omega arith) (omega arith) refl refl fit
decode-encoded Srli d a b i fit = shift_case Srli 0x13 5 0 d a b i (omega arith) (omega arith) (omega arith) refl refl fit
decode-encoded Srai d a b i fit = shift_case Srai 0x13 5 0x20 d a b i (omega arith) (omega arith) (omega arith) refl refl fit
decode-encoded Add d a b i fit = r_case Add 0x33 0 0 d a b i (omega arith) (omega arith) (omega arith) refl refl fit
decode-encoded Sub d a b i fit = r_case Sub 0x33 0 0x20 d a b i (omega arith) (omega arith) (omega arith) refl refl fit
decode-encoded Sll d a b i fit = r_case Sll 0x33 1 0 d a b i (omega arith) (omega arith) (omega arith) refl refl fit
decode-encoded Slt d a b i fit = r_case Slt 0x33 2 0 d a b i (omega arith) (omega arith) (omega arith) refl refl fit
decode-encoded Sltu d a b i fit = r_case Sltu 0x33 3 0 d a b i (omega arith) (omega arith) (omega arith) refl refl fit
decode-encoded Xor d a b i fit = r_case Xor 0x33 4 0 d a b i (omega arith) (omega arith) (omega arith) refl refl fit
decode-encoded Srl d a b i fit = r_case Srl 0x33 5 0 d a b i (omega arith) (omega arith) (omega arith) refl refl fit
decode-encoded Sra d a b i fit = r_case Sra 0x33 5 0x20 d a b i (omega arith) (omega arith) (omega arith) refl refl fit
decode-encoded Or d a b i fit = r_case Or 0x33 6 0 d a b i (omega arith) (omega arith) (omega arith) refl refl fit
decode-encoded And d a b i fit = r_case And 0x33 7 0 d a b i (omega arith) (omega arith) (omega arith) refl refl fit
decode-encoded Mul d a b i fit = r_case Mul 0x33 0 1 d a b i (omega arith) (omega arith) (omega arith) refl refl fit
decode-encoded Mulh d a b i fit = r_case Mulh 0x33 1 1 d a b i (omega arith) (omega arith) (omega arith) refl refl fit
decode-encoded Mulhsu d a b i fit = r_case Mulhsu 0x33 2 1 d a b i (omega arith) (omega arith) (omega arith) refl refl fit
decode-encoded Mulhu d a b i fit = r_case Mulhu 0x33 3 1 d a b i (omega arith) (omega arith) (omega arith) refl refl fit
decode-encoded Div d a b i fit = r_case Div 0x33 4 1 d a b i (omega arith) (omega arith) (omega arith) refl refl fit
decode-encoded Divu d a b i fit = r_case Divu 0x33 5 1 d a b i (omega arith) (omega arith) (omega arith) refl refl fit
decode-encoded Rem d a b i fit = r_case Rem 0x33 6 1 d a b i (omega arith) (omega arith) (omega arith) refl refl fit
decode-encoded Remu d a b i fit = r_case Remu 0x33 7 1 d a b i (omega arith) (omega arith) (omega arith) refl refl fit
decode-encoded Fence d a b i fit = order_case Fence 0x0F 0 d a b i (omega arith) (omega arith) (λ g. refl) refl fit
decode-encoded Ebreak d a b i fit = whole_case d a b i fit
