-- A word that stands for an instruction is the word of that instruction.
use Rattle.std.proofs.Common.{◌≡◌, ◌<◌, ◌⊎◌, inl, inr, ℕ, ◌+◌, ◌*◌, ◌/◌, ◌%◌, ◌^◌, Bool, true, false, cond, Option, Some, None, List, [], ◌∷◌, sym, ap, ◌∙◌, subst, arith, refl}
use Rattle.std.specs.Prelude.{◌==◌, ◌&&◌}
use Rattle.std.proofs.lemmas.Bool.Decides.{nat_tests}
use Rattle.im_rv.specs.declared.instr.Op.{Op}
use Rattle.im_rv.specs.declared.instr.Op.TheVariants.{Lui, Auipc, Jal, Jalr, Beq, Bne, Blt, Bge, Bltu, Bgeu, Lb, Lh, Lw, Lbu, Lhu, Sb, Sh, Sw, Addi, Slti, Sltiu, Xori, Ori, Andi, Slli, Srli, Srai, Add, Sub, Sll, Slt, Sltu, Xor, Srl, Sra, Or, And, Mul, Mulh, Mulhsu, Mulhu, Div, Divu, Rem, Remu, Fence, Ebreak}
use Rattle.im_rv.specs.declared.format.Format.TheVariants.{Register, Immediate, Shift, Store, Branch, Upper, Jump, Order}
use Rattle.im_rv.specs.Formats.{format_of, coded_ops}
use Rattle.im_rv.specs.Steps.{signed_bits, sum_of}
use Rattle.im_rv.specs.Encode.{assembled, encoded, branch_bits, jump_bits}
use Rattle.im_rv.specs.Decode.{Line, bits, fields, is_coded, op_among, op_of, line_at, decode, i_imm, s_imm, b_imm, j_imm}
use Rattle.im_rv.proofs.Encoding.{made, numbers, both, is_same}

-- the lowest bits of a sign extended number
signed_low : (v : ℕ) → v < 4096 → signed_bits 12 v % 4096 ≡ v
signed_low v l = grind (arith, nat_tests)

signed_high : (v : ℕ) → v < 4096 → signed_bits 12 v % 32 + signed_bits 12 v / 32 % 128 * 32 ≡ v
signed_high v l = let e = signed_low v l in omega arith

branch_low : (v : ℕ) → v < 8192 → signed_bits 13 v % 8192 ≡ v
branch_low v l = grind (arith, nat_tests)

jump_low : (v : ℕ) → v < 2097152 → signed_bits 21 v % 2097152 ≡ v
jump_low v l = grind (arith, nat_tests)

branch_bits_low : (v u : ℕ) → v % 8192 ≡ u → branch_bits v ≡ branch_bits u
branch_bits_low v u e = omega arith

jump_bits_low : (v u : ℕ) → v % 2097152 ≡ u → jump_bits v ≡ jump_bits u
jump_bits_low v u e = omega arith

r_forth : (w o f g : ℕ) → w < 2 ^ 32 → bits w 0 7 ≡ o → bits w 12 3 ≡ f → bits w 25 7 ≡ g → sum_of (numbers o f g) (assembled Register (bits w 7 5) (bits w 15 5) (bits w 20 5) 0) ≡ w
r_forth w o f g l eo ef eg = omega arith

i_forth : (w o f : ℕ) → w < 2 ^ 32 → bits w 0 7 ≡ o → bits w 12 3 ≡ f → sum_of (numbers o f 0) (assembled Immediate (bits w 7 5) (bits w 15 5) 0 (i_imm w)) ≡ w
i_forth w o f l eo ef = let e : i_imm w % 4096 ≡ bits w 20 12 = signed_low (bits w 20 12) (omega arith) in ap (λ z. sum_of (numbers o f 0) (bits w 7 5 % 32 * 128 + bits w 15 5 % 32 * 32768 + z * 1048576)) e ∙ omega arith

shift_forth : (w o f g : ℕ) → w < 2 ^ 32 → bits w 0 7 ≡ o → bits w 12 3 ≡ f → bits w 25 7 ≡ g → sum_of (numbers o f g) (assembled Shift (bits w 7 5) (bits w 15 5) 0 (bits w 20 5)) ≡ w
shift_forth w o f g l eo ef eg = omega arith

s_forth : (w o f : ℕ) → w < 2 ^ 32 → bits w 0 7 ≡ o → bits w 12 3 ≡ f → sum_of (numbers o f 0) (assembled Store 0 (bits w 15 5) (bits w 20 5) (s_imm w)) ≡ w
s_forth w o f l eo ef = let e = signed_high (bits w 25 7 * 32 + bits w 7 5) (omega arith) in from (s_imm w) e
  where
    from : (v : ℕ) → v % 32 + v / 32 % 128 * 32 ≡ bits w 25 7 * 32 + bits w 7 5 → sum_of (numbers o f 0) (assembled Store 0 (bits w 15 5) (bits w 20 5) v) ≡ w
    from v e = omega arith

b_forth : (w o f : ℕ) → w < 2 ^ 32 → bits w 0 7 ≡ o → bits w 12 3 ≡ f → sum_of (numbers o f 0) (assembled Branch 0 (bits w 15 5) (bits w 20 5) (b_imm w)) ≡ w
b_forth w o f l eo ef =
    let u : ℕ = bits w 31 1 * 4096 + bits w 7 1 * 2048 + bits w 25 6 * 32 + bits w 8 4 * 2 in
    ap (λ z. sum_of (numbers o f 0) (bits w 15 5 % 32 * 32768 + bits w 20 5 % 32 * 1048576 + z)) (branch_bits_low (b_imm w) u (branch_low u (omega arith)))
    ∙ omega arith

u_forth : (w o : ℕ) → w < 2 ^ 32 → bits w 0 7 ≡ o → sum_of (numbers o 0 0) (assembled Upper (bits w 7 5) 0 0 (bits w 12 20)) ≡ w
u_forth w o l eo = omega arith

j_forth : (w o : ℕ) → w < 2 ^ 32 → bits w 0 7 ≡ o → sum_of (numbers o 0 0) (assembled Jump (bits w 7 5) 0 0 (j_imm w)) ≡ w
j_forth w o l eo =
    let u : ℕ = bits w 31 1 * 1048576 + bits w 12 8 * 4096 + bits w 20 1 * 2048 + bits w 21 10 * 2 in
    ap (λ z. sum_of (numbers o 0 0) (bits w 7 5 % 32 * 128 + z)) (jump_bits_low (j_imm w) u (jump_low u (omega arith)))
    ∙ omega arith

order_forth : (w o f : ℕ) → w < 2 ^ 32 → bits w 0 7 ≡ o → bits w 12 3 ≡ f → sum_of (numbers o f 0) (assembled Order (bits w 7 5) (bits w 15 5) 0 (bits w 20 12)) ≡ w
order_forth w o f l eo ef = omega arith

pub three : (p q r : Bool) → (p && q && r) ≡ true → (p ≡ true) × (q ≡ true) × (r ≡ true)
three p q r h = let a = both _ _ h in let b = both _ _ a.0 in (b.0, b.1, a.1)

abbrev is_coded_op : Op → Bool
is_coded_op Ebreak = false
is_coded_op _ = true

abbrev every : (Op → Bool) → List Op → Bool
every p [] = true
every p (op ∷ ops) = p op && every p ops

pub truth : (b : Bool) → (b ≡ true) ⊎ (b ≡ false)
truth true = inl refl
truth false = inr refl

first_is : (op x : Op) (ops : List Op) (o f g : ℕ) → is_coded x o f g ≡ true → op_among (x ∷ ops) o f g ≡ Some op → x ≡ op
first_is op x ops o f g t h = let e : Some x ≡ Some op = sym (ap (λ b. cond b (Some x) (op_among ops o f g)) t) ∙ h in cc

later_is : (op x : Op) (ops : List Op) (o f g : ℕ) → is_coded x o f g ≡ false → op_among (x ∷ ops) o f g ≡ Some op → op_among ops o f g ≡ Some op
later_is op x ops o f g t h = sym (ap (λ b. cond b (Some x) (op_among ops o f g)) t) ∙ h

-- the operation that is found has the code numbers, and is one of those that were looked through
found_op : (p : Op → Bool) (ops : List Op) (o f g : ℕ) (op : Op) → every p ops ≡ true → op_among ops o f g ≡ Some op → (is_coded op o f g ≡ true) × (p op ≡ true)
found_op p [] o f g op all h = absurd cc
found_op p (x ∷ xs) o f g op all h = elim (truth (is_coded x o f g)) [
  | inl t ↦ let e = first_is op x xs o f g t h in (subst (λ z. is_coded z o f g ≡ true) e t, subst (λ z. p z ≡ true) e (both _ _ all).0)
  | inr t ↦ found_op p xs o f g op (both _ _ all).1 (later_is op x xs o f g t h)
]

of_coded : (op : Op) (w : ℕ) → w < 2 ^ 32 → is_coded_op op ≡ true → is_coded op (bits w 0 7) (bits w 12 3) (bits w 25 7) ≡ true → encoded (fields (format_of op) op w) ≡ w
of_coded Lui w l k h = let t = three _ _ _ h in u_forth w 0x37 l (is_same _ 0x37 t.0)
of_coded Auipc w l k h = let t = three _ _ _ h in u_forth w 0x17 l (is_same _ 0x17 t.0)
of_coded Jal w l k h = let t = three _ _ _ h in j_forth w 0x6F l (is_same _ 0x6F t.0)
of_coded Jalr w l k h = let t = three _ _ _ h in i_forth w 0x67 0 l (is_same _ 0x67 t.0) (is_same _ 0 t.1)
of_coded Beq w l k h = let t = three _ _ _ h in b_forth w 0x63 0 l (is_same _ 0x63 t.0) (is_same _ 0 t.1)
of_coded Bne w l k h = let t = three _ _ _ h in b_forth w 0x63 1 l (is_same _ 0x63 t.0) (is_same _ 1 t.1)
of_coded Blt w l k h = let t = three _ _ _ h in b_forth w 0x63 4 l (is_same _ 0x63 t.0) (is_same _ 4 t.1)
of_coded Bge w l k h = let t = three _ _ _ h in b_forth w 0x63 5 l (is_same _ 0x63 t.0) (is_same _ 5 t.1)
of_coded Bltu w l k h = let t = three _ _ _ h in b_forth w 0x63 6 l (is_same _ 0x63 t.0) (is_same _ 6 t.1)
of_coded Bgeu w l k h = let t = three _ _ _ h in b_forth w 0x63 7 l (is_same _ 0x63 t.0) (is_same _ 7 t.1)
of_coded Lb w l k h = let t = three _ _ _ h in i_forth w 0x03 0 l (is_same _ 0x03 t.0) (is_same _ 0 t.1)
of_coded Lh w l k h = let t = three _ _ _ h in i_forth w 0x03 1 l (is_same _ 0x03 t.0) (is_same _ 1 t.1)
of_coded Lw w l k h = let t = three _ _ _ h in i_forth w 0x03 2 l (is_same _ 0x03 t.0) (is_same _ 2 t.1)
of_coded Lbu w l k h = let t = three _ _ _ h in i_forth w 0x03 4 l (is_same _ 0x03 t.0) (is_same _ 4 t.1)
of_coded Lhu w l k h = let t = three _ _ _ h in i_forth w 0x03 5 l (is_same _ 0x03 t.0) (is_same _ 5 t.1)
of_coded Sb w l k h = let t = three _ _ _ h in s_forth w 0x23 0 l (is_same _ 0x23 t.0) (is_same _ 0 t.1)
of_coded Sh w l k h = let t = three _ _ _ h in s_forth w 0x23 1 l (is_same _ 0x23 t.0) (is_same _ 1 t.1)
of_coded Sw w l k h = let t = three _ _ _ h in s_forth w 0x23 2 l (is_same _ 0x23 t.0) (is_same _ 2 t.1)
of_coded Addi w l k h = let t = three _ _ _ h in i_forth w 0x13 0 l (is_same _ 0x13 t.0) (is_same _ 0 t.1)
of_coded Slti w l k h = let t = three _ _ _ h in i_forth w 0x13 2 l (is_same _ 0x13 t.0) (is_same _ 2 t.1)
of_coded Sltiu w l k h = let t = three _ _ _ h in i_forth w 0x13 3 l (is_same _ 0x13 t.0) (is_same _ 3 t.1)
of_coded Xori w l k h = let t = three _ _ _ h in i_forth w 0x13 4 l (is_same _ 0x13 t.0) (is_same _ 4 t.1)
of_coded Ori w l k h = let t = three _ _ _ h in i_forth w 0x13 6 l (is_same _ 0x13 t.0) (is_same _ 6 t.1)
of_coded Andi w l k h = let t = three _ _ _ h in i_forth w 0x13 7 l (is_same _ 0x13 t.0) (is_same _ 7 t.1)
of_coded Slli w l k h = let t = three _ _ _ h in shift_forth w 0x13 1 0 l (is_same _ 0x13 t.0) (is_same _ 1 t.1) (is_same _ 0 t.2)
of_coded Srli w l k h = let t = three _ _ _ h in shift_forth w 0x13 5 0 l (is_same _ 0x13 t.0) (is_same _ 5 t.1) (is_same _ 0 t.2)
of_coded Srai w l k h = let t = three _ _ _ h in shift_forth w 0x13 5 0x20 l (is_same _ 0x13 t.0) (is_same _ 5 t.1) (is_same _ 0x20 t.2)
of_coded Add w l k h = let t = three _ _ _ h in r_forth w 0x33 0 0 l (is_same _ 0x33 t.0) (is_same _ 0 t.1) (is_same _ 0 t.2)
of_coded Sub w l k h = let t = three _ _ _ h in r_forth w 0x33 0 0x20 l (is_same _ 0x33 t.0) (is_same _ 0 t.1) (is_same _ 0x20 t.2)
of_coded Sll w l k h = let t = three _ _ _ h in r_forth w 0x33 1 0 l (is_same _ 0x33 t.0) (is_same _ 1 t.1) (is_same _ 0 t.2)
of_coded Slt w l k h = let t = three _ _ _ h in r_forth w 0x33 2 0 l (is_same _ 0x33 t.0) (is_same _ 2 t.1) (is_same _ 0 t.2)
of_coded Sltu w l k h = let t = three _ _ _ h in r_forth w 0x33 3 0 l (is_same _ 0x33 t.0) (is_same _ 3 t.1) (is_same _ 0 t.2)
of_coded Xor w l k h = let t = three _ _ _ h in r_forth w 0x33 4 0 l (is_same _ 0x33 t.0) (is_same _ 4 t.1) (is_same _ 0 t.2)
of_coded Srl w l k h = let t = three _ _ _ h in r_forth w 0x33 5 0 l (is_same _ 0x33 t.0) (is_same _ 5 t.1) (is_same _ 0 t.2)
of_coded Sra w l k h = let t = three _ _ _ h in r_forth w 0x33 5 0x20 l (is_same _ 0x33 t.0) (is_same _ 5 t.1) (is_same _ 0x20 t.2)
of_coded Or w l k h = let t = three _ _ _ h in r_forth w 0x33 6 0 l (is_same _ 0x33 t.0) (is_same _ 6 t.1) (is_same _ 0 t.2)
of_coded And w l k h = let t = three _ _ _ h in r_forth w 0x33 7 0 l (is_same _ 0x33 t.0) (is_same _ 7 t.1) (is_same _ 0 t.2)
of_coded Mul w l k h = let t = three _ _ _ h in r_forth w 0x33 0 1 l (is_same _ 0x33 t.0) (is_same _ 0 t.1) (is_same _ 1 t.2)
of_coded Mulh w l k h = let t = three _ _ _ h in r_forth w 0x33 1 1 l (is_same _ 0x33 t.0) (is_same _ 1 t.1) (is_same _ 1 t.2)
of_coded Mulhsu w l k h = let t = three _ _ _ h in r_forth w 0x33 2 1 l (is_same _ 0x33 t.0) (is_same _ 2 t.1) (is_same _ 1 t.2)
of_coded Mulhu w l k h = let t = three _ _ _ h in r_forth w 0x33 3 1 l (is_same _ 0x33 t.0) (is_same _ 3 t.1) (is_same _ 1 t.2)
of_coded Div w l k h = let t = three _ _ _ h in r_forth w 0x33 4 1 l (is_same _ 0x33 t.0) (is_same _ 4 t.1) (is_same _ 1 t.2)
of_coded Divu w l k h = let t = three _ _ _ h in r_forth w 0x33 5 1 l (is_same _ 0x33 t.0) (is_same _ 5 t.1) (is_same _ 1 t.2)
of_coded Rem w l k h = let t = three _ _ _ h in r_forth w 0x33 6 1 l (is_same _ 0x33 t.0) (is_same _ 6 t.1) (is_same _ 1 t.2)
of_coded Remu w l k h = let t = three _ _ _ h in r_forth w 0x33 7 1 l (is_same _ 0x33 t.0) (is_same _ 7 t.1) (is_same _ 1 t.2)
of_coded Fence w l k h = let t = three _ _ _ h in order_forth w 0x0F 0 l (is_same _ 0x0F t.0) (is_same _ 0 t.1)
of_coded Ebreak w l k h = absurd cc

coded_case : (w : ℕ) (l : Line) (o : Option Op) → w < 2 ^ 32 → op_of (bits w 0 7) (bits w 12 3) (bits w 25 7) ≡ o → line_at w o ≡ Some l → encoded l ≡ w
coded_case w l None small h q = absurd cc
coded_case w l (Some op) small h q =
    let r = found_op is_coded_op coded_ops (bits w 0 7) (bits w 12 3) (bits w 25 7) op refl h in
    let e : fields (format_of op) op w ≡ l = cc in
    ap encoded (sym e) ∙ of_coded op w small r.1 r.0

pub encoded-decoded : (w : ℕ) (l : Line) → w < 2 ^ 32 → decode w ≡ Some l → encoded l ≡ w
encoded-decoded w l small h = elim (truth (w == 0x00100073)) [
  | inl t ↦ let e : Some (made Ebreak 0 0 0 0) ≡ Some l = sym (ap (λ b. line_at w (cond b (Some Ebreak) (op_of (bits w 0 7) (bits w 12 3) (bits w 25 7)))) t) ∙ h in let q : made Ebreak 0 0 0 0 ≡ l = cc in ap encoded (sym q) ∙ sym (is_same w 0x00100073 t)
  | inr t ↦ coded_case w l (op_of (bits w 0 7) (bits w 12 3) (bits w 25 7)) small refl (sym (ap (λ b. line_at w (cond b (Some Ebreak) (op_of (bits w 0 7) (bits w 12 3) (bits w 25 7)))) t) ∙ h)
]
