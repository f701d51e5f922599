-- Each row has words of its own.
use Rattle.std.proofs.Common.{◌≡◌, ℕ, ℤ, FitsSigned, ◌<◌, ◌%◌, true, cond, Some, sym, ap, ◌∙◌, arith, refl}
use Rattle.std.specs.Int.{cast_signed, w32}
use Rattle.std.proofs.lemmas.Int.{to_z-of_z}
use Rattle.im_rv.specs.declared.instr.Op.{Op}
use Rattle.im_rv.specs.declared.instr.Op.TheVariants.{Lui, Auipc, Jal, Jalr, Beq, Bne, Blt, Bge, Bltu, Bgeu, Lb, Lh, Lw, Lbu, Lhu, Sb, Sh, Sw, Addi, Slti, Sltiu, Xori, Ori, Andi, Slli, Srli, Srai, Add, Sub, Sll, Slt, Sltu, Xor, Srl, Sra, Or, And, Mul, Mulh, Mulhsu, Mulhu, Div, Divu, Rem, Remu, Fence, Ebreak}
use Rattle.im_rv.specs.Decode.{bits, op_of, op_in}
use Rattle.im_rv.specs.Steps.{word}
use Rattle.im_rv.specs.Laws.{is_word_of, LinesApart, RowsApart, RowsReached}
use Rattle.im_rv.proofs.Encoding.{is_same, op_found}
use Rattle.im_rv.proofs.Decoding.{three}

-- a word of an operation is found as that
all_numbers : (w o f g : ℕ) (op : Op) → o < 115 → bits w 0 7 ≡ o → bits w 12 3 ≡ f → bits w 25 7 ≡ g → op_of o f g ≡ Some op → op_in w ≡ Some op
all_numbers w o f g op l eo ef eg h = let e : w % 128 ≡ o = omega arith in op_found w o f g op l e ef eg h

of_word : (op : Op) (w : ℕ) → is_word_of op w ≡ true → op_in w ≡ Some op
of_word Lui w h = let t = three _ _ _ h in all_numbers w 0x37 (bits w 12 3) (bits w 25 7) Lui (omega arith) (is_same _ 0x37 t.0) refl refl refl
of_word Auipc w h = let t = three _ _ _ h in all_numbers w 0x17 (bits w 12 3) (bits w 25 7) Auipc (omega arith) (is_same _ 0x17 t.0) refl refl refl
of_word Jal w h = let t = three _ _ _ h in all_numbers w 0x6F (bits w 12 3) (bits w 25 7) Jal (omega arith) (is_same _ 0x6F t.0) refl refl refl
of_word Jalr w h = let t = three _ _ _ h in all_numbers w 0x67 0 (bits w 25 7) Jalr (omega arith) (is_same _ 0x67 t.0) (is_same _ 0 t.1) refl refl
of_word Beq w h = let t = three _ _ _ h in all_numbers w 0x63 0 (bits w 25 7) Beq (omega arith) (is_same _ 0x63 t.0) (is_same _ 0 t.1) refl refl
of_word Bne w h = let t = three _ _ _ h in all_numbers w 0x63 1 (bits w 25 7) Bne (omega arith) (is_same _ 0x63 t.0) (is_same _ 1 t.1) refl refl
of_word Blt w h = let t = three _ _ _ h in all_numbers w 0x63 4 (bits w 25 7) Blt (omega arith) (is_same _ 0x63 t.0) (is_same _ 4 t.1) refl refl
of_word Bge w h = let t = three _ _ _ h in all_numbers w 0x63 5 (bits w 25 7) Bge (omega arith) (is_same _ 0x63 t.0) (is_same _ 5 t.1) refl refl
of_word Bltu w h = let t = three _ _ _ h in all_numbers w 0x63 6 (bits w 25 7) Bltu (omega arith) (is_same _ 0x63 t.0) (is_same _ 6 t.1) refl refl
of_word Bgeu w h = let t = three _ _ _ h in all_numbers w 0x63 7 (bits w 25 7) Bgeu (omega arith) (is_same _ 0x63 t.0) (is_same _ 7 t.1) refl refl
of_word Lb w h = let t = three _ _ _ h in all_numbers w 0x03 0 (bits w 25 7) Lb (omega arith) (is_same _ 0x03 t.0) (is_same _ 0 t.1) refl refl
of_word Lh w h = let t = three _ _ _ h in all_numbers w 0x03 1 (bits w 25 7) Lh (omega arith) (is_same _ 0x03 t.0) (is_same _ 1 t.1) refl refl
of_word Lw w h = let t = three _ _ _ h in all_numbers w 0x03 2 (bits w 25 7) Lw (omega arith) (is_same _ 0x03 t.0) (is_same _ 2 t.1) refl refl
of_word Lbu w h = let t = three _ _ _ h in all_numbers w 0x03 4 (bits w 25 7) Lbu (omega arith) (is_same _ 0x03 t.0) (is_same _ 4 t.1) refl refl
of_word Lhu w h = let t = three _ _ _ h in all_numbers w 0x03 5 (bits w 25 7) Lhu (omega arith) (is_same _ 0x03 t.0) (is_same _ 5 t.1) refl refl
of_word Sb w h = let t = three _ _ _ h in all_numbers w 0x23 0 (bits w 25 7) Sb (omega arith) (is_same _ 0x23 t.0) (is_same _ 0 t.1) refl refl
of_word Sh w h = let t = three _ _ _ h in all_numbers w 0x23 1 (bits w 25 7) Sh (omega arith) (is_same _ 0x23 t.0) (is_same _ 1 t.1) refl refl
of_word Sw w h = let t = three _ _ _ h in all_numbers w 0x23 2 (bits w 25 7) Sw (omega arith) (is_same _ 0x23 t.0) (is_same _ 2 t.1) refl refl
of_word Addi w h = let t = three _ _ _ h in all_numbers w 0x13 0 (bits w 25 7) Addi (omega arith) (is_same _ 0x13 t.0) (is_same _ 0 t.1) refl refl
of_word Slti w h = let t = three _ _ _ h in all_numbers w 0x13 2 (bits w 25 7) Slti (omega arith) (is_same _ 0x13 t.0) (is_same _ 2 t.1) refl refl
of_word Sltiu w h = let t = three _ _ _ h in all_numbers w 0x13 3 (bits w 25 7) Sltiu (omega arith) (is_same _ 0x13 t.0) (is_same _ 3 t.1) refl refl
of_word Xori w h = let t = three _ _ _ h in all_numbers w 0x13 4 (bits w 25 7) Xori (omega arith) (is_same _ 0x13 t.0) (is_same _ 4 t.1) refl refl
of_word Ori w h = let t = three _ _ _ h in all_numbers w 0x13 6 (bits w 25 7) Ori (omega arith) (is_same _ 0x13 t.0) (is_same _ 6 t.1) refl refl
of_word Andi w h = let t = three _ _ _ h in all_numbers w 0x13 7 (bits w 25 7) Andi (omega arith) (is_same _ 0x13 t.0) (is_same _ 7 t.1) refl refl
of_word Slli w h = let t = three _ _ _ h in all_numbers w 0x13 1 0 Slli (omega arith) (is_same _ 0x13 t.0) (is_same _ 1 t.1) (is_same _ 0 t.2) refl
of_word Srli w h = let t = three _ _ _ h in all_numbers w 0x13 5 0 Srli (omega arith) (is_same _ 0x13 t.0) (is_same _ 5 t.1) (is_same _ 0 t.2) refl
of_word Srai w h = let t = three _ _ _ h in all_numbers w 0x13 5 0x20 Srai (omega arith) (is_same _ 0x13 t.0) (is_same _ 5 t.1) (is_same _ 0x20 t.2) refl
of_word Add w h = let t = three _ _ _ h in all_numbers w 0x33 0 0 Add (omega arith) (is_same _ 0x33 t.0) (is_same _ 0 t.1) (is_same _ 0 t.2) refl
of_word Sub w h = let t = three _ _ _ h in all_numbers w 0x33 0 0x20 Sub (omega arith) (is_same _ 0x33 t.0) (is_same _ 0 t.1) (is_same _ 0x20 t.2) refl
of_word Sll w h = let t = three _ _ _ h in all_numbers w 0x33 1 0 Sll (omega arith) (is_same _ 0x33 t.0) (is_same _ 1 t.1) (is_same _ 0 t.2) refl
of_word Slt w h = let t = three _ _ _ h in all_numbers w 0x33 2 0 Slt (omega arith) (is_same _ 0x33 t.0) (is_same _ 2 t.1) (is_same _ 0 t.2) refl
of_word Sltu w h = let t = three _ _ _ h in all_numbers w 0x33 3 0 Sltu (omega arith) (is_same _ 0x33 t.0) (is_same _ 3 t.1) (is_same _ 0 t.2) refl
of_word Xor w h = let t = three _ _ _ h in all_numbers w 0x33 4 0 Xor (omega arith) (is_same _ 0x33 t.0) (is_same _ 4 t.1) (is_same _ 0 t.2) refl
of_word Srl w h = let t = three _ _ _ h in all_numbers w 0x33 5 0 Srl (omega arith) (is_same _ 0x33 t.0) (is_same _ 5 t.1) (is_same _ 0 t.2) refl
of_word Sra w h = let t = three _ _ _ h in all_numbers w 0x33 5 0x20 Sra (omega arith) (is_same _ 0x33 t.0) (is_same _ 5 t.1) (is_same _ 0x20 t.2) refl
of_word Or w h = let t = three _ _ _ h in all_numbers w 0x33 6 0 Or (omega arith) (is_same _ 0x33 t.0) (is_same _ 6 t.1) (is_same _ 0 t.2) refl
of_word And w h = let t = three _ _ _ h in all_numbers w 0x33 7 0 And (omega arith) (is_same _ 0x33 t.0) (is_same _ 7 t.1) (is_same _ 0 t.2) refl
of_word Mul w h = let t = three _ _ _ h in all_numbers w 0x33 0 1 Mul (omega arith) (is_same _ 0x33 t.0) (is_same _ 0 t.1) (is_same _ 1 t.2) refl
of_word Mulh w h = let t = three _ _ _ h in all_numbers w 0x33 1 1 Mulh (omega arith) (is_same _ 0x33 t.0) (is_same _ 1 t.1) (is_same _ 1 t.2) refl
of_word Mulhsu w h = let t = three _ _ _ h in all_numbers w 0x33 2 1 Mulhsu (omega arith) (is_same _ 0x33 t.0) (is_same _ 2 t.1) (is_same _ 1 t.2) refl
of_word Mulhu w h = let t = three _ _ _ h in all_numbers w 0x33 3 1 Mulhu (omega arith) (is_same _ 0x33 t.0) (is_same _ 3 t.1) (is_same _ 1 t.2) refl
of_word Div w h = let t = three _ _ _ h in all_numbers w 0x33 4 1 Div (omega arith) (is_same _ 0x33 t.0) (is_same _ 4 t.1) (is_same _ 1 t.2) refl
of_word Divu w h = let t = three _ _ _ h in all_numbers w 0x33 5 1 Divu (omega arith) (is_same _ 0x33 t.0) (is_same _ 5 t.1) (is_same _ 1 t.2) refl
of_word Rem w h = let t = three _ _ _ h in all_numbers w 0x33 6 1 Rem (omega arith) (is_same _ 0x33 t.0) (is_same _ 6 t.1) (is_same _ 1 t.2) refl
of_word Remu w h = let t = three _ _ _ h in all_numbers w 0x33 7 1 Remu (omega arith) (is_same _ 0x33 t.0) (is_same _ 7 t.1) (is_same _ 1 t.2) refl
of_word Fence w h = let t = three _ _ _ h in all_numbers w 0x0F 0 (bits w 25 7) Fence (omega arith) (is_same _ 0x0F t.0) (is_same _ 0 t.1) refl refl
of_word Ebreak w h = ap (λ b. cond b (Some Ebreak) (op_of (bits w 0 7) (bits w 12 3) (bits w 25 7))) h

pub rows_apart : RowsApart
rows_apart w p q hp hq = let e : Some p ≡ Some q = sym (of_word p w hp) ∙ of_word q w hq in cc

pub rows_reached : RowsReached
rows_reached Lui = (0x00000037, omega arith, refl)
rows_reached Auipc = (0x00000017, omega arith, refl)
rows_reached Jal = (0x0000006F, omega arith, refl)
rows_reached Jalr = (0x00000067, omega arith, refl)
rows_reached Beq = (0x00000063, omega arith, refl)
rows_reached Bne = (0x00001063, omega arith, refl)
rows_reached Blt = (0x00004063, omega arith, refl)
rows_reached Bge = (0x00005063, omega arith, refl)
rows_reached Bltu = (0x00006063, omega arith, refl)
rows_reached Bgeu = (0x00007063, omega arith, refl)
rows_reached Lb = (0x00000003, omega arith, refl)
rows_reached Lh = (0x00001003, omega arith, refl)
rows_reached Lw = (0x00002003, omega arith, refl)
rows_reached Lbu = (0x00004003, omega arith, refl)
rows_reached Lhu = (0x00005003, omega arith, refl)
rows_reached Sb = (0x00000023, omega arith, refl)
rows_reached Sh = (0x00001023, omega arith, refl)
rows_reached Sw = (0x00002023, omega arith, refl)
rows_reached Addi = (0x00000013, omega arith, refl)
rows_reached Slti = (0x00002013, omega arith, refl)
rows_reached Sltiu = (0x00003013, omega arith, refl)
rows_reached Xori = (0x00004013, omega arith, refl)
rows_reached Ori = (0x00006013, omega arith, refl)
rows_reached Andi = (0x00007013, omega arith, refl)
rows_reached Slli = (0x00001013, omega arith, refl)
rows_reached Srli = (0x00005013, omega arith, refl)
rows_reached Srai = (0x40005013, omega arith, refl)
rows_reached Add = (0x00000033, omega arith, refl)
rows_reached Sub = (0x40000033, omega arith, refl)
rows_reached Sll = (0x00001033, omega arith, refl)
rows_reached Slt = (0x00002033, omega arith, refl)
rows_reached Sltu = (0x00003033, omega arith, refl)
rows_reached Xor = (0x00004033, omega arith, refl)
rows_reached Srl = (0x00005033, omega arith, refl)
rows_reached Sra = (0x40005033, omega arith, refl)
rows_reached Or = (0x00006033, omega arith, refl)
rows_reached And = (0x00007033, omega arith, refl)
rows_reached Mul = (0x02000033, omega arith, refl)
rows_reached Mulh = (0x02001033, omega arith, refl)
rows_reached Mulhsu = (0x02002033, omega arith, refl)
rows_reached Mulhu = (0x02003033, omega arith, refl)
rows_reached Div = (0x02004033, omega arith, refl)
rows_reached Divu = (0x02005033, omega arith, refl)
rows_reached Rem = (0x02006033, omega arith, refl)
rows_reached Remu = (0x02007033, omega arith, refl)
rows_reached Fence = (0x0000000F, omega arith, refl)
rows_reached Ebreak = (0x00100073, omega arith, refl)

-- an immediate of 32 bits is back from its word
immediate_apart : (i j : ℤ) → FitsSigned w32 i → FitsSigned w32 j → word i ≡ word j → i ≡ j
immediate_apart i j f g h = sym (to_z-of_z w32 i f) ∙ ap (cast_signed w32) h ∙ to_z-of_z w32 j g

pub lines_apart : LinesApart
lines_apart i j f g h = (ap (λ l. l.op) h, ap (λ l. l.rd) h, ap (λ l. l.rs1) h, ap (λ l. l.rs2) h, immediate_apart i.imm j.imm f g (ap (λ l. l.imm) h))
