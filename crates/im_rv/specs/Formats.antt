-- The table of operations: the format and the code numbers of each (RISC-V Unprivileged ISA,
-- chapter "RV32/64G Instruction Set Listings").
use Rattle.std.specs.Prelude.{ℕ, Option, Some, None, List, [], ◌∷◌}
use Rattle.im_rv.specs.declared.format.Format.{Format}
use Rattle.im_rv.specs.declared.format.Format.TheVariants.{Register, Immediate, Shift, Store, Branch, Upper, Jump, Order, Whole}
use Rattle.im_rv.specs.declared.instr.Op.{Op}
use Rattle.im_rv.specs.declared.instr.Op.TheVariants.{Lui, Auipc, Jal, Jalr, Beq, Bne, Blt, Bge, Bltu, Bgeu, Lb, Lh, Lw, Lbu, Lhu, Sb, Sh, Sw, Addi, Slti, Sltiu, Xori, Ori, Andi, Slli, Srli, Srai, Add, Sub, Sll, Slt, Sltu, Xor, Srl, Sra, Or, And, Mul, Mulh, Mulhsu, Mulhu, Div, Divu, Rem, Remu, Fence, Ebreak}

-- funct3 and funct7 where the format has them
pub record Codes : Type 0 where
  pub format : Format
  pub opcode : ℕ
  pub funct3 : Option ℕ
  pub funct7 : Option ℕ

abbrev pub upper : ℕ → Codes
upper opcode = record { format = Upper; opcode = opcode; funct3 = None; funct7 = None }

abbrev pub branch : ℕ → Codes
branch f = record { format = Branch; opcode = 0x63; funct3 = Some f; funct7 = None }

abbrev pub immediate : ℕ → ℕ → Codes
immediate opcode f = record { format = Immediate; opcode = opcode; funct3 = Some f; funct7 = None }

abbrev pub store : ℕ → Codes
store f = record { format = Store; opcode = 0x23; funct3 = Some f; funct7 = None }

abbrev pub shift : ℕ → ℕ → Codes
shift g f = record { format = Shift; opcode = 0x13; funct3 = Some f; funct7 = Some g }

abbrev pub register : ℕ → ℕ → Codes
register g f = record { format = Register; opcode = 0x33; funct3 = Some f; funct7 = Some g }

abbrev pub codes : Op → Codes
codes Lui = upper 0x37
codes Auipc = upper 0x17
codes Jal = record { format = Jump; opcode = 0x6F; funct3 = None; funct7 = None }
codes Jalr = immediate 0x67 0
codes Beq = branch 0
codes Bne = branch 1
codes Blt = branch 4
codes Bge = branch 5
codes Bltu = branch 6
codes Bgeu = branch 7
codes Lb = immediate 0x03 0
codes Lh = immediate 0x03 1
codes Lw = immediate 0x03 2
codes Lbu = immediate 0x03 4
codes Lhu = immediate 0x03 5
codes Sb = store 0
codes Sh = store 1
codes Sw = store 2
codes Addi = immediate 0x13 0
codes Slti = immediate 0x13 2
codes Sltiu = immediate 0x13 3
codes Xori = immediate 0x13 4
codes Ori = immediate 0x13 6
codes Andi = immediate 0x13 7
codes Slli = shift 0 1
codes Srli = shift 0 5
codes Srai = shift 0x20 5
codes Add = register 0 0
codes Sub = register 0x20 0
codes Sll = register 0 1
codes Slt = register 0 2
codes Sltu = register 0 3
codes Xor = register 0 4
codes Srl = register 0 5
codes Sra = register 0x20 5
codes Or = register 0 6
codes And = register 0 7
codes Mul = register 1 0
codes Mulh = register 1 1
codes Mulhsu = register 1 2
codes Mulhu = register 1 3
codes Div = register 1 4
codes Divu = register 1 5
codes Rem = register 1 6
codes Remu = register 1 7
codes Fence = record { format = Order; opcode = 0x0F; funct3 = Some 0; funct7 = None }
codes Ebreak = record { format = Whole; opcode = 0x73; funct3 = Some 0; funct7 = None }

abbrev pub format_of : Op → Format
format_of op = (codes op).format

-- each operation but ebreak, which is one whole word
abbrev pub coded_ops : List Op
coded_ops =
    Lui ∷ Auipc ∷ Jal ∷ Jalr ∷ Beq ∷ Bne ∷ Blt ∷ Bge ∷ Bltu ∷ Bgeu ∷ Lb ∷ Lh ∷ Lw ∷ Lbu ∷ Lhu ∷ Sb ∷ Sh ∷ Sw ∷ Addi ∷ Slti ∷ Sltiu ∷ Xori ∷ Ori ∷ Andi ∷ Slli ∷ Srli ∷ Srai ∷ Add ∷ Sub ∷ Sll ∷ Slt ∷ Sltu ∷ Xor ∷ Srl ∷ Sra ∷ Or ∷ And ∷ Mul ∷ Mulh ∷ Mulhsu ∷ Mulhu ∷ Div ∷ Divu ∷ Rem ∷ Remu ∷ Fence ∷ []
