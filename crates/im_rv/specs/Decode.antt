-- Words as instructions.
use Rattle.std.specs.Prelude.{ℕ, ◌+◌, ◌*◌, ◌/◌, ◌%◌, ◌^◌, Bool, true, cond, ◌&&◌, ◌==◌, Option, Some, None, List, [], ◌∷◌}
use Rattle.im_rv.specs.declared.format.Format.{Format}
use Rattle.im_rv.specs.declared.format.Format.TheVariants.{Register, Immediate, Shift, Store, Branch, Upper, Jump, Order, Whole}
use Rattle.im_rv.specs.declared.instr.Op.{Op}
use Rattle.im_rv.specs.declared.instr.Op.TheVariants.{Ebreak}
use Rattle.im_rv.specs.Formats.{codes, format_of, coded_ops}
use Rattle.im_rv.specs.Steps.{signed_bits}

-- an instruction, its immediate as a word
pub record Line : Type 0 where
  pub op : Op
  pub rd : ℕ
  pub rs1 : ℕ
  pub rs2 : ℕ
  pub imm : ℕ

-- n bits of w from bit k on
abbrev pub bits : ℕ → ℕ → ℕ → ℕ
bits w k n = w / 2 ^ k % 2 ^ n

-- the immediates that are sign extended (ISA, 2.3)
abbrev pub i_imm : ℕ → ℕ
i_imm w = signed_bits 12 (bits w 20 12)

abbrev pub s_imm : ℕ → ℕ
s_imm w = signed_bits 12 (bits w 25 7 * 32 + bits w 7 5)

abbrev pub b_imm : ℕ → ℕ
b_imm w = signed_bits 13 (bits w 31 1 * 4096 + bits w 7 1 * 2048 + bits w 25 6 * 32 + bits w 8 4 * 2)

abbrev pub j_imm : ℕ → ℕ
j_imm w = signed_bits 21 (bits w 31 1 * 1048576 + bits w 12 8 * 4096 + bits w 20 1 * 2048 + bits w 21 10 * 2)

-- the fields of a word, by format; 0 for a field that the format lacks
abbrev pub fields : Format → Op → ℕ → Line
fields Register op w = record { op = op; rd = bits w 7 5; rs1 = bits w 15 5; rs2 = bits w 20 5; imm = 0 }
fields Immediate op w = record { op = op; rd = bits w 7 5; rs1 = bits w 15 5; rs2 = 0; imm = i_imm w }
fields Shift op w = record { op = op; rd = bits w 7 5; rs1 = bits w 15 5; rs2 = 0; imm = bits w 20 5 }
fields Store op w = record { op = op; rd = 0; rs1 = bits w 15 5; rs2 = bits w 20 5; imm = s_imm w }
fields Branch op w = record { op = op; rd = 0; rs1 = bits w 15 5; rs2 = bits w 20 5; imm = b_imm w }
fields Upper op w = record { op = op; rd = bits w 7 5; rs1 = 0; rs2 = 0; imm = bits w 12 20 }
fields Jump op w = record { op = op; rd = bits w 7 5; rs1 = 0; rs2 = 0; imm = j_imm w }
fields Order op w = record { op = op; rd = bits w 7 5; rs1 = bits w 15 5; rs2 = 0; imm = bits w 20 12 }
fields Whole op w = record { op = op; rd = 0; rs1 = 0; rs2 = 0; imm = 0 }

-- a code number is the one wanted, or none is
abbrev pub is_code : Option ℕ → ℕ → Bool
is_code None n = true
is_code (Some f) n = n == f

-- an operation has this opcode, this funct3 and this funct7
abbrev pub is_coded : Op → ℕ → ℕ → ℕ → Bool
is_coded op o f g = o == (codes op).opcode && is_code (codes op).funct3 f && is_code (codes op).funct7 g

abbrev pub op_among : List Op → ℕ → ℕ → ℕ → Option Op
op_among [] o f g = None
op_among (op ∷ ops) o f g = cond (is_coded op o f g) (Some op) (op_among ops o f g)

abbrev pub op_of : ℕ → ℕ → ℕ → Option Op
op_of o f g = op_among coded_ops o f g

abbrev pub line_at : ℕ → Option Op → Option Line
line_at w None = None
line_at w (Some op) = Some (fields (format_of op) op w)

-- 0x00100073 is ebreak; any other word goes by its code numbers
abbrev pub op_in : ℕ → Option Op
op_in w = cond (w == 0x00100073) (Some Ebreak) (op_of (bits w 0 7) (bits w 12 3) (bits w 25 7))

abbrev pub decode : ℕ → Option Line
decode w = line_at w (op_in w)
