-- The word that an instruction's fields make: the inverse of decoding, as the laws say.
use Rattle.std.specs.Prelude.{ℕ, ◌+◌, ◌*◌, ◌/◌, ◌%◌, unwrap_or}
use Rattle.im_rv.specs.declared.format.Format.{Format}
use Rattle.im_rv.specs.declared.format.Format.TheVariants.{Register, Immediate, Shift, Store, Branch, Upper, Jump, Order, Whole}
use Rattle.im_rv.specs.declared.instr.Op.{Op}
use Rattle.im_rv.specs.Formats.{codes, format_of}
use Rattle.im_rv.specs.Steps.{sum_of}
use Rattle.im_rv.specs.Decode.{Line}

-- the code numbers of an operation in their places
abbrev pub code_bits : Op → ℕ
code_bits op = (codes op).opcode + unwrap_or (codes op).funct3 0 * 4096 + unwrap_or (codes op).funct7 0 * 33554432

abbrev pub at_rd : ℕ → ℕ
at_rd r = r % 32 * 128

abbrev pub at_rs1 : ℕ → ℕ
at_rs1 r = r % 32 * 32768

abbrev pub at_rs2 : ℕ → ℕ
at_rs2 r = r % 32 * 1048576

-- the scattered immediates (ISA, 2.3)
abbrev pub branch_bits : ℕ → ℕ
branch_bits i = i / 2048 % 2 * 128 + i / 2 % 16 * 256 + i / 32 % 64 * 33554432 + i / 4096 % 2 * 2147483648

abbrev pub jump_bits : ℕ → ℕ
jump_bits i = i / 4096 % 256 * 4096 + i / 2048 % 2 * 1048576 + i / 2 % 1024 * 2097152 + i / 1048576 % 2 * 2147483648

-- rd, rs1, rs2 and the immediate in their places
abbrev pub assembled : Format → ℕ → ℕ → ℕ → ℕ → ℕ
assembled Register d a b i = at_rd d + at_rs1 a + at_rs2 b
assembled Immediate d a b i = at_rd d + at_rs1 a + i % 4096 * 1048576
assembled Shift d a b i = at_rd d + at_rs1 a + i % 32 * 1048576
assembled Store d a b i = at_rs1 a + at_rs2 b + i % 32 * 128 + i / 32 % 128 * 33554432
assembled Branch d a b i = at_rs1 a + at_rs2 b + branch_bits i
assembled Upper d a b i = at_rd d + i % 1048576 * 4096
assembled Jump d a b i = at_rd d + jump_bits i
assembled Order d a b i = at_rd d + at_rs1 a + i % 4096 * 1048576
assembled Whole d a b i = 1048576

abbrev pub encoded : Line → ℕ
encoded l = sum_of (code_bits l.op) (assembled (format_of l.op) l.rd l.rs1 l.rs2 l.imm)
