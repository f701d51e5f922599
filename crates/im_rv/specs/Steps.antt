-- One step of the machine, a row for each operation (RISC-V Unprivileged ISA, RV32I 2.1 and M 2.0).
use Rattle.std.specs.Prelude.{ℕ, ℤ, pos, ◌+◌, ◌-◌, ◌*◌, ◌/◌, ◌%◌, ◌^◌, ◌*ℤ◌, Bool, cond, ◌&&◌, ◌==◌, nat_lt, Option, Some, None, List, slice_index, int_div, int_rem, int_lt, bit_and, bit_or, bit_xor}
use Rattle.std.specs.Int.{cast_unsigned, cast_signed, w32, w64, int_shr}
use Rattle.im_rv.specs.declared.instr.Op.{Op}
use Rattle.im_rv.specs.declared.instr.Op.TheVariants.{Lui, Auipc, Jal, Jalr, Beq, Bne, Blt, Bge, Bltu, Bgeu, Lb, Lh, Lw, Lbu, Lhu, Sb, Sh, Sw, Addi, Slti, Sltiu, Xori, Ori, Andi, Slli, Srli, Srai, Add, Sub, Sll, Slt, Sltu, Xor, Srl, Sra, Or, And, Mul, Mulh, Mulhsu, Mulhu, Div, Divu, Rem, Remu, Fence, Ebreak}
use Rattle.im_rv.specs.declared.step.Went.{Went}
use Rattle.im_rv.specs.declared.step.Went.TheVariants.{On, Halted, Faulted}
use Rattle.im_rv.specs.declared.effect.Effect.{Effect}
use Rattle.im_rv.specs.declared.effect.Effect.TheVariants.{Puts, Goes, Loads, Stores, Stops}
use Rattle.im_rv.specs.declared.effect.Extension.{Extension}
use Rattle.im_rv.specs.declared.effect.Extension.TheVariants.{Sign, Zero}
use Rattle.im_rv.specs.declared.step.Regs.{Regs}
use Rattle.im_mem.specs.Memory.{Mem, loaded, stored, is_place}

-- a place in the code, and the registers, of which register 0 is 0
pub record Cpu : Type 0 where
  pub pc : ℕ
  pub x : ℕ → ℕ

-- what a step leaves
pub record Stepped : Type 0 where
  pub went : Went
  pub cpu : Cpu
  pub mem : Mem

-- a signed number as a word, and a word as a signed number
abbrev pub word : ℤ → ℕ
word z = cast_unsigned w32 z

abbrev pub signed : ℕ → ℤ
signed a = cast_signed w32 a

abbrev pub sum_of : ℕ → ℕ → ℕ
sum_of a b = (a + b) % 2 ^ 32

abbrev pub difference_of : ℕ → ℕ → ℕ
difference_of a b = (a + (2 ^ 32 - b)) % 2 ^ 32

-- a number of n bits, sign extended to a word
abbrev pub signed_bits : ℕ → ℕ → ℕ
signed_bits n v = cond (nat_lt v (2 ^ (n - 1))) v (v + (2 ^ 32 - 2 ^ n))

abbrev pub with_reg : (ℕ → ℕ) → ℕ → ℕ → ℕ → ℕ
with_reg x rd v = λ i. cond (i == rd && nat_lt 0 rd) v (x i)

abbrev pub less_signed : ℕ → ℕ → Bool
less_signed a b = int_lt (signed a) (signed b)

abbrev pub as_number : Bool → ℕ
as_number b = cond b 1 0

-- shifts by the low five bits of b
abbrev pub shift_left : ℕ → ℕ → ℕ
shift_left a b = a * 2 ^ (b % 32) % 2 ^ 32

abbrev pub shift_right : ℕ → ℕ → ℕ
shift_right a b = a / 2 ^ (b % 32)

abbrev pub shift_right_signed : ℕ → ℕ → ℕ
shift_right_signed a b = word (int_shr (signed a) (b % 32))

-- the upper word of a product of 64 bits
abbrev pub upper_word : ℤ → ℕ
upper_word z = cast_unsigned w64 z / 2 ^ 32

-- the quotient of -2^31 by -1 is -2^31, with remainder 0
abbrev pub overflows : ℕ → ℕ → Bool
overflows a b = a == 0x80000000 && b == 0xFFFFFFFF

abbrev pub quotient : ℕ → ℕ → ℕ
quotient a b = cond (b == 0) 0xFFFFFFFF (cond (overflows a b) 0x80000000 (word (int_div (signed a) (signed b))))

abbrev pub quotient_unsigned : ℕ → ℕ → ℕ
quotient_unsigned a b = cond (b == 0) 0xFFFFFFFF (a / b)

abbrev pub remainder : ℕ → ℕ → ℕ
remainder a b = cond (b == 0) a (cond (overflows a b) 0 (word (int_rem (signed a) (signed b))))

abbrev pub remainder_unsigned : ℕ → ℕ → ℕ
remainder_unsigned a b = cond (b == 0) a (a % b)

-- the table: operation, place, the values of rs1 and rs2, immediate
abbrev pub row : Op → ℕ → ℕ → ℕ → ℕ → Effect
row Lui pc a b imm = Puts (imm * 4096 % 2 ^ 32) (sum_of pc 4)
row Auipc pc a b imm = Puts (sum_of pc (imm * 4096 % 2 ^ 32)) (sum_of pc 4)
row Jal pc a b imm = Puts (sum_of pc 4) (sum_of pc imm)
row Jalr pc a b imm = Puts (sum_of pc 4) (sum_of a imm - sum_of a imm % 2)
row Beq pc a b imm = Goes (cond (a == b) (sum_of pc imm) (sum_of pc 4))
row Bne pc a b imm = Goes (cond (a == b) (sum_of pc 4) (sum_of pc imm))
row Blt pc a b imm = Goes (cond (less_signed a b) (sum_of pc imm) (sum_of pc 4))
row Bge pc a b imm = Goes (cond (less_signed a b) (sum_of pc 4) (sum_of pc imm))
row Bltu pc a b imm = Goes (cond (nat_lt a b) (sum_of pc imm) (sum_of pc 4))
row Bgeu pc a b imm = Goes (cond (nat_lt a b) (sum_of pc 4) (sum_of pc imm))
row Lb pc a b imm = Loads (sum_of a imm) 1 Sign
row Lh pc a b imm = Loads (sum_of a imm) 2 Sign
row Lw pc a b imm = Loads (sum_of a imm) 4 Zero
row Lbu pc a b imm = Loads (sum_of a imm) 1 Zero
row Lhu pc a b imm = Loads (sum_of a imm) 2 Zero
row Sb pc a b imm = Stores (sum_of a imm) 1 b
row Sh pc a b imm = Stores (sum_of a imm) 2 b
row Sw pc a b imm = Stores (sum_of a imm) 4 b
row Addi pc a b imm = Puts (sum_of a imm) (sum_of pc 4)
row Slti pc a b imm = Puts (as_number (less_signed a imm)) (sum_of pc 4)
row Sltiu pc a b imm = Puts (as_number (nat_lt a imm)) (sum_of pc 4)
row Xori pc a b imm = Puts (bit_xor a imm) (sum_of pc 4)
row Ori pc a b imm = Puts (bit_or a imm) (sum_of pc 4)
row Andi pc a b imm = Puts (bit_and a imm) (sum_of pc 4)
row Slli pc a b imm = Puts (shift_left a imm) (sum_of pc 4)
row Srli pc a b imm = Puts (shift_right a imm) (sum_of pc 4)
row Srai pc a b imm = Puts (shift_right_signed a imm) (sum_of pc 4)
row Add pc a b imm = Puts (sum_of a b) (sum_of pc 4)
row Sub pc a b imm = Puts (difference_of a b) (sum_of pc 4)
row Sll pc a b imm = Puts (shift_left a b) (sum_of pc 4)
row Slt pc a b imm = Puts (as_number (less_signed a b)) (sum_of pc 4)
row Sltu pc a b imm = Puts (as_number (nat_lt a b)) (sum_of pc 4)
row Xor pc a b imm = Puts (bit_xor a b) (sum_of pc 4)
row Srl pc a b imm = Puts (shift_right a b) (sum_of pc 4)
row Sra pc a b imm = Puts (shift_right_signed a b) (sum_of pc 4)
row Or pc a b imm = Puts (bit_or a b) (sum_of pc 4)
row And pc a b imm = Puts (bit_and a b) (sum_of pc 4)
row Mul pc a b imm = Puts (a * b % 2 ^ 32) (sum_of pc 4)
row Mulh pc a b imm = Puts (upper_word (signed a *ℤ signed b)) (sum_of pc 4)
row Mulhsu pc a b imm = Puts (upper_word (signed a *ℤ pos b)) (sum_of pc 4)
row Mulhu pc a b imm = Puts (a * b / 2 ^ 32) (sum_of pc 4)
row Div pc a b imm = Puts (quotient a b) (sum_of pc 4)
row Divu pc a b imm = Puts (quotient_unsigned a b) (sum_of pc 4)
row Rem pc a b imm = Puts (remainder a b) (sum_of pc 4)
row Remu pc a b imm = Puts (remainder_unsigned a b) (sum_of pc 4)
row Fence pc a b imm = Goes (sum_of pc 4)
row Ebreak pc a b imm = Stops

-- the processor and memory as they were
abbrev pub faulted : Cpu → Mem → Stepped
faulted c m = record { went = Faulted c.pc; cpu = c; mem = m }

-- the lowest n bits, sign extended
abbrev pub sign_extended : ℕ → ℕ → ℕ
sign_extended n v = cond (nat_lt v (2 ^ (n - 1))) v (sum_of v (2 ^ 32 - 2 ^ n))

-- a loaded byte or half as a word; a word is as it is
abbrev pub extended : ℕ → Extension → ℕ → ℕ
extended n Sign v = cond (n == 1) (sign_extended 8 v) (cond (n == 2) (sign_extended 16 v) v)
extended n Zero v = v

abbrev pub loads : Cpu → Mem → ℕ → ℕ → Extension → Option ℕ → Stepped
loads c m rd n extension None = faulted c m
loads c m rd n extension (Some v) = record { went = On; cpu = record { pc = sum_of c.pc 4; x = with_reg c.x rd (extended n extension v) }; mem = m }

abbrev pub effected : Cpu → Mem → ℕ → Effect → Stepped
effected c m rd (Puts v target) = record { went = On; cpu = record { pc = target; x = with_reg c.x rd v }; mem = m }
effected c m rd (Goes target) = record { went = On; cpu = record { pc = target; x = c.x }; mem = m }
effected c m rd (Loads a n extension) = loads c m rd n extension (loaded m a n)
effected c m rd (Stores a n v) = cond (is_place a n) (record { went = On; cpu = record { pc = sum_of c.pc 4; x = c.x }; mem = stored m a n v }) (faulted c m)
effected c m rd Stops = record { went = Halted; cpu = c; mem = m }

-- one instruction
abbrev pub done_by : Cpu → Mem → Op → ℕ → ℕ → ℕ → ℕ → Stepped
done_by c m op rd rs1 rs2 imm = effected c m rd (row op c.pc (c.x rs1) (c.x rs2) imm)

-- the registers of a list, register 0 being 0
abbrev pub regs_of : List ℕ → ℕ → ℕ
regs_of xs = λ i. cond (i == 0) 0 (slice_index xs i)

abbrev pub cpu_of : Regs → Cpu
cpu_of r = record { pc = r.pc; x = regs_of r.x }
