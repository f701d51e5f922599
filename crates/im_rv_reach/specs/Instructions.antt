-- Instructions, and where one stands in memory.
use Rattle.std.specs.Prelude.{◌≡◌, ◌≤◌, ◌<◌, ℕ, ◌+◌, ◌*◌, ◌%◌, ◌^◌, true, Some}
use Rattle.im_mem.specs.Map.{code_start, statics_start}
use Rattle.im_mem.specs.Memory.{Mem, little, is_place}
use Rattle.im_rv.specs.declared.instr.Op.{Op}
use Rattle.im_rv.specs.declared.instr.Op.TheVariants.{Lui, Jal}
use Rattle.im_rv.specs.Steps.{sum_of}
use Rattle.im_rv.specs.Decode.{Line as Instruction, decode}

abbrev pub with_immediate : Op → ℕ → ℕ → ℕ → Instruction
with_immediate op rd rs1 imm = record { op = op; rd = rd; rs1 = rs1; rs2 = 0; imm = imm }

abbrev pub on_registers : Op → ℕ → ℕ → ℕ → Instruction
on_registers op rd rs1 rs2 = record { op = op; rd = rd; rs1 = rs1; rs2 = rs2; imm = 0 }

abbrev pub storing : Op → ℕ → ℕ → ℕ → Instruction
storing op rs1 rs2 imm = record { op = op; rd = 0; rs1 = rs1; rs2 = rs2; imm = imm }

abbrev pub branching : Op → ℕ → ℕ → ℕ → Instruction
branching op rs1 rs2 imm = record { op = op; rd = 0; rs1 = rs1; rs2 = rs2; imm = imm }

abbrev pub upper : ℕ → ℕ → Instruction
upper rd imm = record { op = Lui; rd = rd; rs1 = 0; rs2 = 0; imm = imm }

abbrev pub jumping : ℕ → ℕ → Instruction
jumping rd imm = record { op = Jal; rd = rd; rs1 = 0; rs2 = 0; imm = imm }

-- the upper 20 bits and the signed lower 12 make a word
abbrev pub Splits : ℕ → ℕ → ℕ → Type 0
Splits hi lo n = sum_of (hi * 4096 % 2 ^ 32) lo ≡ n

-- an instruction stands at a place in the region of the code
pub record Holds (image : Mem) (pc : ℕ) (l : Instruction) : Type 0 where
  pub w : ℕ
  pub word : little image pc 4 ≡ w
  pub here : is_place pc 4 ≡ true
  pub line : decode w ≡ Some l
  pub above : code_start ≤ pc
  pub low : pc + 4 ≤ statics_start

-- memory has the image's code
abbrev pub Fixed : Mem → Mem → Type 0
Fixed image m = (a : ℕ) → code_start ≤ a → a < statics_start → m a ≡ image a
