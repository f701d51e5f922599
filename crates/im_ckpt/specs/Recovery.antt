-- Recovery: 64 instructions at the beginning of the code that restore the registers of the live buffer.
use Rattle.std.specs.Prelude.{◌≡◌, ℕ, ◌+◌, ◌*◌, ◌<◌, ◌≢◌, List, [], ◌∷◌, ◌++◌, map}
use Rattle.im_mem.specs.Memory.{Mem, little}
use Rattle.im_mem.specs.Map.{index_at, buffer0_start, buffer1_start}
use Rattle.im_rv.specs.declared.instr.Op.TheVariants.{Lw, Bne, Jalr}
use Rattle.im_rv.specs.Steps.{Cpu}
use Rattle.im_rv.specs.Decode.{Line}
use Rattle.im_rv.specs.Encode.{encoded}
use Rattle.im_rv.specs.Lines.{instruction}

-- the registers that a buffer keeps beside the place: x3 and x4 are the runtime's own
abbrev pub kept_registers : List ℕ
kept_registers = 1 ∷ 2 ∷ 5 ∷ 6 ∷ 7 ∷ 8 ∷ 9 ∷ 10 ∷ 11 ∷ 12 ∷ 13 ∷ 14 ∷ 15 ∷ 16 ∷ 17 ∷ 18 ∷ 19 ∷ 20 ∷ 21 ∷ 22 ∷ 23 ∷ 24 ∷ 25 ∷ 26 ∷ 27 ∷ 28 ∷ 29 ∷ 30 ∷ 31 ∷ []

-- lw rd, at(x0)
abbrev pub load_line : ℕ → ℕ → Line
load_line rd at = instruction Lw rd 0 0 at

-- each register from its word of the buffer at base
abbrev pub load_lines : ℕ → List ℕ → List Line
load_lines base [] = []
load_lines base (i ∷ is) = load_line i (base + 4 * i) ∷ load_lines base is

-- jalr x0, 0(x3)
abbrev pub return_line : Line
return_line = instruction Jalr 0 3 0 0

-- x3 is the place that the buffer names, the registers follow, and then the run goes there
abbrev pub half_lines : ℕ → List Line
half_lines base = load_line 3 base ∷ load_lines base kept_registers ++ return_line ∷ []

-- bne x4, x0, 128: to the second half, where INDEX is not 0
abbrev pub recovery : List Line
recovery = load_line 4 index_at ∷ instruction Bne 0 4 0 128 ∷ half_lines buffer0_start ++ half_lines buffer1_start

abbrev pub recovery_words : List ℕ
recovery_words = map encoded recovery

-- the place and the registers of a buffer, x3 and x4 aside
pub record Restored (m : Mem) (base : ℕ) (c : Cpu) : Type 0 where
  pub place : c.pc ≡ little m base 4
  pub zero_reg : c.x 0 ≡ 0
  pub regs : (i : ℕ) → 0 < i → i < 32 → i ≢ 3 → i ≢ 4 → c.x i ≡ little m (base + 4 * i) 4
