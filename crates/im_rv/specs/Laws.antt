-- What follows from the table of operations, in the manual's terms.
use Rattle.std.specs.Prelude.{◌≡◌, ◌≢◌, ◌<◌, ◌⊎◌, ◌^◌, ℕ, Bool, true, Some, ◌==◌, FitsSigned}
use Rattle.im_rv.specs.declared.format.Format.TheVariants.{Store}
use Rattle.im_rv.specs.declared.instr.Instr.{Instr}
use Rattle.im_rv.specs.declared.instr.Op.{Op}
use Rattle.im_rv.specs.declared.instr.Op.TheVariants.{Sb, Sh, Sw, Ebreak}
use Rattle.im_rv.specs.declared.step.Went.TheVariants.{On}
use Rattle.std.specs.Int.{w32}
use Rattle.im_mem.specs.Memory.{Mem, loaded, stored}
use Rattle.im_rv.specs.Formats.{format_of}
use Rattle.im_rv.specs.Steps.{Cpu, sum_of}
use Rattle.im_rv.specs.Lines.{line_of}
use Rattle.im_rv.specs.Torn.{torn_of}
use Rattle.im_rv.specs.Decode.{Line, bits, is_coded, op_in, decode}
use Rattle.im_rv.specs.Runs.{step_of}

-- the word has the code numbers of the operation
abbrev pub is_word_of : Op → ℕ → Bool
is_word_of Ebreak w = w == 0x00100073
is_word_of op w = is_coded op (bits w 0 7) (bits w 12 3) (bits w 25 7)

-- no two rows share a word
abbrev pub RowsApart : Type 0
RowsApart = (w : ℕ) (p q : Op) → is_word_of p w ≡ true → is_word_of q w ≡ true → p ≡ q

-- each row is reached
abbrev pub RowsReached : Type 0
RowsReached = (op : Op) → (w : ℕ) × (w < 2 ^ 32) × (op_in w ≡ Some op)

-- two instructions that the definitions see as one have the same fields: their immediates are of 32 bits
abbrev pub LinesApart : Type 0
LinesApart =
    (i j : Instr) → FitsSigned w32 i.imm → FitsSigned w32 j.imm → line_of i ≡ line_of j →
    (i.op ≡ j.op) × (i.rd ≡ j.rd) × (i.rs1 ≡ j.rs1) × (i.rs2 ≡ j.rs2) × (i.imm ≡ j.imm)

-- reading x0 gives 0 after any step
abbrev pub ZeroStays : Type 0
ZeroStays = (c : Cpu) (m : Mem) → c.x 0 ≡ 0 → (step_of c m).cpu.x 0 ≡ 0

-- after any step registers hold words, where they did before and memory holds bytes
abbrev pub WordsStay : Type 0
WordsStay = (c : Cpu) (m : Mem) → ((i : ℕ) → c.x i < 2 ^ 32) → ((a : ℕ) → m a < 256) → (i : ℕ) → (step_of c m).cpu.x i < 2 ^ 32

-- memory holds bytes after a step, and after one that is torn, where it did before
abbrev pub BytesStay : Type 0
BytesStay = (c : Cpu) (m : Mem) → ((a : ℕ) → m a < 256) → ((a : ℕ) → (step_of c m).mem a < 256) × ((mask a : ℕ) → torn_of mask c m a < 256)

-- of a step that is torn each byte is the old one or the one that the whole step leaves
abbrev pub TornBetween : Type 0
TornBetween = (mask : ℕ) (c : Cpu) (m : Mem) (a : ℕ) → (torn_of mask c m a ≡ m a) ⊎ (torn_of mask c m a ≡ (step_of c m).mem a)

-- a step that halts or faults leaves processor and memory as they were
abbrev pub EndsCalm : Type 0
EndsCalm = (c : Cpu) (m : Mem) → (step_of c m).went ≢ On → ((step_of c m).cpu ≡ c) × ((step_of c m).mem ≡ m)

-- a step changes at most one register
abbrev pub OneRegister : Type 0
OneRegister = (c : Cpu) (m : Mem) → (rd : ℕ) × ((i : ℕ) → i ≢ rd → (step_of c m).cpu.x i ≡ c.x i)

-- bytes that a store writes (RISC-V Unprivileged ISA, 2.6); none for what is no store
abbrev pub store_size : Op → ℕ
store_size Sb = 1
store_size Sh = 2
store_size Sw = 4
store_size op = 0

-- a store was fetched, and memory is as it leaves it: the lowest bytes of rs2 at the sum of rs1 and the immediate
pub record Stored (c : Cpu) (m : Mem) (after : Mem) : Type 0 where
  pub word : ℕ
  pub line : Line
  pub fetched : loaded m c.pc 4 ≡ Some word
  pub decoded : decode word ≡ Some line
  pub is_store : format_of line.op ≡ Store
  pub written : after ≡ stored m (sum_of (c.x line.rs1) line.imm) (store_size line.op) (c.x line.rs2)

-- only a store changes memory, and only its bytes
abbrev pub OnlyStores : Type 0
OnlyStores = (c : Cpu) (m : Mem) → ((step_of c m).mem ≡ m) ⊎ Stored c m (step_of c m).mem
