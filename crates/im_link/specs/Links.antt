-- Lines with labels, placed one after another from 0x1000 on, and the words that do what they do there.
use Rattle.std.specs.Prelude.{◌≡◌, ℕ, ◌+◌, ◌^◌, ◌<◌, ◌≤◌, ◌⊎◌, List, Option, Some, None, length, slice_get, slice_index}
use Rattle.im_rv.specs.declared.instr.Instr.{Instr}
use Rattle.im_rv.specs.declared.code.Line.{Line}
use Rattle.im_rv.specs.declared.format.Format.TheVariants.{Branch, Jump}
use Rattle.im_rv.specs.Formats.{format_of}
use Rattle.im_rv.specs.Steps.{sum_of}
use Rattle.im_rv.specs.Decode.{Line as Instruction, decode}
use Rattle.im_rv.specs.Lines.{line_of}
use Rattle.im_rv.specs.Code.{address}

-- the label l stands at line j
pub record StandsAt (lines : List Line) (l j : ℕ) : Type 0 where
  pub line : Line
  pub is_line : slice_get lines j ≡ Some line
  pub label : line.label ≡ Some l

-- from word i an instruction can lead to word j: a jal to any word of a code, a branch 1024 words back and 1023 on (RISC-V Unprivileged ISA, 2.5)
abbrev pub Reaches : Instr → ℕ → ℕ → Type 0
Reaches instr i j = (format_of instr.op ≡ Jump) ⊎ ((format_of instr.op ≡ Branch) × (j ≤ i + 1023) × (i ≤ j + 1024))

-- the instruction with the immediate that leads from word i to word j
pub record IsAimed (instr : Instruction) (i j : ℕ) (to : Instruction) : Type 0 where
  pub op : to.op ≡ instr.op
  pub rd : to.rd ≡ instr.rd
  pub rs1 : to.rs1 ≡ instr.rs1
  pub rs2 : to.rs2 ≡ instr.rs2
  pub word : to.imm < 2 ^ 32
  pub leads : sum_of (address i) to.imm ≡ address j

-- what word i has to be: the line's instruction, aimed at the place of its target if it has one
abbrev pub Does : List Line → ℕ → Line → Option ℕ → Instruction → Type 0
Does lines i line None to = to ≡ line_of line.instr
Does lines i line (Some l) to = (j : ℕ) × StandsAt lines l j × IsAimed (line_of line.instr) i j to

-- w does at word i what the line does there
abbrev pub IsWordOf : List Line → ℕ → Line → ℕ → Type 0
IsWordOf lines i line w = (to : Instruction) × (decode w ≡ Some to) × Does lines i line line.target to

-- a word for each line, which does what the line does at its place
pub record AreWordsOf (lines : List Line) (words : List ℕ) : Type 0 where
  pub count : length words ≡ length lines
  pub each : (i : ℕ) (line : Line) → slice_get lines i ≡ Some line → IsWordOf lines i line (slice_index words i)

-- no label stands at two lines
abbrev pub AreLabelsApart : List Line → Type 0
AreLabelsApart lines = (l i j : ℕ) → StandsAt lines l i → StandsAt lines l j → i ≡ j

-- each label that is used stands at a line, within reach
abbrev pub AreTargetsNear : List Line → Type 0
AreTargetsNear lines = (i : ℕ) (line : Line) (l : ℕ) → slice_get lines i ≡ Some line → line.target ≡ Some l → (j : ℕ) × StandsAt lines l j × Reaches line.instr i j
