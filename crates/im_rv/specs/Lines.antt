-- An instruction of the code as the definitions see it.
use Rattle.std.specs.Prelude.{ℕ, Option, None, List, map}
use Rattle.im_num.specs.declared.values.Cause.{Cause}
use Rattle.im_rv.specs.declared.code.Line.{Line as RustLine}
use Rattle.im_rv.specs.declared.instr.Instr.{Instr}
use Rattle.im_rv.specs.declared.instr.Op.{Op}
use Rattle.im_rv.specs.Steps.{word}
use Rattle.im_rv.specs.Decode.{Line}

-- an operation with rd, rs1, rs2 and its immediate as a word
abbrev pub instruction : Op → ℕ → ℕ → ℕ → ℕ → Line
instruction op rd rs1 rs2 imm = record { op = op; rd = rd; rs1 = rs1; rs2 = rs2; imm = imm }

abbrev pub line_of : Instr → Line
line_of i = instruction i.op i.rd i.rs1 i.rs2 (word i.imm)

-- a line of code
pub record CodeLine : Type 0 where
  pub label : Option ℕ
  pub line : Line
  pub target : Option ℕ
  pub access : Option ℕ
  pub cause : Option Cause

abbrev pub code_line : RustLine → CodeLine
code_line l = record { label = l.label; line = line_of l.instr; target = l.target; access = l.access; cause = l.cause }

abbrev pub code_lines : List RustLine → List CodeLine
code_lines ls = map code_line ls

-- an instruction and nothing else
abbrev pub plain_line : Line → CodeLine
plain_line l = record { label = None; line = l; target = None; access = None; cause = None }
