-- What linked code has at the addresses of a part.
use Rattle.std.specs.Prelude.{◌≡◌, ℕ, ◌+◌, ◌-◌, ◌%◌, ◌^◌, List, Some, None, slice_get}
use Rattle.im_rv.specs.declared.code.Line.{Line}
use Rattle.im_rv.specs.declared.code.Part.{Part}
use Rattle.im_rv.specs.declared.code.Code.{Code}
use Rattle.im_rv.specs.Lines.{line_of}
use Rattle.im_rv.specs.Code.{address, instruction_at}
use Rattle.im_link.specs.Parts.{lines_of, first_of, IsPart}
use Rattle.im_link.specs.Links.{StandsAt}
use Rattle.im_link.specs.Code.{IsLinkable, IsLinked}

-- how far it is from one address to another, as a word
abbrev pub distance : ℕ → ℕ → ℕ
distance from to = (to + (2 ^ 32 - from)) % 2 ^ 32

-- line k of part p is word first_of parts p + k: its instruction, and with a target the one whose immediate is the distance to it
pub record IsLaidAt (parts : List Part) (words : List ℕ) (i : ℕ) (line : Line) : Type 0 where
  pub plain : line.target ≡ None → instruction_at words i ≡ Some (line_of line.instr)
  pub aimed : (l j : ℕ) → line.target ≡ Some l → StandsAt (lines_of parts) l j → instruction_at words i ≡ Some (record (line_of line.instr) { imm = distance (address i) (address j) })

abbrev pub LaidLaw : Type 0
LaidLaw = (parts : List Part) (code : Code) → IsLinkable parts → IsLinked parts code → (p k : ℕ) (part : Part) (line : Line) → IsPart parts p part → slice_get part.lines.items k ≡ Some line → IsLaidAt parts code.words.items (first_of parts p + k) line
