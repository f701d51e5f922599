-- Periods written out as a trace text, and what the number of a line in a fault says.
use Rattle.std.specs.Prelude.{◌≡◌, ◌<◌, ◌≤◌, ◌↔◌, ◌^◌, ℕ, ◌+◌, List, [], ◌∷◌, ◌++◌, length, decimal, Ok, Err, All}
use Rattle.im_power.specs.declared.period.Period.{Period}
use Rattle.im_power.specs.declared.line.Line.{Line}
use Rattle.im_power.specs.declared.line.Line.TheVariants.{Skipped, Gives, Malformed, ZeroRepeats}
use Rattle.im_power.specs.declared.fault.TraceFault.TheVariants.{BadLine, ZeroRepeat}
use Rattle.im_power.specs.Text.{lines_of, repeats, trace_of}

-- a period as a line: its numbers in decimal with a blank between them
abbrev pub line_text : Period → List ℕ
line_text p = decimal p.n ++ 32 ∷ (decimal p.junk ++ 32 ∷ (decimal p.count ++ 32 ∷ decimal p.mask))

-- each line ends with LF
abbrev pub trace_text : List Period → List ℕ
trace_text [] = []
trace_text (p ∷ ps) = line_text p ++ 10 ∷ trace_text ps

-- what a trace can say of a period: words, at least one time, and a mask of four bits
pub record IsWritable (p : Period) : Type 0 where
  pub n : p.n < 2 ^ 32
  pub junk : p.junk < 2 ^ 32
  pub count : p.count < 2 ^ 32
  pub some : 0 < p.count
  pub mask : p.mask < 16

-- what is written out is read back
abbrev pub WrittenLaw : Type 0
WrittenLaw = (ps : List Period) → All IsWritable ps → repeats ps ≤ 1000000 → trace_of (trace_text ps) ≡ Ok ps

-- a line that says nothing, or gives a period
abbrev pub IsRight : Line → Type 0
IsRight Skipped = Unit {0}
IsRight (Gives p) = Unit {0}
IsRight Malformed = ⊥
IsRight ZeroRepeats = ⊥

-- line k, counted from 1, is so, and all before it are right
pub record IsFirst (wrong : Line) (lines : List Line) (k : ℕ) : Type 0 where
  pub before : List Line
  pub behind : List Line
  pub parts : lines ≡ before ++ wrong ∷ behind
  pub right : All IsRight before
  pub number : length before + 1 ≡ k

pub record FirstFaultLaw : Type 0 where
  pub malformed : (text : List ℕ) (k : ℕ) → (trace_of text ≡ Err (BadLine k)) ↔ IsFirst Malformed (lines_of text) k
  pub zero_repeats : (text : List ℕ) (k : ℕ) → (trace_of text ≡ Err (ZeroRepeat k)) ↔ IsFirst ZeroRepeats (lines_of text) k
