-- Lines of a code of 261120 words whose labels and accesses are their own numbers, as linking asks for.
use Rattle.std.specs.Prelude.{◌≡◌, ℕ, ◌+◌, ◌<◌, ◌≤◌, List, Some, IfSome, slice_get}
use Rattle.im_num.specs.declared.values.Cause.{Cause}
use Rattle.im_num.specs.declared.values.Cause.TheVariants.{Dep}
use Rattle.im_rv.specs.declared.instr.Instr.{Instr}
use Rattle.im_rv.specs.declared.code.Line.{Line}
use Rattle.im_link.specs.Links.{Reaches}

-- line i leads to line j
pub record Leads (instr : Instr) (i l : ℕ) : Type 0 where
  pub j : ℕ
  pub label : l ≡ 64 + j
  pub inside : j < 261120
  pub near : Reaches instr i j

-- the accesses of a dependence at line i, behind the routine's lines: two lines back, and the next one
pub record Spans (i read write : ℕ) : Type 0 where
  pub behind : 10 ≤ i
  pub inside : i + 1 < 261120
  pub read_at : read + 2 ≡ i
  pub write_at : write ≡ i + 1

abbrev pub IsCauseAt : ℕ → Cause → Type 0
IsCauseAt i (Dep read write) = Spans i read write
IsCauseAt i cause = Unit {0}

pub record FitsAt (i : ℕ) (line : Line) : Type 0 where
  pub label : line.label ≡ Some (64 + i)
  pub access : line.access ≡ Some i
  pub target : IfSome line.target (λ l. Leads line.instr i l)
  pub cause : IfSome line.cause (λ c. IsCauseAt i c)

abbrev pub AreNumbered : ℕ → List Line → Type 0
AreNumbered first lines = (k : ℕ) (line : Line) → slice_get lines k ≡ Some line → FitsAt (first + k) line
