-- The cuts of a code: one for each line that has a cause, by address.
use Rattle.std.specs.Prelude.{◌≡◌, ℕ, ◌+◌, ◌<◌, List, Some, slice_get}
use Rattle.std.specs.String.{string_bytes}
use Rattle.im_num.specs.declared.values.Cause.{Cause}
use Rattle.im_num.specs.declared.values.Cause.TheVariants.{Dep}
use Rattle.im_rv.specs.declared.code.Line.{Line}
use Rattle.im_rv.specs.declared.code.Part.{Part}
use Rattle.im_rv.specs.declared.code.Cut.{Cut}
use Rattle.im_rv.specs.Code.{address}
use Rattle.im_link.specs.Parts.{lines_of, first_of, IsPart}

-- line k is the access n
pub record IsAccessAt (lines : List Line) (n k : ℕ) : Type 0 where
  pub line : Line
  pub is_line : slice_get lines k ≡ Some line
  pub access : line.access ≡ Some n

-- each access that a cause names is that of a line
abbrev pub HasAccesses : List Line → Cause → Type 0
HasAccesses lines (Dep read write) = ((k : ℕ) × IsAccessAt lines read k) × ((k : ℕ) × IsAccessAt lines write k)
HasAccesses lines cause = Unit {0}

-- a dependence whose two accesses are named by the addresses of their lines; the lines' first word has the number `first`
pub record IsPlacedDependence (lines : List Line) (first read write : ℕ) (placed : Cause) : Type 0 where
  pub read_at : ℕ
  pub write_at : ℕ
  pub reads : IsAccessAt lines read read_at
  pub writes : IsAccessAt lines write write_at
  pub is : placed ≡ Dep (address (first + read_at)) (address (first + write_at))

-- the cause of a cut in code; all but a dependence stay as they are
abbrev pub IsPlacedCause : List Line → ℕ → Cause → Cause → Type 0
IsPlacedCause lines first (Dep read write) placed = IsPlacedDependence lines first read write placed
IsPlacedCause lines first cause placed = placed ≡ cause

-- the cut of line k of a part
pub record IsCutOf (part : Part) (first k : ℕ) (cut : Cut) : Type 0 where
  pub line : Line
  pub cause : Cause
  pub is_line : slice_get part.lines.items k ≡ Some line
  pub is_cause : line.cause ≡ Some cause
  pub at : cut.at ≡ address (first + k)
  pub function : string_bytes cut.function ≡ string_bytes part.name
  pub placed : IsPlacedCause part.lines.items first cause cut.cause

-- the cut of a line of the parts
pub record IsCutIn (parts : List Part) (cut : Cut) : Type 0 where
  pub p : ℕ
  pub k : ℕ
  pub part : Part
  pub is_part : IsPart parts p part
  pub is_cut : IsCutOf part (first_of parts p) k cut

-- by address: each is the cut of a line, and each line with a cause has one
pub record AreCutsOf (parts : List Part) (cuts : List Cut) : Type 0 where
  pub ascending : (b c : ℕ) (this that : Cut) → b < c → slice_get cuts b ≡ Some this → slice_get cuts c ≡ Some that → this.at < that.at
  pub each : (c : ℕ) (cut : Cut) → slice_get cuts c ≡ Some cut → IsCutIn parts cut
  pub all : (i : ℕ) (line : Line) (cause : Cause) → slice_get (lines_of parts) i ≡ Some line → line.cause ≡ Some cause → (c : ℕ) × (cut : Cut) × (slice_get cuts c ≡ Some cut) × (cut.at ≡ address i)
