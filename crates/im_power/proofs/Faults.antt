-- The fault of a text is that of its first wrong line.
use Rattle.std.proofs.Common.{◌≡◌, ℕ, suc, ◌+◌, Bool, true, false, List, [], ◌∷◌, ◌++◌, length, Option, Some, None, Err, refl, ap, ◌∙◌, arith}
use Rattle.std.specs.Prelude.{All, nat_lt}
use Rattle.std.proofs.lemmas.List.Elements.{All-cons, All-nil}
use Rattle.im_power.specs.declared.period.Period.{Period}
use Rattle.im_power.specs.declared.line.Line.{Line}
use Rattle.im_power.specs.declared.line.Line.TheVariants.{Skipped, Gives, Malformed, ZeroRepeats}
use Rattle.im_power.specs.declared.fault.TraceFault.{TraceFault}
use Rattle.im_power.specs.declared.fault.TraceFault.TheVariants.{BadLine, ZeroRepeat, TooMany, OutOfMemory}
use Rattle.im_power.specs.Text.{lines_of, first_fault, periods_of, repeats, counted, or_periods, trace_of}
use Rattle.im_power.specs.Laws.{IsRight, IsFirst, FirstFaultLaw}

-- the fault of a wrong line with this number
abbrev pub fault_at : Line → ℕ → Option TraceFault
fault_at Skipped k = None
fault_at (Gives p) k = None
fault_at Malformed k = Some (BadLine k)
fault_at ZeroRepeats k = Some (ZeroRepeat k)

-- the first wrong line, the lines being counted from j on
record Finds (wrong : Line) (lines : List Line) (j k : ℕ) : Type 0 where
  pub before : List Line
  pub behind : List Line
  pub parts : lines ≡ before ++ wrong ∷ behind
  pub right : All IsRight before
  pub number : length before + j ≡ k

further : (wrong line : Line) (lines : List Line) (j k : ℕ) → IsRight line → Finds wrong lines (j + 1) k → Finds wrong (line ∷ lines) j k
further wrong line lines j k right found =
    let number = found.number in
    record { before = line ∷ found.before; behind = found.behind; parts = ap (λ l. line ∷ l) found.parts; right = All-cons IsRight line found.before right found.right; number = omega arith }

finds_malformed : (lines : List Line) (j k : ℕ) → first_fault j lines ≡ Some (BadLine k) → Finds Malformed lines j k
finds_malformed [] j k h = absurd cc
finds_malformed (Skipped ∷ lines) j k h = further Malformed Skipped lines j k tt (finds_malformed lines (j + 1) k h)
finds_malformed (Gives p ∷ lines) j k h = further Malformed (Gives p) lines j k tt (finds_malformed lines (j + 1) k h)
finds_malformed (Malformed ∷ lines) j k h = record { before = []; behind = lines; parts = refl; right = All-nil IsRight; number = (let e : j ≡ k = cc in omega (arith, e)) }
finds_malformed (ZeroRepeats ∷ lines) j k h = absurd cc

finds_zero : (lines : List Line) (j k : ℕ) → first_fault j lines ≡ Some (ZeroRepeat k) → Finds ZeroRepeats lines j k
finds_zero [] j k h = absurd cc
finds_zero (Skipped ∷ lines) j k h = further ZeroRepeats Skipped lines j k tt (finds_zero lines (j + 1) k h)
finds_zero (Gives p ∷ lines) j k h = further ZeroRepeats (Gives p) lines j k tt (finds_zero lines (j + 1) k h)
finds_zero (Malformed ∷ lines) j k h = absurd cc
finds_zero (ZeroRepeats ∷ lines) j k h = record { before = []; behind = lines; parts = refl; right = All-nil IsRight; number = (let e : j ≡ k = cc in omega (arith, e)) }

-- lines that are right are passed over
passed : (before lines : List Line) (j : ℕ) → All IsRight before → first_fault j (before ++ lines) ≡ first_fault (length before + j) lines
passed [] lines j right = ap (λ n. first_fault n lines) (omega arith)
passed (Skipped ∷ before) lines j right = passed before lines (j + 1) (λ i d l. right (suc i) d (omega arith)) ∙ ap (λ n. first_fault n lines) (omega arith)
passed (Gives p ∷ before) lines j right = passed before lines (j + 1) (λ i d l. right (suc i) d (omega arith)) ∙ ap (λ n. first_fault n lines) (omega arith)
passed (Malformed ∷ before) lines j right = absurd (right 0 Malformed (omega arith))
passed (ZeroRepeats ∷ before) lines j right = absurd (right 0 ZeroRepeats (omega arith))

-- an answer that is one of these two faults comes from the lines
abbrev pub IsLineFault : TraceFault → Type 0
IsLineFault (BadLine k) = Unit {0}
IsLineFault (ZeroRepeat k) = Unit {0}
IsLineFault (TooMany n) = ⊥
IsLineFault OutOfMemory = ⊥

counted_is_none : (ps : List Period) (fault : TraceFault) → IsLineFault fault → (b : Bool) → nat_lt 1000000 (repeats ps) ≡ b → counted ps ≡ Err fault → ⊥
counted_is_none ps (BadLine k) line true e h = let f = rw e at h in absurd cc
counted_is_none ps (BadLine k) line false e h = let f = rw e at h in absurd cc
counted_is_none ps (ZeroRepeat k) line true e h = let f = rw e at h in absurd cc
counted_is_none ps (ZeroRepeat k) line false e h = let f = rw e at h in absurd cc
counted_is_none ps (TooMany n) line b e h = line
counted_is_none ps OutOfMemory line b e h = line

from_lines : (fault : Option TraceFault) (ps : List Period) (told : TraceFault) → IsLineFault told → or_periods fault ps ≡ Err told → fault ≡ Some told
from_lines None ps told line h = absurd (counted_is_none ps told line (nat_lt 1000000 (repeats ps)) refl h)
from_lines (Some fault) ps told line h = cc

is_malformed : (text : List ℕ) (k : ℕ) → trace_of text ≡ Err (BadLine k) → IsFirst Malformed (lines_of text) k
unfolding trace_of
is_malformed text k h =
    let found = finds_malformed (lines_of text) 1 k (from_lines (first_fault 1 (lines_of text)) (periods_of (lines_of text)) (BadLine k) tt h) in
    record { before = found.before; behind = found.behind; parts = found.parts; right = found.right; number = found.number }

is_zero : (text : List ℕ) (k : ℕ) → trace_of text ≡ Err (ZeroRepeat k) → IsFirst ZeroRepeats (lines_of text) k
unfolding trace_of
is_zero text k h =
    let found = finds_zero (lines_of text) 1 k (from_lines (first_fault 1 (lines_of text)) (periods_of (lines_of text)) (ZeroRepeat k) tt h) in
    record { before = found.before; behind = found.behind; parts = found.parts; right = found.right; number = found.number }

told : (text : List ℕ) (k : ℕ) → IsFirst Malformed (lines_of text) k → trace_of text ≡ Err (BadLine k)
unfolding trace_of
told text k found =
    let e : first_fault 1 (lines_of text) ≡ Some (BadLine k) = ap (first_fault 1) found.parts ∙ passed found.before (Malformed ∷ found.behind) 1 found.right ∙ ap (λ n. Some (BadLine n)) found.number in
    ap (λ f. or_periods f (periods_of (lines_of text))) e

told_zero : (text : List ℕ) (k : ℕ) → IsFirst ZeroRepeats (lines_of text) k → trace_of text ≡ Err (ZeroRepeat k)
unfolding trace_of
told_zero text k found =
    let e : first_fault 1 (lines_of text) ≡ Some (ZeroRepeat k) = ap (first_fault 1) found.parts ∙ passed found.before (ZeroRepeats ∷ found.behind) 1 found.right ∙ ap (λ n. Some (ZeroRepeat n)) found.number in
    ap (λ f. or_periods f (periods_of (lines_of text))) e

pub first_fault_is : FirstFaultLaw
first_fault_is = record { malformed = λ text k. (is_malformed text k, told text k); zero_repeats = λ text k. (is_zero text k, told_zero text k) }
