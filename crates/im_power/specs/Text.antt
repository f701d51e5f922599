-- The trace text, by its lines: the periods that it lists, or its fault.
use Rattle.std.specs.Prelude.{◌≡◌, ℕ, zero, suc, ◌+◌, ◌-◌, ◌*◌, ◌^◌, ◌==◌, ◌&&◌, ◌||◌, nat_lt, nat_le, min, not, Bool, false, List, [], ◌∷◌, map, filter, fold, sum_by, length, slice_index, Option, Some, None, Result, Ok, Err, if◌then◌else◌}
use Rattle.std.specs.List.{list_all, slice_split}
use Rattle.im_power.specs.declared.period.Period.{Period}
use Rattle.im_power.specs.declared.line.Line.{Line}
use Rattle.im_power.specs.declared.line.Line.TheVariants.{Skipped, Gives, Malformed, ZeroRepeats}
use Rattle.im_power.specs.declared.fault.TraceFault.{TraceFault}
use Rattle.im_power.specs.declared.fault.TraceFault.TheVariants.{BadLine, ZeroRepeat, TooMany, OutOfMemory}

-- ---- a line

-- LF
abbrev pub is_line_end : ℕ → Bool
is_line_end byte = byte == 10

-- a blank, a tab or CR
abbrev pub is_blank : ℕ → Bool
is_blank byte = byte == 32 || byte == 9 || byte == 13

-- the parts of a line between blanks, tabs and CRs that have a byte
unfoldable pub fields : List ℕ → List (List ℕ)
fields line = filter (λ field. not (length field == 0)) (slice_split is_blank line)

abbrev pub is_digit : ℕ → Bool
is_digit byte = nat_le 48 byte && nat_le byte 57

-- the number that decimal digits make
unfoldable pub value_of : List ℕ → ℕ
value_of digits = fold (λ n digit. 10 * n + (digit - 48)) 0 digits

-- the number of a field of digits, where a word holds it
unfoldable pub number : List ℕ → Option ℕ
number field = if list_all is_digit field && nat_lt (value_of field) (2 ^ 32) then Some (value_of field) else None

-- a number that is a mask of four bits
abbrev pub mask_of : Option ℕ → Option ℕ
mask_of None = None
mask_of (Some n) = if nat_lt n 16 then Some n else None

-- a period of so many instructions with this word in the registers, so many times, each ending with this mask
abbrev pub period : Option ℕ → Option ℕ → Option ℕ → Option ℕ → Line
period (Some n) (Some junk) (Some zero) (Some mask) = ZeroRepeats
period (Some n) (Some junk) (Some (suc others)) (Some mask) = Gives (record { n = n; junk = junk; count = suc others; mask = mask })
period (Some n) (Some junk) (Some count) None = Malformed
period (Some n) (Some junk) None mask = Malformed
period (Some n) None count mask = Malformed
period None junk count mask = Malformed

-- one to four numbers: the second is 0, the third 1 and the fourth 0 where it is absent
abbrev pub by_fields : List (List ℕ) → Line
by_fields [] = Skipped
by_fields (n ∷ []) = period (number n) (Some 0) (Some 1) (Some 0)
by_fields (n ∷ junk ∷ []) = period (number n) (number junk) (Some 1) (Some 0)
by_fields (n ∷ junk ∷ count ∷ []) = period (number n) (number junk) (number count) (Some 0)
by_fields (n ∷ junk ∷ count ∷ mask ∷ []) = period (number n) (number junk) (number count) (mask_of (number mask))
by_fields (n ∷ junk ∷ count ∷ mask ∷ other ∷ others) = Malformed

-- the first field begins with ;
abbrev pub is_comment : List (List ℕ) → Bool
is_comment [] = false
is_comment (first ∷ others) = slice_index first 0 == 59

unfoldable pub line_of : List ℕ → Line
line_of line = if is_comment (fields line) then Skipped else by_fields (fields line)

-- ---- a text

unfoldable pub lines_of : List ℕ → List Line
lines_of text = map line_of (slice_split is_line_end text)

-- the fault of the first line that is wrong, the lines being counted from k on
abbrev pub first_fault : ℕ → List Line → Option TraceFault
first_fault k [] = None
first_fault k (Skipped ∷ lines) = first_fault (k + 1) lines
first_fault k (Gives period ∷ lines) = first_fault (k + 1) lines
first_fault k (Malformed ∷ lines) = Some (BadLine k)
first_fault k (ZeroRepeats ∷ lines) = Some (ZeroRepeat k)

abbrev pub periods_of : List Line → List Period
periods_of [] = []
periods_of (Skipped ∷ lines) = periods_of lines
periods_of (Gives period ∷ lines) = period ∷ periods_of lines
periods_of (Malformed ∷ lines) = periods_of lines
periods_of (ZeroRepeats ∷ lines) = periods_of lines

abbrev pub repeats : List Period → ℕ
repeats periods = sum_by (λ period. period.count) periods

-- the periods of lines that are right
abbrev pub counted : List Period → Result (List Period) TraceFault
counted periods = if nat_lt 1000000 (repeats periods) then Err (TooMany (min (repeats periods) (2 ^ 64 - 1))) else Ok periods

-- the fault of a line, or the periods
abbrev pub or_periods : Option TraceFault → List Period → Result (List Period) TraceFault
or_periods None periods = counted periods
or_periods (Some fault) periods = Err fault

-- the periods that a text lists, or its fault
unfoldable pub trace_of : List ℕ → Result (List Period) TraceFault
trace_of text = or_periods (first_fault 1 (lines_of text)) (periods_of (lines_of text))

-- the fault is this one, or memory ran out
abbrev pub IsFaultOf : TraceFault → Option TraceFault → Type 0
IsFaultOf (BadLine line) fault = fault ≡ Some (BadLine line)
IsFaultOf (ZeroRepeat line) fault = fault ≡ Some (ZeroRepeat line)
IsFaultOf (TooMany sum) fault = fault ≡ Some (TooMany sum)
IsFaultOf OutOfMemory fault = Unit {0}

-- the answer is this one, or memory ran out
abbrev pub IsAnswer : {X : Type 0} → Result X TraceFault → Result X TraceFault → Type 0
IsAnswer (Ok x) answer = answer ≡ Ok x
IsAnswer (Err (BadLine line)) answer = answer ≡ Err (BadLine line)
IsAnswer (Err (ZeroRepeat line)) answer = answer ≡ Err (ZeroRepeat line)
IsAnswer (Err (TooMany sum)) answer = answer ≡ Err (TooMany sum)
IsAnswer (Err OutOfMemory) answer = Unit {0}
