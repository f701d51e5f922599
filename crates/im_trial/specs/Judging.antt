-- What is counted and told of a case.
use Rattle.std.specs.Prelude.{◌≡◌, ℕ, zero, suc, ◌+◌, ◌-◌, ◌^◌, Bool, true, false, List, [], ◌∷◌, ◌++◌, codes, decimal, bytes_eq, min, map, Some, if◌then◌else◌}
use Rattle.im_trial.specs.declared.case.Case.{Case}
use Rattle.im_trial.specs.declared.row.Row.{Row}
use Rattle.im_trial.specs.declared.tally.Tally.{Tally}
use Rattle.im_trial.specs.Finding.{found_of}
use Rattle.im_trial.specs.Rows.{field_of, wanted_of}
use Rattle.im_trial.specs.Tables.{rows_in, said_of}
use Rattle.im_trial.specs.Texts.{has_text}

-- a case passes if it found what its row wants, byte by byte
abbrev pub passes : Row → Case → Bool
passes row case = bytes_eq (found_of case) (wanted_of row)

abbrev pub none_counted : Tally
none_counted = record { passed = 0; failed = 0 }

abbrev pub one_more : ℕ → ℕ
one_more count = min (count + 1) (2 ^ 32 - 1)

abbrev pub counted : Bool → Tally → Tally
counted true tally = record { passed = one_more tally.passed; failed = tally.failed }
counted false tally = record { passed = tally.passed; failed = one_more tally.failed }

-- one case more is counted, as one that passed or as one that failed
abbrev pub IsCounted : Tally → Tally → Type 0
IsCounted before after = (passed : Bool) × (after ≡ counted passed before)

-- so many cases are counted, one after another
abbrev pub AreCounted : ℕ → Tally → Tally → Type 0
AreCounted zero before after = after ≡ before
AreCounted (suc count) before after = (between : Tally) × AreCounted count before between × IsCounted between after

-- how many rows are cases: those that have no text
abbrev pub cases_in : List Row → ℕ
cases_in [] = zero
cases_in (row ∷ rows) = if has_text row then cases_in rows else suc (cases_in rows)

-- each row of a table that is a case is counted once; which table that is, only the file says
abbrev pub IsTableCounted : Tally → Tally → Type 0
IsTableCounted before after = (table : List ℕ) × (rows : List Row) × (rows_in table ≡ Some (map said_of rows)) × AreCounted (cases_in rows) before after

-- so many tables are counted, one after another
abbrev pub AreTablesCounted : ℕ → Tally → Tally → Type 0
AreTablesCounted zero before after = after ≡ before
AreTablesCounted (suc count) before after = (between : Tally) × AreTablesCounted count before between × IsTableCounted between after

-- how many cases passed and how many failed, in decimal digits
abbrev pub counts_of : Tally → List ℕ
counts_of tally = decimal tally.passed ++ (codes " passed, " ++ (decimal tally.failed ++ codes " failed"))

-- the kind, the name, and where that isn't what the row wants, both texts
abbrev pub told_of : Row → Case → List ℕ
told_of row case =
    let kind = field_of row 0 in
    let name = field_of row 1 in
    if passes row case
    then codes "passed " ++ (kind ++ (codes " " ++ name))
    else codes "FAILED " ++ (kind ++ (codes " " ++ (name ++ (codes ": found " ++ (found_of case ++ (codes ", wanted " ++ wanted_of row))))))
