-- Rows that are run, one after another, and what they count.
use Rattle.std.proofs.Common.{◌≡◌, ℕ, suc, ◌+◌, ◌<◌, Bool, true, false, List, [], ◌∷◌, ◌++◌, length, get_or, take, refl, sym, ap, subst, ◌∙◌, arith, if◌then◌else◌}
use Rattle.std.proofs.lemmas.List.{take_more}
use Rattle.im_trial.specs.declared.row.Row.{Row}
use Rattle.im_trial.specs.declared.tally.Tally.{Tally}
use Rattle.im_trial.specs.Judging.{AreCounted, AreTablesCounted, IsCounted, IsTableCounted, cases_in}
use Rattle.im_trial.specs.Texts.{has_text}

more_by : (first last : Bool) (n m : ℕ) → n ≡ (if last then m else suc m) → (if first then n else suc n) ≡ (if last then (if first then m else suc m) else suc (if first then m else suc m))
more_by true last n m e = e
more_by false true n m e = ap suc e
more_by false false n m e = ap suc e

cases_more : (rows : List Row) (row : Row) → cases_in (rows ++ row ∷ []) ≡ (if has_text row then cases_in rows else suc (cases_in rows))
cases_more [] row = refl
cases_more (first ∷ rows) row = more_by (has_text first) (has_text row) (cases_in (rows ++ row ∷ [])) (cases_in rows) (cases_more rows row)

counted_more : {P : Type 0} (text : Bool) (count : ℕ) (before between after : Tally) → AreCounted count before between → (text ≡ true → after ≡ between) → (text ≡ false → P × IsCounted between after) → AreCounted (if text then count else suc count) before after
counted_more true count before between after h same more = subst (AreCounted count before) (sym (same refl)) h
counted_more false count before between after h same more = (between, h, (more refl).1)

-- one row more is run
pub row_counted : {P : Type 0} (rows : List Row) (i : ℕ) (row : Row) (before between after : Tally) → i < length rows → row ≡ get_or rows i row → AreCounted (cases_in (take i rows)) before between → (has_text row ≡ true → after ≡ between) → (has_text row ≡ false → P × IsCounted between after) → AreCounted (cases_in (take (i + 1) rows)) before after
row_counted rows i row before between after lt at h same more =
    let more_rows = take_more rows i row lt ∙ ap (λ r. take i rows ++ r ∷ []) (sym at) in
    subst (λ n. AreCounted n before after) (sym (ap cases_in more_rows ∙ cases_more (take i rows) row)) (counted_more (has_text row) (cases_in (take i rows)) before between after h same more)

-- one table more is run
pub table_counted : (count : ℕ) (before between after : Tally) → AreTablesCounted count before between → IsTableCounted between after → AreTablesCounted (count + 1) before after
table_counted count before between after h one =
    let more : suc count ≡ count + 1 = omega arith in
    subst (λ n. AreTablesCounted n before after) more (between, h, one)
