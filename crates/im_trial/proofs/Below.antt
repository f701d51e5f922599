-- What a line puts below the last row, and what a line is by its first byte.
use Rattle.std.proofs.Common.{◌≡◌, ◌≢◌, ℕ, zero, suc, ◌==◌, Bool, false, List, [], ◌∷◌, ◌++◌, Some, Result, Ok, Err, MatchResult, OnOk, IfErr, length, get_or, set, map, string_bytes, refl, sym, ap, subst, ◌∙◌, arith, if◌then◌else◌}
use denote.Bor.{Bor}
use Rattle.im_trial.specs.declared.row.Row.{Row}
use Rattle.im_trial.specs.declared.stop.Stop.{Stop}
use Rattle.im_trial.specs.declared.stop.Stop.TheVariants.{Memory}
use Rattle.im_trial.specs.Finding.{Refuses}
use Rattle.im_trial.specs.Tables.{Written, said_of, is_row, put_by, add_below, below_last, new_row, put_line}
use Rattle.im_trial.proofs.Taking.{some_last}
use Rattle.im_trial.proofs.Tests.{other, same_of}

put_last : (rows : List Row) (i : ℕ) (old row : Row) (more : List ℕ) → length rows ≡ suc i → old ≡ get_or rows i old → row.fields ≡ old.fields → string_bytes row.below ≡ string_bytes old.below ++ more → add_below (map said_of rows) more ≡ map said_of (set rows i row)
put_last [] i old row more n at f b = absurd (omega arith)
put_last (first ∷ []) zero old row more n at f b =
    ap (λ (r : Row). record { fields = map (λ (field : Bor (List ℕ)). field.now) r.fields.items; below = string_bytes r.below ++ more } ∷ []) (sym at)
    ∙ ap (λ fields. record { fields = map (λ (field : Bor (List ℕ)). field.now) fields.items; below = string_bytes old.below ++ more } ∷ []) (sym f)
    ∙ ap (λ t. record { fields = map (λ (field : Bor (List ℕ)). field.now) row.fields.items; below = t } ∷ []) (sym b)
put_last (first ∷ []) (suc i) old row more n at f b = absurd (omega arith)
put_last (first ∷ next ∷ rows) zero old row more n at f b = absurd (omega arith)
put_last (first ∷ next ∷ rows) (suc i) old row more n at f b =
    let fewer : length (next ∷ rows) ≡ suc i = omega arith in
    ap (λ r. said_of first ∷ r) (put_last (next ∷ rows) i old row more fewer at f b)

below_put : (rows : List Row) (i : ℕ) (old row : Row) (more : List ℕ) → length rows ≡ suc i → old ≡ get_or rows i old → row.fields ≡ old.fields → string_bytes row.below ≡ string_bytes old.below ++ more → below_last (map said_of rows) more ≡ Some (map said_of (set rows i row))
below_put [] i old row more n at f b = absurd (omega arith)
below_put (first ∷ rows) i old row more n at f b = some_last (said_of first) (map said_of rows) more ∙ ap Some (put_last (first ∷ rows) i old row more n at f b)

-- what is put below the last row, or memory ran out
pub below_result : {T : Type 0} (r : Result T Stop) (rows : List Row) (i : ℕ) (old row : Row) (more : List ℕ) → length rows ≡ suc i → old ≡ get_or rows i old → row.fields ≡ old.fields → OnOk r (string_bytes row.below ≡ string_bytes old.below ++ more) → IfErr r (λ stop. stop ≡ Memory) → MatchResult r (λ _. below_last (map said_of rows) more ≡ Some (map said_of (set rows i row))) (Refuses (below_last (map said_of rows) more))
below_result (Ok u) rows i old row more n at f b s = below_put rows i old row more n at f b
below_result (Err stop) rows i old row more n at f b s = subst (Refuses (below_last (map said_of rows) more)) (sym s) tt

row_by : (kind : Bool) (rows : List Written) (line : List ℕ) → is_row line ≡ kind → put_line rows line ≡ (if kind then Some (rows ++ new_row line ∷ []) else below_last rows (put_by line))
row_by kind rows line e = ap (λ b. if b then Some (rows ++ new_row line ∷ []) else below_last rows (put_by line)) e

puts_nothing : (line : List ℕ) → ((rest : List ℕ) → line ≢ 124 ∷ rest) → put_by line ≡ []
puts_nothing [] h = refl
puts_nothing (byte ∷ bytes) h = other (byte == 124) (bytes ++ 10 ∷ []) [] (λ e. h bytes (ap (λ b. b ∷ bytes) (same_of byte 124 e)))

pub no_row_puts : (rows : List Written) (line : List ℕ) → is_row line ≡ false → ((rest : List ℕ) → line ≢ 124 ∷ rest) → put_line rows line ≡ Some rows
no_row_puts rows line e h = row_by false rows line e ∙ ap (below_last rows) (puts_nothing line h)
