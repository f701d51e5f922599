-- Rows that lines are taken into, one after another.
use Rattle.std.proofs.Common.{◌≡◌, ℕ, ◌+◌, ◌<◌, length, get_or, drop, map, Bool, true, false, List, [], ◌∷◌, ◌++◌, Option, Some, None, refl, sym, ap, ◌∙◌, append_assoc, if◌then◌else◌}
use denote.Bor.{Bor}
use Rattle.std.proofs.lemmas.List.{append-nil, drop_more}
use Rattle.im_trial.specs.Tables.{Written, is_row, put_by, below_of, rows_of, add_below, below_last, new_row, put_line, fields_in}

-- the rows so far with the lines that are left
abbrev pub with_rows : Option (List Written) → List Written → Option (List Written)
with_rows None more = None
with_rows (Some rows) more = Some (rows ++ more)

abbrev pub rows_behind : List Written → List (List ℕ) → Option (List Written)
rows_behind rows lines = with_rows (below_last rows (below_of lines)) (rows_of lines)

abbrev pub then_behind : Option (List Written) → List (List ℕ) → Option (List Written)
then_behind None lines = None
then_behind (Some rows) lines = rows_behind rows lines

add_none : (rows : List Written) → add_below rows [] ≡ rows
add_none [] = refl
add_none (row ∷ []) = ap (λ b. record { fields = row.fields; below = b } ∷ []) (append-nil row.below)
add_none (row ∷ next ∷ rows) = ap (λ r. row ∷ r) (add_none (next ∷ rows))

add_add : (rows : List Written) (a b : List ℕ) → add_below (add_below rows a) b ≡ add_below rows (a ++ b)
add_add [] a b = refl
add_add (row ∷ []) a b = ap (λ c. record { fields = row.fields; below = c } ∷ []) (append_assoc row.below a b)
add_add (row ∷ next ∷ []) a b = ap (λ r. row ∷ r) (add_add (next ∷ []) a b)
add_add (row ∷ next ∷ more ∷ rows) a b = ap (λ r. row ∷ r) (add_add (next ∷ more ∷ rows) a b)

add_last : (rows : List Written) (row : Written) (more : List ℕ) → add_below (rows ++ row ∷ []) more ≡ rows ++ (record { fields = row.fields; below = row.below ++ more } ∷ [])
add_last [] row more = refl
add_last (first ∷ []) row more = refl
add_last (first ∷ next ∷ rows) row more = ap (λ r. first ∷ r) (add_last (next ∷ rows) row more)

-- below_last of rows that there are
pub some_last : (row : Written) (rows : List Written) (more : List ℕ) → below_last (row ∷ rows) more ≡ Some (add_below (row ∷ rows) more)
some_last row rows [] = ap Some (sym (add_none (row ∷ rows)))
some_last row rows (byte ∷ bytes) = refl

last_of_push : (rows : List Written) (row : Written) (more : List ℕ) → below_last (rows ++ row ∷ []) more ≡ Some (rows ++ (record { fields = row.fields; below = row.below ++ more } ∷ []))
last_of_push [] row more = some_last row [] more
last_of_push (first ∷ rows) row more = some_last first (rows ++ row ∷ []) more ∙ ap Some (add_last (first ∷ rows) row more)

push_row : (rows : List Written) (line : List ℕ) (lines : List (List ℕ)) → Some (rows ++ (record { fields = fields_in line; below = below_of lines } ∷ rows_of lines)) ≡ rows_behind (rows ++ new_row line ∷ []) lines
push_row rows line lines =
    sym (ap (λ r. with_rows r (rows_of lines)) (last_of_push rows (new_row line) (below_of lines)) ∙ ap Some (append_assoc rows (record { fields = fields_in line; below = below_of lines } ∷ []) (rows_of lines)))

first_of_add : (row : Written) (rows : List Written) (a b : List ℕ) → below_last (add_below (row ∷ rows) a) b ≡ Some (add_below (row ∷ rows) (a ++ b))
first_of_add row [] a b = some_last _ [] b ∙ ap Some (add_add (row ∷ []) a b)
first_of_add row (next ∷ rows) a b = some_last row (add_below (next ∷ rows) a) b ∙ ap Some (add_add (row ∷ next ∷ rows) a b)

put_below : (rows : List Written) (a b : List ℕ) (more : List Written) (lines : List (List ℕ)) → below_of lines ≡ b → rows_of lines ≡ more → with_rows (below_last rows (a ++ b)) more ≡ then_behind (below_last rows a) lines
put_below rows [] b more lines e f = ap (λ c. with_rows (below_last rows c) more) (sym e) ∙ ap (λ m. with_rows (below_last rows (below_of lines)) m) (sym f)
put_below [] (byte ∷ bytes) b more lines e f = refl
put_below (row ∷ rows) (byte ∷ bytes) b more lines e f =
    sym (ap (λ c. with_rows (below_last (add_below (row ∷ rows) (byte ∷ bytes)) c) (rows_of lines)) e ∙ (ap (λ m. with_rows (below_last (add_below (row ∷ rows) (byte ∷ bytes)) b) m) f ∙ ap (λ r. with_rows r more) (first_of_add row rows (byte ∷ bytes) b)))

by_kind : (kind : Bool) (rows : List Written) (line : List ℕ) (lines : List (List ℕ)) → with_rows (below_last rows (if kind then [] else put_by line ++ below_of lines)) (if kind then record { fields = fields_in line; below = below_of lines } ∷ rows_of lines else rows_of lines) ≡ then_behind (if kind then Some (rows ++ new_row line ∷ []) else below_last rows (put_by line)) lines
by_kind true rows line lines = push_row rows line lines
by_kind false rows line lines = put_below rows (put_by line) (below_of lines) (rows_of lines) lines refl refl

rows_behind_more : (rows : List Written) (line : List ℕ) (lines : List (List ℕ)) → rows_behind rows (line ∷ lines) ≡ then_behind (put_line rows line) lines
rows_behind_more rows line lines = by_kind (is_row line) rows line lines

-- one line more is taken
pub lines_more : (rows new : List Written) (lines : List (Bor (List ℕ))) (i : ℕ) (line : Bor (List ℕ)) (whole : Option (List Written)) → i < length lines → whole ≡ rows_behind rows (map (λ line. line.now) (drop i lines)) → put_line rows (get_or lines i line).now ≡ Some new → whole ≡ rows_behind new (map (λ line. line.now) (drop (i + 1) lines))
lines_more rows new lines i line whole lt e put =
    let rest = map (λ (l : Bor (List ℕ)). l.now) (drop (i + 1) lines) in
    e ∙ ap (λ (ls : List (Bor (List ℕ))). rows_behind rows (map (λ (l : Bor (List ℕ)). l.now) ls)) (drop_more lines i line lt)
    ∙ rows_behind_more rows (get_or lines i line).now rest
    ∙ ap (λ (o : Option (List Written)). then_behind o rest) put
