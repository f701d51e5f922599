-- Decimal numbers with blanks between them are read back.
use Rattle.std.proofs.Common.{◌≡◌, ℕ, zero, suc, ◌+◌, ◌-◌, ◌*◌, ◌^◌, ◌<◌, true, false, cond, ◌&&◌, List, [], ◌∷◌, ◌++◌, length, map, Some, None, refl, ap, ◌∙◌, arith}
use Rattle.std.specs.Prelude.{All, ◌==◌, nat_lt, not, filter, fold, decimal, slice_index}
use Rattle.std.specs.List.{list_all, slice_split}
use Rattle.std.specs.Char.{digit_value}
use Rattle.std.specs.Str.Parse.{AllDigits, digits_value_after}
use Rattle.std.proofs.lemmas.Bool.{le-ltb, lt-ltb}
use Rattle.std.proofs.lemmas.Bool.Decides.{nat_tests}
use Rattle.std.proofs.lemmas.List.Elements.{All-cons, All-nil, All-append}
use Rattle.std.proofs.lemmas.List.Splits.{slice_split_at, slice_split_none}
use Rattle.std.proofs.lemmas.Str.{digit_value_digit}
use Rattle.std.proofs.lemmas.Str.Parse.{digit_from_value}
use Rattle.std.proofs.lemmas.Fmt.{decimal_is_IsNumeral, decimal_nonempty}
use Rattle.im_power.specs.declared.period.Period.{Period}
use Rattle.im_power.specs.declared.line.Line.{Line}
use Rattle.im_power.specs.declared.line.Line.TheVariants.{Skipped, Gives}
use Rattle.im_power.specs.Text.{is_line_end, is_blank, is_digit, value_of, number, mask_of, period, fields, line_of, lines_of, first_fault, periods_of, repeats, trace_of}
use Rattle.im_power.specs.Laws.{line_text, trace_text, IsWritable, WrittenLaw}

-- ---- a number

with_digit : ℕ → ℕ → ℕ
with_digit n digit = 10 * n + (digit - 48)

value_after : (n : ℕ) (ds : List ℕ) → AllDigits 10 ds → fold (λ n digit. 10 * n + (digit - 48)) n ds ≡ digits_value_after 10 n ds
value_after n [] d = refl
value_after n (c ∷ cs) d =
    let k = digit_value_digit c (digit_from_value c d.0) in
    let e : 10 * n + (c - 48) ≡ n * 10 + digit_value c = omega arith in
    ap (λ m. fold (λ n digit. 10 * n + (digit - 48)) m cs) e ∙ value_after (n * 10 + digit_value c) cs d.1

is_a_digit : (c : ℕ) → digit_value c < 10 → is_digit c ≡ true
is_a_digit c h = let r = digit_from_value c h in grind (arith, nat_tests)

all_digits : (ds : List ℕ) → AllDigits 10 ds → list_all is_digit ds ≡ true
all_digits [] d = refl
all_digits (c ∷ cs) d = ap (λ b. b && list_all is_digit cs) (is_a_digit c d.0) ∙ all_digits cs d.1

-- no digit is a blank or an LF, and none begins a comment
not_blank : (c : ℕ) → digit_value c < 10 → is_blank c ≡ false
not_blank c h = let r = digit_from_value c h in grind (arith, nat_tests)

not_end : (c : ℕ) → digit_value c < 10 → is_line_end c ≡ false
not_end c h = let r = digit_from_value c h in grind (arith, nat_tests)

no_blank : (ds : List ℕ) → AllDigits 10 ds → All (λ c. is_blank c ≡ false) ds
no_blank [] d = All-nil _
no_blank (c ∷ cs) d = All-cons (λ c. is_blank c ≡ false) c cs (not_blank c d.0) (no_blank cs d.1)

no_end : (ds : List ℕ) → AllDigits 10 ds → All (λ c. is_line_end c ≡ false) ds
no_end [] d = All-nil _
no_end (c ∷ cs) d = All-cons (λ c. is_line_end c ≡ false) c cs (not_end c d.0) (no_end cs d.1)

no_comment : (ds : List ℕ) → AllDigits 10 ds → (slice_index ds 0 == 59) ≡ false
no_comment [] d = refl
no_comment (c ∷ cs) d = let r = digit_from_value c d.0 in grind (arith, nat_tests)

digits : (n : ℕ) → n < 2 ^ 32 → AllDigits 10 (decimal n)
digits n h = (decimal_is_IsNumeral n (omega arith)).0.1

pub number_back : (n : ℕ) → n < 2 ^ 32 → number (decimal n) ≡ Some n
unfolding number value_of
number_back n h =
    let e : fold (λ n digit. 10 * n + (digit - 48)) 0 (decimal n) ≡ n = value_after 0 (decimal n) (digits n h) ∙ (decimal_is_IsNumeral n (omega arith)).1 in
    rw (all_digits (decimal n) (digits n h), e, lt-ltb n (2 ^ 32) h) refl

-- ---- a line

kept : (n : ℕ) → n < 2 ^ 32 → (rest : List (List ℕ)) → filter (λ field. not (length field == 0)) (decimal n ∷ rest) ≡ decimal n ∷ filter (λ field. not (length field == 0)) rest
kept n h rest =
    let some = decimal_nonempty n (omega arith) in
    let e : (length (decimal n) == 0) ≡ false = grind (arith, nat_tests) in
    ap (λ b. cond (not b) (decimal n ∷ filter (λ field. not (length field == 0)) rest) (filter (λ field. not (length field == 0)) rest)) e

parted : (n : ℕ) (rest : List ℕ) → n < 2 ^ 32 → slice_split is_blank (decimal n ++ 32 ∷ rest) ≡ decimal n ∷ slice_split is_blank rest
parted n rest h = slice_split_at is_blank (decimal n) 32 rest (no_blank (decimal n) (digits n h)) refl

fields_back : (p : Period) → IsWritable p → fields (line_text p) ≡ decimal p.n ∷ decimal p.junk ∷ decimal p.count ∷ decimal p.mask ∷ []
unfolding fields
fields_back p w =
    let last : p.mask < 2 ^ 32 = let m = w.mask in omega arith in
    let split : slice_split is_blank (line_text p) ≡ decimal p.n ∷ decimal p.junk ∷ decimal p.count ∷ decimal p.mask ∷ [] =
    parted p.n _ w.n
    ∙ ap (λ l. decimal p.n ∷ l) (parted p.junk _ w.junk)
    ∙ ap (λ l. decimal p.n ∷ decimal p.junk ∷ l) (parted p.count _ w.count)
    ∙ ap (λ l. decimal p.n ∷ decimal p.junk ∷ decimal p.count ∷ l) (slice_split_none is_blank (decimal p.mask) (no_blank (decimal p.mask) (digits p.mask last))) in
    ap (filter (λ field. not (length field == 0))) split
    ∙ kept p.n w.n (decimal p.junk ∷ decimal p.count ∷ decimal p.mask ∷ [])
    ∙ ap (λ l. decimal p.n ∷ l) (kept p.junk w.junk (decimal p.count ∷ decimal p.mask ∷ []))
    ∙ ap (λ l. decimal p.n ∷ decimal p.junk ∷ l) (kept p.count w.count (decimal p.mask ∷ []))
    ∙ ap (λ l. decimal p.n ∷ decimal p.junk ∷ decimal p.count ∷ l) (kept p.mask last [])

given : (n junk count mask : ℕ) → 0 < count → mask < 16 → period (Some n) (Some junk) (Some count) (mask_of (Some mask)) ≡ Gives (record { n = n; junk = junk; count = count; mask = mask })
given n junk zero mask some h = absurd (omega arith)
given n junk (suc others) mask some h = ap (λ b. period (Some n) (Some junk) (Some (suc others)) (cond b (Some mask) None)) (lt-ltb mask 16 h)

line_back : (p : Period) → IsWritable p → line_of (line_text p) ≡ Gives p
unfolding line_of
line_back p w =
    let last : p.mask < 2 ^ 32 = let m = w.mask in omega arith in
    rw (fields_back p w, no_comment (decimal p.n) (digits p.n w.n), number_back p.n w.n, number_back p.junk w.junk, number_back p.count w.count, number_back p.mask last)
    (given p.n p.junk p.count p.mask w.some w.mask)

-- ---- a text

abbrev not_line_end : ℕ → Type 0
not_line_end c = is_line_end c ≡ false

ends_apart : (p : Period) → IsWritable p → All (λ c. is_line_end c ≡ false) (line_text p)
ends_apart p w =
    let last : p.mask < 2 ^ 32 = let m = w.mask in omega arith in
    All-append not_line_end (decimal p.n) _ (no_end (decimal p.n) (digits p.n w.n)) (All-cons not_line_end 32 _ refl
    (All-append not_line_end (decimal p.junk) _ (no_end (decimal p.junk) (digits p.junk w.junk)) (All-cons not_line_end 32 _ refl
    (All-append not_line_end (decimal p.count) _ (no_end (decimal p.count) (digits p.count w.count)) (All-cons not_line_end 32 _ refl
    (no_end (decimal p.mask) (digits p.mask last)))))))

abbrev pub said : List Period → List Line
said [] = Skipped ∷ []
said (p ∷ ps) = Gives p ∷ said ps

lines_back : (ps : List Period) → All IsWritable ps → lines_of (trace_text ps) ≡ said ps
unfolding lines_of line_of fields
lines_back [] all = refl
lines_back (p ∷ ps) all =
    let w : IsWritable p = all 0 p (omega arith) in
    ap (map line_of) (slice_split_at is_line_end (line_text p) 10 (trace_text ps) (ends_apart p w) refl)
    ∙ ap (λ l. l ∷ lines_of (trace_text ps)) (line_back p w)
    ∙ ap (λ l. Gives p ∷ l) (lines_back ps (λ i d l. all (suc i) d (omega arith)))

no_fault : (ps : List Period) (k : ℕ) → first_fault k (said ps) ≡ None
no_fault [] k = refl
no_fault (p ∷ ps) k = no_fault ps (k + 1)

periods_back : (ps : List Period) → periods_of (said ps) ≡ ps
periods_back [] = refl
periods_back (p ∷ ps) = ap (λ l. p ∷ l) (periods_back ps)

pub written : WrittenLaw
unfolding trace_of
written ps all few =
    let small : nat_lt 1000000 (repeats ps) ≡ false = le-ltb 1000000 (repeats ps) few in
    rw (lines_back ps all, no_fault ps 1, periods_back ps, small) refl
