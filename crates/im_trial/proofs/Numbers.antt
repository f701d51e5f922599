-- What `parse` and `from_str_radix` read, as the numbers of a field.
use Rattle.std.proofs.Common.{◌≡◌, ℕ, zero, suc, ◌≤◌, ◌<◌, ◌^◌, ◌-◌, List, [], ◌∷◌, Bool, true, false, cond, ltb, leb, length, Option, Some, None, Result, Ok, Err, ℤ, pos, neg_ℤ, SFits, refl, sym, ap, subst, ◌∙◌, arith, MatchResult, if◌then◌else◌}
use mir.Syntax.{w64}
use Rattle.std.proofs.lemmas.Bool.{and_from, and_parts, lt-ltb, le-leb, ltb-true, leb-true, false≢true}
use Rattle.std.specs.Char.{digit_value}
use Rattle.std.specs.Result.{OkIff}
use Rattle.std.specs.Str.Parse.{AllDigits, IsNumeral, digits_value, without_leading_plus, starts_with_minus, ParsesUnsigned, ParsesSigned}
use Rattle.im_trial.specs.Numbers.{are_digits, number_up_to, word_in, integer_in, signed}

digits_true : (radix : ℕ) (ds : List ℕ) → AllDigits radix ds → are_digits radix ds ≡ true
digits_true radix [] h = refl
digits_true radix (c ∷ cs) h = and_from _ _ (lt-ltb (digit_value c) radix h.0) (digits_true radix cs h.1)

digits_all : (radix : ℕ) (ds : List ℕ) → are_digits radix ds ≡ true → AllDigits radix ds
digits_all radix [] h = tt
digits_all radix (c ∷ cs) h =
    let p = and_parts (ltb (digit_value c) radix) (are_digits radix cs) h in
    (ltb-true (digit_value c) radix p.0, digits_all radix cs p.1)

some_if : (b : Bool) (n : ℕ) → b ≡ true → (if b then Some n else None) ≡ Some n
some_if true n h = refl
some_if false n h = absurd (false≢true h)

none_if : (b : Bool) (n : ℕ) → (b ≡ true → ⊥) → (if b then Some n else None) ≡ None
none_if true n h = absurd (h refl)
none_if false n h = refl

number_some : (most radix : ℕ) (ds : List ℕ) → IsNumeral radix ds → digits_value radix ds ≤ most → number_up_to most radix ds ≡ Some (digits_value radix ds)
number_some most radix ds h l =
    some_if _ _ (and_from _ _ (lt-ltb 0 (length ds) h.0) (and_from _ _ (digits_true radix ds h.1) (le-leb (digits_value radix ds) most l)))

number_none : (most radix : ℕ) (ds : List ℕ) → (IsNumeral radix ds × (digits_value radix ds ≤ most) → ⊥) → number_up_to most radix ds ≡ None
number_none most radix ds h =
    none_if _ _ (λ e.
    let p = and_parts (ltb 0 (length ds)) _ e in
    let q = and_parts (are_digits radix ds) (leb (digits_value radix ds) most) p.1 in
    h ((ltb-true 0 (length ds) p.0, digits_all radix ds q.0), leb-true (digits_value radix ds) most q.1))

below : (n : ℕ) → n < 2 ^ 32 → n ≤ 2 ^ 32 - 1
below n h = omega arith

at_most : (n : ℕ) → n ≤ 2 ^ 32 - 1 → n < 2 ^ 32
at_most n h = omega arith

pub word_read : {E : Type 0} (radix : ℕ) (text : List ℕ) (r : Result ℕ E) → ParsesUnsigned 32 radix text r → MatchResult r (λ n. word_in radix text ≡ Some n) (λ _. word_in radix text ≡ None)
word_read radix text (Ok n) h =
    number_some (2 ^ 32 - 1) radix (without_leading_plus text) h.0.0 (below _ h.0.1) ∙ ap Some (sym h.1)
word_read radix text (Err e) h =
    number_none (2 ^ 32 - 1) radix (without_leading_plus text) (λ k. h (k.0, at_most _ k.1))

from_fits : (n : ℕ) → SFits w64 (neg_ℤ (pos n)) → n ≤ 2 ^ 63
from_fits zero h = omega arith
from_fits (suc n) h = omega (arith, h.sfits)

fits_from : (n : ℕ) → n ≤ 2 ^ 63 → SFits w64 (neg_ℤ (pos n))
fits_from zero h = record { sfits = omega arith }
fits_from (suc n) h = record { sfits = omega arith }

from_fits_plain : (n : ℕ) → SFits w64 (pos n) → n ≤ 2 ^ 63 - 1
from_fits_plain n h = omega (arith, h.sfits)

fits_from_plain : (n : ℕ) → n ≤ 2 ^ 63 - 1 → SFits w64 (pos n)
fits_from_plain n h = record { sfits = omega arith }

abbrev minus : ℕ → ℤ
minus n = neg_ℤ (pos n)

read_minus : {E : Type 0} (ds : List ℕ) (r : Result ℤ E) → OkIff r (IsNumeral 10 ds × SFits w64 (minus (digits_value 10 ds))) (minus (digits_value 10 ds)) → MatchResult r (λ z. signed (λ n. neg_ℤ (pos n)) (number_up_to (2 ^ 63) 10 ds) ≡ Some z) (λ _. signed (λ n. neg_ℤ (pos n)) (number_up_to (2 ^ 63) 10 ds) ≡ None)
read_minus ds (Ok z) h =
    ap (signed (λ n. neg_ℤ (pos n))) (number_some (2 ^ 63) 10 ds h.0.0 (from_fits _ h.0.1)) ∙ ap Some (sym h.1)
read_minus ds (Err e) h =
    ap (signed (λ n. neg_ℤ (pos n))) (number_none (2 ^ 63) 10 ds (λ k. h (k.0, fits_from _ k.1)))

read_plain : {E : Type 0} (ds : List ℕ) (r : Result ℤ E) → OkIff r (IsNumeral 10 ds × SFits w64 (pos (digits_value 10 ds))) (pos (digits_value 10 ds)) → MatchResult r (λ z. signed pos (number_up_to (2 ^ 63 - 1) 10 ds) ≡ Some z) (λ _. signed pos (number_up_to (2 ^ 63 - 1) 10 ds) ≡ None)
read_plain ds (Ok z) h =
    ap (signed pos) (number_some (2 ^ 63 - 1) 10 ds h.0.0 (from_fits_plain _ h.0.1)) ∙ ap Some (sym h.1)
read_plain ds (Err e) h =
    ap (signed pos) (number_none (2 ^ 63 - 1) 10 ds (λ k. h (k.0, fits_from_plain _ k.1)))

abbrev by_sign : Bool → List ℕ → List ℕ → Option ℤ
by_sign b ds plain =
    if b then signed (λ n. neg_ℤ (pos n)) (number_up_to (2 ^ 63) 10 ds) else signed pos (number_up_to (2 ^ 63 - 1) 10 plain)

read_by_sign : {E : Type 0} (b : Bool) (ds plain : List ℕ) (r : Result ℤ E) → OkIff r (IsNumeral 10 (cond b ds plain) × SFits w64 (cond b (minus (digits_value 10 (cond b ds plain))) (pos (digits_value 10 (cond b ds plain))))) (cond b (minus (digits_value 10 (cond b ds plain))) (pos (digits_value 10 (cond b ds plain)))) → MatchResult r (λ z. by_sign b ds plain ≡ Some z) (λ _. by_sign b ds plain ≡ None)
read_by_sign true ds plain r h = read_minus ds r h
read_by_sign false ds plain r h = read_plain plain r h

pub integer_read : {E : Type 0} (text : List ℕ) (r : Result ℤ E) → ParsesSigned w64 10 text r → MatchResult r (λ z. integer_in text ≡ Some z) (λ _. integer_in text ≡ None)
integer_read text r h = read_by_sign (starts_with_minus text) _ (without_leading_plus text) r h

fits_value : {E : Type 0} (r : Result ℤ E) (P : Type 0) (z : ℤ) → OkIff r (P × SFits w64 z) z → MatchResult r (λ v. SFits w64 v) (λ _. Unit {0})
fits_value (Ok v) P z h = subst (SFits w64) (sym h.1) h.0.1
fits_value (Err e) P z h = tt

pub integer_fits : {E : Type 0} (text : List ℕ) (r : Result ℤ E) → ParsesSigned w64 10 text r → MatchResult r (λ z. SFits w64 z) (λ _. Unit {0})
integer_fits text r h = fits_value r _ _ h
