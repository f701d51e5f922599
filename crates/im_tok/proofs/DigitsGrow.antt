-- A number only grows with more digits.
use Rattle.std.proofs.Common.{◌≡◌, ℕ, zero, suc, ◌+◌, ◌*◌, ◌≤◌, ◌<◌, List, [], ◌∷◌, fold, take, length, get_or, ◌^◌, arith, ap, sym, ◌∙◌}
use Rattle.std.proofs.lemmas.List.Sums.{fold_more}
use Rattle.std.specs.Char.{digit_value}
use Rattle.im_tok.specs.Digits.{digits_value}

abbrev pub more : ℕ → ℕ → ℕ → ℕ
more radix value digit = radix * value + digit_value digit

one_more : (radix value digit : ℕ) → 1 ≤ radix → value ≤ more radix value digit
one_more zero value digit some = absurd (omega arith)
one_more (suc radix) value digit some = grind arith

grows : (radix value : ℕ) (digits : List ℕ) → 1 ≤ radix → value ≤ fold (more radix) value digits
grows radix value [] some = omega arith
grows radix value (digit ∷ digits) some =
    let rest = grows radix (more radix value digit) digits some in
    omega (arith, one_more radix value digit some)

grows_from : (radix value : ℕ) (digits : List ℕ) (i : ℕ) → 1 ≤ radix → fold (more radix) value (take i digits) ≤ fold (more radix) value digits
grows_from radix value digits zero some = grows radix value digits some
grows_from radix value [] (suc i) some = omega arith
grows_from radix value (digit ∷ digits) (suc i) some = grows_from radix (more radix value digit) digits i some

pub digits_value-take : (radix : ℕ) (digits : List ℕ) (i : ℕ) → 1 ≤ radix → digits_value radix (take i digits) ≤ digits_value radix digits
digits_value-take radix digits i some = grows_from radix 0 digits i some

-- what is too large with one digit more is too large with all of them
pub too_large : (radix value : ℕ) (digits : List ℕ) (i d : ℕ) → 1 ≤ radix → i < length digits → value ≡ digits_value radix (take i digits) → (more radix value (get_or digits i d) < 2 ^ 32 → ⊥) → digits_value radix digits < 2 ^ 32 → ⊥
too_large radix value digits i d some within is over small =
    let e : more radix value (get_or digits i d) ≡ digits_value radix (take (i + 1) digits) = ap (λ v. more radix v (get_or digits i d)) is ∙ sym (fold_more (more radix) 0 digits i d within) in
    over (omega (arith, e, digits_value-take radix digits (i + 1) some))
