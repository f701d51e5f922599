-- Reading a number digit by digit.
use Rattle.std.proofs.Common.{◌≡◌, ℕ, ◌+◌, ◌-◌, ◌*◌, ◌^◌, ◌<◌, ◌≤◌, ◌&&◌, Bool, true, false, List, [], ◌∷◌, length, get_or, drop, Some, None, refl, ap, ◌∙◌, arith, add-one}
use Rattle.std.specs.Prelude.{fold}
use Rattle.std.specs.List.{list_all}
use Rattle.std.proofs.Math.Seq.{drop-cons}
use Rattle.std.proofs.lemmas.Bool.{le-ltb, lt-ltb}
use Rattle.std.proofs.lemmas.List.{drop_all}
use Rattle.im_cmd_check.specs.Runs.{is_digit}
use Rattle.im_cmd_check.specs.Reading.{value_of, number}

abbrev pub with_digit : ℕ → ℕ → ℕ
with_digit n digit = 10 * n + (digit - 48)

-- the digits of a field up to the rest make this value
pub record ReadsTo (field : List ℕ) (value : ℕ) (rest : List ℕ) : Type 0 where
  pub value_is : value_of field ≡ fold with_digit value rest
  pub digits_are : list_all is_digit field ≡ list_all is_digit rest

pub starts : (field : List ℕ) → ReadsTo field 0 field
unfolding value_of
starts field = record { value_is = refl; digits_are = refl }

-- more digits never make a number smaller
fold_grows : (rest : List ℕ) (value : ℕ) → value ≤ fold with_digit value rest
fold_grows [] value = omega arith
fold_grows (digit ∷ rest) value = let more = fold_grows rest (with_digit value digit) in omega arith

at_next : (field : List ℕ) (i : ℕ) → i < length field → drop i field ≡ get_or field i 0 ∷ drop (i + 1) field
at_next field i lt = drop-cons field i 0 lt ∙ rw add-one refl

pub goes_on : (field : List ℕ) (i value : ℕ) → i < length field → is_digit (get_or field i 0) ≡ true
    → ReadsTo field value (drop i field) → ReadsTo field (with_digit value (get_or field i 0)) (drop (i + 1) field)
goes_on field i value lt digit reads =
    let e = at_next field i lt in
    record {
      value_is = reads.value_is ∙ ap (fold with_digit value) e;
      digits_are = reads.digits_are ∙ ap (list_all is_digit) e ∙ ap (λ b. b && list_all is_digit (drop (i + 1) field)) digit;
    }

pub no_digit : (field : List ℕ) (i value : ℕ) → i < length field → is_digit (get_or field i 0) ≡ false → ReadsTo field value (drop i field) → number field ≡ None
unfolding number
no_digit field i value lt digit reads =
    let e = at_next field i lt in
    let none : list_all is_digit field ≡ false = reads.digits_are ∙ ap (list_all is_digit) e ∙ ap (λ b. b && list_all is_digit (drop (i + 1) field)) digit in
    rw none refl

too_big_from : (field : List ℕ) → 2 ^ 32 ≤ value_of field → (b : Bool) → list_all is_digit field ≡ b → number field ≡ None
unfolding number
too_big_from field big true e = rw (e, le-ltb _ _ big) refl
too_big_from field big false e = rw e refl

pub too_big : (field : List ℕ) (i value : ℕ) → i < length field → 2 ^ 32 ≤ with_digit value (get_or field i 0) → ReadsTo field value (drop i field) → number field ≡ None
too_big field i value lt big reads =
    let e = at_next field i lt in
    let is : value_of field ≡ fold with_digit (with_digit value (get_or field i 0)) (drop (i + 1) field) = reads.value_is ∙ ap (fold with_digit value) e in
    let grows = fold_grows (drop (i + 1) field) (with_digit value (get_or field i 0)) in
    too_big_from field (omega arith) (list_all is_digit field) refl

pub ends : (field : List ℕ) (i value : ℕ) → length field ≤ i → value < 2 ^ 32 → ReadsTo field value (drop i field) → number field ≡ Some value
unfolding number
ends field i value le fits reads =
    let e = drop_all i field le in
    let digits : list_all is_digit field ≡ true = reads.digits_are ∙ ap (list_all is_digit) e in
    let is : value_of field ≡ value = reads.value_is ∙ ap (fold with_digit value) e in
    rw (digits, is, lt-ltb _ _ fits) refl
