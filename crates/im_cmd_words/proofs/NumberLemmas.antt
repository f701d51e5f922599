-- What `parse` reads of a text that begins plainly is its plain number.
use Rattle.std.proofs.Common.{ap, refl, true, false, ℕ, Bool, List, [], ◌∷◌, Some, ◌≡◌, ◌≢◌, ◌^◌, ◌&&◌, codes, arith, get_or, nat_lt}
use Rattle.std.specs.Char.{digit_value, is_digit}
use Rattle.std.specs.List.{list_all}
use Rattle.std.specs.Prelude.{Result, Ok, Err}
use Rattle.std.specs.Result.{result_ok}
use Rattle.std.specs.Str.{bytes_eq}
use Rattle.std.specs.Str.Parse.{AllDigits, IsNumeral, ParsesUnsigned, digits_value, without_leading_plus}
use Rattle.std.proofs.lemmas.Bool.{ltb-true, lt-ltb}
use Rattle.std.proofs.lemmas.Slice.Eq.{bytes_eq-Decides}
use Rattle.std.proofs.lemmas.Str.Parse.{without_leading_plus_none}
use Rattle.clap.proofs.WalkLemmas.{both}
use Rattle.im_cmd_words.specs.Numbers.{is_numeral, plain_number, starts_plainly}

digits_from : (ds : List ℕ) → list_all (λ d. is_digit d 10) ds ≡ true → AllDigits 10 ds
digits_from [] e = tt
digits_from (d ∷ ds) e =
    let parts = both _ _ e in
    (ltb-true _ _ parts.0, digits_from ds parts.1)

digits_back : (ds : List ℕ) → AllDigits 10 ds → list_all (λ d. is_digit d 10) ds ≡ true
digits_back [] h = refl
digits_back (d ∷ ds) h = rw (lt-ltb (digit_value d) 10 h.0) (digits_back ds h.1)

numeral_from : (ds : List ℕ) → is_numeral ds ≡ true → IsNumeral 10 ds
numeral_from ds e =
    let parts = both _ _ e in
    (ltb-true _ _ parts.0, digits_from ds parts.1)

numeral_back : (ds : List ℕ) → IsNumeral 10 ds → is_numeral ds ≡ true
numeral_back ds h = rw (lt-ltb _ _ h.0) (digits_back ds h.1)

no_plus : (text : List ℕ) → starts_plainly text ≡ true → get_or text 0 0 ≢ 43
no_plus text plain e = go (bytes_eq text (codes "0")) refl
  where
    go : (b : Bool) → bytes_eq text (codes "0") ≡ b → ⊥
    go true t =
        let is : text ≡ codes "0" = (bytes_eq-Decides text (codes "0")).0 t in
        let bad : 48 ≡ 43 = rw is at e in
        absurd (omega (arith, bad))
    go false t =
        let bad : false ≡ true = rw (t, e) at plain in
        cc

read_here : {E : Type 0} (text : List ℕ) (r : Result ℕ E) (plain : starts_plainly text ≡ true)
    → (b : Bool) → (is_numeral text && nat_lt (digits_value 10 text) (2 ^ 32)) ≡ b
    → ParsesUnsigned 32 10 text r → without_leading_plus text ≡ text → result_ok r ≡ plain_number text
read_here text (Ok n) plain b e h same =
    let p = rw same at h in
    rw (plain, numeral_back text p.0.0, lt-ltb _ _ p.0.1) (ap (λ (x : ℕ). Some x) p.1)
read_here text (Err d) plain true e h same =
    let p = rw same at h in
    let parts = both _ _ e in
    absurd (p (numeral_from text parts.0, ltb-true _ _ parts.1))
read_here text (Err d) plain false e h same = rw (plain, e) refl

-- the number that `parse` reads of a text that begins plainly
pub read_plainly : {E : Type 0} (text : List ℕ) (r : Result ℕ E) → starts_plainly text ≡ true → ParsesUnsigned 32 10 text r
    → result_ok r ≡ plain_number text
read_plainly text r plain h =
    read_here text r plain (is_numeral text && nat_lt (digits_value 10 text) (2 ^ 32)) refl h
    (without_leading_plus_none text (no_plus text plain))
