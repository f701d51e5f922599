-- Integer constants as they are printed.
use Rattle.std.proofs.Common.{◌≡◌, ℕ, zero, suc, ◌+◌, ◌-◌, ◌*◌, ◌^◌, ◌≤◌, ◌<◌, inl, inr, Bool, true, false, cond, nat_le, List, [], ◌∷◌, ◌++◌, length, take, sym, subst, ap, refl, ◌∙◌, arith, length-append, decimal, fold, Some, None, find}
use Rattle.std.specs.Prelude.{slice_index, slice_range}
use Rattle.std.specs.Char.{digit_value}
use Rattle.std.specs.Str.Parse.{AllDigits, digits_value_after}
use Rattle.std.proofs.lemmas.Fmt.{decimal_is_IsNumeral, first_decimal, decimal_digit}
use Rattle.std.proofs.lemmas.Str.Parse.{digit_from_value}
use Rattle.im_tok.specs.Digits.{digits_value}
use Rattle.im_tok.specs.Numbers.{Begins, IsSuffix, greatest, candidates, IsNumeral}
use Rattle.im_tok.specs.declared.number.Base.TheVariants.{Decimal, Octal}
use Rattle.im_tok.specs.declared.number.Suffix.{Suffix}
use Rattle.im_tok.specs.declared.number.Suffix.TheVariants.{Absent, U, L, Ul}
use Rattle.im_tok.specs.declared.number.NumberType.{NumberType}
use Rattle.im_tok.specs.declared.number.NumberType.TheVariants.{Int, UnsignedInt, Long, UnsignedLong}
use Rattle.im_tok.specs.declared.number.Number.{Number}
use Rattle.im_lex.specs.Bytes.{IsNameByte}
use Rattle.im_lex.specs.Pieces.{IsNumberRun}
use Rattle.im_print_relation.specs.Text.{suffix_text}
use Rattle.im_print_relation.proofs.Elements.{index_first, take_front, drop_front, least_of}

digit_byte : (c : ℕ) → digit_value c < 10 → (48 ≤ c) × (c ≤ 57)
digit_byte c h = (omega (arith, digit_from_value c h), omega (arith, digit_from_value c h))

-- the value of digits, first with first
value_after : (ds : List ℕ) (n : ℕ) → digits_value_after 10 n ds ≡ fold (λ value digit. 10 * value + digit_value digit) n ds
value_after [] n = refl
value_after (c ∷ ds) n = value_after ds (n * 10 + digit_value c) ∙ ap (λ k. fold (λ value digit. 10 * value + digit_value digit) k ds) (omega arith)

value_is : (n : ℕ) → n < 2 ^ 64 → digits_value 10 (decimal n) ≡ n
value_is n small = sym (value_after (decimal n) 0) ∙ (decimal_is_IsNumeral n small).1

some_digit : (n : ℕ) → n < 2 ^ 64 → 0 < length (decimal n)
some_digit n small = (decimal_is_IsNumeral n small).0.0

digits_at : (ds v : List ℕ) → AllDigits 10 ds → (i : ℕ) → i < length ds → digit_value (slice_index (ds ++ v) i) < 10
digits_at [] v all i within = absurd (omega (arith, within))
digits_at (c ∷ ds) v all zero within = all.0
digits_at (c ∷ ds) v all (suc i) within = digits_at ds v all.1 i (omega (arith, within))

-- each byte goes on a name
abbrev NameBytes : List ℕ → Type 0
NameBytes [] = Unit {0}
NameBytes (c ∷ ds) = IsNameByte c × NameBytes ds

digits_go_on : (ds v : List ℕ) → AllDigits 10 ds → NameBytes v → NameBytes (ds ++ v)
digits_go_on [] v all more = more
digits_go_on (c ∷ ds) v all more = (inr (digit_byte c all.0), digits_go_on ds v all.1 more)

suffix_goes_on : (t : NumberType) → NameBytes (suffix_text t)
suffix_goes_on Int = tt
suffix_goes_on UnsignedInt = (inl (inr (inl (omega arith, omega arith))), tt)
suffix_goes_on Long = (inl (inr (inl (omega arith, omega arith))), tt)
suffix_goes_on UnsignedLong = (inl (inr (inl (omega arith, omega arith))), (inl (inr (inl (omega arith, omega arith))), tt))

name_byte_at : (u : List ℕ) → NameBytes u → (i : ℕ) → i < length u → IsNameByte (slice_index u i)
name_byte_at [] are i within = absurd (omega (arith, within))
name_byte_at (c ∷ u) are zero within = are.0
name_byte_at (c ∷ u) are (suc i) within = name_byte_at u are.1 i (omega (arith, within))

pub first_digit : (n : Number) → n.value < 2 ^ 64 → (v : List ℕ) → (48 ≤ slice_index ((decimal n.value ++ suffix_text n.number_type) ++ v) 0) × (slice_index ((decimal n.value ++ suffix_text n.number_type) ++ v) 0 ≤ 57)
first_digit n small v =
    let ds = decimal n.value in
    let s = suffix_text n.number_type in
    let some = some_digit n.value small in
    let e = index_first (ds ++ s) v (omega (arith, some, length-append ds s)) in
    let h = digit_byte (slice_index (ds ++ s) 0) (digits_at ds s (decimal_is_IsNumeral n.value small).0.1 0 some) in
    (omega (arith, e, h.0), omega (arith, e, h.1))

pub number_run : (n : Number) → n.value < 2 ^ 64 → IsNumberRun (decimal n.value ++ suffix_text n.number_type)
number_run n small =
    let ds = decimal n.value in
    let s = suffix_text n.number_type in
    let all = (decimal_is_IsNumeral n.value small).0.1 in
    let some = some_digit n.value small in
    let are = digits_go_on ds s all (suffix_goes_on n.number_type) in
    record {
      some = omega (arith, some, length-append ds s);
      begins = inl (digit_byte (slice_index (ds ++ s) 0) (digits_at ds s all 0 some));
      each = λ i least within. inl (name_byte_at (ds ++ s) are i within);
    }

-- what the value of a number of a type is at most
found_by : {A : Type 0} (test : A → Bool) (y : A) (ys : List A) (x : A) → (find test ys ≡ Some x → test x ≡ true) → (b : Bool) → test y ≡ b → cond b (Some y) (find test ys) ≡ Some x → test x ≡ true
found_by test y ys x rest true is e =
    let f : Some y ≡ Some x = e in
    let same : y ≡ x = cc f in
    subst (λ z. test z ≡ true) same is
found_by test y ys x rest false is e = rest e

found_holds : {A : Type 0} (test : A → Bool) (xs : List A) (x : A) → find test xs ≡ Some x → test x ≡ true
found_holds test [] x e = absurd (cc e)
found_holds test (y ∷ ys) x e = found_by test y ys x (found_holds test ys x) (test y) refl e

pub value_bound : (bytes : List ℕ) (n : Number) → IsNumeral bytes n → nat_le n.value (greatest n.number_type) ≡ true
value_bound bytes n is = found_holds (λ t. nat_le n.value (greatest t)) (candidates is.base is.suffix) n.number_type is.holds

most : (t : NumberType) → greatest t ≤ 4294967295
most Int = omega arith
most UnsignedInt = omega arith
most Long = omega arith
most UnsignedLong = omega arith

pub value_small : (n : Number) → nat_le n.value (greatest n.number_type) ≡ true → n.value < 2 ^ 64
value_small n h =
    omega (arith, least_of n.value (greatest n.number_type) h, most n.number_type)

abbrev suffix_of : NumberType → Suffix
suffix_of Int = Absent
suffix_of UnsignedInt = U
suffix_of Long = L
suffix_of UnsignedLong = Ul

suffix_is : (t : NumberType) → IsSuffix (suffix_of t) (suffix_text t)
suffix_is Int = refl
suffix_is UnsignedInt = (refl, inl refl)
suffix_is Long = (refl, inl refl)
suffix_is UnsignedLong = (refl, inl (inl refl, inl refl))

-- a type that holds the value is the first of those of a decimal constant with its suffix
decimal_type : (v : ℕ) (t : NumberType) → nat_le v (greatest t) ≡ true → find (λ s. nat_le v (greatest s)) (candidates Decimal (suffix_of t)) ≡ Some t
decimal_type v Int h = ap (λ b. cond b (Some Int) None) h
decimal_type v UnsignedInt h = ap (λ b. cond b (Some UnsignedInt) None) h
decimal_type v Long h = ap (λ b. cond b (Some Long) None) h
decimal_type v UnsignedLong h = ap (λ b. cond b (Some UnsignedLong) None) h

zero_begins : (t : NumberType) → Begins Octal (48 ∷ suffix_text t)
zero_begins Int = (refl, λ e. (let f : 0 ≡ 120 = e in omega (arith, f)), λ e. (let f : 0 ≡ 88 = e in omega (arith, f)))
zero_begins UnsignedInt = (refl, λ e. (let f : 117 ≡ 120 = e in omega (arith, f)), λ e. (let f : 117 ≡ 88 = e in omega (arith, f)))
zero_begins Long = (refl, λ e. (let f : 108 ≡ 120 = e in omega (arith, f)), λ e. (let f : 108 ≡ 88 = e in omega (arith, f)))
zero_begins UnsignedLong = (refl, λ e. (let f : 117 ≡ 120 = e in omega (arith, f)), λ e. (let f : 117 ≡ 88 = e in omega (arith, f)))

zero_type : (t : NumberType) → find (λ s. nat_le 0 (greatest s)) (candidates Octal (suffix_of t)) ≡ Some t
zero_type Int = refl
zero_type UnsignedInt = refl
zero_type Long = refl
zero_type UnsignedLong = refl

zero_digit : (t : NumberType) (i : ℕ) → i < 1 → digit_value (slice_index (48 ∷ suffix_text t) i) < 8
zero_digit t zero h = let f : 0 < 8 = omega arith in f
zero_digit t (suc i) h = absurd (omega (arith, h))

zero_is : (n : Number) → n.value ≡ 0 → IsNumeral (48 ∷ suffix_text n.number_type) n
zero_is n none = record {
  base = Octal;
  suffix = suffix_of n.number_type;
  end = 1;
  begins = zero_begins n.number_type;
  some = omega arith;
  within = omega arith;
  digits = λ i least under. zero_digit n.number_type i under;
  ends = suffix_is n.number_type;
  value = none;
  holds = subst (λ z. find (λ s. nat_le z (greatest s)) (candidates Octal (suffix_of n.number_type)) ≡ Some n.number_type) (sym none) (zero_type n.number_type);
}

decimal_is : (n : Number) → 0 < n.value → n.value < 2 ^ 64 → nat_le n.value (greatest n.number_type) ≡ true → IsNumeral (decimal n.value ++ suffix_text n.number_type) n
decimal_is n positive small h =
    let ds = decimal n.value in
    let s = suffix_text n.number_type in
    let all = (decimal_is_IsNumeral n.value small).0.1 in
    let some = some_digit n.value small in
    let e = index_first ds s some in
    let first = digit_byte (slice_index (ds ++ s) 0) (digits_at ds s all 0 some) in
    let range : slice_range (ds ++ s) 0 (length ds) ≡ ds = ap (λ k. take k (ds ++ s)) (let f : length ds - 0 ≡ length ds = omega arith in f) ∙ take_front ds s in
    record {
      base = Decimal;
      suffix = suffix_of n.number_type;
      end = length ds;
      begins = (omega (arith, e, first_decimal n.value positive small), first.1);
      some = some;
      within = omega (arith, length-append ds s);
      digits = λ i least under. digits_at ds s all i under;
      ends = subst (λ z. IsSuffix (suffix_of n.number_type) z) (sym (drop_front ds s)) (suffix_is n.number_type);
      value = sym (value_is n.value small) ∙ ap (λ z. digits_value 10 z) (sym range);
      holds = decimal_type n.value n.number_type h;
    }

numeral_by : (n : Number) (v : ℕ) → n.value ≡ v → n.value < 2 ^ 64 → nat_le n.value (greatest n.number_type) ≡ true → IsNumeral (decimal n.value ++ suffix_text n.number_type) n
numeral_by n zero is small h =
    let zero_text : decimal n.value ≡ 48 ∷ [] = ap (λ z. decimal z) is ∙ decimal_digit 0 (omega arith) in
    subst (λ z. IsNumeral (z ++ suffix_text n.number_type) n) (sym zero_text) (zero_is n is)
numeral_by n (suc v) is small h = decimal_is n (omega (arith, is)) small h

pub numeral_is : (n : Number) → nat_le n.value (greatest n.number_type) ≡ true → IsNumeral (decimal n.value ++ suffix_text n.number_type) n
numeral_is n h = numeral_by n n.value refl (value_small n h) h
