-- Registers that are numbered in order: each is new, and each object's own.
use Rattle.std.proofs.Common.{◌≡◌, ℕ, zero, suc, ◌+◌, ◌-◌, ◌*◌, ◌/◌, ◌%◌, ◌<◌, ◌≤◌, Bool, true, false, List, [], ◌∷◌, ◌++◌, Option, Some, None, refl, sym, ap, ◌∙◌, subst, arith, length, get_or, length-append}
use Rattle.std.specs.Prelude.{slice_get, nat_le, if◌then◌else◌}
use Rattle.std.proofs.lemmas.Bool.Decides.{nat_tests}
use Rattle.std.proofs.lemmas.Option.{slice_get_within, slice_get-get_or, slice_get_past}
use Rattle.im_block.specs.declared.unit.Function.{Function}
use Rattle.im_promote.specs.Words.{has}
use Rattle.im_promote.specs.Homes.{home_at, homes_from, Numbered, MayBeRegister, AreCandidates}
use Rattle.im_promote.proofs.Lists.{pushed}

pub numbered_none : (n : ℕ) (own : List (Option ℕ)) (m : ℕ) → Numbered n own m → Numbered n (own ++ None ∷ []) m
numbered_none n [] m h = h
numbered_none n (None ∷ own) m h = numbered_none n own m h
numbered_none n (Some r ∷ own) m h = (h.0, numbered_none (suc n) own m h.1)

pub numbered_some : (n : ℕ) (own : List (Option ℕ)) (m : ℕ) → Numbered n own m → Numbered n (own ++ Some m ∷ []) (suc m)
numbered_some n [] m h = (sym h, ap suc h)
numbered_some n (None ∷ own) m h = numbered_some n own m h
numbered_some n (Some r ∷ own) m h = (h.0, numbered_some (suc n) own m h.1)

pub numbered_more : (n : ℕ) (own : List (Option ℕ)) (m : ℕ) → Numbered n own m → n ≤ m
numbered_more n [] m h = omega arith
numbered_more n (None ∷ own) m h = numbered_more n own m h
numbered_more n (Some r ∷ own) m h = let k = numbered_more (suc n) own m h.1 in omega arith

pub numbered_between : (n : ℕ) (own : List (Option ℕ)) (m k r : ℕ) → Numbered n own m → slice_get own k ≡ Some (Some r) → (n ≤ r) × (r < m)
numbered_between n [] m k r h e = cc
numbered_between n (None ∷ own) m zero r h e = cc
numbered_between n (None ∷ own) m (suc k) r h e = numbered_between n own m k r h e
numbered_between n (Some q ∷ own) m zero r h e = let same : q ≡ r = cc in let is = h.0 in let more = numbered_more (suc n) own m h.1 in (omega arith, omega arith)
numbered_between n (Some q ∷ own) m (suc k) r h e = let b = numbered_between (suc n) own m k r h.1 e in let low = b.0 in (omega arith, b.1)

pub numbered_apart : (n : ℕ) (own : List (Option ℕ)) (m i j r : ℕ) → Numbered n own m → slice_get own i ≡ Some (Some r) → slice_get own j ≡ Some (Some r) → i ≡ j
numbered_apart n [] m i j r h e f = cc
numbered_apart n (None ∷ own) m zero j r h e f = cc
numbered_apart n (None ∷ own) m (suc i) zero r h e f = cc
numbered_apart n (None ∷ own) m (suc i) (suc j) r h e f = ap suc (numbered_apart n own m i j r h e f)
numbered_apart n (Some q ∷ own) m zero zero r h e f = refl
numbered_apart n (Some q ∷ own) m zero (suc j) r h e f =
    let same : q ≡ r = cc in
    let is = h.0 in
    let b = (numbered_between (suc n) own m j r h.1 f).0 in
    absurd (omega arith)
numbered_apart n (Some q ∷ own) m (suc i) zero r h e f =
    let same : q ≡ r = cc in
    let is = h.0 in
    let b = (numbered_between (suc n) own m i r h.1 e).0 in
    absurd (omega arith)
numbered_apart n (Some q ∷ own) m (suc i) (suc j) r h e f = ap suc (numbered_apart (suc n) own m i j r h.1 e f)

-- homes by numbers in the unit

pub home_below : (first : ℕ) (own : List (Option ℕ)) (n : ℕ) → n < first → homes_from first own n ≡ None
home_below first own n lt = ap (λ (t : Bool). if t then home_at (slice_get own (n - first)) else None) no
  where
    no : nat_le first n ≡ false
    no = grind (arith, nat_tests)

pub home_from : (first : ℕ) (own : List (Option ℕ)) (n : ℕ) → first ≤ n → homes_from first own n ≡ home_at (slice_get own (n - first))
home_from first own n le = ap (λ (t : Bool). if t then home_at (slice_get own (n - first)) else None) yes
  where
    yes : nat_le first n ≡ true
    yes = grind (arith, nat_tests)

pub home_index : (first : ℕ) (own : List (Option ℕ)) (k : ℕ) → homes_from first own (first + k) ≡ home_at (slice_get own k)
home_index first own k = home_from first own (first + k) (omega arith) ∙ ap (λ z. home_at (slice_get own z)) at
  where
    at : first + k - first ≡ k
    at = omega arith

is_there : (o : Option (Option ℕ)) (r : ℕ) → home_at o ≡ Some r → o ≡ Some (Some r)
is_there None r e = cc
is_there (Some None) r e = cc
is_there (Some (Some q)) r e = ap Some e

-- an object that has a register
pub record HasHome (first : ℕ) (own : List (Option ℕ)) (n r : ℕ) : Type 0 where
  pub index : ℕ
  pub number : n ≡ first + index
  pub within : index < length own
  pub at : slice_get own index ≡ Some (Some r)

pub has_home : (first : ℕ) (own : List (Option ℕ)) (n r : ℕ) → homes_from first own n ≡ Some r → HasHome first own n r
has_home first own n r e = by (nat_le first n) refl
  where
    by : (t : Bool) → nat_le first n ≡ t → HasHome first own n r
    by true q =
        let le : first ≤ n = grind (arith, nat_tests) in
        let at = is_there (slice_get own (n - first)) r (sym (home_from first own n le) ∙ e) in
        record { index = n - first; number = omega arith; within = slice_get_within own (n - first) (Some r) at; at = at }
    by false q = (let lt : n < first = grind (arith, nat_tests) in let none = home_below first own n lt in cc)

-- the objects so far have their registers

pub record ChosenTo (f : Function) (k : ℕ) (own : List (Option ℕ)) (next : ℕ) : Type 0 where
  pub count : length own ≡ k
  pub numbered : Numbered f.register_count own next
  pub may : (i r : ℕ) → slice_get own i ≡ Some (Some r) → MayBeRegister f (f.first_object + i)

pub chosen_none : (f : Function) (k : ℕ) (own : List (Option ℕ)) (next : ℕ) → ChosenTo f k own next → ChosenTo f (k + 1) (own ++ None ∷ []) next
chosen_none f k own next c = record {
  count = length-append own (None ∷ []) ∙ ap (λ z. z + 1) c.count;
  numbered = numbered_none f.register_count own next c.numbered;
  may = λ i r e. pushed (λ (i : ℕ) (home : Option ℕ). home ≡ Some r → MayBeRegister f (f.first_object + i)) own None (λ i home at is. c.may i r (at ∙ ap Some is)) (λ is. cc) i (Some r) e refl;
}

pub chosen_some : (f : Function) (k : ℕ) (own : List (Option ℕ)) (next : ℕ) → MayBeRegister f (f.first_object + k) → ChosenTo f k own next → ChosenTo f (k + 1) (own ++ Some next ∷ []) (next + 1)
chosen_some f k own next one c = record {
  count = length-append own (Some next ∷ []) ∙ ap (λ z. z + 1) c.count;
  numbered = subst (Numbered f.register_count (own ++ Some next ∷ [])) last (numbered_some f.register_count own next c.numbered);
  may = λ i r e. pushed (λ (i : ℕ) (home : Option ℕ). home ≡ Some r → MayBeRegister f (f.first_object + i)) own (Some next) (λ i home at is. c.may i r (at ∙ ap Some is))
      (λ is. subst (λ z. MayBeRegister f (f.first_object + z)) (sym c.count) one) i (Some r) e refl;
}
  where
    last : suc next ≡ next + 1
    last = omega arith

-- a bit of a word says that an object may be a register
pub chosen_may : (f : Function) (words : List ℕ) (k word : ℕ) → AreCandidates f words → k < length f.objects.items → word ≡ get_or words (k / 32) word → has word (k % 32) ≡ true → MayBeRegister f (f.first_object + k)
chosen_may f words k word a lt is e =
    let enough = a.enough in
    let within : k / 32 < length words = omega arith in
    let any : Some (get_or words (k / 32) 0) ≡ Some (get_or words (k / 32) word) = sym (slice_get-get_or words (k / 32) 0 within) ∙ slice_get-get_or words (k / 32) word within in
    let same : get_or words (k / 32) 0 ≡ word = cc in
    let number : f.first_object + 32 * (k / 32) + k % 32 ≡ f.first_object + k = omega arith in
    subst (MayBeRegister f) number (a.each (k / 32) (k % 32) within (omega arith) (subst (λ z. has z (k % 32) ≡ true) (sym same) e))

-- reading a register

pub home_read : (own : List (Option ℕ)) (i : ℕ) (home : Option ℕ) → i < length own → home ≡ get_or own i home → home_at (slice_get own i) ≡ home
home_read own i home lt is = ap home_at (slice_get-get_or own i home lt) ∙ sym is

pub home_past : (own : List (Option ℕ)) (i : ℕ) → length own ≤ i → home_at (slice_get own i) ≡ None
home_past own i le = ap home_at (slice_get_past own i le)
