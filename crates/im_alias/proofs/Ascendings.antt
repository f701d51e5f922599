-- Ascending lists: how long they may be, and what an insertion makes of one.
use Rattle.std.proofs.Common.{ℕ, zero, suc, ◌+◌, ◌<◌, ◌≤◌, List, [], ◌∷◌, length, get_or, subst, arith}
use Rattle.std.specs.List.{insert}
use Rattle.std.proofs.lemmas.List.Edits.{length-insert, get_or-insert_below, get_or-insert_at, get_or-insert_above}
use Rattle.im_alias.specs.Ascending.{IsAscending, IsWithin}
use Rattle.im_alias.proofs.Lists.{has_at}

lowest : (xs : List ℕ) → IsAscending xs → (k : ℕ) → k < length xs → k ≤ get_or xs k 0
lowest xs up zero h = omega arith
lowest xs up (suc k) h =
    let a = lowest xs up k (omega arith) in
    let b : get_or xs k 0 < get_or xs (suc k) 0 = up k (suc k) (omega arith) h in
    omega arith

pub few : (bound : ℕ) (xs : List ℕ) → IsAscending xs → IsWithin bound xs → length xs ≤ bound
few bound [] up within = omega arith
few bound (x ∷ xs) up within =
    let last : length xs < length (x ∷ xs) = omega arith in
    let a = lowest (x ∷ xs) up (length xs) last in
    let b = within (get_or (x ∷ xs) (length xs) 0) (has_at (x ∷ xs) (length xs) 0 last) in
    omega arith

-- a place before, at or behind the one of the insertion
data Where (i : ℕ) : ℕ → Type 0 where
  Before : (j : ℕ) → j < i → Where i j
  Here : Where i i
  Behind : (j : ℕ) → i ≤ j → Where i (j + 1)

where_is : (i j : ℕ) → Where i j
where_is zero zero = Here
where_is zero (suc j) = subst (λ n. Where zero n) (omega arith) (Behind j (omega arith))
where_is (suc i) zero = Before zero (omega arith)
where_is (suc i) (suc j) = more (where_is i j)
  where
    more : {n : ℕ} → Where i n → Where (suc i) (suc n)
    more (Before n h) = Before (suc n) (omega arith)
    more Here = Here
    more (Behind n h) = subst (λ m. Where (suc i) m) (omega arith) (Behind (suc n) (omega arith))

pub ascends : (xs : List ℕ) (i x : ℕ) → IsAscending xs → i ≤ length xs → ((k : ℕ) → k < i → get_or xs k 0 < x) → ((k : ℕ) → i ≤ k → k < length xs → x < get_or xs k 0) → IsAscending (insert xs i x)
ascends xs i x up le low high = λ a b less within. pairs a b less (omega (arith, length-insert xs i x le)) (where_is i a) (where_is i b)
  where
    pairs : (a b : ℕ) → a < b → b < length xs + 1 → Where i a → Where i b → get_or (insert xs i x) a 0 < get_or (insert xs i x) b 0
    pairs a b less within (Before j h) (Before m k) =
        let p = get_or-insert_below xs i x 0 a h le in
        let q = get_or-insert_below xs i x 0 b k le in
        let r = up a b less (omega arith) in
        omega arith
    pairs a b less within (Before j h) Here =
        let p = get_or-insert_below xs i x 0 a h le in
        let q = get_or-insert_at xs i x 0 le in
        let r = low a h in
        omega arith
    pairs a b less within (Before j h) (Behind m k) =
        let p = get_or-insert_below xs i x 0 a h le in
        let q = get_or-insert_above xs i x 0 m k le in
        let r = up a m (omega arith) (omega arith) in
        omega arith
    pairs a b less within Here (Before m k) = absurd (omega arith)
    pairs a b less within Here Here = absurd (omega arith)
    pairs a b less within Here (Behind m k) =
        let p = get_or-insert_at xs i x 0 le in
        let q = get_or-insert_above xs i x 0 m k le in
        let r = high m k (omega arith) in
        omega arith
    pairs a b less within (Behind j h) (Before m k) = absurd (omega arith)
    pairs a b less within (Behind j h) Here = absurd (omega arith)
    pairs a b less within (Behind j h) (Behind m k) =
        let p = get_or-insert_above xs i x 0 j h le in
        let q = get_or-insert_above xs i x 0 m k le in
        let r = up j m (omega arith) (omega arith) in
        omega arith
