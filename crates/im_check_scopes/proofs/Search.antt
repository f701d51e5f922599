-- The last entry that passes a test, and what is searched by it.
use Rattle.std.proofs.Common.{◌≡◌, ℕ, suc, ◌<◌, ◌≤◌, Bool, true, false, ◌||◌, List, [], ◌∷◌, ◌++◌, length, get_or, Option, Some, None, if◌then◌else◌, nat_lt, refl, sym, ap, ◌∙◌, arith}
use Rattle.std.proofs.lemmas.Bool.{lt-ltb, ltb-true, ltb-false}
use Rattle.std.proofs.lemmas.Option.{none-some, same_Some}
use Rattle.im_check_name_map.specs.im_rules.Scopes.{Scopes}
use Rattle.im_check_scopes.specs.declared.entity.Entry.{Entry}
use Rattle.im_check_scopes.specs.Shape.{with_entry, with_entries}
use Rattle.im_check_scopes.specs.Search.{or_first, last_place}

pub entries-behind : (g : Scopes) (es : List Entry) (e : Entry) → with_entries g (es ++ e ∷ []) ≡ with_entry (with_entries g es) e
entries-behind g [] e = refl
entries-behind g (y ∷ ys) e = entries-behind (with_entry g y) ys e

pub last-behind : (test : Entry → Bool) (es : List Entry) (e : Entry) → last_place test (es ++ e ∷ []) ≡ (if test e then Some (length es) else last_place test es)
last-behind test [] e = refl
last-behind test (y ∷ ys) e = ap (λ r. or_first r (test y)) (last-behind test ys e) ∙ by (test e)
  where
    by : (b : Bool) → or_first (if b then Some (length ys) else last_place test ys) (test y) ≡ (if b then Some (suc (length ys)) else or_first (last_place test ys) (test y))
    by true = refl
    by false = refl

-- where none passes, it is the same before any entry
none-first : (r : Option ℕ) (b : Bool) → or_first r b ≡ None → (r ≡ None) × (b ≡ false)
none-first None false h = (refl, refl)
none-first None true h = absurd cc
none-first (Some i) b h = absurd cc

some-first : (i : ℕ) (b : Bool) → or_first None b ≡ Some i → (b ≡ true) × (i ≡ 0)
some-first i true h = (refl, sym (same_Some 0 i h))
some-first i false h = absurd cc

module _ {R : Type 0} (S : Scopes → R) (test : Entry → Bool) (read : Entry → R) (step : (g : Scopes) (y : Entry) → S (with_entry g y) ≡ (if test y then read y else S g)) where
  pub searched-none : (g : Scopes) (es : List Entry) → last_place test es ≡ None → S (with_entries g es) ≡ S g
  searched-none g [] h = refl
  searched-none g (y ∷ ys) h =
      let p = none-first (last_place test ys) (test y) h in
      searched-none (with_entry g y) ys p.0 ∙ step g y ∙ ap (λ b. if b then read y else S g) p.1

  pub searched-some : (g : Scopes) (es : List Entry) (i : ℕ) (d : Entry) → last_place test es ≡ Some i → S (with_entries g es) ≡ read (get_or es i d)
  searched-some g [] i d h = absurd cc
  searched-some g (y ∷ ys) i d h = by (last_place test ys) refl h (λ j e. searched-some (with_entry g y) ys j d e)
    where
      by : (r : Option ℕ)
          → last_place test ys ≡ r
          → or_first r (test y) ≡ Some i
          → ((j : ℕ) → last_place test ys ≡ Some j → S (with_entries (with_entry g y) ys) ≡ read (get_or ys j d))
          → S (with_entries (with_entry g y) ys) ≡ read (get_or (y ∷ ys) i d)
      by None e k rest =
          let p = some-first i (test y) k in
          searched-none (with_entry g y) ys e ∙ step g y ∙ ap (λ b. if b then read y else S g) p.0 ∙ ap (λ n. read (get_or (y ∷ ys) n d)) (sym p.1)
      by (Some j) e k rest = rest j e ∙ ap (λ n. read (get_or (y ∷ ys) n d)) (same_Some (suc j) i k)

-- the place is one of the list, and what stands there passes
pub last-within : (test : Entry → Bool) (es : List Entry) (i : ℕ) → last_place test es ≡ Some i → i < length es
last-within test [] i h = absurd cc
last-within test (y ∷ ys) i h = by (last_place test ys) refl h (λ j e. last-within test ys j e)
  where
    by : (r : Option ℕ) → last_place test ys ≡ r → or_first r (test y) ≡ Some i → ((j : ℕ) → last_place test ys ≡ Some j → j < length ys) → i < suc (length ys)
    by None e k rest = let p = (some-first i (test y) k).1 in omega arith
    by (Some j) e k rest =
        let w = rest j e in
        let p : suc j ≡ i = same_Some (suc j) i k in
        omega arith

pub last-passes : (test : Entry → Bool) (es : List Entry) (i : ℕ) (d : Entry) → last_place test es ≡ Some i → test (get_or es i d) ≡ true
last-passes test [] i d h = absurd cc
last-passes test (y ∷ ys) i d h = by (last_place test ys) refl h (λ j e. last-passes test ys j d e)
  where
    by : (r : Option ℕ) → last_place test ys ≡ r → or_first r (test y) ≡ Some i → ((j : ℕ) → last_place test ys ≡ Some j → test (get_or ys j d) ≡ true) → test (get_or (y ∷ ys) i d) ≡ true
    by None e k rest =
        let p = some-first i (test y) k in
        ap (λ n. test (get_or (y ∷ ys) n d)) p.1 ∙ p.0
    by (Some j) e k rest = ap (λ n. test (get_or (y ∷ ys) n d)) (sym (same_Some (suc j) i k)) ∙ rest j e

-- the later of two places
abbrev pub later : Option ℕ → Option ℕ → Option ℕ
later None b = b
later (Some i) None = Some i
later (Some i) (Some j) = if nat_lt i j then Some j else Some i

same-order : (i j : ℕ) → nat_lt i j ≡ nat_lt (suc i) (suc j)
same-order i j = by (nat_lt i j) refl
  where
    by : (b : Bool) → nat_lt i j ≡ b → b ≡ nat_lt (suc i) (suc j)
    by true h = let w = ltb-true i j h in sym (lt-ltb (suc i) (suc j) (omega arith))
    by false h = other (nat_lt (suc i) (suc j)) refl
      where
        other : (c : Bool) → nat_lt (suc i) (suc j) ≡ c → false ≡ c
        other false k = refl
        other true k =
            let w = ltb-true (suc i) (suc j) k in
            sym h ∙ lt-ltb i j (omega arith)

first-before : (j : ℕ) → nat_lt 0 (suc j) ≡ true
first-before j = lt-ltb 0 (suc j) (omega arith)

after-first : (i : ℕ) → nat_lt (suc i) 0 ≡ false
after-first i = by (nat_lt (suc i) 0) refl
  where
    by : (b : Bool) → nat_lt (suc i) 0 ≡ b → b ≡ false
    by false h = refl
    by true h = let w = ltb-true (suc i) 0 h in absurd (omega arith)

module _ (p q : Entry → Bool) where
  pub last-either : (es : List Entry) → last_place (λ y. q y || p y) es ≡ later (last_place p es) (last_place q es)
  last-either [] = refl
  last-either (y ∷ ys) = ap (λ r. or_first r (q y || p y)) (last-either ys) ∙ by (last_place p ys) (last_place q ys) (p y) (q y)
    where
      by : (a b : Option ℕ) (c e : Bool) → or_first (later a b) (e || c) ≡ later (or_first a c) (or_first b e)
      by None None true true = refl
      by None None true false = refl
      by None None false true = refl
      by None None false false = refl
      by None (Some j) true e = sym (ap (λ b. if b then Some (suc j) else Some 0) (first-before j))
      by None (Some j) false e = refl
      by (Some i) None c true = sym (ap (λ b. if b then Some 0 else Some (suc i)) (after-first i))
      by (Some i) None c false = refl
      by (Some i) (Some j) c e = inside (nat_lt i j) ∙ ap (λ b. if b then Some (suc j) else Some (suc i)) (same-order i j)
        where
          inside : (b : Bool) → or_first (if b then Some j else Some i) (e || c) ≡ (if b then Some (suc j) else Some (suc i))
          inside true = refl
          inside false = refl
