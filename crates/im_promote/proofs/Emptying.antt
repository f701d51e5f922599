-- Objects that are registers lose their bytes, the others are as they were.
use Rattle.std.proofs.Common.{◌≡◌, ℕ, zero, suc, ◌+◌, ◌*◌, ◌/◌, ◌<◌, ◌≤◌, List, [], ◌∷◌, Option, Some, None, refl, sym, ap, ◌∙◌, subst, arith, length, take, drop, get_or}
use Rattle.std.specs.Prelude.{slice_get, slice_set}
use Rattle.std.proofs.lemmas.List.{drop_more}
use Rattle.im_block.specs.declared.unit.Object.{Object}
use Rattle.im_block.specs.Shape.{sum_of}
use Rattle.im_alloc_placed.specs.Placeable.{object_room}
use Rattle.im_promote.specs.Homes.{home_at, EmptiesObject, EmptiesObjects}

pub record EmptiedTo (own : List (Option ℕ)) (j : ℕ) (xs ys : List Object) : Type 0 where
  pub done : EmptiesObjects (take j own) (take j xs) (take j ys)
  pub left : drop j ys ≡ drop j xs

pub emptied_more : (own : List (Option ℕ)) (i : ℕ) (xs ys : List Object) (h : Option ℕ) (d y : Object) → i < length ys → i < length own → EmptiedTo own i xs ys → EmptiesObject (get_or own i h) (get_or ys i d) y → EmptiedTo own (suc i) xs (slice_set ys i y)
emptied_more own i xs [] h d y lt lt' k one = absurd (omega arith)
emptied_more [] i xs (b ∷ ys) h d y lt lt' k one = absurd (omega arith)
emptied_more (o ∷ own) zero [] (b ∷ ys) h d y lt lt' k one = (let e = k.left in cc)
emptied_more (o ∷ own) zero (a ∷ xs) (b ∷ ys) h d y lt lt' k one =
    let e = k.left in
    let same : b ≡ a = cc in
    let rest : ys ≡ xs = cc in
    record { done = (subst (λ z. EmptiesObject o z y) same one, tt); left = rest }
emptied_more (o ∷ own) (suc i) [] (b ∷ ys) h d y lt lt' k one = absurd k.done
emptied_more (o ∷ own) (suc i) (a ∷ xs) (b ∷ ys) h d y lt lt' k one =
    let m = emptied_more own i xs ys h d y (omega arith) (omega arith) (record { done = k.done.1; left = k.left }) one in
    record { done = (k.done.0, m.done); left = m.left }

pub emptied_all : (own : List (Option ℕ)) (i : ℕ) (xs ys : List Object) → length ys ≤ i → length own ≡ length xs → EmptiedTo own i xs ys → EmptiesObjects own xs ys
emptied_all [] i [] [] le e k = tt
emptied_all (o ∷ own) i [] ys le e k = absurd (omega arith)
emptied_all [] i (x ∷ xs) ys le e k = absurd (omega arith)
emptied_all [] zero [] (y ∷ ys) le e k = absurd (omega arith)
emptied_all [] (suc i) [] (y ∷ ys) le e k = absurd k.done
emptied_all (o ∷ own) zero (x ∷ xs) [] le e k = absurd (let l = k.left in cc)
emptied_all (o ∷ own) (suc i) (x ∷ xs) [] le e k = absurd k.done
emptied_all (o ∷ own) zero (x ∷ xs) (y ∷ ys) le e k = absurd (omega arith)
emptied_all (o ∷ own) (suc i) (x ∷ xs) (y ∷ ys) le e k = (k.done.0, emptied_all own i xs ys (omega arith) (omega arith) (record { done = k.done.1; left = k.left }))

pub emptied_count : (own : List (Option ℕ)) (xs ys : List Object) → EmptiesObjects own xs ys → length ys ≡ length xs
emptied_count [] [] [] h = refl
emptied_count (o ∷ own) (x ∷ xs) (y ∷ ys) h = ap suc (emptied_count own xs ys h.1)
emptied_count [] [] (y ∷ ys) h = absurd h
emptied_count [] (x ∷ xs) ys h = absurd h
emptied_count (o ∷ own) [] ys h = absurd h
emptied_count (o ∷ own) (x ∷ xs) [] h = absurd h

pub emptied_others : (own : List (Option ℕ)) (xs ys : List Object) → EmptiesObjects own xs ys → (k : ℕ) → home_at (slice_get own k) ≡ None → slice_get ys k ≡ slice_get xs k
emptied_others [] [] [] h k e = refl
emptied_others (None ∷ own) (x ∷ xs) (y ∷ ys) h zero e = ap Some h.0
emptied_others (Some r ∷ own) (x ∷ xs) (y ∷ ys) h zero e = cc
emptied_others (o ∷ own) (x ∷ xs) (y ∷ ys) h (suc k) e = emptied_others own xs ys h.1 k e
emptied_others [] [] (y ∷ ys) h k e = absurd h
emptied_others [] (x ∷ xs) ys h k e = absurd h
emptied_others (o ∷ own) [] ys h k e = absurd h
emptied_others (o ∷ own) (x ∷ xs) [] h k e = absurd h

pub emptied_own : (own : List (Option ℕ)) (xs ys : List Object) → EmptiesObjects own xs ys → (k r : ℕ) (o : Object) → home_at (slice_get own k) ≡ Some r → slice_get ys k ≡ Some o → (o.size ≡ 0) × (o.cells.items ≡ [])
emptied_own [] [] [] h k r o e at = cc
emptied_own (None ∷ own) (x ∷ xs) (y ∷ ys) h zero r o e at = cc
emptied_own (Some q ∷ own) (x ∷ xs) (y ∷ ys) h zero r o e at = let same : y ≡ o = cc in subst (λ (z : Object). (z.size ≡ 0) × (z.cells.items ≡ [])) same h.0
emptied_own (p ∷ own) (x ∷ xs) (y ∷ ys) h (suc k) r o e at = emptied_own own xs ys h.1 k r o e at
emptied_own [] [] (y ∷ ys) h k r o e at = absurd h
emptied_own [] (x ∷ xs) ys h k r o e at = absurd h
emptied_own (p ∷ own) [] ys h k r o e at = absurd h
emptied_own (p ∷ own) (x ∷ xs) [] h k r o e at = absurd h

one_room : (home : Option ℕ) (x y : Object) → EmptiesObject home x y → object_room y ≤ object_room x
one_room None x y h = let e : object_room y ≡ object_room x = ap object_room h in omega arith
one_room (Some r) x y h = let e : object_room y ≡ 4 = ap (λ n. (n / 4 + 1) * 4) h.0 in omega arith

pub emptied_room : (own : List (Option ℕ)) (xs ys : List Object) → EmptiesObjects own xs ys → sum_of object_room ys ≤ sum_of object_room xs
emptied_room [] [] [] h = omega arith
emptied_room (o ∷ own) (x ∷ xs) (y ∷ ys) h = let a = one_room o x y h.0 in let b = emptied_room own xs ys h.1 in omega (arith, a, b)
emptied_room [] [] (y ∷ ys) h = absurd h
emptied_room [] (x ∷ xs) ys h = absurd h
emptied_room (o ∷ own) [] ys h = absurd h
emptied_room (o ∷ own) (x ∷ xs) [] h = absurd h

-- objects that stay

abbrev pub no_homes : List Object → List (Option ℕ)
no_homes [] = []
no_homes (x ∷ xs) = None ∷ no_homes xs

pub no_homes_count : (xs : List Object) → length (no_homes xs) ≡ length xs
no_homes_count [] = refl
no_homes_count (x ∷ xs) = ap suc (no_homes_count xs)

pub no_homes_at : (xs : List Object) (k : ℕ) → home_at (slice_get (no_homes xs) k) ≡ None
no_homes_at [] k = refl
no_homes_at (x ∷ xs) zero = refl
no_homes_at (x ∷ xs) (suc k) = no_homes_at xs k

pub none_emptied : (xs : List Object) → EmptiesObjects (no_homes xs) xs xs
none_emptied [] = tt
none_emptied (x ∷ xs) = (refl, none_emptied xs)

-- room, object by object

pub room_more : (xs : List Object) (i : ℕ) (x : Object) → i < length xs → x ≡ get_or xs i x → sum_of object_room (drop i xs) ≡ object_room x + sum_of object_room (drop (i + 1) xs)
room_more xs i x lt is = ap (λ (z : List Object). sum_of object_room z) (drop_more xs i x lt) ∙ ap (λ (z : Object). object_room z + sum_of object_room (drop (i + 1) xs)) (sym is)

pub room_done : (xs : List Object) (i : ℕ) → length xs ≤ i → sum_of object_room (drop i xs) ≡ 0
room_done [] zero le = refl
room_done [] (suc i) le = refl
room_done (x ∷ xs) zero le = absurd (omega arith)
room_done (x ∷ xs) (suc i) le = room_done xs i (omega arith)
