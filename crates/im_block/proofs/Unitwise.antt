-- Lists that are related place by place, and code that is made block by block and function by function.
use Rattle.std.proofs.Common.{◌≡◌, ℕ, zero, suc, ◌+◌, ◌<◌, ◌≤◌, List, [], ◌∷◌, Option, Some, None, refl, ap, ◌∙◌, subst, arith, length, take, drop, get_or, length-drop}
use Rattle.std.specs.Prelude.{slice_get, slice_set, map, All}
use Rattle.std.specs.List.{AllZip}
use Rattle.std.proofs.lemmas.List.Elements.{All-nil, All-cons, All-head, All-tail}
use Rattle.im_block.specs.declared.unit.Function.{Function}
use Rattle.im_block.specs.Shape.{sum_of}
use Rattle.im_block.specs.Wellformed.{Takes}
use Rattle.im_block.specs.Unitwise.{AllZipFrom, number_at, place_behind}

-- ---- what stands at one place

abbrev pub Both : {X : Type 0} → (X → X → Type 0) → Option X → Option X → Type 0
Both R None None = Unit {0}
Both R (Some x) (Some y) = R x y
Both R None (Some y) = ⊥
Both R (Some x) None = ⊥

-- what an element of the new list was made of
pub record Old {X : Type 0} (R : X → X → Type 0) (xs : List X) (i : ℕ) (y : X) : Type 0 where
  pub old : X
  pub at : slice_get xs i ≡ Some old
  pub is : R old y

module _ {X : Type 0} (R : X → X → Type 0) where
  pub zip_at : (xs ys : List X) (i : ℕ) → AllZip R xs ys → Both R (slice_get xs i) (slice_get ys i)
  zip_at [] [] i h = tt
  zip_at [] (y ∷ ys) i h = absurd h
  zip_at (x ∷ xs) [] i h = absurd h
  zip_at (x ∷ xs) (y ∷ ys) zero h = h.0
  zip_at (x ∷ xs) (y ∷ ys) (suc i) h = zip_at xs ys i h.1

  pub zip_old : (xs ys : List X) (i : ℕ) (y : X) → AllZip R xs ys → slice_get ys i ≡ Some y → Old R xs i y
  zip_old [] [] i y h e = cc
  zip_old [] (z ∷ ys) i y h e = absurd h
  zip_old (x ∷ xs) [] i y h e = absurd h
  zip_old (x ∷ xs) (z ∷ ys) zero y h e =
      let one : z ≡ y = cc in
      record { old = x; at = refl; is = subst (R x) one h.0 }
  zip_old (x ∷ xs) (z ∷ ys) (suc i) y h e = let o = zip_old xs ys i y h.1 e in record { old = o.old; at = o.at; is = o.is }

  pub zip_new : (xs ys : List X) (i : ℕ) (x : X) → AllZip R xs ys → slice_get xs i ≡ Some x → (y : X) × (slice_get ys i ≡ Some y) × R x y
  zip_new [] [] i x h e = absurd cc
  zip_new [] (y ∷ ys) i x h e = absurd h
  zip_new (z ∷ xs) [] i x h e = absurd h
  zip_new (z ∷ xs) (y ∷ ys) zero x h e = (y, refl, let one : z ≡ x = cc in subst (λ k. R k y) one h.0)
  zip_new (z ∷ xs) (y ∷ ys) (suc i) x h e = zip_new xs ys i x h.1 e

  -- ---- as many, and what holds of all

  pub zip_length : (xs ys : List X) → AllZip R xs ys → length ys ≡ length xs
  zip_length [] [] h = refl
  zip_length [] (y ∷ ys) h = absurd h
  zip_length (x ∷ xs) [] h = absurd h
  zip_length (x ∷ xs) (y ∷ ys) h = ap suc (zip_length xs ys h.1)

  pub zip_each : (P Q : X → Type 0) → ((x y : X) → R x y → P x → Q y) → (xs ys : List X) → AllZip R xs ys → All P xs → All Q ys
  zip_each P Q k [] [] h a = All-nil Q
  zip_each P Q k [] (y ∷ ys) h a = absurd h
  zip_each P Q k (x ∷ xs) [] h a = absurd h
  zip_each P Q k (x ∷ xs) (y ∷ ys) h a = All-cons Q y ys (k x y h.0 (All-head P x xs a)) (zip_each P Q k xs ys h.1 (All-tail P x xs a))

  pub zip_take : (i : ℕ) (xs ys : List X) → AllZip R xs ys → AllZip R (take i xs) (take i ys)
  zip_take zero xs ys h = tt
  zip_take (suc i) [] [] h = tt
  zip_take (suc i) [] (y ∷ ys) h = absurd h
  zip_take (suc i) (x ∷ xs) [] h = absurd h
  zip_take (suc i) (x ∷ xs) (y ∷ ys) h = (h.0, zip_take i xs ys h.1)

  pub zip_map : {Y : Type 0} (f : X → Y) → ((x y : X) → R x y → f y ≡ f x) → (xs ys : List X) → AllZip R xs ys → map f ys ≡ map f xs
  zip_map f k [] [] h = refl
  zip_map f k [] (y ∷ ys) h = absurd h
  zip_map f k (x ∷ xs) [] h = absurd h
  zip_map f k (x ∷ xs) (y ∷ ys) h = ap (λ z. z ∷ map f ys) (k x y h.0) ∙ ap (λ zs. f x ∷ zs) (zip_map f k xs ys h.1)

  pub zip_sum : (f : X → ℕ) → ((x y : X) → R x y → f y ≡ f x) → (xs ys : List X) → AllZip R xs ys → sum_of f ys ≡ sum_of f xs
  zip_sum f k [] [] h = refl
  zip_sum f k [] (y ∷ ys) h = absurd h
  zip_sum f k (x ∷ xs) [] h = absurd h
  zip_sum f k (x ∷ xs) (y ∷ ys) h = let one = k x y h.0 in let more = zip_sum f k xs ys h.1 in omega (arith, one, more)

  pub zip_less : (f : X → ℕ) → ((x y : X) → R x y → f y ≤ f x) → (xs ys : List X) → AllZip R xs ys → sum_of f ys ≤ sum_of f xs
  zip_less f k [] [] h = omega arith
  zip_less f k [] (y ∷ ys) h = absurd h
  zip_less f k (x ∷ xs) [] h = absurd h
  zip_less f k (x ∷ xs) (y ∷ ys) h = let one = k x y h.0 in let more = zip_less f k xs ys h.1 in omega (arith, one, more)

  -- ---- nothing is changed; what holds between old and new by more than R

  pub zip_same : ((x : X) → R x x) → (xs : List X) → AllZip R xs xs
  zip_same k [] = tt
  zip_same k (x ∷ xs) = (k x, zip_same k xs)

  pub zip_so : (S : X → X → Type 0) (xs ys : List X) → ((i : ℕ) (x y : X) → slice_get xs i ≡ Some x → R x y → S x y) → AllZip R xs ys → AllZip S xs ys
  zip_so S [] [] k h = tt
  zip_so S [] (y ∷ ys) k h = absurd h
  zip_so S (x ∷ xs) [] k h = absurd h
  zip_so S (x ∷ xs) (y ∷ ys) k h = (k 0 x y refl h.0, zip_so S xs ys (λ i a b at. k (suc i) a b at) h.1)

  pub zip_then : (S T : X → X → Type 0) → ((x y z : X) → R x y → S y z → T x z) → (xs ys zs : List X) → AllZip R xs ys → AllZip S ys zs → AllZip T xs zs
  zip_then S T k [] [] [] h g = tt
  zip_then S T k [] [] (z ∷ zs) h g = absurd g
  zip_then S T k [] (y ∷ ys) zs h g = absurd h
  zip_then S T k (x ∷ xs) [] zs h g = absurd h
  zip_then S T k (x ∷ xs) (y ∷ ys) [] h g = absurd g
  zip_then S T k (x ∷ xs) (y ∷ ys) (z ∷ zs) h g = (k x y z h.0 g.0, zip_then S T k xs ys zs h.1 g.1)

-- ---- numbered place by place

-- pairs of the old elements and the new ones so far, and the old ones that are left
pub record FromTo {X : Type 0} (next : X → ℕ → ℕ) (R : ℕ → X → X → Type 0) (n j : ℕ) (xs ys : List X) : Type 0 where
  pub done : AllZipFrom next R n (take j xs) (take j ys)
  pub left : drop j ys ≡ drop j xs

module _ {X : Type 0} (next : X → ℕ → ℕ) (R : ℕ → X → X → Type 0) where
  pub from_old : (n : ℕ) (xs ys : List X) (i : ℕ) (y : X) → AllZipFrom next R n xs ys → slice_get ys i ≡ Some y → Old (R (number_at next n xs i)) xs i y
  from_old n [] [] i y h e = cc
  from_old n [] (z ∷ ys) i y h e = absurd h
  from_old n (x ∷ xs) [] i y h e = absurd h
  from_old n (x ∷ xs) (z ∷ ys) zero y h e =
      let one : z ≡ y = cc in
      record { old = x; at = refl; is = subst (R n x) one h.0 }
  from_old n (x ∷ xs) (z ∷ ys) (suc i) y h e = let o = from_old (next x n) xs ys i y h.1 e in record { old = o.old; at = o.at; is = o.is }

  pub from_new : (n : ℕ) (xs ys : List X) (i : ℕ) (x : X) → AllZipFrom next R n xs ys → slice_get xs i ≡ Some x → (m : ℕ) × (y : X) × (slice_get ys i ≡ Some y) × R m x y
  from_new n [] [] i x h e = absurd cc
  from_new n [] (y ∷ ys) i x h e = absurd h
  from_new n (z ∷ xs) [] i x h e = absurd h
  from_new n (z ∷ xs) (y ∷ ys) zero x h e = (n, y, refl, let one : z ≡ x = cc in subst (λ k. R n k y) one h.0)
  from_new n (z ∷ xs) (y ∷ ys) (suc i) x h e = from_new (next z n) xs ys i x h.1 e

  pub from_so : (S : X → X → Type 0) → ((n : ℕ) (x y : X) → R n x y → S x y) → (n : ℕ) (xs ys : List X) → AllZipFrom next R n xs ys → AllZip S xs ys
  from_so S k n [] [] h = tt
  from_so S k n [] (y ∷ ys) h = absurd h
  from_so S k n (x ∷ xs) [] h = absurd h
  from_so S k n (x ∷ xs) (y ∷ ys) h = (k n x y h.0, from_so S k (next x n) xs ys h.1)

  pub from_more : (n i : ℕ) (xs ys : List X) (d y : X) → i < length ys → FromTo next R n i xs ys → R (number_at next n xs i) (get_or ys i d) y → FromTo next R n (suc i) xs (slice_set ys i y)
  from_more n i xs [] d y lt h one = absurd (omega arith)
  from_more n zero [] (b ∷ ys) d y lt h one = (let e = h.left in cc)
  from_more n zero (a ∷ xs) (b ∷ ys) d y lt h one =
      let e = h.left in
      let same : b ≡ a = cc in
      let rest : ys ≡ xs = cc in
      record { done = (subst (λ z. R n z y) same one, tt); left = rest }
  from_more n (suc i) [] (b ∷ ys) d y lt h one = absurd h.done
  from_more n (suc i) (a ∷ xs) (b ∷ ys) d y lt h one =
      let m = from_more (next a n) i xs ys d y (omega arith) (record { done = h.done.1; left = h.left }) one in
      record { done = (h.done.0, m.done); left = m.left }

pub number_is : {X : Type 0} (n : ℕ) (xs : List X) (i : ℕ) → i < length xs → number_at place_behind n xs i ≡ n + i
number_is n [] i lt = absurd (omega arith)
number_is n (x ∷ xs) zero lt = (let here : n ≡ n + 0 = omega arith in here)
number_is n (x ∷ xs) (suc i) lt = number_is (suc n) xs i (omega arith) ∙ omega arith

-- ---- lists that are rewritten in place

-- what holds of all holds of each
pub all_at : {X : Type 0} (P : X → Type 0) (xs : List X) (i : ℕ) (x : X) → All P xs → slice_get xs i ≡ Some x → P x
all_at P [] i x h e = cc
all_at P (y ∷ ys) zero x h e = let same : y ≡ x = cc in subst P same (All-head P y ys h)
all_at P (y ∷ ys) (suc i) x h e = all_at P ys i x (All-tail P y ys h) e

-- an element that is as it was
pub left_at : {X : Type 0} (xs ys : List X) (i : ℕ) (d : X) → i < length ys → drop i ys ≡ drop i xs → slice_get xs i ≡ Some (get_or ys i d)
left_at {X = X} xs [] i d lt e = absurd (omega arith)
left_at {X = X} [] (y ∷ ys) i d lt e = absurd (omega (arith, ap length e, length-drop {A = X} i (y ∷ ys), length-drop {A = X} i []))
left_at {X = X} (x ∷ xs) (y ∷ ys) zero d lt e = let one : x ≡ y = cc in ap Some one
left_at {X = X} (x ∷ xs) (y ∷ ys) (suc i) d lt e = left_at xs ys i d (omega arith) e

pub item_all : {X : Type 0} (P : X → Type 0) (xs ys : List X) (i : ℕ) (d : X) → i < length ys → drop i ys ≡ drop i xs → All P xs → P (get_or ys i d)
item_all P xs ys i d lt e a = all_at P xs i (get_or ys i d) a (left_at xs ys i d lt e)

-- what is at a place
pub got : {X : Type 0} (xs : List X) (i : ℕ) (d : X) → i < length xs → slice_get xs i ≡ Some (get_or xs i d)
got xs i d lt = left_at xs xs i d lt refl

-- pairs of the old elements and the new ones so far, and the old ones that are left
pub record ZipTo {X : Type 0} (R : X → X → Type 0) (j : ℕ) (xs ys : List X) : Type 0 where
  pub done : AllZip R (take j xs) (take j ys)
  pub left : drop j ys ≡ drop j xs

pub zip_more : {X : Type 0} (R : X → X → Type 0) (i : ℕ) (xs ys : List X) (d y : X) → i < length ys → ZipTo R i xs ys → R (get_or ys i d) y → ZipTo R (suc i) xs (slice_set ys i y)
zip_more R i xs [] d y lt h one = absurd (omega arith)
zip_more R zero [] (b ∷ ys) d y lt h one = (let e = h.left in cc)
zip_more R zero (a ∷ xs) (b ∷ ys) d y lt h one =
    let e = h.left in
    let same : b ≡ a = cc in
    let rest : ys ≡ xs = cc in
    record { done = (subst (λ z. R z y) same one, tt); left = rest }
zip_more R (suc i) [] (b ∷ ys) d y lt h one = absurd h.done
zip_more R (suc i) (a ∷ xs) (b ∷ ys) d y lt h one =
    let m = zip_more R i xs ys d y (omega arith) (record { done = h.done.1; left = h.left }) one in
    record { done = (h.done.0, m.done); left = m.left }

pub zip_all : {X : Type 0} (R : X → X → Type 0) (i : ℕ) (xs ys : List X) → length ys ≤ i → ZipTo R i xs ys → AllZip R xs ys
zip_all R i [] [] le h = tt
zip_all R zero [] (y ∷ ys) le h = absurd (omega arith)
zip_all R (suc i) [] (y ∷ ys) le h = absurd h.done
zip_all R zero (x ∷ xs) [] le h = absurd (let e = h.left in cc)
zip_all R (suc i) (x ∷ xs) [] le h = absurd h.done
zip_all R zero (x ∷ xs) (y ∷ ys) le h = absurd (omega arith)
zip_all R (suc i) (x ∷ xs) (y ∷ ys) le h = (h.done.0, zip_all R i xs ys (omega arith) (record { done = h.done.1; left = h.left }))

-- ---- functions of a unit

module _ (R : Function → Function → Type 0) where
  -- calls are of functions that take as many arguments
  pub takes_kept : ((f g : Function) → R f g → g.parameters ≡ f.parameters) → (o p : Option Function) (count : ℕ) → Both R o p → Takes o count → Takes p count
  takes_kept same None None count both h = h
  takes_kept same None (Some g) count both h = absurd both
  takes_kept same (Some f) None count both h = absurd both
  takes_kept same (Some f) (Some g) count both h = same f g both ∙ h

  -- objects are numbered through the unit as before
  pub numbers_kept : ((f g : Function) → R f g → g.first_object ≡ f.first_object) → ((f g : Function) → R f g → length g.objects.items ≡ length f.objects.items) → (n : ℕ) (fs gs : List Function) → AllZip R fs gs →
      ((i : ℕ) (f : Function) → slice_get fs i ≡ Some f → f.first_object ≡ n + sum_of (λ (k : Function). length k.objects.items) (take i fs)) →
      (i : ℕ) (g : Function) → slice_get gs i ≡ Some g → g.first_object ≡ n + sum_of (λ (k : Function). length k.objects.items) (take i gs)
  numbers_kept first count n fs gs h was i g at =
      let o = zip_old R fs gs i g h at in
      let sums = zip_sum R (λ (k : Function). length k.objects.items) count (take i fs) (take i gs) (zip_take R i fs gs h) in
      let one = first o.old g o.is in
      let before = was i o.old o.at in
      omega (arith, sums, one, before)
