-- One more element: of lists that are mapped in place, and of lists that grow.
use Rattle.std.proofs.Common.{◌≡◌, ℕ, zero, suc, ◌<◌, ◌≤◌, List, [], ◌∷◌, ◌++◌, Some, refl, ap, ◌∙◌, subst, arith, length, take, drop, get_or}
use Rattle.std.specs.Prelude.{slice_get, slice_set, map, All}
use Rattle.std.proofs.lemmas.List.Elements.{All-cons}

-- one element more from the end on
pub all_from : {X : Type 0} (P : X → Type 0) (xs : List X) (i : ℕ) (x : X) → i < length xs → x ≡ get_or xs i x → P x → All P (drop (suc i) xs) → All P (drop i xs)
all_from P [] i x lt e one h = absurd (omega arith)
all_from P (y ∷ ys) zero x lt e one h = All-cons P y ys (subst P e one) h
all_from P (y ∷ ys) (suc i) x lt e one h = all_from P ys i x (omega arith) e one h

-- elements that are mapped in place

abbrev pub mapped_to : {X : Type 0} → (X → X) → ℕ → List X → List X
mapped_to f i xs = map f (take i xs) ++ drop i xs

pub mapped_length : {X : Type 0} (f : X → X) (i : ℕ) (xs : List X) → length (mapped_to f i xs) ≡ length xs
mapped_length f zero xs = refl
mapped_length f (suc i) [] = refl
mapped_length f (suc i) (x ∷ xs) = ap suc (mapped_length f i xs)

pub mapped_more : {X : Type 0} (f : X → X) (i : ℕ) (xs : List X) (d : X) → i < length xs → slice_set (mapped_to f i xs) i (f (get_or (mapped_to f i xs) i d)) ≡ mapped_to f (suc i) xs
mapped_more f i [] d lt = absurd (omega arith)
mapped_more f zero (x ∷ xs) d lt = refl
mapped_more f (suc i) (x ∷ xs) d lt = ap (λ z. f x ∷ z) (mapped_more f i xs d (omega arith))

pub mapped_all : {X : Type 0} (f : X → X) (i : ℕ) (xs : List X) → length xs ≤ i → mapped_to f i xs ≡ map f xs
mapped_all f zero [] le = refl
mapped_all f (suc i) [] le = refl
mapped_all f zero (x ∷ xs) le = absurd (omega arith)
mapped_all f (suc i) (x ∷ xs) le = ap (λ z. f x ∷ z) (mapped_all f i xs (omega arith))

pub map_same : {X : Type 0} (f : X → X) → ((x : X) → f x ≡ x) → (xs : List X) → map f xs ≡ xs
map_same f e [] = refl
map_same f e (x ∷ xs) = ap (λ z. z ∷ map f xs) (e x) ∙ ap (λ z. x ∷ z) (map_same f e xs)

-- what is known of the elements that are there, and of one more

pub pushed : {X : Type 0} (P : ℕ → X → Type 0) (xs : List X) (x : X) → ((k : ℕ) (y : X) → slice_get xs k ≡ Some y → P k y) → P (length xs) x → (k : ℕ) (y : X) → slice_get (xs ++ x ∷ []) k ≡ Some y → P k y
pushed P [] x known one zero y e = let same : x ≡ y = cc in subst (P 0) same one
pushed P [] x known one (suc k) y e = cc
pushed P (z ∷ xs) x known one zero y e = known 0 y e
pushed P (z ∷ xs) x known one (suc k) y e = pushed (λ n. P (suc n)) xs x (λ n w. known (suc n) w) one k y e
