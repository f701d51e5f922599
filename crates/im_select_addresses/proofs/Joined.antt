-- Numbers of lists that stand one behind the other.
use Rattle.std.proofs.Common.{◌≡◌, ◌<◌, ℕ, zero, suc, ◌+◌, List, [], ◌∷◌, ◌++◌, Some, length, take, refl, ap, ◌∙◌, arith}
use Rattle.std.specs.Prelude.{slice_get, slice_index}
use Rattle.im_block.specs.declared.unit.Function.{Function}
use Rattle.im_block.specs.Shape.{sum_of}
use Rattle.im_frame.specs.declared.layout.Layout.{Layout}
use Rattle.im_select_addresses.specs.Addresses.{joined}

index_left : (xs ys : List ℕ) (k : ℕ) → k < length xs → slice_index (xs ++ ys) k ≡ slice_index xs k
index_left [] ys k h = absurd (omega arith)
index_left (x ∷ xs) ys zero h = refl
index_left (x ∷ xs) ys (suc k) h = index_left xs ys k (omega arith)

pub index_right : (xs ys : List ℕ) (n k : ℕ) → n ≡ length xs + k → slice_index (xs ++ ys) n ≡ slice_index ys k
index_right [] ys n k e = ap (slice_index ys) (let q : n ≡ k = omega arith in q)
index_right (x ∷ xs) ys zero k e = absurd (omega arith)
index_right (x ∷ xs) ys (suc n) k e = index_right xs ys n k (omega arith)

pub joined_at : {X : Type 0} (w : X → List ℕ) (xs : List X) (i k n : ℕ) (x : X) → slice_get xs i ≡ Some x → k < length (w x) → n ≡ sum_of (λ (y : X). length (w y)) (take i xs) + k → slice_index (joined w xs) n ≡ slice_index (w x) k
joined_at w [] i k n x e h q = absurd cc
joined_at w (y ∷ ys) zero k n x e h q =
    let same : y ≡ x = cc in
    let l : length (w y) ≡ length (w x) = ap (λ z. length (w z)) same in
    let z : n ≡ k = omega arith in
    ap (slice_index (w y ++ joined w ys)) z ∙ index_left (w y) (joined w ys) k (omega arith) ∙ ap (λ z. slice_index (w z) k) same
joined_at w (y ∷ ys) (suc i) k n x e h q =
    let m : ℕ = sum_of (λ z. length (w z)) (take i ys) + k in
    index_right (w y) (joined w ys) n m (omega arith) ∙ joined_at w ys i k m x e h refl

-- a layout has as many places as the function has objects
pub counts : (functions : List Function) (layouts : List Layout) (i : ℕ) → length layouts ≡ length functions → ((j : ℕ) (f : Function) (l : Layout) → slice_get functions j ≡ Some f → slice_get layouts j ≡ Some l → length l.places.items ≡ length f.objects.items) → sum_of (λ (l : Layout). length l.places.items) (take i layouts) ≡ sum_of (λ (f : Function). length f.objects.items) (take i functions)
counts fs ls zero e h = refl
counts [] [] (suc i) e h = refl
counts [] (l ∷ ls) (suc i) e h = absurd (omega arith)
counts (f ∷ fs) [] (suc i) e h = absurd (omega arith)
counts (f ∷ fs) (l ∷ ls) (suc i) e h =
    let a = h 0 f l refl refl in
    let r = counts fs ls i (omega arith) (λ j g m x y. h (suc j) g m x y) in
    omega arith
