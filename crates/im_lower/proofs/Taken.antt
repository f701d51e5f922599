-- One element more, where a list is built in the order of another.
use Rattle.std.proofs.Common.{◌≡◌, ℕ, zero, suc, ◌+◌, ◌<◌, ◌≤◌, List, [], ◌∷◌, ◌++◌, map, take, drop, length, get_or, refl, sym, ap, ◌∙◌, add-one, arith}
use Rattle.im_typed.specs.Program.{LocalObject}
use Rattle.im_block.specs.declared.unit.Object.{Object}
use Rattle.im_lower_relation.specs.Lowered.{AreObjects}

pub taken_suc : {X Y : Type 0} (f : X → Y) (xs : List X) (i : ℕ) (x : X) → i < length xs → x ≡ get_or xs i x → map f (take (suc i) xs) ≡ map f (take i xs) ++ f x ∷ []
taken_suc f [] i x lt e = absurd (omega arith)
taken_suc f (y ∷ ys) zero x lt e = ap (λ z. f z ∷ []) (sym e)
taken_suc f (y ∷ ys) (suc i) x lt e = ap (λ zs. f y ∷ zs) (taken_suc f ys i x (let less : i < length ys = omega arith in less) e)

pub taken_more : {X Y : Type 0} (f : X → Y) (xs : List X) (i : ℕ) (x : X) → i < length xs → x ≡ get_or xs i x → map f (take (i + 1) xs) ≡ map f (take i xs) ++ f x ∷ []
taken_more f xs i x lt e = ap (λ n. map f (take n xs)) (add-one i) ∙ taken_suc f xs i x lt e

pub objects_more : (xs : List LocalObject) (os : List Object) (x : LocalObject) (o : Object) → AreObjects xs os → o.size ≡ x.size → o.cells.items ≡ x.cells → AreObjects (xs ++ x ∷ []) (os ++ o ∷ [])
objects_more [] [] x o are size cells = (size, cells, tt)
objects_more [] (p ∷ os) x o are size cells = absurd are
objects_more (y ∷ ys) [] x o are size cells = absurd are
objects_more (y ∷ ys) (p ∷ os) x o are size cells = (are.0, are.1, objects_more ys os x o are.2 size cells)

dropped_suc : {X : Type 0} (xs : List X) (i : ℕ) (x : X) → i < length xs → x ≡ get_or xs i x → drop i xs ≡ x ∷ drop (suc i) xs
dropped_suc [] i x lt e = absurd (omega arith)
dropped_suc (y ∷ ys) zero x lt e = ap (λ z. z ∷ ys) (sym e)
dropped_suc (y ∷ ys) (suc i) x lt e = dropped_suc ys i x (let less : i < length ys = omega arith in less) e

pub dropped : {X : Type 0} (xs : List X) (i : ℕ) (x : X) → i < length xs → x ≡ get_or xs i x → drop i xs ≡ x ∷ drop (i + 1) xs
dropped xs i x lt e = dropped_suc xs i x lt e ∙ ap (λ n. x ∷ drop n xs) (sym (add-one i))

taken_at_suc : {X Y : Type 0} (f : X → Y) (xs : List X) (i : ℕ) (d : X) → i < length xs → map f (take (suc i) xs) ≡ map f (take i xs) ++ f (get_or xs i d) ∷ []
taken_at_suc f [] i d lt = absurd (omega arith)
taken_at_suc f (y ∷ ys) zero d lt = refl
taken_at_suc f (y ∷ ys) (suc i) d lt = ap (λ zs. f y ∷ zs) (taken_at_suc f ys i d (let less : i < length ys = omega arith in less))

pub taken_at : {X Y : Type 0} (f : X → Y) (xs : List X) (i : ℕ) (d : X) → i < length xs → map f (take (i + 1) xs) ≡ map f (take i xs) ++ f (get_or xs i d) ∷ []
taken_at f xs i d lt = ap (λ n. map f (take n xs)) (add-one i) ∙ taken_at_suc f xs i d lt

pub take_all : {X : Type 0} (xs : List X) (i : ℕ) → length xs ≤ i → take i xs ≡ xs
take_all [] zero le = refl
take_all [] (suc i) le = refl
take_all (x ∷ xs) zero le = absurd (omega arith)
take_all (x ∷ xs) (suc i) le = ap (λ zs. x ∷ zs) (take_all xs i (let less : length xs ≤ i = omega arith in less))
