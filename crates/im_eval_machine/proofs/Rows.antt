-- One element more, where a list is built in the order of another.
use Rattle.std.proofs.Common.{◌≡◌, ℕ, zero, suc, ◌+◌, ◌<◌, ◌≤◌, List, [], ◌∷◌, ◌++◌, map, take, drop, length, get_or, refl, sym, ap, ◌∙◌, subst, add-one, arith}
use Rattle.std.specs.Prelude.{Some, None, slice_get}

taken-suc : {X Y Z : Type 0} (f : X → Y) (g : Y → Z) (xs : List X) (i : ℕ) (x : X) → i < length xs → x ≡ get_or xs i x → map g (map f (take (suc i) xs)) ≡ map g (map f (take i xs)) ++ g (f x) ∷ []
taken-suc f g [] i x lt e = absurd (omega arith)
taken-suc f g (y ∷ ys) zero x lt e = ap (λ z. g (f z) ∷ []) (sym e)
taken-suc f g (y ∷ ys) (suc i) x lt e = ap (λ zs. g (f y) ∷ zs) (taken-suc f g ys i x (let less : i < length ys = omega arith in less) e)

pub taken-more : {X Y Z : Type 0} (f : X → Y) (g : Y → Z) (xs : List X) (i : ℕ) (x : X) → i < length xs → x ≡ get_or xs i x → map g (map f (take (i + 1) xs)) ≡ map g (map f (take i xs)) ++ g (f x) ∷ []
taken-more f g xs i x lt e = ap (λ n. map g (map f (take n xs))) (add-one i) ∙ taken-suc f g xs i x lt e

taken-one-suc : {X Y : Type 0} (f : X → Y) (xs : List X) (i : ℕ) (x : X) → i < length xs → x ≡ get_or xs i x → map f (take (suc i) xs) ≡ map f (take i xs) ++ f x ∷ []
taken-one-suc f [] i x lt e = absurd (omega arith)
taken-one-suc f (y ∷ ys) zero x lt e = ap (λ z. f z ∷ []) (sym e)
taken-one-suc f (y ∷ ys) (suc i) x lt e = ap (λ zs. f y ∷ zs) (taken-one-suc f ys i x (let less : i < length ys = omega arith in less) e)

pub taken-one : {X Y : Type 0} (f : X → Y) (xs : List X) (i : ℕ) (x : X) → i < length xs → x ≡ get_or xs i x → map f (take (i + 1) xs) ≡ map f (take i xs) ++ f x ∷ []
taken-one f xs i x lt e = ap (λ n. map f (take n xs)) (add-one i) ∙ taken-one-suc f xs i x lt e

dropped-suc : {X : Type 0} (xs : List X) (i : ℕ) (x : X) → i < length xs → x ≡ get_or xs i x → drop i xs ≡ x ∷ drop (suc i) xs
dropped-suc [] i x lt e = absurd (omega arith)
dropped-suc (y ∷ ys) zero x lt e = ap (λ z. z ∷ ys) (sym e)
dropped-suc (y ∷ ys) (suc i) x lt e = dropped-suc ys i x (let less : i < length ys = omega arith in less) e

pub dropped : {X : Type 0} (xs : List X) (i : ℕ) (x : X) → i < length xs → x ≡ get_or xs i x → drop i xs ≡ x ∷ drop (i + 1) xs
dropped xs i x lt e = dropped-suc xs i x lt e ∙ ap (λ n. x ∷ drop n xs) (sym (add-one i))

-- what is so of each element, and of one more behind them
pub each-pushed : {X : Type 0} (P : ℕ → X → Type 0) (xs : List X) (y : X) → ((k : ℕ) (x : X) → slice_get xs k ≡ Some x → P k x) → P (length xs) y
    → (k : ℕ) (x : X) → slice_get (xs ++ y ∷ []) k ≡ Some x → P k x
each-pushed P [] y all last zero x e = subst (P 0) (some-same e) last
  where
    some-same : {X : Type 0} {a b : X} → Some a ≡ Some b → a ≡ b
    some-same e = cc
each-pushed P [] y all last (suc k) x e = absurd (cc)
each-pushed P (z ∷ zs) y all last zero x e = all zero x e
each-pushed P (z ∷ zs) y all last (suc k) x e = each-pushed (λ n. P (suc n)) zs y (λ n. all (suc n)) last k x e

pub got-at : {X : Type 0} (xs : List X) (i : ℕ) (x : X) → i < length xs → x ≡ get_or xs i x → slice_get xs i ≡ Some x
got-at [] i x lt e = absurd (omega arith)
got-at (y ∷ ys) zero x lt e = ap Some (sym e)
got-at (y ∷ ys) (suc i) x lt e = got-at ys i x (let less : i < length ys = omega arith in less) e

pub got-past : {X : Type 0} (xs : List X) (i : ℕ) → length xs ≤ i → slice_get xs i ≡ None
got-past [] i le = refl
got-past (y ∷ ys) zero le = absurd (omega arith)
got-past (y ∷ ys) (suc i) le = got-past ys i (let less : length ys ≤ i = omega arith in less)

pub got-within : {X : Type 0} (xs : List X) (i : ℕ) (x : X) → slice_get xs i ≡ Some x → i < length xs
got-within [] i x e = absurd (cc)
got-within (y ∷ ys) zero x e = omega arith
got-within (y ∷ ys) (suc i) x e = let r = got-within ys i x e in omega arith

pub some-dropped : {X : Type 0} (xs : List X) (i : ℕ) → i < length xs → (x : X) × (rest : List X) × (drop i xs ≡ x ∷ rest)
some-dropped [] i lt = absurd (omega arith)
some-dropped (x ∷ xs) zero lt = (x, xs, refl)
some-dropped (x ∷ xs) (suc i) lt = some-dropped xs i (let less : i < length xs = omega arith in less)

pub dropped-at : {X : Type 0} (d : X) (xs : List X) (i : ℕ) → i < length xs → drop i xs ≡ get_or xs i d ∷ drop (i + 1) xs
dropped-at d xs i lt = go d xs i lt ∙ ap (λ n. get_or xs i d ∷ drop n xs) (sym (add-one i))
  where
    go : {X : Type 0} (d : X) (xs : List X) (i : ℕ) → i < length xs → drop i xs ≡ get_or xs i d ∷ drop (suc i) xs
    go d [] i lt = absurd (omega arith)
    go d (y ∷ ys) zero lt = refl
    go d (y ∷ ys) (suc i) lt = go d ys i (let less : i < length ys = omega arith in less)

pub length-mapped : {X Y : Type 0} (f : X → Y) (xs : List X) → length (map f xs) ≡ length xs
length-mapped f [] = refl
length-mapped f (x ∷ xs) = let h = length-mapped f xs in omega arith

pub got-mapped : {X Y Z : Type 0} (f : X → Y) (g : Y → Z) (xs : List X) (i : ℕ) (x : X) → i < length xs → x ≡ get_or xs i x → Some (g (f x)) ≡ slice_get (map g (map f xs)) i
got-mapped f g [] i x lt e = absurd (omega arith)
got-mapped f g (y ∷ ys) zero x lt e = ap (λ z. Some (g (f z))) e
got-mapped f g (y ∷ ys) (suc i) x lt e = got-mapped f g ys i x (let less : i < length ys = omega arith in less) e
