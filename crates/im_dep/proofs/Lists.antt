-- What is in a list, and in its parts.
use Rattle.std.proofs.Common.{◌≡◌, ℕ, zero, suc, ◌+◌, ◌<◌, List, [], ◌∷◌, ◌++◌, length, get_or, drop, refl, subst, inl, inr, ⊎_elim, ◌⊎◌, arith}
use Rattle.std.proofs.Math.Seq.{drop-cons}
use Rattle.im_block.specs.Sections.{Has}

pub has_item : {X : Type 0} (xs : List X) (i : ℕ) (d : X) → i < length xs → Has xs (get_or xs i d)
has_item [] i d h = absurd (omega arith)
has_item (x ∷ xs) zero d h = inl refl
has_item (x ∷ xs) (suc i) d h = inr (has_item xs i d (omega arith))

pub has_more : {X : Type 0} (xs ys : List X) (x : X) → Has xs x → Has (xs ++ ys) x
has_more [] ys x h = absurd h
has_more (y ∷ xs) ys x h = ⊎_elim (λ e. inl e) (λ t. inr (has_more xs ys x t)) h

pub has_behind : {X : Type 0} (xs ys : List X) (x : X) → Has ys x → Has (xs ++ ys) x
has_behind [] ys x h = h
has_behind (y ∷ xs) ys x h = inr (has_behind xs ys x h)

pub has_split : {X : Type 0} (xs ys : List X) (x : X) → Has (xs ++ ys) x → Has xs x ⊎ Has ys x
has_split [] ys x h = inr h
has_split (y ∷ xs) ys x h = ⊎_elim (λ e. inl (inl e)) (λ t. ⊎_elim (λ k. inl (inr k)) (λ k. inr k) (has_split xs ys x t)) h

-- one element more
pub drop_one : {X : Type 0} (xs : List X) (i : ℕ) (d : X) → i < length xs → drop i xs ≡ get_or xs i d ∷ drop (i + 1) xs
drop_one {X} xs i d h =
    let e : suc i ≡ i + 1 = omega arith in
    subst (λ n. drop i xs ≡ get_or xs i d ∷ drop n xs) e (drop-cons xs i d h)
