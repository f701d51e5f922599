-- A list that is made element by element of another.
use Rattle.std.proofs.Common.{◌≡◌, ℕ, ◌+◌, ◌<◌, ◌≤◌, List, [], ◌∷◌, ◌++◌, map, drop, length, get_or, sym, ap, ◌∙◌, append_assoc}
use Rattle.std.proofs.Math.ListN.{drop_of_length-le}
use Rattle.std.proofs.lemmas.List.{append-nil, drop_more, map-append}

pub one_more : {X Y Z : Type 0} (f : X → Z) (g : Y → Z) (xs now : List X) (x : X) (ys : List Y) (i : ℕ) (d : Y) → i < length ys → now ≡ xs ++ x ∷ [] → f x ≡ g (get_or ys i d)
    → map f xs ++ map g (drop i ys) ≡ map g ys → map f now ++ map g (drop (i + 1) ys) ≡ map g ys
one_more f g xs now x ys i d lt e h so_far =
    ap (λ vs. map f vs ++ map g (drop (i + 1) ys)) e
    ∙ ap (λ vs. vs ++ map g (drop (i + 1) ys)) (map-append f xs (x ∷ []))
    ∙ append_assoc (map f xs) (f x ∷ []) (map g (drop (i + 1) ys))
    ∙ ap (λ v. map f xs ++ (v ∷ map g (drop (i + 1) ys))) h
    ∙ ap (λ vs. map f xs ++ map g vs) (sym (drop_more ys i d lt))
    ∙ so_far

pub all_done : {X Y Z : Type 0} (f : X → Z) (g : Y → Z) (xs : List X) (ys : List Y) (i : ℕ) → length ys ≤ i → map f xs ++ map g (drop i ys) ≡ map g ys → map f xs ≡ map g ys
all_done f g xs ys i le so_far =
    sym (append-nil (map f xs)) ∙ ap (λ vs. map f xs ++ map g vs) (sym (drop_of_length-le ys le)) ∙ so_far
