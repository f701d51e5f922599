-- Sets to which one object after another is added.
use Rattle.std.proofs.Common.{◌≡◌, ℕ, ◌+◌, ◌<◌, ◌≤◌, List, [], ◌∷◌, ◌++◌, length, get_or, take, Bool, true, false, Result, Ok, Err, MatchResult, refl, sym, ap, ◌∙◌, subst, inl, inr, ⊎_elim, ◌⊎◌, arith}
use Rattle.std.specs.Prelude.{◌||◌, if◌then◌else◌}
use Rattle.std.specs.List.{insert}
use Rattle.std.specs.List.Sorted.{IsBinarySearchResult}
use Rattle.std.specs.Ordering.{nat_cmp}
use Rattle.std.proofs.lemmas.List.{take_more}
use Rattle.std.proofs.lemmas.List.Edits.{length-insert}
use Rattle.std.proofs.lemmas.List.Sorted.{searched}
use Rattle.im_block.specs.Sections.{Has}
use Rattle.im_alias.specs.Ascending.{IsAscending, Adds}
use Rattle.im_alias.proofs.Lists.{has_at, has_append, has_front, has_back, has_insert, insert_has, insert_new}
use Rattle.im_alias.proofs.Ascendings.{ascends}

adds_none : (xs : List ℕ) (x : ℕ) → Has xs x → Adds xs (x ∷ []) xs false
adds_none xs x h = record {
  kept = λ n k. k;
  held = λ n k. ⊎_elim (λ e. subst (Has xs) e h) (λ z. absurd z) k;
  within = λ n k. inl k;
  same = λ e. refl;
  more = λ e. cc;
}

adds_one : (xs : List ℕ) (i x : ℕ) → i ≤ length xs → Adds xs (x ∷ []) (insert xs i x) true
adds_one xs i x le = record {
  kept = λ n k. insert_has xs i x n k;
  held = λ n k. ⊎_elim (λ e. subst (Has (insert xs i x)) e (insert_new xs i x)) (λ z. absurd z) k;
  within = λ n k. ⊎_elim (λ a. inl a) (λ e. inr (inl e)) (has_insert xs i x n k);
  same = λ e. cc;
  more = λ e. omega (arith, length-insert xs i x le);
}

not_above : (xs : List ℕ) → IsAscending xs → (i j : ℕ) → i ≤ j → j < length xs → get_or xs i 0 ≤ get_or xs j 0
not_above xs up i j le within = by_cases (split i j le)
  where
    split : (i j : ℕ) → i ≤ j → (i ≡ j) ⊎ (i < j)
    split i j h = grind arith

    by_cases : ((i ≡ j) ⊎ (i < j)) → get_or xs i 0 ≤ get_or xs j 0
    by_cases s = ⊎_elim (λ e. let k = ap (λ n. get_or xs n 0) e in omega arith) (λ l. let k = up i j l within in omega arith) s

abbrev Found : List ℕ → ℕ → Result ℕ ℕ → Type 0
Found xs x r = MatchResult r (λ i. (i < length xs) × (get_or xs i 0 ≡ x)) (λ i. (i ≤ length xs) × ((k : ℕ) → k < i → get_or xs k 0 < x) × ((k : ℕ) → i ≤ k → k < length xs → x < get_or xs k 0))

pub found_ok : (xs : List ℕ) (x i : ℕ) → IsAscending xs → IsBinarySearchResult (λ y. nat_cmp y x) xs (Ok i) → Adds xs (x ∷ []) xs false
found_ok xs x i up h =
    let s : Found xs x (Ok i) = searched xs x (Ok i) h (not_above xs up) in
    adds_none xs x (subst (Has xs) s.1 (has_at xs i 0 s.0))

pub found_err : (xs : List ℕ) (x i : ℕ) → IsAscending xs → IsBinarySearchResult (λ y. nat_cmp y x) xs (Err i) → Adds xs (x ∷ []) (insert xs i x) true × IsAscending (insert xs i x)
found_err xs x i up h =
    let s : Found xs x (Err i) = searched xs x (Err i) h (not_above xs up) in
    (adds_one xs i x s.0, ascends xs i x up s.0 s.1 s.2)

module _ (a b d xs ys : List ℕ) where
  same_then : (c m : Bool) → Adds a xs b c → Adds b ys d m → (c || m) ≡ false → d ≡ a
  same_then true m f g e = cc
  same_then false true f g e = cc
  same_then false false f g e = g.same refl ∙ f.same refl

  more_then : (c m : Bool) → Adds a xs b c → Adds b ys d m → (c || m) ≡ true → length a < length d
  more_then true true f g e = let p = f.more refl in let q = g.more refl in omega arith
  more_then true false f g e = let p = f.more refl in let q = ap length (g.same refl) in omega arith
  more_then false true f g e = let p = ap length (f.same refl) in let q = g.more refl in omega arith
  more_then false false f g e = cc

  pub adds_then : (c m : Bool) → Adds a xs b c → Adds b ys d m → Adds a (xs ++ ys) d (c || m)
  adds_then c m f g = record {
    kept = λ n h. g.kept n (f.kept n h);
    held = λ n h. ⊎_elim (λ k. g.kept n (f.held n k)) (λ k. g.held n k) (has_append xs ys n h);
    within = λ n h. ⊎_elim (λ k. ⊎_elim (λ x. inl x) (λ x. inr (has_front xs ys n x)) (f.within n k)) (λ k. inr (has_back xs ys n k)) (g.within n h);
    same = same_then c m f g;
    more = more_then c m f g;
  }

pub adds_more : (a b d xs : List ℕ) (i x : ℕ) (c m : Bool) → i < length xs → x ≡ get_or xs i 0 → Adds a (take i xs) b c → Adds b (x ∷ []) d m → Adds a (take (i + 1) xs) d (c || m)
adds_more a b d xs i x c m within is f g =
    let e : take (i + 1) xs ≡ take i xs ++ x ∷ [] = take_more xs i 0 within ∙ ap (λ y. take i xs ++ y ∷ []) (sym is) in
    subst (λ l. Adds a l d (c || m)) (sym e) (adds_then a b d (take i xs) (x ∷ []) c m f g)

pub ascends_either : (b : Bool) (xs ys zs : List ℕ) → zs ≡ (if b then xs else ys) → IsAscending xs → IsAscending ys → IsAscending zs
ascends_either true xs ys zs e f g = subst IsAscending (sym e) f
ascends_either false xs ys zs e f g = subst IsAscending (sym e) g
