-- The greatest height of several nodes, one after another.
use Rattle.std.proofs.Common.{◌≡◌, ℕ, ◌+◌, ◌<◌, ◌≤◌, ◌⊎◌, inl, inr, List, [], ◌∷◌, ◌++◌, length, take, get_or, refl, sym, ap, subst, ◌∙◌, arith}
use Rattle.std.specs.Prelude.{slice_index}
use Rattle.std.specs.List.{Contains}
use Rattle.std.proofs.lemmas.List.{get_or_append_left, get_or_push, get_or_default, length_push, take_more}
use Rattle.im_gap.specs.Walks.{IsWalk, cost, IsHeight, IsGreatest}

last_or : (xs : List ℕ) (y n : ℕ) → Contains (xs ++ y ∷ []) n → Contains xs n ⊎ (n ≡ y)
last_or xs y n m =
    let long = length_push xs y in
    elim (below (m.0) (length xs) (let l = m.1 in omega arith)) [
      | inl l ↦ inl (m.0, l, sym (get_or_append_left xs (y ∷ []) n m.0 l) ∙ m.2)
      | inr e ↦ inr (sym m.2 ∙ ap (λ (z : ℕ). get_or (xs ++ y ∷ []) z n) e ∙ get_or_push xs y n (length xs) refl)
    ]
  where
    below : (j n : ℕ) → j < n + 1 → (j < n) ⊎ (j ≡ n)
    below j n l = grind arith

still : (xs : List ℕ) (y n : ℕ) → Contains xs n → Contains (xs ++ y ∷ []) n
still xs y n m = (m.0, (let l = m.1 in let long = length_push xs y in omega arith), get_or_append_left xs (y ∷ []) n m.0 m.1 ∙ m.2)

module _ (next : ℕ → List ℕ) (weight : ℕ → ℕ) where
  one_more : (xs : List ℕ) (y a b h : ℕ) → IsGreatest next weight xs a → IsHeight next weight y b → a ≤ h → b ≤ h → (h ≡ a) ⊎ (h ≡ b) → IsGreatest next weight (xs ++ y ∷ []) h
  one_more xs y a b h g t l r one = record {
    least = λ n m ss w. elim (last_or xs y n m) [
      | inl old ↦ (let p = g.least n old ss w in omega arith)
      | inr new ↦ (let p = t.most ss (subst (λ (z : ℕ). IsWalk next z ss) new w) in let q : cost weight n ss ≡ cost weight y ss = ap (λ (z : ℕ). cost weight z ss) new in omega arith)
    ];
    met = elim one [
      | inl e ↦ elim g.met [
        | inl z ↦ inl (omega arith)
        | inr m ↦ inr (m.0, still xs y m.0 m.1, subst (λ (z : ℕ). IsHeight next weight m.0 z) (sym e) m.2)
      ]
      | inr e ↦ inr (y, (length xs, (let long = length_push xs y in omega arith), get_or_push xs y y (length xs) refl), subst (λ (z : ℕ). IsHeight next weight y z) (sym e) t)
    ];
  }

  pub greatest_more : (starts : List ℕ) (k a b h : ℕ) → IsGreatest next weight (take k starts) a → k < length starts → IsHeight next weight (slice_index starts k) b → a ≤ h → b ≤ h → (h ≡ a) ⊎ (h ≡ b) → IsGreatest next weight (take (k + 1) starts) h
  greatest_more starts k a b h g i t l r one = subst (λ (z : List ℕ). IsGreatest next weight z h) (sym (take_more starts k 0 i)) (one_more (take k starts) (slice_index starts k) a b h g t l r one)

pub start_in : (starts : List ℕ) (k : ℕ) → k < length starts → Contains starts (slice_index starts k)
start_in starts k l = (k, l, get_or_default starts k (slice_index starts k) 0 l)
