-- Heights from those of the nodes behind, and what a cycle does.
use Rattle.std.proofs.Common.{◌≡◌, ℕ, zero, suc, ◌+◌, ◌-◌, ◌<◌, ◌≤◌, ◌⊎◌, inl, inr, List, [], ◌∷◌, length, refl, subst, arith}
use Rattle.std.specs.Prelude.{slice_index}
use Rattle.std.specs.List.{Contains}
use Rattle.im_gap.specs.Walks.{IsWalk, cost, IsHeight, IsShort}

module _ (next : ℕ → List ℕ) (weight : ℕ → ℕ) where
  no_more : (n g : ℕ) → ((s : ℕ) → Contains (next n) s → (h : ℕ) × IsHeight next weight s h × (h ≤ g)) → (ss : List ℕ) → IsWalk next n ss → cost weight n ss ≤ weight n + g
  no_more n g above [] w = omega arith
  no_more n g above (s ∷ ss) w = let a = above s w.0 in let m = a.1.most ss w.1 in let l = a.2 in omega arith

  -- g is the greatest height of the nodes that n leads to
  pub height_of : (n g : ℕ) → ((s : ℕ) → Contains (next n) s → (h : ℕ) × IsHeight next weight s h × (h ≤ g)) → (g ≡ 0) ⊎ ((s : ℕ) × Contains (next n) s × IsHeight next weight s g) → IsHeight next weight n (weight n + g)
  height_of n g above (inl z) = record { walk = []; along = tt; costs = omega arith; most = no_more n g above }
  height_of n g above (inr m) = record { walk = m.0 ∷ m.2.walk; along = (m.1, m.2.along); costs = (let e = m.2.costs in omega arith); most = no_more n g above }

  -- a node has one height
  pub one_height : (n g h : ℕ) → IsHeight next weight n g → IsHeight next weight n h → g ≡ h
  one_height n g h a b =
      let x = a.most b.walk b.along in let y = b.most a.walk a.along in
      let p = a.costs in let q = b.costs in omega arith

module _ (next : ℕ → List ℕ) where
  pub short_step : (n s b : ℕ) → IsShort next n b → Contains (next n) s → (c : ℕ) × (b ≡ suc c) × IsShort next s c
  short_step n s zero h m = absurd (let l = h (s ∷ []) (m, tt) in omega arith)
  short_step n s (suc c) h m = (c, refl, λ ss w. let l = h (s ∷ ss) (m, w) in omega arith)

  module _ (stack : List ℕ) (chain : (j : ℕ) → suc j < length stack → Contains (next (slice_index stack j)) (slice_index stack (suc j))) where
    pub descend : (d j k c : ℕ) → k ≡ j + d → k < length stack → IsShort next (slice_index stack j) c → (e : ℕ) × (c ≡ e + d) × IsShort next (slice_index stack k) e
    descend zero j k c q l h = (c, omega arith, subst (λ (z : ℕ). IsShort next (slice_index stack z) c) (let p : j ≡ k = omega arith in p) h)
    descend (suc d) j k c q l h =
        let r = descend d j (j + d) c refl (omega arith) h in
        let inside : suc (j + d) < length stack = omega arith in
        let s = short_step (slice_index stack (j + d)) (slice_index stack (suc (j + d))) r.0 r.2 (chain (j + d) inside) in
        let a = r.1 in let b = s.1 in
        (s.0, omega arith, subst (λ (z : ℕ). IsShort next (slice_index stack z) s.0) (let p : suc (j + d) ≡ k = omega arith in p) s.2)

    no_cycle : (f j last c : ℕ) → c < f → j ≤ last → suc last ≡ length stack → Contains (next (slice_index stack last)) (slice_index stack j) → IsShort next (slice_index stack j) c → ⊥
    no_cycle zero j last c l i q m h = omega arith
    no_cycle (suc f) j last c l i q m h =
        let r = descend (last - j) j last c (omega arith) (omega arith) h in
        let s = short_step (slice_index stack last) (slice_index stack j) r.0 r.2 m in
        let a = r.1 in let b = s.1 in
        no_cycle f j last s.0 (omega arith) i q m s.2

    -- where the last node leads back to one of these, walks of every length begin at the first
    pub endless : (j last b : ℕ) → j ≤ last → suc last ≡ length stack → Contains (next (slice_index stack last)) (slice_index stack j) → IsShort next (slice_index stack 0) b → ⊥
    endless j last b i q m h = let r = descend j 0 j b (omega arith) (omega arith) h in no_cycle (suc r.0) j last r.0 (omega arith) i q m r.2
