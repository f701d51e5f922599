-- The marks as a node is opened and as it is done.
use Rattle.std.proofs.Common.{◌≡◌, ◌≢◌, ℕ, suc, ◌+◌, ◌*◌, ◌-◌, ◌<◌, ◌≤◌, ◌⊎◌, inl, inr, List, [], ◌∷◌, ◌++◌, length, set, take, get_or, refl, sym, ap, subst, ◌∙◌, arith, get_or-set_same, get_or-set_other}
use Rattle.std.specs.Prelude.{slice_index}
use Rattle.std.specs.List.{Contains}
use Rattle.std.proofs.lemmas.List.{length-set, get_or_append_left, get_or_push, get_or_past, get_or_default, length_push, take_all, take_more}
use Rattle.std.proofs.lemmas.List.Sums.{sum_by-set}
use Rattle.im_gap.specs.declared.marks.Mark.{Mark}
use Rattle.im_gap.specs.declared.marks.Mark.TheVariants.{Unseen, Open, Done}
use Rattle.im_gap.specs.Walks.{IsHeight}
use Rattle.im_gap.specs.Search.{mark_at, changes_left_of, changes_left, IsDone, SearchState}
use Rattle.im_gap.proofs.Heights.{height_of}

same_or : (a b : ℕ) → (a ≡ b) ⊎ (a ≢ b)
same_or a b = grind arith

inside_or : (j n : ℕ) → (j < n) ⊎ (n ≤ j)
inside_or j n = grind arith

pub done_mark : (m : Mark) → IsDone m → (h : ℕ) × (m ≡ Done h)
done_mark Unseen d = absurd d
done_mark Open d = absurd d
done_mark (Done h) d = (h, refl)

below_or : (j n : ℕ) → j < suc n → (j < n) ⊎ (j ≡ n)
below_or j n l = grind arith

module _ (next : ℕ → List ℕ) (weight : ℕ → ℕ) (n : ℕ) where
  pub opened : (marks : List Mark) (stack : List ℕ) (v : ℕ) → SearchState next weight n marks stack → v < n → mark_at marks v ≡ Unseen → (length stack ≡ 0) ⊎ Contains (next (slice_index stack (length stack - 1))) v → SearchState next weight n (set marks v Open) (stack ++ v ∷ [])
  opened marks stack v s l u from =
      let here : mark_at (set marks v Open) v ≡ Open = get_or-set_same marks v Open Unseen (let z = s.size in omega arith) in
      let there : (w : ℕ) → w ≢ v → mark_at (set marks v Open) w ≡ mark_at marks w = λ w ne. get_or-set_other marks v w Open Unseen ne in
      let long : length (stack ++ v ∷ []) ≡ suc (length stack) = omega (arith, length_push stack v) in
      let old : (j : ℕ) → j < length stack → slice_index (stack ++ v ∷ []) j ≡ slice_index stack j = λ j b. get_or_append_left stack (v ∷ []) 0 j b in
      let new : slice_index (stack ++ v ∷ []) (length stack) ≡ v = get_or_push stack v 0 (length stack) refl in
      let fresh : (j : ℕ) → j < length stack → slice_index stack j ≢ v = λ j b q. (let o = s.on_open j b in let z : mark_at marks (slice_index stack j) ≡ mark_at marks v = ap (mark_at marks) q in let bad : Open ≡ Unseen = sym o ∙ z ∙ u in cc) in
      let sums : changes_left (set marks v Open) + changes_left_of (mark_at marks v) ≡ changes_left marks + 1 = sum_by-set changes_left_of marks v Open Unseen (let z = s.size in omega arith) in
      let was : changes_left_of (mark_at marks v) ≡ 2 = ap changes_left_of u in
      record {
        size = length-set marks v Open ∙ s.size;
        open_on = λ w h. elim (same_or w v) [
          | inl q ↦ (length stack, omega arith, new ∙ sym q)
          | inr ne ↦ (let r = s.open_on w (sym (there w ne) ∙ h) in (r.0, (let b = r.1 in omega arith), old r.0 r.1 ∙ r.2))
        ];
        on_open = λ j b. elim (below_or j (length stack) (omega arith)) [
          | inl b' ↦ ap (mark_at (set marks v Open)) (old j b') ∙ there (slice_index stack j) (fresh j b') ∙ s.on_open j b'
          | inr q ↦ ap (λ (z : ℕ). mark_at (set marks v Open) (slice_index (stack ++ v ∷ []) z)) q ∙ ap (mark_at (set marks v Open)) new ∙ here
        ];
        apart = λ j k a b. elim (below_or k (length stack) (omega arith)) [
          | inl b' ↦ (λ q. s.apart j k a b' (sym (old j (omega arith)) ∙ q ∙ old k b'))
          | inr e ↦ (λ q. fresh j (omega arith) (sym (old j (omega arith)) ∙ q ∙ ap (slice_index (stack ++ v ∷ [])) e ∙ new))
        ];
        chain = λ j b. elim (below_or (suc j) (length stack) (omega arith)) [
          | inl b' ↦ subst (λ (z : ℕ). Contains (next z) (slice_index (stack ++ v ∷ []) (suc j))) (sym (old j (omega arith))) (subst (λ (z : ℕ). Contains (next (slice_index stack j)) z) (sym (old (suc j) b')) (s.chain j b'))
          | inr e ↦ elim from [
            | inl none ↦ absurd (omega arith)
            | inr has ↦ (
                let p : length stack - 1 ≡ j = omega arith in
                let back : slice_index stack (length stack - 1) ≡ slice_index (stack ++ v ∷ []) j = ap (slice_index stack) p ∙ sym (old j (omega arith)) in
                let front : v ≡ slice_index (stack ++ v ∷ []) (suc j) = sym new ∙ ap (slice_index (stack ++ v ∷ [])) (sym e) in
                subst (λ (z : ℕ). Contains (next z) (slice_index (stack ++ v ∷ []) (suc j))) back (subst (λ (z : ℕ). Contains (next (slice_index stack (length stack - 1))) z) front has))
          ]
        ];
        done = λ w h e. elim (same_or w v) [
          | inl q ↦ absurd (let bad : Open ≡ Done h = sym here ∙ ap (mark_at (set marks v Open)) (sym q) ∙ e in cc)
          | inr ne ↦ s.done w h (sym (there w ne) ∙ e)
        ];
        small = λ w h e. elim (same_or w v) [
          | inl q ↦ absurd (let bad : Open ≡ Done h = sym here ∙ ap (mark_at (set marks v Open)) (sym q) ∙ e in cc)
          | inr ne ↦ (let b = s.small w h (sym (there w ne) ∙ e) in omega arith)
        ];
        few_left = (let b = s.few_left in omega arith);
      }

  pub finished : (marks : List Mark) (stack : List ℕ) (v h g : ℕ) → SearchState next weight n marks (stack ++ v ∷ []) → v < n → IsHeight next weight v h → h ≤ suc g → g + changes_left marks ≤ 2 * n → SearchState next weight n (set marks v (Done h)) stack
  finished marks stack v h g s l height near room =
      let here : mark_at (set marks v (Done h)) v ≡ Done h = get_or-set_same marks v (Done h) Unseen (let z = s.size in omega arith) in
      let there : (w : ℕ) → w ≢ v → mark_at (set marks v (Done h)) w ≡ mark_at marks w = λ w ne. get_or-set_other marks v w (Done h) Unseen ne in
      let long : length (stack ++ v ∷ []) ≡ suc (length stack) = omega (arith, length_push stack v) in
      let old : (j : ℕ) → j < length stack → slice_index (stack ++ v ∷ []) j ≡ slice_index stack j = λ j b. get_or_append_left stack (v ∷ []) 0 j b in
      let new : slice_index (stack ++ v ∷ []) (length stack) ≡ v = get_or_push stack v 0 (length stack) refl in
      let fresh : (j : ℕ) → j < length stack → slice_index stack j ≢ v = λ j b q. s.apart j (length stack) b (omega arith) (old j b ∙ q ∙ sym new) in
      let open_here : mark_at marks v ≡ Open = ap (mark_at marks) (sym new) ∙ s.on_open (length stack) (omega arith) in
      let sums : changes_left (set marks v (Done h)) + changes_left_of (mark_at marks v) ≡ changes_left marks + 0 = sum_by-set changes_left_of marks v (Done h) Unseen (let z = s.size in omega arith) in
      let was : changes_left_of (mark_at marks v) ≡ 1 = ap changes_left_of open_here in
      record {
        size = length-set marks v (Done h) ∙ s.size;
        open_on = λ w e. elim (same_or w v) [
          | inl q ↦ absurd (let bad : Done h ≡ Open = sym here ∙ ap (mark_at (set marks v (Done h))) (sym q) ∙ e in cc)
          | inr ne ↦ (
              let r = s.open_on w (sym (there w ne) ∙ e) in
              elim (below_or r.0 (length stack) (let b = r.1 in omega arith)) [
                | inl b' ↦ (r.0, b', sym (old r.0 b') ∙ r.2)
                | inr q ↦ absurd (ne (sym r.2 ∙ ap (slice_index (stack ++ v ∷ [])) q ∙ new))
              ])
        ];
        on_open = λ j b. there (slice_index stack j) (fresh j b) ∙ ap (mark_at marks) (sym (old j b)) ∙ s.on_open j (omega arith);
        apart = λ j k a b q. s.apart j k a (omega arith) (old j (omega arith) ∙ q ∙ sym (old k b));
        chain = λ j b. subst (λ (z : ℕ). Contains (next z) (slice_index stack (suc j))) (old j (omega arith)) (subst (λ (z : ℕ). Contains (next (slice_index (stack ++ v ∷ []) j)) z) (old (suc j) b) (s.chain j (omega arith)));
        done = λ w k e. elim (same_or w v) [
          | inl q ↦ (
              let same : Done h ≡ Done k = sym here ∙ ap (mark_at (set marks v (Done h))) (sym q) ∙ e in
              let hk : h ≡ k = cc in
              subst (λ (z : ℕ). IsHeight next weight z k) (sym q) (subst (λ (z : ℕ). IsHeight next weight v z) hk height))
          | inr ne ↦ s.done w k (sym (there w ne) ∙ e)
        ];
        small = λ w k e. elim (same_or w v) [
          | inl q ↦ (
              let same : Done h ≡ Done k = sym here ∙ ap (mark_at (set marks v (Done h))) (sym q) ∙ e in
              let hk : h ≡ k = cc in
              omega arith)
          | inr ne ↦ (let b = s.small w k (sym (there w ne) ∙ e) in omega arith)
        ];
        few_left = (let b = s.few_left in omega arith);
      }

  pub leaving : (marks : List Mark) (old new : List ℕ) (v w g : ℕ) → SearchState next weight n marks old → old ≡ new ++ v ∷ [] → w ≡ weight v → w ≤ 1 → ((k : ℕ) → k < length (next v) → IsDone (mark_at marks (slice_index (next v) k))) → ((k h : ℕ) → k < length (next v) → mark_at marks (slice_index (next v) k) ≡ Done h → h ≤ g) → (g ≡ 0) ⊎ ((k : ℕ) × (k < length (next v)) × (mark_at marks (slice_index (next v) k) ≡ Done g)) → SearchState next weight n (set marks v (Done (w + g))) new
  leaving marks old new v w g s path is one done above met =
      let t : SearchState next weight n marks (new ++ v ∷ []) = subst (SearchState next weight n marks) path s in
      let inside : v < n = on_path marks new v t in
      let at : (k z : ℕ) → k < length (next v) → get_or (next v) k z ≡ slice_index (next v) k = λ k z l. get_or_default (next v) k z 0 l in
      let highest : IsHeight next weight v (weight v + g) = height_of next weight v g
      (λ z m. (
      let q : slice_index (next v) m.0 ≡ z = sym (at m.0 z m.1) ∙ m.2 in
      let d = done_mark (mark_at marks (slice_index (next v) m.0)) (done m.0 m.1) in
      (d.0, subst (λ (y : ℕ). IsHeight next weight y d.0) q (s.done (slice_index (next v) m.0) d.0 d.1), above m.0 d.0 m.1 d.1)))
      (best marks old v g s met) in
      let room : g + changes_left marks ≤ 2 * n = elim met [ inl z ↦ (let b = s.few_left in omega arith) | inr m ↦ s.small (slice_index (next v) m.0) g m.2 ] in
      finished marks new v (w + g) g t inside (subst (λ (z : ℕ). IsHeight next weight v (z + g)) (sym is) highest) (omega arith) room
    where
      on_path : (marks : List Mark) (new : List ℕ) (v : ℕ) → SearchState next weight n marks (new ++ v ∷ []) → v < n
      on_path marks new v t =
          let long : length (new ++ v ∷ []) ≡ suc (length new) = omega (arith, length_push new v) in
          let here : slice_index (new ++ v ∷ []) (length new) ≡ v = get_or_push new v 0 (length new) refl in
          let o : mark_at marks v ≡ Open = ap (mark_at marks) (sym here) ∙ t.on_open (length new) (omega arith) in
          elim (inside_or v n) [
            | inl l ↦ l
            | inr l ↦ absurd (let z = t.size in let past : mark_at marks v ≡ Unseen = get_or_past marks v Unseen (omega arith) in let bad : Unseen ≡ Open = sym past ∙ o in cc)
          ]

      best : (marks : List Mark) (old : List ℕ) (v g : ℕ) → SearchState next weight n marks old → (g ≡ 0) ⊎ ((k : ℕ) × (k < length (next v)) × (mark_at marks (slice_index (next v) k) ≡ Done g)) → (g ≡ 0) ⊎ ((z : ℕ) × Contains (next v) z × IsHeight next weight z g)
      best marks old v g s (inl z) = inl z
      best marks old v g s (inr m) = inr (slice_index (next v) m.0, (m.0, m.1, get_or_default (next v) m.0 (slice_index (next v) m.0) 0 m.1), s.done (slice_index (next v) m.0) g m.2)

  pub less_left : (marks : List Mark) (v h : ℕ) → v < length marks → mark_at marks v ≡ Open → changes_left (set marks v (Done h)) < changes_left marks
  less_left marks v h l o =
      let sums : changes_left (set marks v (Done h)) + changes_left_of (mark_at marks v) ≡ changes_left marks + 0 = sum_by-set changes_left_of marks v (Done h) Unseen l in
      let was : changes_left_of (mark_at marks v) ≡ 1 = ap changes_left_of o in
      omega arith

  pub last_open : (marks : List Mark) (path : List ℕ) (v : ℕ) → SearchState next weight n marks path → 0 < length path → slice_index path (length path - 1) ≡ v → (mark_at marks v ≡ Open) × (v < length marks)
  last_open marks path v s some last =
      let o : mark_at marks v ≡ Open = ap (mark_at marks) (sym last) ∙ s.on_open (length path - 1) (omega arith) in (
        o,
        elim (inside_or v (length marks)) [
          | inl l ↦ l
          | inr l ↦ absurd (let past : mark_at marks v ≡ Unseen = get_or_past marks v Unseen l in let bad : Unseen ≡ Open = sym past ∙ o in cc)
        ],
      )

pub popped : (path : List ℕ) (v : ℕ) → 0 < length path → slice_index path (length path - 1) ≡ v → path ≡ take (length path - 1) path ++ v ∷ []
popped path v some last =
    let all : take (length path - 1 + 1) path ≡ path = take_all (length path - 1 + 1) path (omega arith) in
    sym all ∙ take_more path (length path - 1) 0 (omega arith) ∙ ap (λ z. take (length path - 1) path ++ z ∷ []) last

pub above_there : (marks there : List Mark) (ws xs : List ℕ) (g : ℕ) → there ≡ marks → xs ≡ ws → ((k h : ℕ) → k < length xs → mark_at there (slice_index xs k) ≡ Done h → h ≤ g) → (k h : ℕ) → k < length ws → mark_at marks (slice_index ws k) ≡ Done h → h ≤ g
above_there marks there ws xs g p q f k h l e = f k h (let r = ap (length {A = ℕ}) q in omega arith) (ap (λ z. mark_at z (slice_index xs k)) p ∙ ap (λ z. mark_at marks (slice_index z k)) q ∙ e)

pub met_there : (marks there : List Mark) (ws xs : List ℕ) (g : ℕ) → there ≡ marks → xs ≡ ws → (g ≡ 0) ⊎ ((k : ℕ) × (k < length xs) × (mark_at there (slice_index xs k) ≡ Done g)) → (g ≡ 0) ⊎ ((k : ℕ) × (k < length ws) × (mark_at marks (slice_index ws k) ≡ Done g))
met_there marks there ws xs g p q (inl z) = inl z
met_there marks there ws xs g p q (inr m) = inr (m.0, (let l = m.1 in let r = ap (length {A = ℕ}) q in omega arith), sym (ap (λ z. mark_at z (slice_index xs m.0)) p ∙ ap (λ z. mark_at marks (slice_index z m.0)) q) ∙ m.2)
