-- The steps of a search from one node.
use Rattle.std.proofs.Common.{◌≡◌, ℕ, ◌-◌, ◌<◌, ◌⊎◌, inl, inr, List, [], ◌∷◌, ◌++◌, length, refl, sym, ap, subst, ◌∙◌, arith}
use Rattle.std.specs.Prelude.{slice_index}
use Rattle.std.specs.List.{Contains}
use Rattle.std.proofs.lemmas.List.{get_or_append_left, get_or_default, length_push}
use Rattle.im_gap.specs.declared.graph.Graph.{Graph}
use Rattle.im_gap.specs.declared.marks.Mark.{Mark}
use Rattle.im_gap.specs.declared.marks.Mark.TheVariants.{Open}
use Rattle.im_gap.specs.Walks.{IsShort}
use Rattle.im_gap.specs.Graph.{successors_of, size_of, IsGraph}
use Rattle.im_gap.specs.Search.{mark_at, IsDone, SearchState, VisitState}
use Rattle.im_gap.proofs.Heights.{endless}

empty_or : (n : ℕ) → (n ≡ 0) ⊎ (0 < n)
empty_or n = grind arith

nil_of : (xs : List ℕ) → length xs ≡ 0 → xs ≡ []
nil_of [] e = refl
nil_of (x ∷ xs) e = absurd (omega arith)

pub successors_inside : (graph : Graph) (marks ms : List Mark) (ws : List ℕ) (v : ℕ) → IsGraph graph → ws ≡ successors_of graph v → ms ≡ marks → length marks ≡ size_of graph → (k : ℕ) → k < length ws → slice_index ws k < length ms
successors_inside graph marks ms ws v g q p size k l =
    let has : Contains (successors_of graph v) (slice_index ws k) = subst (λ (z : List ℕ). Contains z (slice_index ws k)) q (k, l, get_or_default ws k (slice_index ws k) 0 l) in
    let i = g.inside v (slice_index ws k) has in
    let e = ap (length {A = Mark}) p in
    omega arith

pub successor_has : (ws xs : List ℕ) (k : ℕ) → xs ≡ ws → k < length xs → Contains ws (slice_index xs k)
successor_has ws xs k q l = subst (λ (z : List ℕ). Contains z (slice_index xs k)) q (k, l, get_or_default xs k (slice_index xs k) 0 l)

module _ (next : ℕ → List ℕ) (weight : ℕ → ℕ) (n root : ℕ) where
  pub visits_begin : (marks : List Mark) (path old : List ℕ) → SearchState next weight n marks path → old ≡ [] → path ≡ old ++ root ∷ [] → VisitState next weight n root marks path
  visits_begin marks path old s none q =
      let e : path ≡ root ∷ [] = q ∙ ap (λ (z : List ℕ). z ++ root ∷ []) none in
      record { searched = s; from = inl ((let l = ap (length {A = ℕ}) e in omega arith), ap (λ (z : List ℕ). slice_index z 0) e) }

  first : (marks : List Mark) (path : List ℕ) → VisitState next weight n root marks path → 0 < length path → slice_index path 0 ≡ root
  first marks path v l = elim v.from [ inl a ↦ a.1 | inr b ↦ absurd (let z = b.0 in omega arith) ]

  pub visits_on : (marks now : List Mark) (path new : List ℕ) (v : ℕ) → VisitState next weight n root marks path → 0 < length path → SearchState next weight n now new → new ≡ path ++ v ∷ [] → VisitState next weight n root now new
  visits_on marks now path new v vs l s q = record {
    searched = s;
    from = inl (
      (let z = ap (length {A = ℕ}) q in let y = length_push path v in omega arith),
      ap (λ (z : List ℕ). slice_index z 0) q ∙ get_or_append_left path (v ∷ []) 0 0 l ∙ first marks path vs l,
    );
  }

  pub visits_back : (marks now : List Mark) (path new : List ℕ) (v : ℕ) → VisitState next weight n root marks path → SearchState next weight n now new → path ≡ new ++ v ∷ [] → IsDone (mark_at now v) → VisitState next weight n root now new
  visits_back marks now path new v vs s q d =
      let some : 0 < length path = (let z = ap (length {A = ℕ}) q in let y = length_push new v in omega arith) in
      let head : slice_index (new ++ v ∷ []) 0 ≡ root = sym (ap (λ (z : List ℕ). slice_index z 0) q) ∙ first marks path vs some in
      record {
        searched = s;
        from = elim (empty_or (length new)) [
          | inr l ↦ inl (l, sym (get_or_append_left new (v ∷ []) 0 0 l) ∙ head)
          | inl e ↦ inr (
            e,
            (
                let nil = nil_of new e in
                let same : v ≡ root = sym (ap (λ (z : List ℕ). slice_index (z ++ v ∷ []) 0) nil) ∙ head in
                subst (λ (z : ℕ). IsDone (mark_at now z)) same d),
          )
        ];
      }

  pub visits_endless : (marks : List Mark) (path : List ℕ) (successor b : ℕ) → VisitState next weight n root marks path → 0 < length path → Contains (next (slice_index path (length path - 1))) successor → mark_at marks successor ≡ Open → IsShort next root b → ⊥
  visits_endless marks path successor b v l has o h =
      let r = v.searched.open_on successor o in
      let i = r.1 in
      endless next path v.searched.chain r.0 (length path - 1) b (omega arith) (omega arith)
      (subst (λ (z : ℕ). Contains (next (slice_index path (length path - 1))) z) (sym r.2) has)
      (subst (λ (z : ℕ). IsShort next z b) (sym (first marks path v l)) h)

  pub visits_end : (marks : List Mark) (path : List ℕ) → VisitState next weight n root marks path → length path ≡ 0 → SearchState next weight n marks [] × IsDone (mark_at marks root)
  visits_end marks path v e = (subst (λ (z : List ℕ). SearchState next weight n marks z) (nil_of path e) v.searched, elim v.from [ inl a ↦ absurd (let l = a.0 in omega arith) | inr b ↦ b.1 ])
