-- Walks of the flow and walks of its graph.
use Rattle.std.proofs.Common.{◌≡◌, ◌≢◌, ℕ, suc, ◌+◌, ◌*◌, ◌<◌, ◌≤◌, ◌⊎◌, inl, inr, true, List, [], ◌∷◌, length, refl, sym, ap, subst, arith}
use Rattle.std.specs.List.{Contains}
use Rattle.im_gap.specs.Walks.{IsWalk, cost, IsShort, IsGreatest}
use Rattle.im_gap.specs.declared.flow.Turn.{Turn}
use Rattle.im_gap.specs.declared.flow.Turn.TheVariants.{Passes, Jumps, Branches, Returns, Stops}
use Rattle.im_rv.specs.Code.{instruction_at}
use Rattle.im_gap.specs.Flow.{turn_of, imm_of, links, IsBehind, Leads, Flow, IsStaticWalk, IsResumeWord}
use Rattle.im_gap.specs.Gap.{recovery_steps, IsGap, IsBounded}
use Rattle.im_gap.specs.Table.{Depicts}

returns_or : (t : Turn) → (t ≡ Returns) ⊎ (t ≢ Returns)
returns_or Passes = inr (λ q. cc)
returns_or Jumps = inr (λ q. cc)
returns_or Branches = inr (λ q. cc)
returns_or Returns = inl refl
returns_or Stops = inr (λ q. cc)

module _ (words : List ℕ) (next : ℕ → List ℕ) (weight : ℕ → ℕ) (d : Depicts words next weight) where
  -- a return's edge, by what it leads to
  return_flow : (i j c : ℕ) → turn_of (instruction_at words i) ≡ Returns → j < length words → links 1 (instruction_at words c) ≡ true → j ≡ suc c → Flow words i j
  return_flow i j c r l k e = record { inside = l; leads = subst (λ (t : Turn). Leads words i j (imm_of (instruction_at words i)) t) (sym r) (c, k, e) }

  return_from : (i j : ℕ) → turn_of (instruction_at words i) ≡ Returns → Flow words i j → IsBehind words 1 j
  return_from i j r f = subst (λ (t : Turn). Leads words i j (imm_of (instruction_at words i)) t) r f.leads

  pub to_graph : (i : ℕ) (js : List ℕ) → i < length words → IsStaticWalk words i js → (ss : List ℕ) × IsWalk next i ss × (cost weight i ss ≡ suc (length js))
  to_graph i [] l g = ([], tt, (let o = d.one i l in omega arith))
  to_graph i (j ∷ js) l g =
      let r = to_graph j js g.0.inside g.1 in
      let o = d.one i l in let e = r.2 in
      elim (returns_or (turn_of (instruction_at words i))) [
        | inl t ↦ (
            let c = return_from i j t g.0 in
            (length words ∷ j ∷ r.0, (d.returns_back i l t, (d.shared_back j c.0 g.0.inside c.1 c.2, r.1)), (let z = d.free in omega arith)))
        | inr t ↦ (j ∷ r.0, (d.plain_back i j l t g.0, r.1), omega arith)
      ]

  pub from_graph : (i : ℕ) (ss : List ℕ) → i < length words → IsWalk next i ss → (js : List ℕ) × IsStaticWalk words i js × (suc (length js) ≡ cost weight i ss) × (length ss ≤ 2 * length js + 1)
  from_graph i [] l w = ([], tt, (let o = d.one i l in omega arith), omega arith)
  from_graph i (s ∷ []) l w =
      let o = d.one i l in
      elim (returns_or (turn_of (instruction_at words i))) [
        | inl t ↦ ([], tt, (let q : weight s ≡ weight (length words) = ap weight (d.returns i s l t w.0) in let z = d.free in omega arith), omega arith)
        | inr t ↦ (let f = d.plain i s l t w.0 in let p = d.one s f.inside in (s ∷ [], (f, tt), omega arith, omega arith))
      ]
  from_graph i (s ∷ t ∷ ss) l w =
      let o = d.one i l in
      elim (returns_or (turn_of (instruction_at words i))) [
        | inl r ↦ (
            let e : s ≡ length words = d.returns i s l r w.0 in
            let h = d.shared t (subst (λ (z : ℕ). Contains (next z) t) e w.1.0) in
            let q : weight s ≡ weight (length words) = ap weight e in
            let z = d.free in
            let k = from_graph t ss h.0 w.1.1 in
            let a = k.2 in let b = k.3 in
            (t ∷ k.0, (return_flow i t h.1.0 r h.0 h.1.1 h.1.2, k.1), omega arith, omega arith))
        | inr r ↦ (
            let f = d.plain i s l r w.0 in
            let k = from_graph s (t ∷ ss) f.inside w.1 in
            let a = k.2 in let b = k.3 in
            (s ∷ k.0, (f, k.1), omega arith, omega arith))
      ]

  module _ (entry : ℕ) (starts : List ℕ) (every : (i : ℕ) → IsResumeWord words entry i → Contains starts i) (only : (i : ℕ) → Contains starts i → IsResumeWord words entry i) where
    -- the greatest cost is the gap
    pub gap_from : (h first : ℕ) → Contains starts first → IsGreatest next weight starts h → IsGap words entry (recovery_steps + h)
    gap_from h first has g = elim g.met [
      | inl z ↦ absurd (let p = g.least first has [] tt in let o = d.one first (only first has).inside in omega arith)
      | inr m ↦ (
          let r = only m.0 m.1 in
          let k = from_graph m.0 m.2.walk r.inside m.2.along in
          let a = k.2 in let b = m.2.costs in
          record {
            most = λ i js s w. (let t = to_graph i js s.inside w in let p = g.least i (every i s) t.0 t.1 in let q = t.2 in omega arith);
            from = m.0;
            walk = k.0;
            resumes = r;
            goes = k.1;
            reached = omega arith;
          })
    ]

    -- where the walks of the flow are bounded, those of the graph are
    pub short_from : (b i : ℕ) → IsBounded words entry b → Contains starts i → IsShort next i (2 * b + 1)
    short_from b i g has = λ ss w. (let r = only i has in let t = from_graph i ss r.inside w in let p = g i t.0 r t.1 in let q = t.3 in omega arith)

falls : (words : List ℕ) (rank : ℕ → ℕ) → ((i j : ℕ) → Flow words i j → rank j < rank i) → (i : ℕ) (js : List ℕ) → IsStaticWalk words i js → length js ≤ rank i
falls words rank f i [] g = omega arith
falls words rank f i (j ∷ js) g = (let a = falls words rank f j js g.1 in let b = f i j g.0 in omega arith)

pub rank_law : (words : List ℕ) (entry top : ℕ) (rank : ℕ → ℕ) → ((i j : ℕ) → Flow words i j → rank j < rank i) → ((i : ℕ) → IsResumeWord words entry i → rank i ≤ top) → IsBounded words entry top
rank_law words entry top rank f t = λ i js r g. (let a = falls words rank f i js g in let b = t i r in omega arith)
