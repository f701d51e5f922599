-- The resume words, and the gap from the search's answer.
use Rattle.std.proofs.Common.{◌≡◌, ℕ, ◌+◌, ◌*◌, ◌<◌, inl, inr, List, length, sym, subst, arith}
use Rattle.std.specs.Prelude.{slice_index}
use Rattle.std.specs.List.{Contains}
use Rattle.std.specs.Option.{option_to_list}
use Rattle.std.proofs.lemmas.List.Elements.{Contains-append_left, Contains-append_right, Contains-append_cases, Contains-get_or}
use Rattle.im_gap.specs.declared.graph.Graph.{Graph}
use Rattle.im_gap.specs.Graph.{successors_of, weight_of}
use Rattle.im_gap.specs.Walks.{IsGreatest, IsEndless}
use Rattle.im_gap.specs.Flow.{IsResumeWord}
use Rattle.im_gap.specs.Gap.{recovery_steps, IsGap, HasGap}
use Rattle.im_gap.specs.Table.{index_of, behind, resume_words, Whole}
use Rattle.im_gap.proofs.Members.{target_is, target_has, behind_are, behind_have}
use Rattle.im_gap.proofs.Walking.{gap_from, short_from}
use Rattle.im_gap.proofs.Assembling.{depicts}

module _ (words : List ℕ) (entry : ℕ) where
  pub every : (starts : List ℕ) → starts ≡ resume_words words entry → (i : ℕ) → IsResumeWord words entry i → Contains starts i
  every starts q i r = subst (λ (z : List ℕ). Contains z i) (sym q) (elim r.is [
    | inl e ↦ Contains-append_left (option_to_list (index_of (length words) entry)) (behind 3 words (length words)) i (target_has (length words) entry i e r.inside)
    | inr c ↦ Contains-append_right (option_to_list (index_of (length words) entry)) (behind 3 words (length words)) i (behind_have words 3 (length words) i c.0 (let e = c.2 in let l = r.inside in omega arith) c.1 c.2 r.inside)
  ])

  pub only : (starts : List ℕ) → starts ≡ resume_words words entry → (i : ℕ) → Contains starts i → IsResumeWord words entry i
  only starts q i m = elim (Contains-append_cases (option_to_list (index_of (length words) entry)) (behind 3 words (length words)) i (subst (λ (z : List ℕ). Contains z i) q m)) [
    | inl a ↦ (let t = target_is (length words) entry i a in record { inside = t.1; is = inl t.0 })
    | inr b ↦ (let t = behind_are words 3 (length words) i b in record { inside = t.0; is = inr t.1 })
  ]

  pub starts_inside : (starts : List ℕ) → starts ≡ resume_words words entry → (k : ℕ) → k < length starts → slice_index starts k < length words
  starts_inside starts q k l = (only starts q (slice_index starts k) (Contains-get_or starts k 0 l)).inside

  pub none : (starts : List ℕ) → starts ≡ resume_words words entry → length starts ≡ 0 → HasGap words entry → ⊥
  none starts q e g = (let m = every starts q g.first g.resumes in let l = m.1 in omega arith)

  module _ (graph : Graph) (w : Whole words graph) (starts : List ℕ) (q : starts ≡ resume_words words entry) where
    pub gap_of : (h : ℕ) → 0 < length starts → IsGreatest (successors_of graph) (weight_of graph) starts h → IsGap words entry (recovery_steps + h)
    gap_of h some g = gap_from words (successors_of graph) (weight_of graph) (depicts words graph w) entry starts (every starts q) (only starts q) h (slice_index starts 0) (Contains-get_or starts 0 0 some) g

    pub no_gap : (n : ℕ) → Contains starts n → IsEndless (successors_of graph) n → HasGap words entry → ⊥
    no_gap n m endless g = endless (2 * g.bound + 1) (short_from words (successors_of graph) (weight_of graph) (depicts words graph w) entry starts (every starts q) (only starts q) g.bound n g.bounded m)
