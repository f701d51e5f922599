-- A test that numbers fall along each edge, for a code that is given word by word. The last number is that of the node which returns share.
use Rattle.std.proofs.Common.{◌≡◌, ◌≢◌, ℕ, zero, suc, ◌<◌, ◌≤◌, ◌⊎◌, inl, inr, Bool, true, false, List, [], ◌∷◌, length, refl, sym, ap, subst, arith}
use Rattle.std.specs.Prelude.{slice_index, nat_lt, ◌&&◌}
use Rattle.std.specs.List.{Contains}
use Rattle.std.proofs.lemmas.Bool.{ltb-true}
use Rattle.std.proofs.lemmas.Option.{slice_get_past}
use Rattle.im_rv.specs.Code.{instruction_at}
use Rattle.im_rv.specs.Effects.{decoded_word}
use Rattle.im_gap.specs.declared.flow.Turn.{Turn}
use Rattle.im_gap.specs.declared.flow.Turn.TheVariants.{Passes, Jumps, Branches, Returns, Stops}
use Rattle.im_gap.specs.Flow.{turn_of, imm_of, Leads, Flow, IsBehind}
use Rattle.im_gap.specs.Gap.{IsBounded}
use Rattle.im_gap.specs.Table.{successors_at, behind, resume_words}
use Rattle.im_gap.proofs.Members.{successors_have, return_has, behind_have}
use Rattle.im_gap.proofs.ManyStarts.{every}
use Rattle.im_gap.proofs.Walking.{rank_law}

-- the numbers of these nodes are below r
abbrev pub are_below : List ℕ → ℕ → List ℕ → Bool
are_below ranks r [] = true
are_below ranks r (s ∷ ss) = nat_lt (slice_index ranks s) r && are_below ranks r ss

abbrev pub falls_from : List ℕ → List ℕ → ℕ → Bool
falls_from ranks words zero = true
falls_from ranks words (suc k) = are_below ranks (slice_index ranks k) (successors_at words k) && falls_from ranks words k

abbrev pub is_ranked : List ℕ → List ℕ → Bool
is_ranked ranks words = falls_from ranks words (length words) && are_below ranks (slice_index ranks (length words)) (behind 1 words (length words))

both : (a b : Bool) → (a && b) ≡ true → (a ≡ true) × (b ≡ true)
both true b h = (refl, h)
both false b h = absurd (let bad : false ≡ true = h in cc)

below_each : (ranks : List ℕ) (r : ℕ) (ss : List ℕ) (s : ℕ) → are_below ranks r ss ≡ true → Contains ss s → slice_index ranks s < r
below_each ranks r [] s h m = absurd (let l = m.1 in omega arith)
below_each ranks r (x ∷ ss) s h (zero, l, e) = subst (λ (z : ℕ). slice_index ranks z < r) e (ltb-true (slice_index ranks x) r (both (nat_lt (slice_index ranks x) r) (are_below ranks r ss) h).0)
below_each ranks r (x ∷ ss) s h (suc k, l, e) = below_each ranks r ss s (both (nat_lt (slice_index ranks x) r) (are_below ranks r ss) h).1 (k, (let z : k < length ss = omega arith in z), e)

last_or : (i k : ℕ) → i < suc k → (i < k) ⊎ (i ≡ k)
last_or i k l = grind arith

falls_at : (ranks words : List ℕ) (k i : ℕ) → falls_from ranks words k ≡ true → i < k → are_below ranks (slice_index ranks i) (successors_at words i) ≡ true
falls_at ranks words zero i h l = absurd (omega arith)
falls_at ranks words (suc k) i h l =
    let b = both (are_below ranks (slice_index ranks k) (successors_at words k)) (falls_from ranks words k) h in
    elim (last_or i k l) [
      | inl m ↦ falls_at ranks words k i b.1 m
      | inr e ↦ subst (λ (z : ℕ). are_below ranks (slice_index ranks z) (successors_at words z) ≡ true) (sym e) b.0
    ]

returns_or : (t : Turn) → (t ≡ Returns) ⊎ (t ≢ Returns)
returns_or Passes = inr (λ q. cc)
returns_or Jumps = inr (λ q. cc)
returns_or Branches = inr (λ q. cc)
returns_or Returns = inl refl
returns_or Stops = inr (λ q. cc)

inside_or : (i n : ℕ) → (i < n) ⊎ (n ≤ i)
inside_or i n = grind arith

module _ (ranks words : List ℕ) (ranked : is_ranked ranks words ≡ true) where
  tests : (falls_from ranks words (length words) ≡ true) × (are_below ranks (slice_index ranks (length words)) (behind 1 words (length words)) ≡ true)
  tests = both (falls_from ranks words (length words)) (are_below ranks (slice_index ranks (length words)) (behind 1 words (length words))) ranked

  next_falls : (i s : ℕ) → i < length words → Contains (successors_at words i) s → slice_index ranks s < slice_index ranks i
  next_falls i s l m = below_each ranks (slice_index ranks i) (successors_at words i) s (falls_at ranks words (length words) i tests.0 l) m

  pub falls : (i j : ℕ) → Flow words i j → slice_index ranks j < slice_index ranks i
  falls i j f = elim (inside_or i (length words)) [
    | inl l ↦ elim (returns_or (turn_of (instruction_at words i))) [
      | inl t ↦ (
          let b : IsBehind words 1 j = subst (λ (t : Turn). Leads words i j (imm_of (instruction_at words i)) t) t f.leads in
          let low = below_each ranks (slice_index ranks (length words)) (behind 1 words (length words)) j tests.1 (behind_have words 1 (length words) j b.0 (let e = b.2 in let k = f.inside in omega arith) b.1 b.2 f.inside) in
          let high = next_falls i (length words) l (return_has words (length words) i (imm_of (instruction_at words i)) (turn_of (instruction_at words i)) t) in
          omega arith)
      | inr t ↦ next_falls i j l (successors_have words (length words) i j (imm_of (instruction_at words i)) (turn_of (instruction_at words i)) t f.inside f.leads)
    ]
    | inr past ↦ absurd (
        let none : turn_of (instruction_at words i) ≡ Stops = ap (λ o. turn_of (decoded_word o)) (slice_get_past words i past) in
        subst (λ (t : Turn). Leads words i j (imm_of (instruction_at words i)) t) none f.leads)
  ]

  -- where the numbers of resume words are at most top, walks from them go on by at most top words
  pub bounded_by : (entry top : ℕ) → are_below ranks (suc top) (resume_words words entry) ≡ true → IsBounded words entry top
  bounded_by entry top h = rank_law words entry top (slice_index ranks) falls (λ i r. (let l = below_each ranks (suc top) (resume_words words entry) i h (every words entry (resume_words words entry) refl i r) in omega arith))
