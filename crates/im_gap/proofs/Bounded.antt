-- A longest walk comes to no word twice.
use Rattle.std.proofs.Common.{◌≡◌, ◌≢◌, ℕ, zero, suc, ◌+◌, ◌-◌, ◌<◌, ◌≤◌, ◌⊎◌, inl, inr, List, [], ◌∷◌, ◌++◌, length, take, drop, refl, sym, ap, ◌∙◌, subst, arith}
use Rattle.std.proofs.lemmas.Bool.{cases_order}
use Rattle.im_gap.proofs.Pigeonhole.{Into, OneToOne, pigeonhole}
use Rattle.im_gap.specs.Flow.{Flow, IsStaticWalk, IsResumeWord}
use Rattle.im_gap.specs.Gap.{recovery_steps, IsGap}

-- the n-th word of a walk, the last where it is shorter
abbrev node : ℕ → List ℕ → ℕ → ℕ
node i js zero = i
node i [] (suc n) = i
node i (j ∷ js) (suc n) = node j js n

module _ (words : List ℕ) where
  take_walk : (i n : ℕ) (js : List ℕ) → IsStaticWalk words i js → IsStaticWalk words i (take n js)
  take_walk i zero js g = tt
  take_walk i (suc n) [] g = tt
  take_walk i (suc n) (j ∷ js) g = (g.0, take_walk j n js g.1)

  drop_walk : (i n : ℕ) (js : List ℕ) → n ≤ length js → IsStaticWalk words i js → IsStaticWalk words (node i js n) (drop n js)
  drop_walk i zero js l g = g
  drop_walk i (suc n) [] l g = absurd (omega arith)
  drop_walk i (suc n) (j ∷ js) l g = drop_walk j n js (omega arith) g.1

  -- a walk goes on with another from its last word
  join_walk : (i n : ℕ) (js ks : List ℕ) → n ≤ length js → IsStaticWalk words i js → IsStaticWalk words (node i js n) ks → IsStaticWalk words i (take n js ++ ks)
  join_walk i zero js ks l g h = h
  join_walk i (suc n) [] ks l g h = absurd (omega arith)
  join_walk i (suc n) (j ∷ js) ks l g h = (g.0, join_walk j n js ks (omega arith) g.1 h)

  inside : (i n : ℕ) (js : List ℕ) → n ≤ length js → i < length words → IsStaticWalk words i js → node i js n < length words
  inside i zero js l a g = a
  inside i (suc n) [] l a g = a
  inside i (suc n) (j ∷ js) l a g = inside j n js (omega arith) g.0.inside g.1

joined_length : (n m : ℕ) (js ks : List ℕ) → n ≤ length js → m ≤ length js → length (take n js ++ ks) ≡ n + length ks
joined_length zero m js ks l k = omega arith
joined_length (suc n) m [] ks l k = absurd (omega arith)
joined_length (suc n) zero (j ∷ js) ks l k = (let r = joined_length n zero js ks (omega arith) (omega arith) in omega arith)
joined_length (suc n) (suc m) (j ∷ js) ks l k = (let r = joined_length n m js ks (omega arith) (omega arith) in omega arith)

dropped_length : (m : ℕ) (js : List ℕ) → m ≤ length js → length (drop m js) + m ≡ length js
dropped_length zero js l = omega arith
dropped_length (suc m) [] l = absurd (omega arith)
dropped_length (suc m) (j ∷ js) l = (let r = dropped_length m js (omega arith) in omega arith)

module _ (words : List ℕ) (entry k : ℕ) (gap : IsGap words entry k) where
  -- what comes to a word again at a later place can be made longer
  never_again : (i j : ℕ) → i < j → j ≤ length gap.walk → node gap.from gap.walk i ≡ node gap.from gap.walk j → ⊥
  never_again i j less within same =
      let rest = drop_walk words gap.from i gap.walk (omega arith) gap.goes in
      let again = join_walk words gap.from j gap.walk (drop i gap.walk) within gap.goes (subst (λ z. IsStaticWalk words z (drop i gap.walk)) same rest) in
      let most = gap.most gap.from (take j gap.walk ++ drop i gap.walk) gap.resumes again in
      let longer = joined_length j i gap.walk (drop i gap.walk) within (omega arith) in
      let left = dropped_length i gap.walk (omega arith) in
      let all = gap.reached in
      absurd (omega arith)

  once : OneToOne (node gap.from gap.walk) (suc (length gap.walk))
  once i j p q same = elim (cases_order i j) [
    | inl equal ↦ equal
    | inr (inl less) ↦ absurd (never_again i j less (omega arith) same)
    | inr (inr more) ↦ absurd (never_again j i more (omega arith) (sym same))
  ]

  into : Into (node gap.from gap.walk) (suc (length gap.walk)) (length words)
  into i p = inside words gap.from i gap.walk (omega arith) gap.resumes.inside gap.goes

  pub bounded : k ≤ recovery_steps + length words
  bounded = (let few = pigeonhole (suc (length gap.walk)) (length words) (node gap.from gap.walk) into once in let all = gap.reached in omega arith)
