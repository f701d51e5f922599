-- What the table's lists hold, as edges of the flow.
use Rattle.std.proofs.Common.{◌≡◌, ◌≢◌, ℕ, zero, suc, ◌+◌, ◌-◌, ◌/◌, ◌%◌, ◌<◌, ◌≤◌, ◌⊎◌, inl, inr, Bool, true, false, cond, List, [], ◌∷◌, length, Some, None, refl, sym, subst, arith}
use Rattle.std.specs.Prelude.{nat_le, nat_lt, ◌&&◌, ◌==◌}
use Rattle.std.specs.List.{Contains}
use Rattle.std.specs.Option.{option_to_list}
use Rattle.std.proofs.lemmas.List.Elements.{Contains-append_left, Contains-append_right, Contains-append_cases}
use Rattle.std.proofs.lemmas.Bool.Decides.{nat_tests}
use Rattle.im_rv.specs.Steps.{sum_of}
use Rattle.im_gap.specs.declared.flow.Turn.{Turn}
use Rattle.im_gap.specs.declared.flow.Turn.TheVariants.{Passes, Jumps, Branches, Returns, Stops}
use Rattle.im_rv.specs.Code.{address, instruction_at}
use Rattle.im_gap.specs.Flow.{links, IsBehind, Leads}
use Rattle.im_gap.specs.Table.{index_of, following, successors_by, behind}

truth : (b : Bool) → (b ≡ true) ⊎ (b ≡ false)
truth true = inl refl
truth false = inr refl

none_in : (s : ℕ) → Contains [] s → ⊥
none_in s m = (let l = m.1 in omega arith)

only_in : (y s : ℕ) → Contains (y ∷ []) s → s ≡ y
only_in y s (zero, l, e) = sym e
only_in y s (suc k, l, e) = absurd (omega arith)

sole : (y s : ℕ) → s ≡ y → Contains (y ∷ []) s
sole y s e = (0, (let l : 0 < suc 0 = omega arith in l), sym e)

pub following_is : (n i s : ℕ) → Contains (following n i) s → (s ≡ suc i) × (s < n)
following_is n i s m = elim (truth (nat_lt (i + 1) n)) [
  | inl b ↦ (
      let e : s ≡ i + 1 = only_in (i + 1) s (subst (λ (z : Bool). Contains (cond z ((i + 1) ∷ []) []) s) b m) in
      let l : i + 1 < n = grind (arith, nat_tests) in
      (omega arith, omega arith))
  | inr b ↦ absurd (none_in s (subst (λ (z : Bool). Contains (cond z ((i + 1) ∷ []) []) s) b m))
]

pub following_has : (n i s : ℕ) → s ≡ suc i → s < n → Contains (following n i) s
following_has n i s e l =
    let b : nat_lt (i + 1) n ≡ true = grind (arith, nat_tests) in
    subst (λ (z : Bool). Contains (cond z ((i + 1) ∷ []) []) s) (sym b) (sole (i + 1) s (omega arith))

here : ℕ → ℕ → Bool
here n a = nat_le 4096 a && (a - 4096) % 4 == 0 && nat_lt ((a - 4096) / 4) n

is_here : (n a : ℕ) → (nat_le 4096 a && (a - 4096) % 4 == 0 && nat_lt ((a - 4096) / 4) n) ≡ true → (4096 ≤ a) × ((a - 4096) % 4 ≡ 0) × ((a - 4096) / 4 < n)
is_here n a h = (grind (arith, nat_tests), grind (arith, nat_tests), grind (arith, nat_tests))

pub target_is : (n a s : ℕ) → Contains (option_to_list (index_of n a)) s → (address s ≡ a) × (s < n)
target_is n a s m = elim (truth (nat_le 4096 a && (a - 4096) % 4 == 0 && nat_lt ((a - 4096) / 4) n)) [
  | inl b ↦ (
      let e : s ≡ (a - 4096) / 4 = only_in ((a - 4096) / 4) s (subst (λ (z : Bool). Contains (option_to_list (cond z (Some ((a - 4096) / 4)) None)) s) b m) in
      let h = is_here n a b in
      let p = h.0 in let q = h.1 in let r = h.2 in
      (omega arith, omega arith))
  | inr b ↦ absurd (none_in s (subst (λ (z : Bool). Contains (option_to_list (cond z (Some ((a - 4096) / 4)) None)) s) b m))
]

pub target_has : (n a s : ℕ) → address s ≡ a → s < n → Contains (option_to_list (index_of n a)) s
target_has n a s e l =
    let p : 4096 ≤ a = omega arith in
    let q : (a - 4096) % 4 ≡ 0 = omega arith in
    let r : (a - 4096) / 4 ≡ s = omega arith in
    let b : (nat_le 4096 a && (a - 4096) % 4 == 0 && nat_lt ((a - 4096) / 4) n) ≡ true = grind (arith, nat_tests) in
    subst (λ (z : Bool). Contains (option_to_list (cond z (Some ((a - 4096) / 4)) None)) s) (sym b) (sole ((a - 4096) / 4) s (sym r))

module _ (words : List ℕ) where
  pub successors_are : (n i s imm : ℕ) (t : Turn) → t ≢ Returns → Contains (successors_by n i imm t) s → (s < n) × Leads words i s imm t
  successors_are n i s imm Passes ne m = (let f = following_is n i s m in (f.1, f.0))
  successors_are n i s imm Jumps ne m = (let f = target_is n (sum_of (address i) imm) s m in (f.1, f.0))
  successors_are n i s imm Branches ne m = elim (Contains-append_cases (following n i) (option_to_list (index_of n (sum_of (address i) imm))) s m) [
    | inl a ↦ (let f = following_is n i s a in (f.1, inl f.0))
    | inr a ↦ (let f = target_is n (sum_of (address i) imm) s a in (f.1, inr f.0))
  ]
  successors_are n i s imm Returns ne m = absurd (ne refl)
  successors_are n i s imm Stops ne m = absurd (none_in s m)

  pub successors_have : (n i s imm : ℕ) (t : Turn) → t ≢ Returns → s < n → Leads words i s imm t → Contains (successors_by n i imm t) s
  successors_have n i s imm Passes ne l h = following_has n i s h l
  successors_have n i s imm Jumps ne l h = target_has n (sum_of (address i) imm) s h l
  successors_have n i s imm Branches ne l (inl h) = Contains-append_left (following n i) (option_to_list (index_of n (sum_of (address i) imm))) s (following_has n i s h l)
  successors_have n i s imm Branches ne l (inr h) = Contains-append_right (following n i) (option_to_list (index_of n (sum_of (address i) imm))) s (target_has n (sum_of (address i) imm) s h l)
  successors_have n i s imm Returns ne l h = absurd (ne refl)
  successors_have n i s imm Stops ne l h = absurd h

  pub return_ways : (n i s imm : ℕ) (t : Turn) → t ≡ Returns → Contains (successors_by n i imm t) s → s ≡ n
  return_ways n i s imm t e m = only_in n s (subst (λ (z : Turn). Contains (successors_by n i imm z) s) e m)

  pub return_has : (n i imm : ℕ) (t : Turn) → t ≡ Returns → Contains (successors_by n i imm t) n
  return_has n i imm t e = subst (λ (z : Turn). Contains (successors_by n i imm z) n) (sym e) (sole n n refl)

  pub behind_are : (r k s : ℕ) → Contains (behind r words k) s → (s < length words) × IsBehind words r s
  behind_are r zero s m = absurd (none_in s m)
  behind_are r (suc k) s m = elim (Contains-append_cases (behind r words k) (cond (links r (instruction_at words k)) (following (length words) k) []) s m) [
    | inl a ↦ behind_are r k s a
    | inr a ↦ elim (truth (links r (instruction_at words k))) [
      | inl b ↦ (let f = following_is (length words) k s (subst (λ (z : Bool). Contains (cond z (following (length words) k) []) s) b a) in (f.1, (k, b, f.0)))
      | inr b ↦ absurd (none_in s (subst (λ (z : Bool). Contains (cond z (following (length words) k) []) s) b a))
    ]
  ]

  pub behind_have : (r k s c : ℕ) → c < k → links r (instruction_at words c) ≡ true → s ≡ suc c → s < length words → Contains (behind r words k) s
  behind_have r zero s c l b e i = absurd (omega arith)
  behind_have r (suc k) s c l b e i = elim (below_or c k l) [
    | inl old ↦ Contains-append_left (behind r words k) (cond (links r (instruction_at words k)) (following (length words) k) []) s (behind_have r k s c old b e i)
    | inr q ↦ Contains-append_right (behind r words k) (cond (links r (instruction_at words k)) (following (length words) k) []) s
        (subst (λ (z : ℕ). Contains (cond (links r (instruction_at words z)) (following (length words) z) []) s) q
        (subst (λ (z : Bool). Contains (cond z (following (length words) c) []) s) (sym b) (following_has (length words) c s e i)))
  ]
    where
      below_or : (j n : ℕ) → j < suc n → (j < n) ⊎ (j ≡ n)
      below_or j n l = grind arith
