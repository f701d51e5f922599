-- The runtime's routines are ranked: a test of known lines.
use Rattle.std.proofs.Common.{◌≡◌, ◌<◌, ◌≤◌, ◌⊎◌, inl, inr, ℕ, ◌+◌, Bool, true, false, cond, List, [], ◌∷◌, Option, Some, None, refl, sym, ap, ◌∙◌, arith}
use Rattle.std.specs.Prelude.{◌==◌, ◌&&◌, ◌||◌, not, nat_lt, nat_le, if◌then◌else◌}
use Rattle.std.proofs.lemmas.Bool.Decides.{nat_tests}
use Rattle.im_rv.specs.declared.instr.Op.{Op}
use Rattle.im_rv.specs.declared.instr.Op.TheVariants.{Ebreak}
use Rattle.im_rv.specs.Decode.{Line}
use Rattle.im_rv.specs.Lines.{CodeLine}
use Rattle.im_gap.specs.declared.flow.Turn.{Turn}
use Rattle.im_gap.specs.declared.flow.Turn.TheVariants.{Passes, Jumps, Branches, Returns, Stops}
use Rattle.im_serve.specs.declared.service.Service.{Service}
use Rattle.im_rtlib.specs.Routines.{routine, exit, stack}
use Rattle.im_select.proofs.Services.{each_service}
use Rattle.im_saved_code.specs.Scan.{way}
use Rattle.im_saved_code.proofs.Scanning.{both, either, not_true, same_of, same_is}
use Rattle.im_gap_ranked.proofs.Ranks.{After, cut_rank, rank_of, scan, GoesTo, Goes, AreRanked, AreWithin}

-- what calls lead to is no greater
abbrev pub entry_rank : ℕ
entry_rank = cut_rank + 11

-- the labels of the routines
abbrev pub low_rank : ℕ → ℕ
low_rank l = cond (l == 35) 2 (cond (l == 34) 1 (cond (l == 45) cut_rank (cond (l == 44) (cut_rank + 1) (cond (l == 42) (cut_rank + 6) (cond (l == 41) (cut_rank + 7) (cond (l == 32 || l == 33) entry_rank (cut_rank + 2)))))))

-- beyond: those of functions and of blocks
abbrev pub at_labels : (ℕ → ℕ) → ℕ → ℕ
at_labels beyond l = if nat_lt l 64 then low_rank l else beyond l

-- ---- a test

abbrev label_test : (ℕ → ℕ) → Option ℕ → ℕ → Bool
label_test at None rank = true
label_test at (Some l) rank = nat_le rank (at l)

abbrev jump_test : ℕ → Option ℕ → Bool
jump_test rd None = false
jump_test rd (Some l) = cond (rd == 3) (nat_le 10 l && nat_le l 31) (nat_le 32 l && nat_lt rd 1)

abbrev branch_test : Option ℕ → ℕ → Bool
branch_test None imm = imm == 8
branch_test (Some l) imm = nat_le 32 l

abbrev stop_test : Op → Bool
stop_test Ebreak = true
stop_test op = false

abbrev goes_test : Turn → Line → Option ℕ → Bool
goes_test Passes line target = true
goes_test Jumps line target = jump_test line.rd target
goes_test Branches line target = branch_test target line.imm
goes_test Returns line target = true
goes_test Stops line target = stop_test line.op

abbrev line_test : (ℕ → ℕ) → CodeLine → After → Bool
line_test at x after = label_test at x.label (rank_of at x after) && goes_test (way x.line.op) x.line x.target

abbrev lines_test : (ℕ → ℕ) → List CodeLine → After → Bool
lines_test at [] behind = true
lines_test at (x ∷ xs) behind = line_test at x (scan at xs behind) && lines_test at xs behind

label_is : (at : ℕ → ℕ) (o : Option ℕ) (rank l : ℕ) → label_test at o rank ≡ true → o ≡ Some l → rank ≤ at l
label_is at None rank l t e = absurd cc
label_is at (Some m) rank l t e = let same : m ≡ l = cc in let q : nat_le rank (at l) ≡ true = ap (λ z. nat_le rank (at z)) (sym same) ∙ t in grind (arith, nat_tests)

jump_is : (rd : ℕ) (o : Option ℕ) (after : After) → jump_test rd o ≡ true → (l : ℕ) × (o ≡ Some l) × GoesTo rd l after
jump_is rd None after t = absurd cc
jump_is rd (Some l) after t = by (rd == 3) refl t
  where
    by : (b : Bool) → (rd == 3) ≡ b → cond b (nat_le 10 l && nat_le l 31) (nat_le 32 l && nat_lt rd 1) ≡ true → (m : ℕ) × (Some l ≡ Some m) × GoesTo rd m after
    by true e t =
        let c = both (nat_le 10 l) (nat_le l 31) t in
        let c0 = c.0 in
        let c1 = c.1 in
        let is : rd ≡ 3 = same_of rd 3 e in
        (l, refl, record { cut = λ q. (grind (arith, nat_tests), grind (arith, nat_tests)); call = λ q. absurd (omega arith); other = λ q. absurd (q is) })
    by false e t =
        let c = both (nat_le 32 l) (nat_lt rd 1) t in
        let c0 = c.0 in
        let c1 = c.1 in
        let small : rd < 1 = grind (arith, nat_tests) in
        (l, refl, record { cut = λ q. absurd (omega arith); call = λ q. absurd (omega arith); other = λ q. grind (arith, nat_tests) })

branch_is : (o : Option ℕ) (imm : ℕ) → branch_test o imm ≡ true → ((o ≡ None) × (imm ≡ 8)) ⊎ ((l : ℕ) × (o ≡ Some l) × (32 ≤ l))
branch_is None imm t = inl (refl, same_of imm 8 t)
branch_is (Some l) imm t = inr (l, refl, grind (arith, nat_tests))

stop_is : (op : Op) → stop_test op ≡ true → op ≡ Ebreak
stop_is Ebreak t = refl
stop_is op t = absurd cc

goes_is : (turn : Turn) (line : Line) (target : Option ℕ) (after : After) → goes_test turn line target ≡ true → Goes turn line target after
goes_is Passes line target after t = tt
goes_is Jumps line target after t = jump_is line.rd target after t
goes_is Branches line target after t = branch_is target line.imm t
goes_is Returns line target after t = tt
goes_is Stops line target after t = stop_is line.op t

tested : (at : ℕ → ℕ) (xs : List CodeLine) (behind : After) → lines_test at xs behind ≡ true → AreRanked at xs behind
tested at [] behind t = tt
tested at (x ∷ xs) behind t =
    let a = both (line_test at x (scan at xs behind)) (lines_test at xs behind) t in
    let b = both (label_test at x.label (rank_of at x (scan at xs behind))) (goes_test (way x.line.op) x.line x.target) a.0 in
    (record { label = λ l e. label_is at x.label (rank_of at x (scan at xs behind)) l b.0 e; goes = goes_is (way x.line.op) x.line x.target (scan at xs behind) b.1 }, tested at xs behind a.1)

-- ---- what stands behind cuts

abbrev within_test : ℕ → CodeLine → After → Bool
within_test most x after = not (x.line.rd == 3) || nat_le after.next most

abbrev all_test : (ℕ → ℕ) → ℕ → List CodeLine → After → Bool
all_test at most [] behind = true
all_test at most (x ∷ xs) behind = within_test most x (scan at xs behind) && all_test at most xs behind

within_is : (at : ℕ → ℕ) (most top : ℕ) (xs : List CodeLine) (behind : After) → most ≤ top → all_test at most xs behind ≡ true → AreWithin at top xs behind
within_is at most top [] behind le t = tt
within_is at most top (x ∷ xs) behind le t =
    let a = both (within_test most x (scan at xs behind)) (all_test at most xs behind) t in
    ((λ jumps cut. by (scan at xs behind).next (elim (either (not (x.line.rd == 3)) _ a.0) [ inl e ↦ absurd (not_true (x.line.rd == 3) e (same_is x.line.rd 3 cut)) | inr e ↦ e ])), within_is at most top xs behind le a.1)
  where
    by : (n : ℕ) → nat_le n most ≡ true → n ≤ top
    by n e = let k : n ≤ most = grind (arith, nat_tests) in omega arith

-- that of the line behind the routines' cuts is no greater
abbrev pub routine_rank : ℕ
routine_rank = cut_rank + 3

-- ---- the routines

module _ (beyond : ℕ → ℕ) (behind : After) where
  pub service_ranked : (service : Service) → AreRanked (at_labels beyond) (routine service) behind
  service_ranked service = tested (at_labels beyond) (routine service) behind (each_service (λ s. lines_test (at_labels beyond) (routine s) behind) refl service)

  pub stack_ranked : AreRanked (at_labels beyond) stack behind
  stack_ranked = tested (at_labels beyond) stack behind refl

  pub exit_ranked : AreRanked (at_labels beyond) exit behind
  exit_ranked = tested (at_labels beyond) exit behind refl

  -- what stands behind the call of main
  pub exit_rank : (scan (at_labels beyond) exit behind).next ≡ 1
  exit_rank = refl

  module _ (top : ℕ) (enough : routine_rank ≤ top) where
    pub service_within : (service : Service) → AreWithin (at_labels beyond) top (routine service) behind
    service_within service = within_is (at_labels beyond) routine_rank top (routine service) behind enough (each_service (λ s. all_test (at_labels beyond) routine_rank (routine s) behind) refl service)

    pub stack_within : AreWithin (at_labels beyond) top stack behind
    stack_within = within_is (at_labels beyond) routine_rank top stack behind enough refl

    pub exit_within : AreWithin (at_labels beyond) top exit behind
    exit_within = within_is (at_labels beyond) routine_rank top exit behind enough refl
