-- A number for each line, by one scan from behind: it is above those of the lines to which this one leads.
use Rattle.std.proofs.Common.{◌≡◌, ◌≢◌, ◌≤◌, ◌⊎◌, ℕ, suc, ◌+◌, Bool, true, false, cond, List, [], ◌∷◌, ◌++◌, Option, Some, None, length, refl, sym, ap, ◌∙◌, subst, arith}
use Rattle.std.specs.Prelude.{◌==◌, nat_le}
use Rattle.std.proofs.lemmas.Bool.Decides.{nat_tests}
use Rattle.im_rv.specs.declared.instr.Op.TheVariants.{Ebreak}
use Rattle.im_rv.specs.Decode.{Line}
use Rattle.im_rv.specs.Lines.{CodeLine}
use Rattle.im_gap.specs.declared.flow.Turn.{Turn}
use Rattle.im_gap.specs.declared.flow.Turn.TheVariants.{Passes, Jumps, Branches, Returns, Stops}
use Rattle.im_select.specs.Emitted.{labelled}
use Rattle.im_saved_code.specs.Scan.{way}
use Rattle.im_saved_code.proofs.Scanning.{ArePlain}

-- ---- the greater of two

abbrev greater_by : Bool → ℕ → ℕ → ℕ
greater_by true a b = b
greater_by false a b = a

abbrev pub greater : ℕ → ℕ → ℕ
greater a b = greater_by (nat_le a b) a b

pub greater_left : (a b : ℕ) → a ≤ greater a b
greater_left a b = by (nat_le a b) refl
  where
    by : (t : Bool) → nat_le a b ≡ t → a ≤ greater_by t a b
    by true e = grind (arith, nat_tests)
    by false e = omega arith

pub greater_right : (a b : ℕ) → b ≤ greater a b
greater_right a b = by (nat_le a b) refl
  where
    by : (t : Bool) → nat_le a b ≡ t → b ≤ greater_by t a b
    by true e = omega arith
    by false e = grind (arith, nat_tests)

pub greater_within : (a b c : ℕ) → a ≤ c → b ≤ c → greater a b ≤ c
greater_within a b c h k = by (nat_le a b)
  where
    by : (t : Bool) → greater_by t a b ≤ c
    by true = k
    by false = h

-- ---- the scan

-- the numbers of the next line, and of the one behind it, to which a branch over one line leads
pub record After : Type 0 where
  pub next : ℕ
  pub over : ℕ

abbrev pub nothing : After
nothing = record { next = 0; over = 0 }

-- that of a cut: those of the checkpoint are below, at most 36 at an entry, 5 words and as many stores as registers before the flip;
-- those of the lines behind calls are no greater
abbrev pub cut_rank : ℕ
cut_rank = 37

abbrev pub at_target : (ℕ → ℕ) → Option ℕ → ℕ → ℕ
at_target at None other = other
at_target at (Some l) other = at l

-- at: the number of a label
abbrev pub rank_by : (ℕ → ℕ) → Turn → ℕ → Option ℕ → After → ℕ
rank_by at Passes rd target after = suc after.next
rank_by at Jumps rd target after = cond (rd == 3) cut_rank (suc (at_target at target 0))
rank_by at Branches rd target after = suc (greater after.next (at_target at target after.over))
rank_by at Returns rd target after = suc cut_rank
rank_by at Stops rd target after = 0

abbrev pub rank_of : (ℕ → ℕ) → CodeLine → After → ℕ
rank_of at x after = rank_by at (way x.line.op) x.line.rd x.target after

abbrev pub before : (ℕ → ℕ) → CodeLine → After → After
before at x after = record { next = rank_of at x after; over = after.next }

-- before lines, by what is behind them
abbrev pub scan : (ℕ → ℕ) → List CodeLine → After → After
scan at [] behind = behind
scan at (x ∷ xs) behind = before at x (scan at xs behind)

-- ---- what is asked of lines

-- a jump to a label: a cut's is that of an entry from E4 on, any other's is not the checkpoint's; behind a call ranks are low
pub record GoesTo (rd l : ℕ) (after : After) : Type 0 where
  pub cut : rd ≡ 3 → (4 ≤ l) × (l ≤ 31)
  pub call : rd ≡ 1 → after.next ≤ cut_rank
  pub other : rd ≢ 3 → 32 ≤ l

abbrev pub Goes : Turn → Line → Option ℕ → After → Type 0
Goes Passes line target after = Unit {0}
Goes Jumps line target after = (l : ℕ) × (target ≡ Some l) × GoesTo line.rd l after
Goes Branches line target after = ((target ≡ None) × (line.imm ≡ 8)) ⊎ ((l : ℕ) × (target ≡ Some l) × (32 ≤ l))
Goes Returns line target after = Unit {0}
Goes Stops line target after = line.op ≡ Ebreak

pub record IsRankedLine (at : ℕ → ℕ) (x : CodeLine) (after : After) : Type 0 where
  pub label : (l : ℕ) → x.label ≡ Some l → rank_of at x after ≤ at l
  pub goes : Goes (way x.line.op) x.line x.target after

abbrev pub AreRanked : (ℕ → ℕ) → List CodeLine → After → Type 0
AreRanked at [] behind = Unit {0}
AreRanked at (x ∷ xs) behind = IsRankedLine at x (scan at xs behind) × AreRanked at xs behind

-- ---- what is asked of sections

-- what stands behind a cut has at most this number
abbrev pub IsWithin : ℕ → CodeLine → After → Type 0
IsWithin top x after = way x.line.op ≡ Jumps → x.line.rd ≡ 3 → after.next ≤ top

abbrev pub AreWithin : (ℕ → ℕ) → ℕ → List CodeLine → After → Type 0
AreWithin at top [] behind = Unit {0}
AreWithin at top (x ∷ xs) behind = IsWithin top x (scan at xs behind) × AreWithin at top xs behind

-- ---- one after another

pub scan_append : (at : ℕ → ℕ) (xs ys : List CodeLine) (behind : After) → scan at (xs ++ ys) behind ≡ scan at xs (scan at ys behind)
scan_append at [] ys behind = refl
scan_append at (x ∷ xs) ys behind = ap (before at x) (scan_append at xs ys behind)

pub scan_labelled : (at : ℕ → ℕ) (l : ℕ) (xs : List CodeLine) (behind : After) → scan at (labelled l xs) behind ≡ scan at xs behind
scan_labelled at l [] behind = refl
scan_labelled at l (x ∷ xs) behind = refl

pub ranked_append : (at : ℕ → ℕ) (xs ys : List CodeLine) (behind : After) → AreRanked at xs (scan at ys behind) → AreRanked at ys behind → AreRanked at (xs ++ ys) behind
ranked_append at [] ys behind a b = b
ranked_append at (x ∷ xs) ys behind a b = (subst (IsRankedLine at x) (sym (scan_append at xs ys behind)) a.0, ranked_append at xs ys behind a.1 b)

pub within_append : (at : ℕ → ℕ) (top : ℕ) (xs ys : List CodeLine) (behind : After) → AreWithin at top xs (scan at ys behind) → AreWithin at top ys behind → AreWithin at top (xs ++ ys) behind
within_append at top [] ys behind a b = b
within_append at top (x ∷ xs) ys behind a b = (subst (IsWithin top x) (sym (scan_append at xs ys behind)) a.0, within_append at top xs ys behind a.1 b)

pub within_labelled : (at : ℕ → ℕ) (top l : ℕ) (xs : List CodeLine) (behind : After) → AreWithin at top xs behind → AreWithin at top (labelled l xs) behind
within_labelled at top l [] behind h = tt
within_labelled at top l (x ∷ xs) behind h = (h.0, h.1)

-- the first line's label
pub ranked_labelled : (at : ℕ → ℕ) (l : ℕ) (xs : List CodeLine) (behind : After) → (scan at xs behind).next ≤ at l → AreRanked at xs behind → AreRanked at (labelled l xs) behind
ranked_labelled at l [] behind k h = tt
ranked_labelled at l (x ∷ xs) behind k h = (
  record {
    label = λ m e. (let same : l ≡ m = cc in subst (λ z. rank_of at x (scan at xs behind) ≤ at z) same k);
    goes = h.0.goes;
  },
  h.1,
)

-- ---- lines that go on to the next

pub plain_ranked : (at : ℕ → ℕ) (xs : List CodeLine) (behind : After) → ArePlain xs → AreRanked at xs behind
plain_ranked at [] behind h = tt
plain_ranked at (x ∷ xs) behind h = (
  record {
    label = λ l e. (let n = h.0.1 in absurd cc);
    goes = subst (λ t. Goes t x.line x.target (scan at xs behind)) (sym h.0.0) tt;
  },
  plain_ranked at xs behind h.1,
)

pub plain_rank : (at : ℕ → ℕ) (xs : List CodeLine) (behind : After) → ArePlain xs → (scan at xs behind).next ≡ length xs + behind.next
plain_rank at [] behind h = omega arith
plain_rank at (x ∷ xs) behind h =
    let k = plain_rank at xs behind h.1 in
    let one : suc (scan at xs behind).next ≡ suc (length xs) + behind.next = omega arith in
    ap (λ t. rank_by at t x.line.rd x.target (scan at xs behind)) h.0.0 ∙ one

pub plain_within : (at : ℕ → ℕ) (top : ℕ) (xs : List CodeLine) (behind : After) → ArePlain xs → AreWithin at top xs behind
plain_within at top [] behind h = tt
plain_within at top (x ∷ xs) behind h = ((λ jumps cut. (let passes = h.0.0 in absurd cc)), plain_within at top xs behind h.1)
