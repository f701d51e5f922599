-- Lines one after another, and lines that go on to the next.
use Rattle.std.proofs.Common.{◌≡◌, ◌≢◌, ℕ, ◌⊎◌, inl, inr, Bool, true, false, List, [], ◌∷◌, ◌++◌, None, refl, sym, ap, ◌∙◌, subst, arith, eq-eqb}
use Rattle.std.specs.Prelude.{◌==◌, ◌&&◌, ◌||◌, not}
use Rattle.std.proofs.lemmas.Bool.Decides.{nat_tests}
use Rattle.im_rv.specs.Lines.{CodeLine}
use Rattle.im_gap.specs.declared.flow.Turn.TheVariants.{Passes}
use Rattle.im_select.specs.Emitted.{labelled}
use Rattle.im_saved_code.specs.Scan.{way, is_base, After, onward, lives_at, before, scan, Goes, IsSoundLine, AreSound}

pub both : (a b : Bool) → (a && b) ≡ true → (a ≡ true) × (b ≡ true)
both true b h = (refl, h)
both false b h = absurd cc

pub both_are : (a b : Bool) → a ≡ true → b ≡ true → (a && b) ≡ true
both_are a b e f = ap (λ z. z && b) e ∙ f

pub either : (a b : Bool) → (a || b) ≡ true → (a ≡ true) ⊎ (b ≡ true)
either true b h = inl refl
either false b h = inr h

pub or_left : (a b : Bool) → a ≡ true → (a || b) ≡ true
or_left a b e = ap (λ z. z || b) e

pub or_right : (a b : Bool) → b ≡ true → (a || b) ≡ true
or_right true b e = refl
or_right false b e = e

pub not_true : (a : Bool) → not a ≡ true → a ≡ true → ⊥
not_true true h e = absurd cc
not_true false h e = absurd cc

pub is_not : (a : Bool) → (a ≡ true → ⊥) → not a ≡ true
is_not true h = absurd (h refl)
is_not false h = refl

pub same_of : (a b : ℕ) → (a == b) ≡ true → a ≡ b
same_of a b h = grind (arith, nat_tests)

pub same_is : (a b : ℕ) → a ≡ b → (a == b) ≡ true
same_is a b e = eq-eqb a b e

pub other_is : (a b : ℕ) → a ≢ b → (a == b) ≡ false
other_is a b ne = by (a == b) refl
  where
    by : (t : Bool) → (a == b) ≡ t → t ≡ false
    by true e = absurd (ne (same_of a b e))
    by false e = refl

-- a register that may not live anywhere
abbrev pub IsUnsaved : ℕ → Type 0
IsUnsaved r = is_base r ≡ false

-- it is none that may
pub unsaved_not : (r s : ℕ) → IsUnsaved r → is_base s ≡ true → r ≡ s → ⊥
unsaved_not r s n e same = let k : is_base r ≡ true = ap is_base same ∙ e in cc

pub unsaved_true : (r : ℕ) → IsUnsaved r → is_base r ≡ true → ⊥
unsaved_true r n e = cc

pub or_unsaved : (X : Type 0) (r : ℕ) → (IsUnsaved r → X) → (is_base r ≡ true) ⊎ X
or_unsaved X r k = by (is_base r) refl
  where
    by : (t : Bool) → is_base r ≡ t → (is_base r ≡ true) ⊎ X
    by true e = inl e
    by false e = inr (k e)

-- ---- one after another

pub scan_append : (at : ℕ → ℕ → Bool) (xs ys : List CodeLine) (behind : After) → scan at (xs ++ ys) behind ≡ scan at xs (scan at ys behind)
scan_append at [] ys behind = refl
scan_append at (x ∷ xs) ys behind = ap (before at x) (scan_append at xs ys behind)

pub sound_append : (at : ℕ → ℕ → Bool) (xs ys : List CodeLine) (behind : After) → AreSound at xs (scan at ys behind) → AreSound at ys behind → AreSound at (xs ++ ys) behind
sound_append at [] ys behind a b = b
sound_append at (x ∷ xs) ys behind a b = (subst (IsSoundLine at x) (sym (scan_append at xs ys behind)) a.0, sound_append at xs ys behind a.1 b)

pub scan_labelled : (at : ℕ → ℕ → Bool) (l : ℕ) (xs : List CodeLine) (behind : After) → scan at (labelled l xs) behind ≡ scan at xs behind
scan_labelled at l [] behind = refl
scan_labelled at l (x ∷ xs) behind = refl

-- the first line's label
pub sound_labelled : (at : ℕ → ℕ → Bool) (l : ℕ) (xs : List CodeLine) (behind : After) → ((r : ℕ) → (scan at xs behind).next r ≡ true → at l r ≡ true) → AreSound at xs behind → AreSound at (labelled l xs) behind
sound_labelled at l [] behind k h = tt
sound_labelled at l (x ∷ xs) behind k h = (
  record {
    labelled = λ m r e w. (let same : l ≡ m = cc in subst (λ z. at z r ≡ true) same (k r w));
    goes = h.0.goes;
  },
  h.1,
)

-- ---- what lives at a line

pub data Lives (at : ℕ → ℕ → Bool) (x : CodeLine) (after : After) (r : ℕ) : Type 0 where
  First : r ≡ x.line.rs1 → Lives at x after r
  Second : r ≡ x.line.rs2 → Lives at x after r
  Later : r ≢ x.line.rd → onward at (way x.line.op) x.line.rd x.target after r ≡ true → Lives at x after r

pub line_lives : (at : ℕ → ℕ → Bool) (x : CodeLine) (after : After) (r : ℕ) → IsUnsaved r → lives_at at x after r ≡ true → Lives at x after r
line_lives at x after r n w = elim (either (is_base r) _ w) [
  | inl e ↦ absurd (unsaved_true r n e)
  | inr a ↦ elim (either (r == x.line.rs1 || r == x.line.rs2) _ a) [
    | inl u ↦ elim (either (r == x.line.rs1) (r == x.line.rs2) u) [ inl e ↦ First (same_of r x.line.rs1 e) | inr e ↦ Second (same_of r x.line.rs2 e) ]
    | inr b ↦ (let c = both (not (r == x.line.rd)) (onward at (way x.line.op) x.line.rd x.target after r) b in Later (λ e. not_true (r == x.line.rd) c.0 (same_is r x.line.rd e)) c.1)
  ]
]

-- ---- lines that go on to the next

abbrev pub IsPlain : CodeLine → Type 0
IsPlain x = (way x.line.op ≡ Passes) × (x.label ≡ None)

abbrev pub ArePlain : List CodeLine → Type 0
ArePlain [] = Unit {0}
ArePlain (x ∷ xs) = IsPlain x × ArePlain xs

pub plain_append : (xs ys : List CodeLine) → ArePlain xs → ArePlain ys → ArePlain (xs ++ ys)
plain_append [] ys a b = b
plain_append (x ∷ xs) ys a b = (a.0, plain_append xs ys a.1 b)

pub plain_sound : (at : ℕ → ℕ → Bool) (xs : List CodeLine) (behind : After) → ArePlain xs → AreSound at xs behind
plain_sound at [] behind h = tt
plain_sound at (x ∷ xs) behind h = (
  record {
    labelled = λ l r e w. (let n = h.0.1 in absurd cc);
    goes = subst (λ t. Goes t x.line x.target (scan at xs behind)) (sym h.0.0) tt;
  },
  plain_sound at xs behind h.1,
)

-- used by such lines before it is set, or not set and wanted behind them
abbrev pub Wants : List CodeLine → Type 0 → ℕ → Type 0
Wants [] X r = X
Wants (x ∷ xs) X r = (r ≡ x.line.rs1) ⊎ (r ≡ x.line.rs2) ⊎ ((r ≢ x.line.rd) × Wants xs X r)

pub plain_wants : (at : ℕ → ℕ → Bool) (xs : List CodeLine) (behind : After) (r : ℕ) → ArePlain xs → IsUnsaved r → (scan at xs behind).next r ≡ true → Wants xs (behind.next r ≡ true) r
plain_wants at [] behind r h n w = w
plain_wants at (x ∷ xs) behind r h n w = by (λ v. plain_wants at xs behind r h.1 n v) (line_lives at x (scan at xs behind) r n w)
  where
    by : ((scan at xs behind).next r ≡ true → Wants xs (behind.next r ≡ true) r) → Lives at x (scan at xs behind) r → Wants (x ∷ xs) (behind.next r ≡ true) r
    by k (First e) = inl e
    by k (Second e) = inr (inl e)
    by k (Later ne o) = inr (inr (ne, k (subst (λ t. onward at t x.line.rd x.target (scan at xs behind) r ≡ true) h.0.0 o)))

pub wants_append : (xs ys : List CodeLine) (X : Type 0) (r : ℕ) → Wants (xs ++ ys) X r → Wants xs (Wants ys X r) r
wants_append [] ys X r w = w
wants_append (x ∷ xs) ys X r (inl e) = inl e
wants_append (x ∷ xs) ys X r (inr (inl e)) = inr (inl e)
wants_append (x ∷ xs) ys X r (inr (inr c)) = inr (inr (c.0, wants_append xs ys X r c.1))
