-- The runtime's lines are sound: a test of known lines, register by register.
use Rattle.std.proofs.Common.{◌≡◌, ◌≢◌, ℕ, zero, suc, ◌<◌, ◌≤◌, ◌⊎◌, inl, inr, Bool, true, false, cond, List, [], ◌∷◌, Option, Some, None, refl, sym, ap, ◌∙◌, subst, arith}
use Rattle.std.specs.Prelude.{◌==◌, ◌&&◌, ◌||◌, not, nat_lt, nat_le}
use Rattle.std.proofs.lemmas.Bool.Decides.{nat_tests}
use Rattle.im_rv.specs.declared.instr.Op.{Op}
use Rattle.im_rv.specs.declared.instr.Op.TheVariants.{Fence, Ebreak}
use Rattle.im_rv.specs.Decode.{Line}
use Rattle.im_rv.specs.Lines.{CodeLine}
use Rattle.im_gap.specs.declared.flow.Turn.{Turn}
use Rattle.im_gap.specs.declared.flow.Turn.TheVariants.{Passes, Jumps, Branches, Returns, Stops}
use Rattle.im_rtlib.specs.Laws.{is_saved}
use Rattle.im_serve.specs.declared.service.Service.{Service}
use Rattle.im_serve.specs.Services.{services}
use Rattle.im_rtlib.specs.Routines.{routine, exit, stack}
use Rattle.im_saved_code.specs.Scan.{is_base, is_returned, way, After, at_target, onward, lives_at, scan, Goes, GoesTo, IsSoundLine, AreSound}
use Rattle.im_select.proofs.Services.{each_service}
use Rattle.im_saved_code.specs.LinesLaws.{takes_argument, lives_inside, IsLow, AreLeast, RoutineLinesLaw}
use Rattle.im_saved_code.proofs.Scanning.{both, either, not_true, same_of, same_is, other_is}

-- a label of the runtime, which the checkpoint has not
abbrev label_test : Option ℕ → Bool
label_test None = true
label_test (Some l) = nat_lt l 64

abbrev target_test : ℕ → Option ℕ → Bool
target_test rd None = false
target_test rd (Some l) = cond (rd == 3) (nat_le 10 l && nat_le l 31) (nat_le 32 l && nat_lt l 64)

abbrev way_test : Turn → ℕ → Option ℕ → Bool
way_test Passes rd target = true
way_test Jumps rd target = target_test rd target
way_test Branches rd target = target_test 0 target
way_test Returns rd target = true
way_test Stops rd target = true

abbrev no_fence : Op → Bool
no_fence Fence = false
no_fence op = true

abbrev line_test : CodeLine → Bool
line_test x = ((is_saved x.line.rs1 && is_saved x.line.rs2) && not (x.line.rd == 1)) && ((label_test x.label && no_fence x.line.op) && way_test (way x.line.op) x.line.rd x.target)

stops_is : (op : Op) → way op ≡ Stops → no_fence op ≡ true → op ≡ Ebreak
stops_is Ebreak e n = refl
stops_is Fence e n = absurd cc
stops_is op e n = absurd cc

-- it doesn't go on to the next line
abbrev end_test : Turn → ℕ → Bool
end_test Passes rd = false
end_test Jumps rd = not (rd == 3)
end_test Branches rd = false
end_test Returns rd = true
end_test Stops rd = true

abbrev lines_test : List CodeLine → Bool
lines_test [] = false
lines_test (x ∷ []) = line_test x && end_test (way x.line.op) x.line.rd
lines_test (x ∷ y ∷ xs) = line_test x && lines_test (y ∷ xs)

-- what lives at a label of the runtime
abbrev known : ℕ → ℕ → Bool
known l r = is_base r || lives_inside l r

-- what lives at a line with a label lives at the label
abbrev label_holds : Option ℕ → ℕ → Bool → Bool
label_holds None r lives = true
label_holds (Some l) r lives = not lives || known l r

abbrev labels_hold : List CodeLine → After → ℕ → Bool
labels_hold [] behind r = true
labels_hold (x ∷ xs) behind r = label_holds x.label r ((scan known (x ∷ xs) behind).next r) && labels_hold xs behind r

abbrev entry_lives : Option ℕ → (ℕ → Bool) → Bool
entry_lives None lives = false
entry_lives (Some m) lives = lives m

-- at each cut's entry a register lives behind it
abbrev least_test : List CodeLine → After → Bool
least_test [] behind = true
least_test (x ∷ xs) behind = (not (x.line.rd == 3) || entry_lives x.target (scan known xs behind).next) && least_test xs behind

abbrev all_below : (ℕ → Bool) → ℕ → Bool
all_below f zero = true
all_below f (suc n) = f n && all_below f n

below_is : (f : ℕ → Bool) (n r : ℕ) → all_below f n ≡ true → r < n → f r ≡ true
below_is f zero r e lt = absurd (omega arith)
below_is f (suc n) r e lt = by (λ l. below_is f n r (both (f n) (all_below f n) e).1 l) (r == n) refl
  where
    by : (r < n → f r ≡ true) → (t : Bool) → (r == n) ≡ t → f r ≡ true
    by k true q = let s : r ≡ n = same_of r n q in ap f s ∙ (both (f n) (all_below f n) e).0
    by k false q = k (let ne : r ≢ n = (λ s. (let t : (r == n) ≡ true = same_is r n s in absurd cc)) in omega arith)

saved_low : (r : ℕ) → is_saved r ≡ true → (r ≤ 10) × (r ≢ 3) × (r ≢ 4)
saved_low r e =
    let a = both (nat_le r 10 && not (r == 3)) (not (r == 4)) e in
    let b = both (nat_le r 10) (not (r == 3)) a.0 in
    let small = b.0 in
    (grind (arith, nat_tests), (λ q. not_true (r == 3) b.1 (same_is r 3 q)), (λ q. not_true (r == 4) a.1 (same_is r 4 q)))

base_saved : (r : ℕ) → is_base r ≡ true → is_saved r ≡ true
base_saved zero e = refl
base_saved (suc zero) e = refl
base_saved (suc (suc zero)) e = refl
base_saved (suc (suc (suc r))) e = let a : suc (suc (suc r)) ≤ 2 = grind (arith, nat_tests) in absurd (omega arith)

is_saved_at : (r s : ℕ) → is_saved s ≡ true → (r == s) ≡ true → is_saved r ≡ true
is_saved_at r s k e = ap is_saved (same_of r s e) ∙ k

inside_saved : (l r : ℕ) → lives_inside l r ≡ true → is_saved r ≡ true
inside_saved l r e = elim (either ((takes_argument services l || l == 34) && r == 10) ((((nat_le 41 l && nat_le l 45) && not (l == 43)) && (r == 5 || r == 10)) || ((l == 42 || l == 44) && r == 6)) e) [
  | inl a ↦ is_saved_at r 10 refl (both (takes_argument services l || l == 34) (r == 10) a).1
  | inr b ↦ elim (either (((nat_le 41 l && nat_le l 45) && not (l == 43)) && (r == 5 || r == 10)) ((l == 42 || l == 44) && r == 6) b) [
    | inl c ↦ elim (either (r == 5) (r == 10) (both ((nat_le 41 l && nat_le l 45) && not (l == 43)) (r == 5 || r == 10) c).1) [ inl d ↦ is_saved_at r 5 refl d | inr d ↦ is_saved_at r 10 refl d ]
    | inr c ↦ is_saved_at r 6 refl (both (l == 42 || l == 44) (r == 6) c).1
  ]
]

returned_saved : (r : ℕ) → is_returned r ≡ true → is_saved r ≡ true
returned_saved r e = elim (either (is_base r) (r == 10) e) [ inl a ↦ base_saved r a | inr b ↦ is_saved_at r 10 refl b ]

module _ (at : ℕ → ℕ → Bool) (low : IsLow at) where
  low_saved : (l r : ℕ) → l < 64 → at l r ≡ true → is_saved r ≡ true
  low_saved l r small e = elim (either (is_base r) (lives_inside l r) (sym (low.is l r small) ∙ e)) [ inl a ↦ base_saved r a | inr b ↦ inside_saved l r b ]

  far_label : (rd l : ℕ) → (rd == 3) ≡ false → target_test rd (Some l) ≡ true → (32 ≤ l) × (l < 64)
  far_label rd l e t =
      let t' : (nat_le 32 l && nat_lt l 64) ≡ true = sym (ap (λ b. cond b (nat_le 10 l && nat_le l 31) (nat_le 32 l && nat_lt l 64)) e) ∙ t in
      let c = both (nat_le 32 l) (nat_lt l 64) t' in
      let c0 = c.0 in
      let c1 = c.1 in
      (grind (arith, nat_tests), grind (arith, nat_tests))

  target_saved : (rd : ℕ) (target : Option ℕ) (other : ℕ → Bool) (r : ℕ) → (rd == 3) ≡ false → target_test rd target ≡ true → at_target at target other r ≡ true → is_saved r ≡ true
  target_saved rd None other r e t w = absurd cc
  target_saved rd (Some l) other r e t w = low_saved l r (far_label rd l e t).1 w

  abbrev Saved : After → Type 0
  Saved after = (r : ℕ) → after.next r ≡ true → is_saved r ≡ true

  onward_saved : (turn : Turn) (rd : ℕ) (target : Option ℕ) (after : After) (r : ℕ) → way_test turn rd target ≡ true → (end_test turn rd ≡ true) ⊎ Saved after → onward at turn rd target after r ≡ true → is_saved r ≡ true
  onward_saved Passes rd target after r t (inl e) w = absurd cc
  onward_saved Passes rd target after r t (inr k) w = k r w
  onward_saved Jumps rd target after r t k w = by (rd == 3) refl k
    where
      by : (b : Bool) → (rd == 3) ≡ b → (end_test Jumps rd ≡ true) ⊎ Saved after → is_saved r ≡ true
      by true e (inl f) = (let n : not (rd == 3) ≡ false = ap not e in absurd cc)
      by true e (inr k) = k r (sym (ap (λ b. cond b (after.next r) (at_target at target (λ x. false) r)) e) ∙ w)
      by false e k = target_saved rd target (λ x. false) r e t (sym (ap (λ b. cond b (after.next r) (at_target at target (λ x. false) r)) e) ∙ w)
  onward_saved Branches rd target after r t (inl e) w = absurd cc
  onward_saved Branches rd target after r t (inr k) w = elim (either (after.next r) (at_target at target after.over r) w) [ inl a ↦ k r a | inr b ↦ target_saved 0 target after.over r refl t b ]
  onward_saved Returns rd target after r t k w = returned_saved r w
  onward_saved Stops rd target after r t k w = absurd cc

  line_saved : (x : CodeLine) (after : After) → line_test x ≡ true → (end_test (way x.line.op) x.line.rd ≡ true) ⊎ Saved after → (r : ℕ) → lives_at at x after r ≡ true → is_saved r ≡ true
  line_saved x after t k r w = elim (either (is_base r) ((r == x.line.rs1 || r == x.line.rs2) || (not (r == x.line.rd) && onward at (way x.line.op) x.line.rd x.target after r)) w) [
    | inl s ↦ base_saved r s
    | inr a ↦ elim (either (r == x.line.rs1 || r == x.line.rs2) (not (r == x.line.rd) && onward at (way x.line.op) x.line.rd x.target after r) a) [
      | inl n ↦ elim (either (r == x.line.rs1) (r == x.line.rs2) n) [ inl e ↦ is_saved_at r x.line.rs1 named.0 e | inr e ↦ is_saved_at r x.line.rs2 named.1 e ]
      | inr o ↦ onward_saved (way x.line.op) x.line.rd x.target after r (both (label_test x.label && no_fence x.line.op) (way_test (way x.line.op) x.line.rd x.target) parts.1).1 k (both (not (r == x.line.rd)) (onward at (way x.line.op) x.line.rd x.target after r) o).1
    ]
  ]
    where
      parts : (((is_saved x.line.rs1 && is_saved x.line.rs2) && not (x.line.rd == 1)) ≡ true) × (((label_test x.label && no_fence x.line.op) && way_test (way x.line.op) x.line.rd x.target) ≡ true)
      parts = both ((is_saved x.line.rs1 && is_saved x.line.rs2) && not (x.line.rd == 1)) ((label_test x.label && no_fence x.line.op) && way_test (way x.line.op) x.line.rd x.target) t

      named : (is_saved x.line.rs1 ≡ true) × (is_saved x.line.rs2 ≡ true)
      named = both (is_saved x.line.rs1) (is_saved x.line.rs2) (both (is_saved x.line.rs1 && is_saved x.line.rs2) (not (x.line.rd == 1)) parts.0).0

  -- the same as with what is known of labels
  target_same : (rd : ℕ) (target : Option ℕ) (other other' : ℕ → Bool) (r : ℕ) → (rd == 3) ≡ false → target_test rd target ≡ true → other r ≡ other' r → at_target at target other r ≡ at_target known target other' r
  target_same rd None other other' r e t s = s
  target_same rd (Some l) other other' r e t s = low.is l r (far_label rd l e t).1

  pub record Same (a b : After) : Type 0 where
    pub next : (r : ℕ) → a.next r ≡ b.next r
    pub over : (r : ℕ) → a.over r ≡ b.over r

  onward_same : (turn : Turn) (rd : ℕ) (target : Option ℕ) (a b : After) (r : ℕ) → way_test turn rd target ≡ true → Same a b → onward at turn rd target a r ≡ onward known turn rd target b r
  onward_same Passes rd target a b r t s = s.next r
  onward_same Jumps rd target a b r t s = by (rd == 3) refl
    where
      by : (z : Bool) → (rd == 3) ≡ z → onward at Jumps rd target a r ≡ onward known Jumps rd target b r
      by true e = ap (λ z. cond z (a.next r) (at_target at target (λ x. false) r)) e ∙ s.next r ∙ sym (ap (λ z. cond z (b.next r) (at_target known target (λ x. false) r)) e)
      by false e = ap (λ z. cond z (a.next r) (at_target at target (λ x. false) r)) e ∙ target_same rd target (λ x. false) (λ x. false) r e t refl ∙ sym (ap (λ z. cond z (b.next r) (at_target known target (λ x. false) r)) e)
  onward_same Branches rd target a b r t s = ap (λ z. z || at_target at target a.over r) (s.next r) ∙ ap (λ z. b.next r || z) (target_same 0 target a.over b.over r refl t (s.over r))
  onward_same Returns rd target a b r t s = refl
  onward_same Stops rd target a b r t s = refl

  way_of : (x : CodeLine) → line_test x ≡ true → way_test (way x.line.op) x.line.rd x.target ≡ true
  way_of x t = (both (label_test x.label && no_fence x.line.op) (way_test (way x.line.op) x.line.rd x.target) (both ((is_saved x.line.rs1 && is_saved x.line.rs2) && not (x.line.rd == 1)) ((label_test x.label && no_fence x.line.op) && way_test (way x.line.op) x.line.rd x.target) t).1).1

  line_same : (x : CodeLine) (a b : After) (r : ℕ) → line_test x ≡ true → Same a b → lives_at at x a r ≡ lives_at known x b r
  line_same x a b r t s = ap (λ z. is_base r || ((r == x.line.rs1 || r == x.line.rs2) || (not (r == x.line.rd) && z))) (onward_same (way x.line.op) x.line.rd x.target a b r (way_of x t) s)

  first_of : (x : CodeLine) (xs : List CodeLine) → lines_test (x ∷ xs) ≡ true → line_test x ≡ true
  first_of x [] t = (both (line_test x) (end_test (way x.line.op) x.line.rd) t).0
  first_of x (y ∷ ys) t = (both (line_test x) (lines_test (y ∷ ys)) t).0

  scan_same : (xs : List CodeLine) (behind : After) → (xs ≡ []) ⊎ (lines_test xs ≡ true) → Same (scan at xs behind) (scan known xs behind)
  scan_same [] behind t = record { next = λ r. refl; over = λ r. refl }
  scan_same (x ∷ []) behind (inr t) = record { next = λ r. line_same x behind behind r (first_of x [] t) (record { next = λ q. refl; over = λ q. refl }); over = λ r. refl }
  scan_same (x ∷ y ∷ ys) behind (inr t) =
      let s = scan_same (y ∷ ys) behind (inr (both (line_test x) (lines_test (y ∷ ys)) t).1) in
      record { next = λ r. line_same x (scan at (y ∷ ys) behind) (scan known (y ∷ ys) behind) r (first_of x (y ∷ ys) t) s; over = s.next }
  scan_same (x ∷ []) behind (inl e) = absurd cc
  scan_same (x ∷ y ∷ ys) behind (inl e) = absurd cc

  jump_goes : (rd : ℕ) (target : Option ℕ) (after : After) → rd ≢ 1 → target_test rd target ≡ true → (end_test Jumps rd ≡ true) ⊎ Saved after → (l : ℕ) × (target ≡ Some l) × GoesTo rd l after
  jump_goes rd None after away t k = absurd cc
  jump_goes rd (Some l) after away t k = (
    l,
    refl,
    record {
      cut = λ e. (let b = inside e in let b0 = b.0 in (omega arith, b.1));
      saved = λ e r w. (let s = saved_low r (behind e r w) in let s0 = s.0 in let b = inside e in let b0 = b.0 in (omega arith, s.1, s.2));
      call = λ e. absurd (away e);
      other = λ ne. (far_label rd l (other_is rd 3 ne) t).0;
    },
  )
    where
      inside : rd ≡ 3 → (10 ≤ l) × (l ≤ 31)
      inside e =
          let t' : (nat_le 10 l && nat_le l 31) ≡ true = subst (λ z. cond (z == 3) (nat_le 10 l && nat_le l 31) (nat_le 32 l && nat_lt l 64) ≡ true) e t in
          let d = both (nat_le 10 l) (nat_le l 31) t' in
          let d0 = d.0 in
          let d1 = d.1 in
          (grind (arith, nat_tests), grind (arith, nat_tests))

      behind : rd ≡ 3 → Saved after
      behind e = elim k [
        | inl f ↦ (let f' : not (3 == 3) ≡ true = subst (λ z. not (z == 3) ≡ true) e f in absurd cc)
        | inr s ↦ s
      ]

  branch_goes : (line : Line) (target : Option ℕ) (after : After) → target_test 0 target ≡ true → Goes Branches line target after
  branch_goes line None after t = absurd cc
  branch_goes line (Some l) after t = inr (l, refl, (far_label 0 l refl t).0)

  goes_of : (turn : Turn) (line : Line) (target : Option ℕ) (after : After) → way line.op ≡ turn → no_fence line.op ≡ true → line.rd ≢ 1 → way_test turn line.rd target ≡ true → (end_test turn line.rd ≡ true) ⊎ Saved after → Goes turn line target after
  goes_of Passes line target after e n away t k = tt
  goes_of Jumps line target after e n away t k = jump_goes line.rd target after away t k
  goes_of Branches line target after e n away t k = branch_goes line target after t
  goes_of Returns line target after e n away t k = tt
  goes_of Stops line target after e n away t k = stops_is line.op e n

  label_below : (label : Option ℕ) (l : ℕ) → label ≡ Some l → label_test label ≡ true → l < 64
  label_below label l e t = let t' : nat_lt l 64 ≡ true = subst (λ z. label_test z ≡ true) e t in grind (arith, nat_tests)

  held_label : (label : Option ℕ) (l r : ℕ) (lives : Bool) → label ≡ Some l → label_holds label r lives ≡ true → lives ≡ true → known l r ≡ true
  held_label label l r lives e h w =
      let h' : (not lives || known l r) ≡ true = subst (λ z. label_holds z r lives ≡ true) e h in
      elim (either (not lives) (known l r) h') [ inl n ↦ absurd (not_true lives n w) | inr k ↦ k ]

  line_sound : (x : CodeLine) (xs : List CodeLine) (behind : After) → lines_test (x ∷ xs) ≡ true → (end_test (way x.line.op) x.line.rd ≡ true) ⊎ Saved (scan at xs behind) → ((r : ℕ) → r < 11 → label_holds x.label r ((scan known (x ∷ xs) behind).next r) ≡ true) → IsSoundLine at x (scan at xs behind)
  line_sound x xs behind t k h =
      let one = first_of x xs t in
      let a = both ((is_saved x.line.rs1 && is_saved x.line.rs2) && not (x.line.rd == 1)) ((label_test x.label && no_fence x.line.op) && way_test (way x.line.op) x.line.rd x.target) one in
      let b = both (label_test x.label && no_fence x.line.op) (way_test (way x.line.op) x.line.rd x.target) a.1 in
      let c = both (label_test x.label) (no_fence x.line.op) b.0 in
      let same = scan_same (x ∷ xs) behind (inr t) in
      record {
        labelled = λ l r e w. (
            let s = (saved_low r (line_saved x (scan at xs behind) one k r w)).0 in
            low.is l r (label_below x.label l e c.0) ∙ held_label x.label l r ((scan known (x ∷ xs) behind).next r) e (h r (omega arith)) (sym (same.next r) ∙ w));
        goes = goes_of (way x.line.op) x.line x.target (scan at xs behind) refl c.1 (λ e. not_true (x.line.rd == 1) (both (is_saved x.line.rs1 && is_saved x.line.rs2) (not (x.line.rd == 1)) a.0).1 (same_is x.line.rd 1 e)) b.1 k;
      }

  pub lines_saved : (xs : List CodeLine) (behind : After) → lines_test xs ≡ true → Saved (scan at xs behind)
  lines_saved [] behind t r w = absurd cc
  lines_saved (x ∷ []) behind t r w =
      let c = both (line_test x) (end_test (way x.line.op) x.line.rd) t in
      line_saved x behind c.0 (inl c.1) r w
  lines_saved (x ∷ y ∷ xs) behind t r w =
      let c = both (line_test x) (lines_test (y ∷ xs)) t in
      line_saved x (scan at (y ∷ xs) behind) c.0 (inr (lines_saved (y ∷ xs) behind c.1)) r w

  pub lines_sound : (xs : List CodeLine) (behind : After) → lines_test xs ≡ true → ((r : ℕ) → r < 11 → labels_hold xs behind r ≡ true) → AreSound at xs behind
  lines_sound [] behind t h = tt
  lines_sound (x ∷ []) behind t h =
      (line_sound x [] behind t (inl (both (line_test x) (end_test (way x.line.op) x.line.rd) t).1) (λ r lt. (both (label_holds x.label r ((scan known (x ∷ []) behind).next r)) (labels_hold [] behind r) (h r lt)).0), tt)
  lines_sound (x ∷ y ∷ xs) behind t h =
      let c = both (line_test x) (lines_test (y ∷ xs)) t in
      let split : (r : ℕ) → r < 11 → (label_holds x.label r ((scan known (x ∷ y ∷ xs) behind).next r) ≡ true) × (labels_hold (y ∷ xs) behind r ≡ true) = λ r lt. both (label_holds x.label r ((scan known (x ∷ y ∷ xs) behind).next r)) (labels_hold (y ∷ xs) behind r) (h r lt) in
      (line_sound x (y ∷ xs) behind t (inr (lines_saved (y ∷ xs) behind c.1)) (λ r lt. (split r lt).0), lines_sound (y ∷ xs) behind c.1 (λ r lt. (split r lt).1))

  entry_least : (target : Option ℕ) (a b : ℕ → Bool) → ((r : ℕ) → a r ≡ b r) → entry_lives target b ≡ true → (m : ℕ) × (target ≡ Some m) × (a m ≡ true)
  entry_least None a b s e = absurd cc
  entry_least (Some m) a b s e = (m, refl, s m ∙ e)

  line_least : (x : CodeLine) (xs : List CodeLine) (behind : After) → Same (scan at xs behind) (scan known xs behind) → (not (x.line.rd == 3) || entry_lives x.target (scan known xs behind).next) ≡ true → x.line.rd ≡ 3 → (m : ℕ) × (x.target ≡ Some m) × ((scan at xs behind).next m ≡ true)
  line_least x xs behind s h e = elim (either (not (x.line.rd == 3)) (entry_lives x.target (scan known xs behind).next) h) [
    | inl n ↦ absurd (not_true (x.line.rd == 3) n (same_is x.line.rd 3 e))
    | inr l ↦ entry_least x.target (scan at xs behind).next (scan known xs behind).next s.next l
  ]

  pub lines_least : (xs : List CodeLine) (behind : After) → lines_test xs ≡ true → least_test xs behind ≡ true → AreLeast at xs behind
  lines_least [] behind t h = tt
  lines_least (x ∷ []) behind t h =
      let c = both (not (x.line.rd == 3) || entry_lives x.target (scan known [] behind).next) (least_test [] behind) h in
      (line_least x [] behind (scan_same [] behind (inl refl)) c.0, tt)
  lines_least (x ∷ y ∷ xs) behind t h =
      let c = both (not (x.line.rd == 3) || entry_lives x.target (scan known (y ∷ xs) behind).next) (least_test (y ∷ xs) behind) h in
      let t' = (both (line_test x) (lines_test (y ∷ xs)) t).1 in
      (line_least x (y ∷ xs) behind (scan_same (y ∷ xs) behind (inr t')) c.0, lines_least (y ∷ xs) behind t' c.1)

  -- where a run ends x10 is stored
  exit_ends : (behind : After) (r : ℕ) → (scan at exit behind).next r ≡ true → (is_base r ≡ true) ⊎ (r ≡ 10)
  exit_ends behind r w = elim (either (is_base r) ((r == 0 || r == 10) || (not (r == 0) && (is_base r || ((r == 0 || r == 0) || (not (r == 0) && false))))) w) [
    | inl s ↦ inl s
    | inr a ↦ elim (either (r == 0 || r == 10) (not (r == 0) && (is_base r || ((r == 0 || r == 0) || (not (r == 0) && false)))) a) [
      | inl n ↦ elim (either (r == 0) (r == 10) n) [ inl e ↦ inl (ap is_base (same_of r 0 e)) | inr e ↦ inr (same_of r 10 e) ]
      | inr o ↦ inl (ended (both (not (r == 0)) ((is_base r || ((r == 0 || r == 0) || (not (r == 0) && false)))) o).1)
    ]
  ]
    where
      ended : (is_base r || ((r == 0 || r == 0) || (not (r == 0) && false))) ≡ true → is_base r ≡ true
      ended e = elim (either (is_base r) ((r == 0 || r == 0) || (not (r == 0) && false)) e) [
        | inl s ↦ s
        | inr a ↦ elim (either (r == 0 || r == 0) (not (r == 0) && false) a) [
          | inl n ↦ elim (either (r == 0) (r == 0) n) [ inl q ↦ ap is_base (same_of r 0 q) | inr q ↦ ap is_base (same_of r 0 q) ]
          | inr f ↦ (let g = (both (not (r == 0)) false f).1 in absurd cc)
        ]
      ]

service_sound : (service : Service) (at : ℕ → ℕ → Bool) → IsLow at → (behind : After) → AreSound at (routine service) behind
service_sound service at low behind =
    lines_sound at low (routine service) behind (each_service (λ s. lines_test (routine s)) refl service)
    (λ r lt. below_is (labels_hold (routine service) behind) 11 r (each_service (λ s. all_below (labels_hold (routine s) behind) 11) refl service) lt)

service_least : (service : Service) (at : ℕ → ℕ → Bool) → IsLow at → (behind : After) → AreLeast at (routine service) behind
service_least service at low behind = lines_least at low (routine service) behind (each_service (λ s. lines_test (routine s)) refl service) (each_service (λ s. least_test (routine s) behind) refl service)

pub routine_lines : RoutineLinesLaw
routine_lines = record {
  service_sound = service_sound;
  service_least = service_least;
  stack_sound = λ at low behind. lines_sound at low stack behind refl (λ r lt. below_is (labels_hold stack behind) 11 r refl lt);
  exit_sound = λ at low behind. lines_sound at low exit behind refl (λ r lt. below_is (labels_hold exit behind) 11 r refl lt);
  exit_lives = λ at low behind r w. exit_ends at low behind r w;
}
