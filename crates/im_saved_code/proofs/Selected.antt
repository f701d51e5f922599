-- The lines of a block, selected: what lives before them, and that they are sound.
use Rattle.std.proofs.Common.{◌≡◌, ◌≢◌, ℕ, suc, ◌+◌, ◌<◌, ◌≤◌, ◌⊎◌, inl, inr, Bool, true, false, cond, List, [], ◌∷◌, ◌++◌, Option, Some, None, refl, sym, ap, ◌∙◌, subst, arith}
use Rattle.std.specs.Prelude.{◌==◌, ◌&&◌, ◌||◌, not, nat_lt, nat_le, if◌then◌else◌, slice_get, All}
use Rattle.std.proofs.lemmas.Bool.Decides.{nat_tests}
use Rattle.std.proofs.lemmas.List.Elements.{All-head, All-tail}
use Rattle.im_num.specs.declared.kind.Kind.{Kind}
use Rattle.im_num.specs.declared.values.Cause.{Cause}
use Rattle.im_num.specs.Kinds.{word}
use Rattle.im_rv.specs.declared.instr.Op.{Op}
use Rattle.im_rv.specs.declared.instr.Op.TheVariants.{Jalr, Beq, Bne, Blt, Bge, Bltu, Bgeu, Lw}
use Rattle.im_rv.specs.declared.format.Format.TheVariants.{Branch as OfBranches}
use Rattle.im_rv.specs.Formats.{format_of}
use Rattle.im_rv.specs.Lines.{CodeLine, plain_line}
use Rattle.im_rv_reach.specs.Instructions.{with_immediate, branching, jumping}
use Rattle.im_gap.specs.declared.flow.Turn.TheVariants.{Branches}
use Rattle.im_rtlib.specs.Routines.{service_label, aimed}
use Rattle.im_store.specs.declared.operators.Comparison.{Comparison}
use Rattle.im_store.specs.declared.operators.Comparison.TheVariants.{Less, Greater, LessOrEqual, GreaterOrEqual, Equal, NotEqual}
use Rattle.im_store.specs.Objects.{Name}
use Rattle.im_serve.specs.declared.service.Service.{Service}
use Rattle.im_serve.specs.declared.service.Service.TheVariants.{Getchar, Putchar}
use Rattle.im_serve.specs.Services.{row, IsNullary, IsUnary}
use Rattle.im_block.specs.declared.code.Place.{Place}
use Rattle.im_block.specs.declared.code.Place.TheVariants.{Static, Local, Through}
use Rattle.im_block.specs.declared.code.Line.{Line}
use Rattle.im_block.specs.declared.code.Line.TheVariants.{Put, PutNull, Copy, Convert, Unary, Not, Compute, Compare, Move, Distance, Address, Read, Write, Reload, Spill, Cut, Call, Serve}
use Rattle.im_block.specs.declared.code.Exit.{Exit}
use Rattle.im_block.specs.declared.code.Exit.TheVariants.{Jump, Turn, Branch, Return}
use Rattle.im_block.specs.declared.unit.Function.{Function}
use Rattle.im_block.specs.Wellformed.{Takes, LineThere, ExitThere}
use Rattle.im_alloc_placed.specs.Operands.{IsHome, PlaceAtHome}
use Rattle.im_alloc_placed.specs.Placed.{IsPlacedLine, IsPlacedExit}
use Rattle.im_alloc_relation.specs.Live.{place_uses, uses, sets}
use Rattle.im_live.specs.Reads.{reads, reads_stack, writes, exit_live, lives_before}
use Rattle.im_live.proofs.Paths.{lives_more}
use Rattle.im_select_relation.specs.Selected.{IsConstant, ConstantNumber, ConstantNull, or_zero}
use Rattle.im_select.specs.Leads.{led}
use Rattle.im_select.specs.declared.folding.Constant.{Constant}
use Rattle.im_select.specs.declared.branching.Test.{Test}
use Rattle.im_select.specs.declared.branching.Test.TheVariants.{Nonzero, Compares, ComparesZero}
use Rattle.im_select.specs.declared.distance.Distance.{Distance as Reach}
use Rattle.im_select.specs.declared.distance.Distance.TheVariants.{Near, Far}
use Rattle.im_select.specs.Emitted.{entry_label, cut_code, result_code, call_code, passed_by, way_code, line_code, lines_code, behind_each, adds_code, leave_code, onward_code, both_ways, test_op, test_code, test_or, taken_test, own_lines, is_next, branch_code, exit_code, is_empty, taking_code}
use Rattle.im_select.proofs.Pairing.{lines_alone, last_passes, pass_cases, Passes, passes, lines_paired, constant_small}
use Rattle.im_select.proofs.Services.{service_low, service_high}
use Rattle.im_select.proofs.Parts.{IsBehind, behind_tail}
use Rattle.im_select.proofs.Taking.{IsTaken, Nothing, Comparing, Zeroing, zero_line, takes as parted, test_branches}
use Rattle.im_saved_code.specs.Scan.{Goes, IsSoundLine, way, is_base, is_returned, After, onward, scan, AreSound}
use Rattle.im_saved_code.specs.LinesLaws.{lives_inside, IsLow, HasEntries, HasBlocks, HoldsCalls, SavesFrom}
use Rattle.im_saved_code.proofs.Scanning.{both, both_are, either, or_left, or_right, same_of, same_is, other_is, IsUnsaved, unsaved_not, unsaved_true, or_unsaved, scan_append, sound_append, Lives, First, Second, Later, line_lives, plain_sound, Wants, plain_wants}
use Rattle.im_saved_code.proofs.Plain.{adds_plain, adds_wants}
use Rattle.im_saved_code.proofs.Working.{work_plain, work_wants, way_plain, Taken, taker_works, taker_writes, taker_spent, taker_wants}

-- ---- the label of a service

-- at most the argument lives there
service_lives : (service : Service) (r : ℕ) → lives_inside (service_label service) r ≡ true → IsUnary (row service).parameter × (r ≡ 10)
service_lives Getchar r e = absurd cc
service_lives Putchar r e = elim (either (r == 10) false e) [ inl a ↦ (tt, same_of r 10 a) | inr b ↦ absurd cc ]

not_both : (parameter : Option Kind) → IsNullary parameter → IsUnary parameter → ⊥
not_both None nullary unary = unary
not_both (Some kind) nullary unary = nullary

-- ---- registers that lines of placed code use are homes

home_is : (r s : ℕ) → IsHome s → (r == s) ≡ true → IsHome r
home_is r s h e = let q : r ≡ s = same_of r s e in let a = h.0 in let b = h.1 in (omega arith, omega arith)

home_of_two : (r s t : ℕ) → IsHome s → IsHome t → (r == s || r == t) ≡ true → IsHome r
home_of_two r s t h k e = elim (either (r == s) (r == t) e) [ inl a ↦ home_is r s h a | inr b ↦ home_is r t k b ]

home_of_place : (r : ℕ) (place : Place) → PlaceAtHome place → place_uses place r ≡ true → IsHome r
home_of_place r (Static object offset) h e = absurd cc
home_of_place r (Local object offset) h e = absurd cc
home_of_place r (Through pointer offset) h e = home_is r pointer h e

uses_home : (statics : ℕ) (f : Function) (line : Line) (r : ℕ) → IsPlacedLine statics f line → uses line r ≡ true → IsHome r
uses_home statics f (Put to z) r h e = absurd cc
uses_home statics f (PutNull to) r h e = absurd cc
uses_home statics f (Copy to from) r h e = home_is r from h.1 e
uses_home statics f (Convert to kind from) r h e = home_is r from h.1 e
uses_home statics f (Unary to op kind from) r h e = home_is r from h.1 e
uses_home statics f (Not to from) r h e = home_is r from h.1 e
uses_home statics f (Compute to op kind left right) r h e = home_of_two r left right h.1 h.2 e
uses_home statics f (Compare to op kind left right) r h e = home_of_two r left right h.1 h.2 e
uses_home statics f (Move to size back pointer by) r h e = home_of_two r pointer by h.1 h.2 e
uses_home statics f (Distance to size left right) r h e = home_of_two r left right h.1 h.2 e
uses_home statics f (Address to place) r h e = home_of_place r place h.1 e
uses_home statics f (Read to place kind access) r h e = home_of_place r place h.1 e
uses_home statics f (Write place kind from access) r h e = elim (either (place_uses place r) (r == from) e) [ inl a ↦ home_of_place r place h.1 a | inr b ↦ home_is r from h.0 b ]
uses_home statics f (Reload to slot access) r h e = absurd cc
uses_home statics f (Spill slot from access) r h e = home_is r from h.0 e
uses_home statics f (Cut cause) r h e = absurd cc
uses_home statics f (Call to i first count) r h e =
    let c = both (nat_le first r) (nat_lt r (first + count)) e in
    let c0 = c.0 in
    let c1 = c.1 in
    let a : first ≤ r = grind (arith, nat_tests) in
    let b : r < first + count = grind (arith, nat_tests) in
    let at = h.1 in
    let few = h.2 in
    (omega arith, omega arith)
uses_home statics f (Serve to service None) r h e = absurd cc
uses_home statics f (Serve to service (Some from)) r h e = let q : r ≡ from = same_of r from e in let at = h.1 in (omega arith, omega arith)

base_two : (r : ℕ) → (r == 2) ≡ true → is_base r ≡ true
base_two r e = let q : r ≡ 2 = same_of r 2 e in ap is_base q

reads_home : (statics : ℕ) (f : Function) (line : Line) (r : ℕ) → IsPlacedLine statics f line → reads line r ≡ true → (is_base r ≡ true) ⊎ IsHome r
reads_home statics f line r h e = elim (either (uses line r) (reads_stack line && r == 2) e) [
  | inl a ↦ inr (uses_home statics f line r h a)
  | inr b ↦ inl (base_two r (both (reads_stack line) (r == 2) b).1)
]

return_base : (r : ℕ) → (r == 1 || r == 2) ≡ true → is_base r ≡ true
return_base r e = elim (either (r == 1) (r == 2) e) [ inl a ↦ (let q : r ≡ 1 = same_of r 1 a in ap is_base q) | inr b ↦ base_two r b ]

exit_home : (live : ℕ → ℕ → Bool) (exit : Exit) (r : ℕ) → ((b s : ℕ) → live b s ≡ true → (is_base s ≡ true) ⊎ IsHome s) → IsPlacedExit exit → exit_live live exit r ≡ true → (is_base r ≡ true) ⊎ IsHome r
exit_home live (Jump b) r homes h e = homes b r e
exit_home live (Turn b) r homes h e = homes b r e
exit_home live (Branch on a b) r homes h e = elim (either (r == on) (live a r || live b r) e) [
  | inl c ↦ inr (home_is r on h c)
  | inr c ↦ elim (either (live a r) (live b r) c) [ inl d ↦ homes a r d | inr d ↦ homes b r d ]
]
exit_home live (Return None) r homes h e = inl (return_base r e)
exit_home live (Return (Some x)) r homes h e = elim (either (r == x) (r == 1 || r == 2) e) [
  | inl a ↦ inr (let q : r ≡ x = same_of r x a in let at : x ≡ 10 = h in (omega arith, omega arith))
  | inr b ↦ inl (return_base r b)
]

lives_home : (statics : ℕ) (f : Function) (live : ℕ → ℕ → Bool) (lines : List Line) (exit : Exit) (r : ℕ) → ((b s : ℕ) → live b s ≡ true → (is_base s ≡ true) ⊎ IsHome s) → All (IsPlacedLine statics f) lines → IsPlacedExit exit → lives_before live lines exit r ≡ true → (is_base r ≡ true) ⊎ IsHome r
lives_home statics f live [] exit r homes h k e = exit_home live exit r homes k e
lives_home statics f live (line ∷ lines) exit r homes h k e = elim (either (reads line r) (not (writes line r) && lives_before live lines exit r) e) [
  | inl a ↦ reads_home statics f line r (All-head (IsPlacedLine statics f) line lines h) a
  | inr b ↦ lives_home statics f live lines exit r homes (All-tail (IsPlacedLine statics f) line lines h) k (both (not (writes line r)) (lives_before live lines exit r) b).1
]

-- ---- selected

-- neither x3 nor x4 is among what lives
not_own : (r : ℕ) → (is_base r ≡ true) ⊎ IsHome r → (r ≢ 3) × (r ≢ 4)
not_own r (inl e) = let a : r ≤ 2 = grind (arith, nat_tests) in ((λ q. omega arith), (λ q. omega arith))
not_own r (inr h) = let a = h.0 in ((λ q. omega arith), (λ q. omega arith))

returned_of : (r : ℕ) → (is_base r ≡ true) ⊎ (r ≡ 10) → is_returned r ≡ true
returned_of r (inl e) = or_left (is_base r) (r == 10) e
returned_of r (inr q) = or_right (is_base r) (r == 10) (same_is r 10 q)

abbrev cut_line : ℕ → Cause → CodeLine
cut_line m cause = record (plain_line (jumping 3 0)) { target = Some m; cause = Some cause }

abbrev return_code : List CodeLine
return_code = plain_line (with_immediate Jalr 0 1 0) ∷ []

abbrev raised_code : ℕ → List CodeLine
raised_code frame = plain_line (with_immediate Lw 1 2 0) ∷ adds_code 2 frame

pub next_is : (next : Option ℕ) (label : ℕ) → is_next next label ≡ true → next ≡ Some label
next_is None label e = absurd cc
next_is (Some n) label e = ap Some (same_of n label e)

-- what lives behind lives at the label that stands next
abbrev pub Meets : (ℕ → ℕ → Bool) → Option ℕ → After → Type 0
Meets at next behind = (l r : ℕ) → next ≡ Some l → IsUnsaved r → behind.next r ≡ true → at l r ≡ true

either_is : (r a b : ℕ) → (r ≡ a) ⊎ (r ≡ b) → (r == a || r == b) ≡ true
either_is r a b (inl e) = or_left (r == a) (r == b) (same_is r a e)
either_is r a b (inr e) = or_right (r == a) (r == b) (same_is r b e)

turned_is : (r a b : ℕ) → (r ≡ b) ⊎ (r ≡ a) → (r == a || r == b) ≡ true
turned_is r a b (inl e) = or_right (r == a) (r == b) (same_is r b e)
turned_is r a b (inr e) = or_left (r == a) (r == b) (same_is r a e)

-- an operation of branches
pub branch_way : (op : Op) → format_of op ≡ OfBranches → way op ≡ Branches
branch_way Beq e = refl
branch_way Bne e = refl
branch_way Blt e = refl
branch_way Bge e = refl
branch_way Bltu e = refl
branch_way Bgeu e = refl
branch_way op e = absurd cc

pub test_way : (holds : Bool) (t : Test) → way (test_op holds t) ≡ Branches
test_way holds t = branch_way (test_op holds t) (test_branches holds t)

-- a register of a comparison's test is one of its operands
operand_is : (op : Comparison) (kind : Kind) (left right r : ℕ) → (r ≡ (both_ways (Compares op kind left right)).left) ⊎ (r ≡ (both_ways (Compares op kind left right)).right) → (r == left || r == right) ≡ true
operand_is Less kind left right r e = either_is r left right e
operand_is Greater kind left right r e = turned_is r left right e
operand_is LessOrEqual kind left right r e = turned_is r left right e
operand_is GreaterOrEqual kind left right r e = either_is r left right e
operand_is Equal kind left right r e = either_is r left right e
operand_is NotEqual kind left right r e = either_is r left right e

-- x0, or the operand itself, which isn't the zero's register
zero_register : (z q r : ℕ) → r ≡ or_zero z q → (r ≡ 0) ⊎ ((r ≡ q) × ((r == z) ≡ false))
zero_register z q r = by (q == z) refl
  where
    by : (t : Bool) → (q == z) ≡ t → r ≡ (if t then 0 else q) → (r ≡ 0) ⊎ ((r ≡ q) × ((r == z) ≡ false))
    by true e same = inl same
    by false e same = inr (same, ap (λ k. k == z) same ∙ e)

module _ (at : ℕ → ℕ → Bool) where
  -- a jump to a label
  pub jump_before : (rd label : ℕ) (behind : After) (r : ℕ) → (rd == 3) ≡ false → IsUnsaved r → (scan at (call_code rd label) behind).next r ≡ true → at label r ≡ true
  jump_before rd label behind r other u w = by (line_lives at (aimed label (jumping rd 0)) behind r u w)
    where
      by : Lives at (aimed label (jumping rd 0)) behind r → at label r ≡ true
      by (First e) = absurd (unsaved_not r 0 u refl e)
      by (Second e) = absurd (unsaved_not r 0 u refl e)
      by (Later ne o) = sym (ap (λ b. cond b (behind.next r) (at label r)) other) ∙ o

  pub jump_sound : (rd label : ℕ) (behind : After) → rd ≢ 3 → 32 ≤ label → (rd ≡ 1 → (r : ℕ) → behind.next r ≡ true → is_returned r ≡ true) → AreSound at (call_code rd label) behind
  jump_sound rd label behind other far call = (
    record {
      labelled = λ l r e w. absurd cc;
      goes = (label, refl, record { cut = λ e. absurd (other e); saved = λ e. absurd (other e); call = call; other = λ e. far });
    },
    tt,
  )

  cut_before : (m : ℕ) (cause : Cause) (behind : After) (r : ℕ) → IsUnsaved r → (scan at (cut_code m cause) behind).next r ≡ true → behind.next r ≡ true
  cut_before m cause behind r u w = by (line_lives at (cut_line m cause) behind r u w)
    where
      by : Lives at (cut_line m cause) behind r → behind.next r ≡ true
      by (First e) = absurd (unsaved_not r 0 u refl e)
      by (Second e) = absurd (unsaved_not r 0 u refl e)
      by (Later ne o) = o

  cut_sound : (m : ℕ) (cause : Cause) (behind : After) → 4 ≤ m → m ≤ 31 → ((r : ℕ) → behind.next r ≡ true → (r ≤ m) × (r ≢ 3) × (r ≢ 4)) → AreSound at (cut_code m cause) behind
  cut_sound m cause behind low high k = (
    record {
      labelled = λ l r e w. absurd cc;
      goes = (m, refl, record { cut = λ e. (low, high); saved = λ e r w. k r w; call = λ e. absurd (omega arith); other = λ e. absurd (e refl) });
    },
    tt,
  )

  -- ---- before an exit

  -- where a run returns lives x10, which its caller may read
  return_before : (behind : After) (r : ℕ) → IsUnsaved r → (scan at return_code behind).next r ≡ true → r ≡ 10
  return_before behind r u w = by (line_lives at (plain_line (with_immediate Jalr 0 1 0)) behind r u w)
    where
      by : Lives at (plain_line (with_immediate Jalr 0 1 0)) behind r → r ≡ 10
      by (First e) = absurd (unsaved_not r 1 u refl e)
      by (Second e) = absurd (unsaved_not r 0 u refl e)
      by (Later ne o) = elim (either (is_base r) (r == 10) o) [ inl a ↦ absurd (unsaved_true r u a) | inr b ↦ same_of r 10 b ]

  leave_before : (frame : ℕ) (behind : After) (r : ℕ) → IsUnsaved r → (scan at (leave_code frame) behind).next r ≡ true → r ≡ 10
  leave_before frame behind r u w =
      by (plain_wants at (raised_code frame) (scan at return_code behind) r ((refl, refl), adds_plain 2 frame) u (sym (ap (λ (z : After). z.next r) (scan_append at (raised_code frame) return_code behind)) ∙ w))
    where
      by : (r ≡ 2) ⊎ (r ≡ 0) ⊎ ((r ≢ 1) × Wants (adds_code 2 frame) ((scan at return_code behind).next r ≡ true) r) → r ≡ 10
      by (inl e) = absurd (unsaved_not r 2 u refl e)
      by (inr (inl e)) = absurd (unsaved_not r 0 u refl e)
      by (inr (inr c)) = return_before behind r u (adds_wants 2 frame ((scan at return_code behind).next r ≡ true) r u c.1).1

  -- without a result x10 is set, so nothing lives
  none_before : (frame : ℕ) (behind : After) (r : ℕ) → IsUnsaved r → (scan at (result_code None ++ leave_code frame) behind).next r ≡ true → ⊥
  none_before frame behind r u w = by (plain_wants at (result_code None) (scan at (leave_code frame) behind) r ((refl, refl), tt) u w)
    where
      by : (r ≡ 0) ⊎ (r ≡ 0) ⊎ ((r ≢ 10) × ((scan at (leave_code frame) behind).next r ≡ true)) → ⊥
      by (inl e) = unsaved_not r 0 u refl e
      by (inr (inl e)) = unsaved_not r 0 u refl e
      by (inr (inr c)) = c.0 (leave_before frame behind r u c.1)

  leave_sound : (frame : ℕ) (behind : After) → AreSound at (leave_code frame) behind
  leave_sound frame behind =
      sound_append at (raised_code frame) return_code behind (plain_sound at (raised_code frame) (scan at return_code behind) ((refl, refl), adds_plain 2 frame)) (record { labelled = λ l r e w. absurd cc; goes = tt }, tt)

  -- ---- on to the label that stands next

  onward_before : (next : Option ℕ) (label : ℕ) (falls : Bool) (behind : After) (r : ℕ) → (falls ≡ true → is_next next label ≡ true) → Meets at next behind → IsUnsaved r → (scan at (onward_code falls label) behind).next r ≡ true → at label r ≡ true
  onward_before next label true behind r is meets u w = meets label r (next_is next label (is refl)) u w
  onward_before next label false behind r is meets u w = jump_before 0 label behind r refl u w

  onward_sound : (falls : Bool) (label : ℕ) (behind : After) → 32 ≤ label → AreSound at (onward_code falls label) behind
  onward_sound true label behind far = tt
  onward_sound false label behind far = jump_sound 0 label behind (λ e. absurd (omega arith)) far (λ e. absurd (omega arith))

  -- ---- a test of a register, near, or over a jump

  near_before : (op : Op) (left right label : ℕ) (behind : After) (r : ℕ) → way op ≡ Branches → IsUnsaved r → (scan at (aimed label (branching op left right 0) ∷ []) behind).next r ≡ true → ((r ≡ left) ⊎ (r ≡ right)) ⊎ (at label r ≡ true) ⊎ (behind.next r ≡ true)
  near_before op left right label behind r branches u w = by (line_lives at (aimed label (branching op left right 0)) behind r u w)
    where
      by : Lives at (aimed label (branching op left right 0)) behind r → ((r ≡ left) ⊎ (r ≡ right)) ⊎ (at label r ≡ true) ⊎ (behind.next r ≡ true)
      by (First e) = inl (inl e)
      by (Second e) = inl (inr e)
      by (Later ne o) = elim (either (behind.next r) (at label r) (subst (λ t. onward at t (branching op left right 0).rd (Some label) behind r ≡ true) branches o)) [
        | inl a ↦ inr (inr a)
        | inr b ↦ inr (inl b)
      ]

  far_before : (op : Op) (left right label : ℕ) (behind : After) (r : ℕ) → way op ≡ Branches → IsUnsaved r → (scan at (plain_line (branching op left right 8) ∷ call_code 0 label) behind).next r ≡ true → ((r ≡ left) ⊎ (r ≡ right)) ⊎ (at label r ≡ true) ⊎ (behind.next r ≡ true)
  far_before op left right label behind r branches u w = by (line_lives at (plain_line (branching op left right 8)) (scan at (call_code 0 label) behind) r u w)
    where
      by : Lives at (plain_line (branching op left right 8)) (scan at (call_code 0 label) behind) r → ((r ≡ left) ⊎ (r ≡ right)) ⊎ (at label r ≡ true) ⊎ (behind.next r ≡ true)
      by (First e) = inl (inl e)
      by (Second e) = inl (inr e)
      by (Later ne o) = elim (either ((scan at (call_code 0 label) behind).next r) (behind.next r) (subst (λ t. onward at t (branching op left right 8).rd None (scan at (call_code 0 label) behind) r ≡ true) branches o)) [
        | inl a ↦ inr (inl (jump_before 0 label behind r refl u a))
        | inr b ↦ inr (inr b)
      ]

  -- a register of a test
  abbrev Tests : Test → ℕ → Type 0
  Tests t r = (r ≡ (both_ways t).left) ⊎ (r ≡ (both_ways t).right)

  test_before : (distance : Reach) (holds : Bool) (t : Test) (label : ℕ) (behind : After) (r : ℕ) → IsUnsaved r → (scan at (test_code distance holds t label) behind).next r ≡ true → Tests t r ⊎ (at label r ≡ true) ⊎ (behind.next r ≡ true)
  test_before Near holds t label behind r u w = near_before (test_op holds t) (both_ways t).left (both_ways t).right label behind r (test_way holds t) u w
  test_before Far holds t label behind r u w = far_before (test_op (not holds) t) (both_ways t).left (both_ways t).right label behind r (test_way (not holds) t) u w

  branches_sound : (op : Op) (left right imm : ℕ) (target : Option ℕ) (behind : After) → way op ≡ Branches → ((target ≡ None) × (imm ≡ 8)) ⊎ ((l : ℕ) × (target ≡ Some l) × (32 ≤ l)) → IsSoundLine at (record (plain_line (branching op left right imm)) { target = target }) behind
  branches_sound op left right imm target behind branches goes = record { labelled = λ l r e w. absurd cc; goes = subst (λ z. Goes z (branching op left right imm) target behind) (sym branches) goes }

  test_sound : (distance : Reach) (holds : Bool) (t : Test) (label : ℕ) (behind : After) → 32 ≤ label → AreSound at (test_code distance holds t label) behind
  test_sound Near holds t label behind far = (branches_sound (test_op holds t) (both_ways t).left (both_ways t).right 0 (Some label) behind (test_way holds t) (inr (label, refl, far)), tt)
  test_sound Far holds t label behind far = (branches_sound (test_op (not holds) t) (both_ways t).left (both_ways t).right 8 None (scan at (call_code 0 label) behind) (test_way (not holds) t) (inl (refl, refl)), onward_sound false label behind far)

  -- where one of the two stands next, only the other is led to
  branch_before : (distance : Reach) (next : Option ℕ) (t : Test) (there other : ℕ) (behind : After) (r : ℕ) → Meets at next behind → IsUnsaved r → (scan at (branch_code distance next t there other) behind).next r ≡ true → Tests t r ⊎ (at there r ≡ true) ⊎ (at other r ≡ true)
  branch_before distance next t there other behind r meets u w = by (is_next next there) refl w
    where
      rest : List CodeLine
      rest = onward_code (is_next next other) other

      both_led : Tests t r ⊎ (at there r ≡ true) ⊎ ((scan at rest behind).next r ≡ true) → Tests t r ⊎ (at there r ≡ true) ⊎ (at other r ≡ true)
      both_led (inl e) = inl e
      both_led (inr (inl a)) = inr (inl a)
      both_led (inr (inr b)) = inr (inr (onward_before next other (is_next next other) behind r (λ e. e) meets u b))

      one_led : is_next next there ≡ true → Tests t r ⊎ (at other r ≡ true) ⊎ (behind.next r ≡ true) → Tests t r ⊎ (at there r ≡ true) ⊎ (at other r ≡ true)
      one_led e (inl a) = inl a
      one_led e (inr (inl a)) = inr (inr a)
      one_led e (inr (inr b)) = inr (inl (meets there r (next_is next there e) u b))

      by : (b : Bool) → is_next next there ≡ b → (scan at (if b then test_code distance false t other else test_code distance true t there ++ rest) behind).next r ≡ true → Tests t r ⊎ (at there r ≡ true) ⊎ (at other r ≡ true)
      by true e v = one_led e (test_before distance false t other behind r u v)
      by false e v = both_led (test_before distance true t there (scan at rest behind) r u (sym (ap (λ (z : After). z.next r) (scan_append at (test_code distance true t there) rest behind)) ∙ v))

  branch_sound : (distance : Reach) (next : Option ℕ) (t : Test) (there other : ℕ) (behind : After) → 32 ≤ there → 32 ≤ other → AreSound at (branch_code distance next t there other) behind
  branch_sound distance next t there other behind a b = by (is_next next there)
    where
      rest : List CodeLine
      rest = onward_code (is_next next other) other

      by : (q : Bool) → AreSound at (if q then test_code distance false t other else test_code distance true t there ++ rest) behind
      by true = test_sound distance false t other behind b
      by false = sound_append at (test_code distance true t there) rest behind (test_sound distance true t there (scan at rest behind) a) (onward_sound (is_next next other) other behind b)

module _ (functions : List Function) (statics first count frame : ℕ) (f : Function) (places : Name → ℕ) (m : ℕ → ℕ) (by : ℕ → ℕ → Bool) (distance : Reach) (live at : ℕ → ℕ → Bool) (above : 64 ≤ first) (kept : (b r : ℕ) → live b r ≡ true → by b r ≡ true) (low : IsLow at) (entries : HasEntries functions at) (blocks : HasBlocks live first count at) (homes : (b r : ℕ) → live b r ≡ true → (is_base r ≡ true) ⊎ IsHome r) (leads : ℕ → ℕ) (inside : (b : ℕ) → b < count → leads b < count) (further : (b r : ℕ) → live (leads b) r ≡ true → live b r ≡ true) where
  block_live : (b r : ℕ) → b < count → IsUnsaved r → at (first + leads b) r ≡ true → live b r ≡ true
  block_live b r there u e = further b r (elim (blocks.only (leads b) r (inside b there) e) [ inl s ↦ absurd (unsaved_true r u s) | inr w ↦ w ])

  -- by the register of a branch, or by the test that it takes
  led_to : (x y r : ℕ) → x < count → y < count → IsUnsaved r → (at (first + leads x) r ≡ true) ⊎ (at (first + leads y) r ≡ true) → (live x r || live y r) ≡ true
  led_to x y r a b u (inl e) = or_left (live x r) (live y r) (block_live x r a u e)
  led_to x y r a b u (inr e) = or_right (live x r) (live y r) (block_live y r b u e)

  exit_before : (next : Option ℕ) (bare : Bool) (exit : Exit) (behind : After) (r : ℕ) → Meets at next behind → IsPlacedExit exit → ExitThere count exit → IsUnsaved r → (scan at (exit_code distance next bare first frame None (led leads exit)) behind).next r ≡ true → exit_live live exit r ≡ true
  exit_before next bare (Jump b) behind r meets h there u w = block_live b r there u (onward_before at next (first + leads b) (not bare && is_next next (first + leads b)) behind r (λ e. (both (not bare) (is_next next (first + leads b)) e).1) meets u w)
  exit_before next bare (Turn b) behind r meets h there u w = block_live b r there u (jump_before at 0 (first + leads b) behind r refl u w)
  exit_before next bare (Branch on x y) behind r meets h there u w = cases (branch_before at distance next (Nonzero on) (first + leads x) (first + leads y) behind r meets u w)
    where
      cases : ((r ≡ on) ⊎ (r ≡ 0)) ⊎ (at (first + leads x) r ≡ true) ⊎ (at (first + leads y) r ≡ true) → exit_live live (Branch on x y) r ≡ true
      cases (inl (inl e)) = or_left (r == on) (live x r || live y r) (same_is r on e)
      cases (inl (inr e)) = absurd (unsaved_not r 0 u refl e)
      cases (inr e) = or_right (r == on) (live x r || live y r) (led_to x y r there.0 there.1 u e)
  exit_before next bare (Return None) behind r meets h there u w = absurd (none_before at frame behind r u w)
  exit_before next bare (Return (Some x)) behind r meets h there u w = or_left (r == x) (r == 1 || r == 2) (same_is r x (leave_before at frame behind r u w ∙ sym h))

  exit_sound : (next : Option ℕ) (bare : Bool) (taken : Option Test) (exit : Exit) (behind : After) → AreSound at (exit_code distance next bare first frame taken exit) behind
  exit_sound next bare taken (Jump b) behind = onward_sound at (not bare && is_next next (first + b)) (first + b) behind (omega arith)
  exit_sound next bare taken (Turn b) behind = onward_sound at false (first + b) behind (omega arith)
  exit_sound next bare taken (Branch on x y) behind = branch_sound at distance next (test_or taken on) (first + x) (first + y) behind (omega arith) (omega arith)
  exit_sound next bare taken (Return None) behind = sound_append at (result_code None) (leave_code frame) behind (plain_sound at (result_code None) (scan at (leave_code frame) behind) ((refl, refl), tt)) (leave_sound at frame behind)
  exit_sound next bare taken (Return (Some x)) behind = leave_sound at frame behind

  -- a register that no block reads isn't that of what lives there
  apart : (to x y r : ℕ) → by x to ≡ false → by y to ≡ false → (live x r || live y r) ≡ true → (r == to) ≡ false
  apart to x y r a b e = cases (r == to) refl
    where
      read : r ≡ to → ⊥
      read q = elim (either (live x to) (live y to) (sym (ap (λ z. live x z || live y z) q) ∙ e)) [
        | inl l ↦ (let bad : true ≡ false = sym (kept x to l) ∙ a in cc)
        | inr l ↦ (let bad : true ≡ false = sym (kept y to l) ∙ b in cc)
      ]

      cases : (t : Bool) → (r == to) ≡ t → t ≡ false
      cases true q = absurd (read (same_of r to q))
      cases false q = refl

  -- with the comparison that the exit takes
  tail_before : (next : Option ℕ) (bare : Bool) (tail : List Line) (exit : Exit) (taken : Option Test) (behind : After) (r : ℕ) → IsTaken by tail exit taken → Meets at next behind → IsPlacedExit exit → ExitThere count exit → IsUnsaved r → (scan at (exit_code distance next bare first frame taken (led leads exit)) behind).next r ≡ true → lives_before live tail exit r ≡ true
  tail_before next bare tail exit taken behind r (Nothing exit') meets h there u w = exit_before next bare exit behind r meets h there u w
  tail_before next bare tail exit taken behind r (Comparing to op kind left right x y a b) meets h there u w = cases (branch_before at distance next (Compares op kind left right) (first + leads x) (first + leads y) behind r meets u w)
    where
      line : Line
      line = Compare to op kind left right

      cases : ((r ≡ (both_ways (Compares op kind left right)).left) ⊎ (r ≡ (both_ways (Compares op kind left right)).right)) ⊎ (at (first + leads x) r ≡ true) ⊎ (at (first + leads y) r ≡ true) → lives_before live (line ∷ []) (Branch to x y) r ≡ true
      cases (inl e) = or_left (reads line r) (not (r == to) && exit_live live (Branch to x y) r) (or_left (r == left || r == right) false (operand_is op kind left right r e))
      cases (inr e) =
          let lives = led_to x y r there.0 there.1 u e in
          or_right (reads line r) (not (r == to) && exit_live live (Branch to x y) r)
          (both_are (not (r == to)) (exit_live live (Branch to x y) r) (ap not (apart to x y r a b lives)) (or_right (r == to) (live x r || live y r) lives))
  tail_before next bare tail exit taken behind r (Zeroing first_line z to op kind left right x y zero c d a b) meets h there u w = cases (branch_before at distance next (ComparesZero op kind (or_zero z left) (or_zero z right)) (first + leads x) (first + leads y) behind r meets u w)
    where
      line : Line
      line = Compare to op kind left right

      -- before the zero too, unless it is that register
      before : (r == z) ≡ false → lives_before live (line ∷ []) (Branch to x y) r ≡ true → lives_before live (first_line ∷ line ∷ []) (Branch to x y) r ≡ true
      before ne e =
          let kept_ : (not (r == z) && lives_before live (line ∷ []) (Branch to x y) r) ≡ true = both_are (not (r == z)) (lives_before live (line ∷ []) (Branch to x y) r) (ap not ne) e in
          zero_line (λ l. lives_before live (l ∷ line ∷ []) (Branch to x y) r ≡ true) first_line z zero (λ n. kept_) kept_

      read : (r == left || r == right) ≡ true → (r == z) ≡ false → lives_before live (first_line ∷ line ∷ []) (Branch to x y) r ≡ true
      read e ne = before ne (or_left (reads line r) (not (r == to) && exit_live live (Branch to x y) r) (or_left (r == left || r == right) false e))

      operand : (r == or_zero z left || r == or_zero z right) ≡ true → lives_before live (first_line ∷ line ∷ []) (Branch to x y) r ≡ true
      operand e = elim (either (r == or_zero z left) (r == or_zero z right) e) [
        | inl l ↦ elim (zero_register z left r (same_of r (or_zero z left) l)) [ inl n ↦ absurd (unsaved_not r 0 u refl n) | inr k ↦ read (or_left (r == left) (r == right) (same_is r left k.0)) k.1 ]
        | inr l ↦ elim (zero_register z right r (same_of r (or_zero z right) l)) [ inl n ↦ absurd (unsaved_not r 0 u refl n) | inr k ↦ read (or_right (r == left) (r == right) (same_is r right k.0)) k.1 ]
      ]

      cases : ((r ≡ (both_ways (ComparesZero op kind (or_zero z left) (or_zero z right))).left) ⊎ (r ≡ (both_ways (ComparesZero op kind (or_zero z left) (or_zero z right))).right)) ⊎ (at (first + leads x) r ≡ true) ⊎ (at (first + leads y) r ≡ true) → lives_before live (first_line ∷ line ∷ []) (Branch to x y) r ≡ true
      cases (inl e) = operand (operand_is op kind (or_zero z left) (or_zero z right) r e)
      cases (inr e) =
          let lives = led_to x y r there.0 there.1 u e in
          before (apart z x y r c d lives)
          (or_right (reads line r) (not (r == to) && exit_live live (Branch to x y) r)
          (both_are (not (r == to)) (exit_live live (Branch to x y) r) (ap not (apart to x y r a b lives)) (or_right (r == to) (live x r || live y r) lives)))

  -- ---- before a line

  abbrev Before : Line → After → ℕ → Type 0
  Before line behind r = (reads line r ≡ true) ⊎ ((writes line r ≡ false) × (behind.next r ≡ true))

  takes : (o : Option Function) (i given r : ℕ) → slice_get functions i ≡ o → Takes o given → IsUnsaved r → at (entry_label i) r ≡ true → (10 ≤ r) × (r < 10 + given)
  takes None i given r e t u w = absurd t
  takes (Some g) i given r e t u w = elim (entries.only i r g e w) [
    | inl s ↦ absurd (unsaved_true r u s)
    | inr c ↦ (let a = c.0 in let b = c.1 in let q : g.parameters ≡ given = t in (omega arith, omega arith))
  ]

  called : (i start given r : ℕ) → start ≡ 10 → (10 ≤ r) × (r < 10 + given) → (nat_le start r && nat_lt r (start + given)) ≡ true
  called i start given r e c =
      let c0 = c.0 in
      let c1 = c.1 in
      let a : nat_le start r ≡ true = grind (arith, nat_tests) in
      let b : nat_lt r (start + given) ≡ true = grind (arith, nat_tests) in
      both_are (nat_le start r) (nat_lt r (start + given)) a b

  -- as uses and sets
  work_before : (line : Line) (behind : After) (r : ℕ) → ((r : ℕ) → writes line r ≡ sets line r) → (uses line r ≡ true) ⊎ ((sets line r ≡ false) × (behind.next r ≡ true)) → Before line behind r
  work_before line behind r same (inl e) = inl (or_left (uses line r) (reads_stack line && r == 2) e)
  work_before line behind r same (inr c) = inr (same r ∙ c.0, c.1)

  label_only : (l r : ℕ) → l < 64 → IsUnsaved r → at l r ≡ true → lives_inside l r ≡ true
  label_only l r small u e = elim (either (is_base r) (lives_inside l r) (sym (low.is l r small) ∙ e)) [ inl s ↦ absurd (unsaved_true r u s) | inr w ↦ w ]

  line_before : (k : ℕ) (line : Line) (behind : After) (r : ℕ) → IsPlacedLine statics f line → LineThere functions line → IsUnsaved r → (scan at (line_code places k line) behind).next r ≡ true → Before line behind r
  line_before k (Cut cause) behind r h t u w = inr (refl, cut_before at k cause behind r u w)
  line_before k (Call to i start given) behind r h t u w = inl (or_left (uses (Call to i start given) r) (true && r == 2) (called i start given r h.1 (takes (slice_get functions i) i given r refl t u (jump_before at 1 (entry_label i) behind r refl u w))))
  line_before k (Serve to service None) behind r h t u w =
      absurd (not_both (row service).parameter h.1 (service_lives service r (label_only (service_label service) r (service_low service) u (jump_before at 1 (service_label service) behind r refl u w))).0)
  line_before k (Serve to service (Some from)) behind r h t u w =
      let is : r ≡ 10 = (service_lives service r (label_only (service_label service) r (service_low service) u (jump_before at 1 (service_label service) behind r refl u w))).1 in
      inl (or_left (r == from) (true && r == 2) (same_is r from (is ∙ sym h.1)))
  line_before k line behind r h t u w = work_before line behind r (λ q. refl) (work_wants places k line tt (behind.next r ≡ true) r u (plain_wants at (line_code places k line) behind r (work_plain places k line tt) u w))

  -- a line that takes nothing and passes nothing on
  alone_before : (needed : ℕ → ℕ → Bool) (j : ℕ) (line : Line) (lines tail : List Line) (exit : Exit) (behind : After) (r : ℕ) → passed_by (needed (suc j)) line lines ≡ None → ((scan at (lines_code places m needed None (suc j) lines) behind).next r ≡ true → lives_before live (lines ++ tail) exit r ≡ true) → IsPlacedLine statics f line → LineThere functions line → IsUnsaved r → (scan at (lines_code places m needed None j (line ∷ lines)) behind).next r ≡ true → lives_before live ((line ∷ lines) ++ tail) exit r ≡ true
  alone_before needed j line lines tail exit behind r e later h t u w =
      let code : List CodeLine = line_code places (m j) line in
      let ahead : List CodeLine = lines_code places m needed None (suc j) lines in
      let rest : After = scan at ahead behind in
      let is = ap (λ z. scan at z behind) (lines_alone places m needed j line lines e) ∙ scan_append at code ahead behind in
      elim (line_before (m j) line rest r h t u (sym (ap (λ (z : After). z.next r) is) ∙ w)) [
        | inl a ↦ or_left (reads line r) (not (writes line r) && lives_before live (lines ++ tail) exit r) a
        | inr c ↦ or_right (reads line r) (not (writes line r) && lives_before live (lines ++ tail) exit r)
            (both_are (not (writes line r)) (lives_before live (lines ++ tail) exit r) (ap not c.0) (later c.1))
      ]

  -- what lives by `live` lives by what constants are taken by too
  kept_before : (lines : List Line) (exit : Exit) (r : ℕ) → lives_before live lines exit r ≡ true → lives_before by lines exit r ≡ true
  kept_before lines exit r = lives_more live by r (λ b e. kept b r e) lines exit

  -- a constant and the line that takes it
  constant_before : (line user : Line) (lines : List Line) (exit : Exit) (x n r : ℕ) → IsConstant line x n → r ≢ x → lives_before live (user ∷ lines) exit r ≡ true → lives_before live (line ∷ user ∷ lines) exit r ≡ true
  constant_before line user lines exit x n r (ConstantNumber q k z e) ne a = both_are (not (r == x)) (lives_before live (user ∷ lines) exit r) (ap not (other_is r x ne)) a
  constant_before line user lines exit x n r (ConstantNull q) ne a = both_are (not (r == x)) (lives_before live (user ∷ lines) exit r) (ap not (other_is r x ne)) a

  paired_before : (needed : ℕ → ℕ → Bool) (j : ℕ) (line user : Line) (lines tail : List Line) (exit : Exit) (behind : After) (r : ℕ) (c : Constant) → passed_by (needed (suc j)) line (user ∷ lines) ≡ Some c → IsBehind by needed j ((line ∷ user ∷ lines) ++ tail) exit → ((scan at (lines_code places m needed None (suc (suc j)) lines) behind).next r ≡ true → lives_before live (lines ++ tail) exit r ≡ true) → IsUnsaved r → (scan at (lines_code places m needed None j (line ∷ user ∷ lines)) behind).next r ≡ true → lives_before live ((line ∷ user ∷ lines) ++ tail) exit r ≡ true
  paired_before needed j line user lines tail exit behind r c e is later u w = cases (taker_wants places (m (suc j)) (needed (suc j)) c user (constant_small line c.register c.word d.constant) d.takes (rest.next r ≡ true) r u wants)
    where
      d : Passes (needed (suc j)) line user c
      d = passes (needed (suc j)) line user lines c e

      head : List CodeLine
      head = way_code places (m (suc j)) None (Some c) user

      ahead : List CodeLine
      ahead = lines_code places m needed None (suc (suc j)) lines

      rest : After
      rest = scan at ahead behind

      there : (scan at head rest).next r ≡ true
      there = sym (ap (λ (k : After). k.next r) (ap (λ (z : List CodeLine). scan at z behind) (lines_paired places m needed j line user lines c e) ∙ scan_append at head ahead behind)) ∙ w

      wants : Wants head (rest.next r ≡ true) r
      wants = plain_wants at head rest r (way_plain places (m (suc j)) None (Some c) user (taker_works (needed (suc j)) c user d.takes)) u there

      remains : Bool
      remains = not (writes user r) && lives_before live (lines ++ tail) exit r

      -- a register that isn't the constant's
      found : r ≢ c.register → (reads user r || remains) ≡ true → lives_before live ((line ∷ user ∷ lines) ++ tail) exit r ≡ true
      found ne a = constant_before line user (lines ++ tail) exit c.register c.word r d.constant ne a

      unread : lives_before live (lines ++ tail) exit r ≡ true → sets user r ≡ false → r ≢ c.register
      unread l other q =
          let k : 1 + j ≡ suc j = omega arith in
          let dead : lives_before by (lines ++ tail) exit c.register ≡ false = sym (is 1 c.register) ∙ ap (λ b. needed b c.register) k ∙ taker_spent (needed (suc j)) c user r d.takes other q in
          let lives : lives_before by (lines ++ tail) exit c.register ≡ true = ap (lives_before by (lines ++ tail) exit) (sym q) ∙ kept_before (lines ++ tail) exit r l in
          let bad : true ≡ false = sym lives ∙ dead in
          cc

      cases : Taken (rest.next r ≡ true) r c.register user → lives_before live ((line ∷ user ∷ lines) ++ tail) exit r ≡ true
      cases (inl a) = found a.1 (or_left (reads user r) remains (or_left (uses user r) (reads_stack user && r == 2) a.0))
      cases (inr b) =
          let l = later b.1 in
          let unset : writes user r ≡ false = taker_writes (needed (suc j)) c user r d.takes ∙ b.0 in
          found (unread l b.0) (or_right (reads user r) remains (both_are (not (writes user r)) (lives_before live (lines ++ tail) exit r) (ap not unset) l))

  pub lines_before : (needed : ℕ → ℕ → Bool) (j : ℕ) (lines tail : List Line) (exit : Exit) (behind : After) (r : ℕ) → IsBehind by needed j (lines ++ tail) exit → ((s : ℕ) → IsUnsaved s → behind.next s ≡ true → lives_before live tail exit s ≡ true) → All (IsPlacedLine statics f) (lines ++ tail) → All (LineThere functions) (lines ++ tail) → IsUnsaved r → (scan at (lines_code places m needed None j lines) behind).next r ≡ true → lives_before live (lines ++ tail) exit r ≡ true
  lines_before needed j [] tail exit behind r is k h t u w = k r u w
  lines_before needed j (line ∷ []) tail exit behind r is k h t u w =
      alone_before needed j line [] tail exit behind r (last_passes (needed (suc j)) line)
      (λ v. lines_before needed (suc j) [] tail exit behind r (behind_tail by needed j line tail exit is) k (All-tail (IsPlacedLine statics f) line tail h) (All-tail (LineThere functions) line tail t) u v)
      (All-head (IsPlacedLine statics f) line tail h) (All-head (LineThere functions) line tail t) u w
  lines_before needed j (line ∷ user ∷ lines) tail exit behind r is k h t u w =
      let is' = behind_tail by needed j line (user ∷ (lines ++ tail)) exit is in
      let h' = All-tail (IsPlacedLine statics f) line (user ∷ (lines ++ tail)) h in
      let t' = All-tail (LineThere functions) line (user ∷ (lines ++ tail)) t in
      pass_cases (passed_by (needed (suc j)) line (user ∷ lines))
      (λ e. alone_before needed j line (user ∷ lines) tail exit behind r e (λ v. lines_before needed (suc j) (user ∷ lines) tail exit behind r is' k h' t' u v)
      (All-head (IsPlacedLine statics f) line (user ∷ (lines ++ tail)) h) (All-head (LineThere functions) line (user ∷ (lines ++ tail)) t) u w)
      (λ c e. paired_before needed j line user lines tail exit behind r c e is
      (λ v. lines_before needed (suc (suc j)) lines tail exit behind r (behind_tail by needed (suc j) user (lines ++ tail) exit is') k (All-tail (IsPlacedLine statics f) user (lines ++ tail) h') (All-tail (LineThere functions) user (lines ++ tail) t') u v) u w)

  abbrev Saves : ℕ → List Line → Exit → Type 0
  Saves n rest exit = (4 ≤ n) × (n ≤ 31) × ((r : ℕ) → lives_before live rest exit r ≡ true → r ≤ n)

  base_saved : (n r : ℕ) → 4 ≤ n → (is_base r ≡ true) ⊎ (r ≤ n) → r ≤ n
  base_saved n r le (inl e) = let a : r ≤ 2 = grind (arith, nat_tests) in omega arith
  base_saved n r le (inr x) = x

  line_sound : (n : ℕ) (line : Line) (rest : List Line) (exit : Exit) (behind : After) → ((r : ℕ) → IsUnsaved r → behind.next r ≡ true → lives_before live rest exit r ≡ true) → ((r : ℕ) → lives_before live rest exit r ≡ true → (is_base r ≡ true) ⊎ IsHome r) → HoldsCalls live (line ∷ rest) exit → Saves n rest exit → AreSound at (line_code places n line) behind
  line_sound n (Cut cause) rest exit behind k home s v =
      cut_sound at n cause behind v.0 v.1
      (λ r w. (
      let o = not_own r (elim (or_unsaved ((is_base r ≡ true) ⊎ IsHome r) r (λ u. home r (k r u w))) [ inl a ↦ inl a | inr b ↦ b ]) in
      (base_saved n r v.0 (or_unsaved (r ≤ n) r (λ u. v.2 r (k r u w))), o.0, o.1)))
  line_sound n (Call to i start given) rest exit behind k home s v =
      jump_sound at 1 (entry_label i) behind (λ e. absurd (omega arith)) (omega arith)
      (λ e r w. returned_of r (elim (or_unsaved ((is_base r ≡ true) ⊎ (r ≡ 10)) r (λ u. s.0 tt r (k r u w))) [ inl a ↦ inl a | inr b ↦ b ]))
  line_sound n (Serve to service None) rest exit behind k home s v =
      jump_sound at 1 (service_label service) behind (λ e. absurd (omega arith)) (service_high service)
      (λ e r w. returned_of r (elim (or_unsaved ((is_base r ≡ true) ⊎ (r ≡ 10)) r (λ u. s.0 tt r (k r u w))) [ inl a ↦ inl a | inr b ↦ b ]))
  line_sound n (Serve to service (Some from)) rest exit behind k home s v =
      jump_sound at 1 (service_label service) behind (λ e. absurd (omega arith)) (service_high service)
      (λ e r w. returned_of r (elim (or_unsaved ((is_base r ≡ true) ⊎ (r ≡ 10)) r (λ u. s.0 tt r (k r u w))) [ inl a ↦ inl a | inr b ↦ b ]))
  line_sound n line rest exit behind k home s v = plain_sound at (line_code places n line) behind (work_plain places n line tt)

  alone_sound : (needed : ℕ → ℕ → Bool) (j : ℕ) (line : Line) (lines : List Line) (behind : After) → passed_by (needed (suc j)) line lines ≡ None → AreSound at (line_code places (m j) line) (scan at (lines_code places m needed None (suc j) lines) behind) → AreSound at (lines_code places m needed None (suc j) lines) behind → AreSound at (lines_code places m needed None j (line ∷ lines)) behind
  alone_sound needed j line lines behind e one rest =
      subst (λ (z : List CodeLine). AreSound at z behind) (sym (lines_alone places m needed j line lines e))
      (sound_append at (line_code places (m j) line) (lines_code places m needed None (suc j) lines) behind one rest)

  paired_sound : (needed : ℕ → ℕ → Bool) (j : ℕ) (line user : Line) (lines : List Line) (behind : After) (c : Constant) → passed_by (needed (suc j)) line (user ∷ lines) ≡ Some c → AreSound at (lines_code places m needed None (suc (suc j)) lines) behind → AreSound at (lines_code places m needed None j (line ∷ user ∷ lines)) behind
  paired_sound needed j line user lines behind c e rest =
      let d = passes (needed (suc j)) line user lines c e in
      let head : List CodeLine = way_code places (m (suc j)) None (Some c) user in
      let ahead : List CodeLine = lines_code places m needed None (suc (suc j)) lines in
      subst (λ (z : List CodeLine). AreSound at z behind) (sym (lines_paired places m needed j line user lines c e))
      (sound_append at head ahead behind (plain_sound at head (scan at ahead behind) (way_plain places (m (suc j)) None (Some c) user (taker_works (needed (suc j)) c user d.takes))) rest)

  pub lines_sound : (needed : ℕ → ℕ → Bool) (j : ℕ) (lines tail : List Line) (exit : Exit) (behind : After) → IsBehind by needed j (lines ++ tail) exit → ((s : ℕ) → IsUnsaved s → behind.next s ≡ true → lives_before live tail exit s ≡ true) → All (IsPlacedLine statics f) (lines ++ tail) → IsPlacedExit exit → All (LineThere functions) (lines ++ tail) → HoldsCalls live (lines ++ tail) exit → SavesFrom live m j (lines ++ tail) exit → AreSound at (lines_code places m needed None j lines) behind
  lines_sound needed j [] tail exit behind is k h e t s v = tt
  lines_sound needed j (line ∷ []) tail exit behind is k h e t s v =
      let is' = behind_tail by needed j line tail exit is in
      let h' = All-tail (IsPlacedLine statics f) line tail h in
      let t' = All-tail (LineThere functions) line tail t in
      alone_sound needed j line [] behind (last_passes (needed (suc j)) line)
      (line_sound (m j) line tail exit (scan at (lines_code places m needed None (suc j) []) behind) (λ r u w. lines_before needed (suc j) [] tail exit behind r is' k h' t' u w) (λ r w. lives_home statics f live tail exit r homes h' e w) s v.0)
      (lines_sound needed (suc j) [] tail exit behind is' k h' e t' s.1 v.1)
  lines_sound needed j (line ∷ user ∷ lines) tail exit behind is k h e t s v =
      let is' = behind_tail by needed j line (user ∷ (lines ++ tail)) exit is in
      let h' = All-tail (IsPlacedLine statics f) line (user ∷ (lines ++ tail)) h in
      let t' = All-tail (LineThere functions) line (user ∷ (lines ++ tail)) t in
      pass_cases (passed_by (needed (suc j)) line (user ∷ lines))
      (λ a. alone_sound needed j line (user ∷ lines) behind a
      (line_sound (m j) line (user ∷ (lines ++ tail)) exit (scan at (lines_code places m needed None (suc j) (user ∷ lines)) behind) (λ r u w. lines_before needed (suc j) (user ∷ lines) tail exit behind r is' k h' t' u w) (λ r w. lives_home statics f live (user ∷ (lines ++ tail)) exit r homes h' e w) s v.0)
      (lines_sound needed (suc j) (user ∷ lines) tail exit behind is' k h' e t' s.1 v.1))
      (λ c a. paired_sound needed j line user lines behind c a
      (lines_sound needed (suc (suc j)) lines tail exit behind (behind_tail by needed (suc j) user (lines ++ tail) exit is') k (All-tail (IsPlacedLine statics f) user (lines ++ tail) h') e (All-tail (LineThere functions) user (lines ++ tail) t') s.1.1 v.1.1))

  -- a block
  abbrev pub body : Option ℕ → List Line → Exit → List CodeLine
  body next lines exit = taking_code places m (behind_each by lines exit) distance next first frame (taken_test by lines exit) lines (led leads exit)

  abbrev own_code : List Line → Exit → List CodeLine
  own_code lines exit = lines_code places m (behind_each by lines exit) None 0 (own_lines (taken_test by lines exit) lines)

  abbrev ends : Option ℕ → List Line → Exit → List CodeLine
  ends next lines exit = exit_code distance next (is_empty (own_code lines exit)) first frame (taken_test by lines exit) (led leads exit)

  exit_meets : (next : Option ℕ) (lines : List Line) (exit : Exit) (behind : After) → Meets at next behind → IsPlacedExit exit → ExitThere count exit → (r : ℕ) → IsUnsaved r → (scan at (ends next lines exit) behind).next r ≡ true → lives_before live (parted by lines exit).tail exit r ≡ true
  exit_meets next lines exit behind meets e there r u w = tail_before next (is_empty (own_code lines exit)) (parted by lines exit).tail exit (taken_test by lines exit) behind r (parted by lines exit).is meets e there u w

  own_behind : (lines : List Line) (exit : Exit) → IsBehind by (behind_each by lines exit) 0 (own_lines (taken_test by lines exit) lines ++ (parted by lines exit).tail) exit
  own_behind lines exit = subst (λ (z : List Line). IsBehind by (behind_each by lines exit) 0 z exit) (sym (parted by lines exit).whole) (λ i r. (let q : i + 0 ≡ i = omega arith in ap (λ z. behind_each by lines exit z r) q))

  pub body_before : (next : Option ℕ) (lines : List Line) (exit : Exit) (behind : After) (r : ℕ) → Meets at next behind → All (IsPlacedLine statics f) lines → IsPlacedExit exit → All (LineThere functions) lines → ExitThere count exit → IsUnsaved r → (scan at (body next lines exit) behind).next r ≡ true → lives_before live lines exit r ≡ true
  body_before next lines exit behind r meets h e t there u w =
      let k = parted by lines exit in
      subst (λ (z : List Line). lives_before live z exit r ≡ true) k.whole
      (lines_before (behind_each by lines exit) 0 (own_lines (taken_test by lines exit) lines) k.tail exit (scan at (ends next lines exit) behind) r (own_behind lines exit) (exit_meets next lines exit behind meets e there) (subst (All (IsPlacedLine statics f)) (sym k.whole) h) (subst (All (LineThere functions)) (sym k.whole) t) u
      (sym (ap (λ (z : After). z.next r) (scan_append at (own_code lines exit) (ends next lines exit) behind)) ∙ w))

  pub body_sound : (next : Option ℕ) (lines : List Line) (exit : Exit) (behind : After) → Meets at next behind → All (IsPlacedLine statics f) lines → IsPlacedExit exit → All (LineThere functions) lines → ExitThere count exit → HoldsCalls live lines exit → SavesFrom live m 0 lines exit → AreSound at (body next lines exit) behind
  body_sound next lines exit behind meets h e t there s saves =
      let k = parted by lines exit in
      sound_append at (own_code lines exit) (ends next lines exit) behind
      (lines_sound (behind_each by lines exit) 0 (own_lines (taken_test by lines exit) lines) k.tail exit (scan at (ends next lines exit) behind) (own_behind lines exit) (exit_meets next lines exit behind meets e there)
      (subst (All (IsPlacedLine statics f)) (sym k.whole) h) e (subst (All (LineThere functions)) (sym k.whole) t)
      (subst (λ (z : List Line). HoldsCalls live z exit) (sym k.whole) s) (subst (λ (z : List Line). SavesFrom live m 0 z exit) (sym k.whole) saves))
      (exit_sound next (is_empty (own_code lines exit)) (taken_test by lines exit) (led leads exit) behind)
