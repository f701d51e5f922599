-- The lines of a function are ranked, by what is left to the next cut.
--
-- The number of a line bounds the words behind it on a way to a flip or a halt. Within a function it is block_base and cost_on left:
-- with_cut of each line that is left before the next cut, and leave_cost of each exit on the way. left b is no less than what is left
-- at the start of block b; any such numbers do. It falls at each step:
--   on to the next line or another block: a line has at most with_cut words, an exit at most leave_cost of them. A block that stands
--     next is fallen into, and its label has no less than its first line;
--   into the checkpoint: a cut has cut_rank = 37, an entry of the checkpoint at most 36, and one less with each word to the flip, 0;
--   into a function: its entry has cut_rank + 7, since 7 words at most lead to the cut at its start; into a routine: cut_rank + 11,
--     since 11 words of putchar lead to its first cut. A call has one more, so block_base = cut_rank + 9 and its with_cut, 3, suffice;
--   back: what stands behind a call is a cut, or the end of the run; a return has cut_rank + 1, and 5 words at most stand before it.
-- So where a section begins, with at most n left, a word has at most 46 + n, and 49 where the run begins: K is at most 33 + 1 + 49 + n.
use Rattle.std.proofs.Common.{◌≡◌, ◌≢◌, ℕ, suc, ◌+◌, ◌-◌, ◌^◌, ◌<◌, ◌≤◌, max, inl, inr, Bool, true, false, List, [], ◌∷◌, ◌++◌, Option, Some, None, length, refl, sym, ap, ◌∙◌, subst, length-append, arith}
use Rattle.std.specs.Prelude.{◌==◌, ◌&&◌, not, if◌then◌else◌, slice_get, All}
use Rattle.std.proofs.lemmas.List.Elements.{All-head, All-tail}
use Rattle.im_num.specs.declared.values.Cause.{Cause}
use Rattle.im_rv.specs.declared.instr.Op.TheVariants.{Jalr, Lw, Sw, Addi, Add as AddOp}
use Rattle.im_rv.specs.Lines.{CodeLine, plain_line}
use Rattle.im_rv_reach.specs.Instructions.{with_immediate, on_registers, storing}
use Rattle.im_rtlib.specs.Routines.{service_label, stack_label}
use Rattle.im_store.specs.Objects.{Name}
use Rattle.im_serve.specs.declared.service.Service.{Service}
use Rattle.im_block.specs.declared.code.Line.{Line}
use Rattle.im_block.specs.declared.code.Line.TheVariants.{Compare, Cut, Call, Serve}
use Rattle.im_block.specs.declared.code.Exit.{Exit}
use Rattle.im_block.specs.declared.code.Exit.TheVariants.{Jump, Turn, Branch, Return}
use Rattle.im_block.specs.declared.code.Block.{Block}
use Rattle.im_block.specs.declared.unit.Function.{Function}
use Rattle.im_block.specs.Shape.{with_cut}
use Rattle.im_block.specs.Paths.{IsCut}
use Rattle.im_block.specs.Forced.{StartsWithCut, CutAfterCalls}
use Rattle.im_block.specs.Wellformed.{ExitThere}
use Rattle.im_cut_gap.specs.Remaining.{cost_on}
use Rattle.im_select.specs.Leads.{led}
use Rattle.im_select.specs.declared.branching.Test.{Test}
use Rattle.im_select.specs.declared.distance.Distance.{Distance as Reach}
use Rattle.im_select.specs.declared.distance.Distance.TheVariants.{Near, Far}
use Rattle.im_select.specs.declared.folding.Constant.{Constant}
use Rattle.im_select.specs.Emitted.{high_of, low_of, constant_by, constant_code, adds_by, adds_code, entry_label, labelled, call_code, cut_code, passed_by, way_code, lines_code, behind_each, leave_code, result_code, onward_code, test_line, test_code, test_or, taken_test, own_lines, is_next, branch_code, exit_code, is_empty, taking_code, block_code, others_below, laid_order, kept_order, Laying, leads_of, next_label, found_code, laid_block, laid_code, blocks_code, enter_code, prologue_code, function_code}
use Rattle.im_select.specs.Places.{CallsBelow}
use Rattle.im_select.proofs.Following.{LeadsOn, lead_path, lead_below, lead_entry, led_there, kept_first}
use Rattle.im_select.proofs.Counting.{way_few}
use Rattle.im_select.proofs.Services.{service_high}
use Rattle.im_select.proofs.Taking.{IsTaken, Nothing, Comparing, Zeroing, zero_line, takes, all_left}
use Rattle.im_saved_code.specs.LinesLaws.{laid}
use Rattle.im_saved_code.proofs.Scanning.{both, same_of, same_is, IsPlain}
use Rattle.im_saved_code.proofs.Plain.{adds_plain}
use Rattle.im_saved_code.proofs.Working.{IsWork, way_plain}
use Rattle.im_saved_code.proofs.Order.{some_there, AreBelow, order_below, kept_below}
use Rattle.im_saved_code.proofs.Selected.{next_is, test_way}
use Rattle.im_gap_ranked.proofs.Ranks.{greater, greater_within, After, cut_rank, rank_by, Goes, scan, IsRankedLine, AreRanked, AreWithin, scan_append, scan_labelled, ranked_append, ranked_labelled, within_append, within_labelled, plain_ranked, plain_rank, plain_within}
use Rattle.im_gap_ranked.proofs.Routines.{entry_rank}

-- ---- the stack pointer plus a word

constant_few : (rd n : ℕ) → length (constant_code rd n) ≤ 2
constant_few rd n = by (high_of n == 0)
  where
    by : (b : Bool) → length (constant_by b rd (high_of n) (low_of n)) ≤ 2
    by true = omega arith
    by false = omega arith

adds_few : (rd n : ℕ) → length (adds_code rd n) ≤ 3
adds_few rd n = by (high_of n == 0)
  where
    by : (b : Bool) → length (adds_by b rd n) ≤ 3
    by true = omega arith
    by false =
        let ys : List CodeLine = plain_line (on_registers AddOp rd 2 5) ∷ [] in
        let e = length-append (constant_code 5 n) ys in
        let c = constant_few 5 n in
        omega arith

-- ---- ranks of labels

-- what stands behind has no more than the label that stands next
abbrev Meets : (ℕ → ℕ) → Option ℕ → After → Type 0
Meets at next behind = (l : ℕ) → next ≡ Some l → behind.next ≤ at l

-- of a call, but for its own cost
abbrev pub block_base : ℕ
block_base = cut_rank + 9

-- that of block b; the entry block begins with a cut
abbrev pub rank_by_entry : Bool → ℕ → ℕ
rank_by_entry true high = cut_rank
rank_by_entry false high = high

abbrev pub block_rank : (ℕ → ℕ) → Function → ℕ → ℕ
block_rank left f b = rank_by_entry (b == f.entry) (block_base + left b)

pub record HasCallees (functions : ℕ) (at : ℕ → ℕ) : Type 0 where
  pub stops : at stack_label ≤ cut_rank
  pub serves : (service : Service) → at (service_label service) ≤ entry_rank
  pub entries : (i : ℕ) → i < functions → at (entry_label i) ≡ entry_rank

pub record BlockFacts (functions : ℕ) (left : ℕ → ℕ) (f : Function) (b : ℕ) (block : Block) : Type 0 where
  pub inside : b < length f.blocks.items
  pub calls : All (CallsBelow functions) block.lines.items
  pub there : ExitThere (length f.blocks.items) block.exit
  pub cuts : CutAfterCalls block.lines.items
  pub most : cost_on left block.lines.items block.exit ≤ left b
  pub entry : b ≡ f.entry → StartsWithCut block.lines.items

plain_one : (at : ℕ → ℕ) (x : CodeLine) (after : After) → IsPlain x → IsRankedLine at x after
plain_one at x after h = (plain_ranked at (x ∷ []) after (h, tt)).0

-- a line has at most its words
line_few : (places : Name → ℕ) (m : ℕ) (passed before : Option Constant) (line : Line) → (IsCut line → ⊥) → length (way_code places m passed before line) ≤ with_cut line
line_few places m passed before (Cut cause) uncut = absurd (uncut tt)
line_few places m passed before line uncut = let q = way_few places m passed before line (λ e. e) in omega arith

-- ---- what an exit takes of its block is neither a cut nor a call

tail_cost : (left : ℕ → ℕ) (live : ℕ → ℕ → Bool) (tail : List Line) (exit : Exit) (taken : Option Test) → IsTaken live tail exit taken → cost_on left [] exit ≤ cost_on left tail exit
tail_cost left live tail exit taken (Nothing exit') = omega arith
tail_cost left live tail exit taken (Comparing to op kind a b x y p q) = omega arith
tail_cost left live tail exit taken (Zeroing line r to op kind a b x y zero p q s t) = zero_line (λ l. cost_on left [] (Branch to x y) ≤ cost_on left (l ∷ Compare to op kind a b ∷ []) (Branch to x y)) line r zero (λ z. omega arith) (omega arith)

starts_left : (live : ℕ → ℕ → Bool) (lines tail : List Line) (exit : Exit) (taken : Option Test) → IsTaken live tail exit taken → StartsWithCut (lines ++ tail) → StartsWithCut lines
starts_left live [] tail exit taken (Nothing exit') s = s
starts_left live [] tail exit taken (Comparing to op kind a b x y p q) s = absurd s
starts_left live [] tail exit taken (Zeroing line r to op kind a b x y zero p q v w) s = zero_line (λ l. StartsWithCut (l ∷ Compare to op kind a b ∷ []) → ⊥) line r zero (λ z n. n) (λ n. n) s
starts_left live (line ∷ lines) tail exit taken t s = s

calls_left : (live : ℕ → ℕ → Bool) (lines tail : List Line) (exit : Exit) (taken : Option Test) → IsTaken live tail exit taken → CutAfterCalls (lines ++ tail) → CutAfterCalls lines
calls_left live [] tail exit taken t c = tt
calls_left live (Call to i start given ∷ lines) tail exit taken t c = (starts_left live lines tail exit taken t c.0, calls_left live lines tail exit taken t c.1)
calls_left live (Serve to service None ∷ lines) tail exit taken t c = (starts_left live lines tail exit taken t c.0, calls_left live lines tail exit taken t c.1)
calls_left live (Serve to service (Some from) ∷ lines) tail exit taken t c = (starts_left live lines tail exit taken t c.0, calls_left live lines tail exit taken t c.1)
calls_left live (line ∷ lines) tail exit taken t c = calls_left live lines tail exit taken t c

abbrev return_code : List CodeLine
return_code = plain_line (with_immediate Jalr 0 1 0) ∷ []

module _ (at : ℕ → ℕ) (places : Name → ℕ) (m : ℕ → ℕ → ℕ) (okay : (b j : ℕ) → (4 ≤ m b j) × (m b j ≤ 31)) (live : ℕ → ℕ → Bool) (distance : Reach) (functions first frame : ℕ) (left : ℕ → ℕ) (f : Function) (above : 64 ≤ first) (callees : HasCallees functions at) (blocks : (b : ℕ) → b < length f.blocks.items → at (first + b) ≡ block_rank left f b) where
  block_most : (b : ℕ) → b < length f.blocks.items → at (first + b) ≤ block_base + left b
  block_most b h = subst (λ z. z ≤ block_base + left b) (sym (blocks b h)) (by (b == f.entry))
    where
      by : (t : Bool) → rank_by_entry t (block_base + left b) ≤ block_base + left b
      by true = omega arith
      by false = omega arith

  entry_is : f.entry < length f.blocks.items → at (first + f.entry) ≡ cut_rank
  entry_is h = blocks f.entry h ∙ ap (λ t. rank_by_entry t (block_base + left f.entry)) (same_is f.entry f.entry refl)

  -- ---- jumps

  jump_ranked : (rd label : ℕ) (behind : After) → rd ≢ 3 → 32 ≤ label → (rd ≡ 1 → behind.next ≤ cut_rank) → AreRanked at (call_code rd label) behind
  jump_ranked rd label behind other far call = (
    record {
      label = λ l e. absurd cc;
      goes = (label, refl, record { cut = λ e. absurd (other e); call = call; other = λ e. far });
    },
    tt,
  )

  cut_ranked : (n : ℕ) (cause : Cause) (behind : After) → (4 ≤ n) × (n ≤ 31) → AreRanked at (cut_code n cause) behind
  cut_ranked n cause behind o = (
    record {
      label = λ l e. absurd cc;
      goes = (n, refl, record { cut = λ e. o; call = λ e. absurd (omega arith); other = λ e. absurd (e refl) });
    },
    tt,
  )

  -- ---- exits

  leave_most : (behind : After) → (scan at (leave_code frame) behind).next ≤ block_base
  leave_most behind =
      let e = ap (λ (z : After). z.next) (scan_append at (adds_code 2 frame) return_code behind) in
      let p = plain_rank at (adds_code 2 frame) (scan at return_code behind) (adds_plain 2 frame) in
      let few = adds_few 2 frame in
      omega arith

  leave_ranked : (behind : After) → AreRanked at (leave_code frame) behind
  leave_ranked behind = (
    plain_one at (plain_line (with_immediate Lw 1 2 0)) (scan at (adds_code 2 frame ++ return_code) behind) (refl, refl),
    ranked_append at (adds_code 2 frame) return_code behind (plain_ranked at (adds_code 2 frame) (scan at return_code behind) (adds_plain 2 frame)) (record { label = λ l e. absurd cc; goes = tt }, tt),
  )

  -- on to a label, which may stand next
  onward_most : (next : Option ℕ) (label : ℕ) (falls : Bool) (behind : After) → (falls ≡ true → is_next next label ≡ true) → Meets at next behind → (scan at (onward_code falls label) behind).next ≤ suc (at label)
  onward_most next label true behind is meets = let most = meets label (next_is next label (is refl)) in omega arith
  onward_most next label false behind is meets = omega arith

  onward_ranked : (falls : Bool) (label : ℕ) (behind : After) → 32 ≤ label → AreRanked at (onward_code falls label) behind
  onward_ranked true label behind far = tt
  onward_ranked false label behind far = jump_ranked 0 label behind (λ e. absurd (omega arith)) far (λ e. absurd (omega arith))

  near_most : (bound label : ℕ) (behind : After) → at label ≤ bound → behind.next ≤ suc bound → suc (greater behind.next (at label)) ≤ suc (suc bound)
  near_most bound label behind a b = let within = greater_within behind.next (at label) (suc bound) b (omega arith) in omega arith

  far_most : (bound label : ℕ) (behind : After) → at label ≤ bound → behind.next ≤ suc bound → suc (greater (suc (at label)) behind.next) ≤ suc (suc bound)
  far_most bound label behind a b = let within = greater_within (suc (at label)) behind.next (suc bound) (omega arith) b in omega arith

  test_most : (bound : ℕ) (by : Reach) (holds : Bool) (t : Test) (label : ℕ) (behind : After) → at label ≤ bound → behind.next ≤ suc bound → (scan at (test_code by holds t label) behind).next ≤ suc (suc bound)
  test_most bound Near holds t label behind a b = subst (λ w. rank_by at w 0 (Some label) behind ≤ suc (suc bound)) (sym (test_way holds t)) (near_most bound label behind a b)
  test_most bound Far holds t label behind a b = subst (λ w. rank_by at w 0 None (scan at (call_code 0 label) behind) ≤ suc (suc bound)) (sym (test_way (not holds) t)) (far_most bound label behind a b)

  test_ranked : (by : Reach) (holds : Bool) (t : Test) (label : ℕ) (behind : After) → 32 ≤ label → AreRanked at (test_code by holds t label) behind
  test_ranked Near holds t label behind far = (record { label = λ l e. absurd cc; goes = subst (λ w. Goes w (test_line holds t 0) (Some label) behind) (sym (test_way holds t)) (inr (label, refl, far)) }, tt)
  test_ranked Far holds t label behind far = (record { label = λ l e. absurd cc; goes = subst (λ w. Goes w (test_line (not holds) t 8) None (scan at (call_code 0 label) behind)) (sym (test_way (not holds) t)) (inl (refl, refl)) }, onward_ranked false label behind far)

  branch_most : (bound : ℕ) (next : Option ℕ) (t : Test) (there other : ℕ) (behind : After) → Meets at next behind → at there ≤ bound → at other ≤ bound → (scan at (branch_code distance next t there other) behind).next ≤ suc (suc bound)
  branch_most bound next t there other behind meets a b = by (is_next next there) refl
    where
      rest : List CodeLine
      rest = onward_code (is_next next other) other

      by : (q : Bool) → is_next next there ≡ q → (scan at (if q then test_code distance false t other else test_code distance true t there ++ rest) behind).next ≤ suc (suc bound)
      by true e = let falls = meets there (next_is next there e) in test_most bound distance false t other behind b (omega arith)
      by false e =
          let onward = onward_most next other (is_next next other) behind (λ q. q) meets in
          let is = ap (λ (z : After). z.next) (scan_append at (test_code distance true t there) rest behind) in
          let most = test_most bound distance true t there (scan at rest behind) a (omega arith) in
          subst (λ z. z ≤ suc (suc bound)) (sym is) most

  branch_ranked : (next : Option ℕ) (t : Test) (there other : ℕ) (behind : After) → 32 ≤ there → 32 ≤ other → AreRanked at (branch_code distance next t there other) behind
  branch_ranked next t there other behind a b = by (is_next next there)
    where
      rest : List CodeLine
      rest = onward_code (is_next next other) other

      by : (q : Bool) → AreRanked at (if q then test_code distance false t other else test_code distance true t there ++ rest) behind
      by true = test_ranked distance false t other behind b
      by false = ranked_append at (test_code distance true t there) rest behind (test_ranked distance true t there (scan at rest behind) a) (onward_ranked (is_next next other) other behind b)

  exit_most : (next : Option ℕ) (bare : Bool) (taken : Option Test) (exit : Exit) (behind : After) → Meets at next behind → ExitThere (length f.blocks.items) exit → (scan at (exit_code distance next bare first frame taken exit) behind).next ≤ block_base + cost_on left [] exit
  exit_most next bare taken (Jump c) behind meets there =
      let most = block_most c there in
      let onward = onward_most next (first + c) (not bare && is_next next (first + c)) behind (λ e. (both (not bare) (is_next next (first + c)) e).1) meets in
      omega arith
  exit_most next bare taken (Turn c) behind meets there = let most = block_most c there in omega arith
  exit_most next bare taken (Branch on x y) behind meets there =
      let most = block_most x there.0 in
      let other = block_most y there.1 in
      let bound : ℕ = block_base + max (left x) (left y) in
      let within = branch_most bound next (test_or taken on) (first + x) (first + y) behind meets (omega arith) (omega arith) in
      omega arith
  exit_most next bare taken (Return None) behind meets there =
      let most = leave_most behind in
      let set = plain_rank at (result_code None) (scan at (leave_code frame) behind) ((refl, refl), tt) in
      omega arith
  exit_most next bare taken (Return (Some r)) behind meets there = let most = leave_most behind in omega arith

  exit_ranked : (next : Option ℕ) (bare : Bool) (taken : Option Test) (exit : Exit) (behind : After) → AreRanked at (exit_code distance next bare first frame taken exit) behind
  exit_ranked next bare taken (Jump b) behind = onward_ranked (not bare && is_next next (first + b)) (first + b) behind (omega arith)
  exit_ranked next bare taken (Turn b) behind = onward_ranked false (first + b) behind (omega arith)
  exit_ranked next bare taken (Branch on x y) behind = branch_ranked next (test_or taken on) (first + x) (first + y) behind (omega arith) (omega arith)
  exit_ranked next bare taken (Return None) behind = ranked_append at (result_code None) (leave_code frame) behind (plain_ranked at (result_code None) (scan at (leave_code frame) behind) ((refl, refl), tt)) (leave_ranked behind)
  exit_ranked next bare taken (Return (Some r)) behind = leave_ranked behind

  -- ---- lines

  starts : (n : ℕ → ℕ) (needed : ℕ → ℕ → Bool) (before : Option Constant) (j : ℕ) (lines : List Line) (behind : After) → StartsWithCut lines → (scan at (lines_code places n needed before j lines) behind).next ≡ cut_rank
  starts n needed before j [] behind s = absurd s
  starts n needed before j (Cut cause ∷ lines) behind s = refl
  starts n needed before j (line ∷ lines) behind s = absurd s

  work_most : (n : ℕ → ℕ) (needed : ℕ → ℕ → Bool) (passed before : Option Constant) (j : ℕ) (line : Line) (lines : List Line) (rest : ℕ) (behind : After) → IsWork line → (IsCut line → ⊥) → (scan at (lines_code places n needed passed (suc j) lines) behind).next ≤ block_base + rest → (scan at (way_code places (n j) passed before line ++ lines_code places n needed passed (suc j) lines) behind).next ≤ block_base + (with_cut line + rest)
  work_most n needed passed before j line lines rest behind work uncut h =
      let e = ap (λ (z : After). z.next) (scan_append at (way_code places (n j) passed before line) (lines_code places n needed passed (suc j) lines) behind) in
      let p = plain_rank at (way_code places (n j) passed before line) (scan at (lines_code places n needed passed (suc j) lines) behind) (way_plain places (n j) passed before line work) in
      let few = line_few places (n j) passed before line uncut in
      omega arith

  lines_most : (n : ℕ → ℕ) (needed : ℕ → ℕ → Bool) (before : Option Constant) (j : ℕ) (lines tail : List Line) (exit : Exit) (behind : After) → behind.next ≤ block_base + cost_on left tail exit → All (CallsBelow functions) lines → (scan at (lines_code places n needed before j lines) behind).next ≤ block_base + cost_on left (lines ++ tail) exit
  lines_most n needed before j [] tail exit behind h c = h
  lines_most n needed before j (Cut cause ∷ lines) tail exit behind h c = omega arith
  lines_most n needed before j (Call to i start given ∷ lines) tail exit behind h c = let e = callees.entries i (All-head (CallsBelow functions) (Call to i start given) lines c) in omega arith
  lines_most n needed before j (Serve to service None ∷ lines) tail exit behind h c = let e = callees.serves service in omega arith
  lines_most n needed before j (Serve to service (Some from) ∷ lines) tail exit behind h c = let e = callees.serves service in omega arith
  lines_most n needed before j (line ∷ lines) tail exit behind h c =
      work_most n needed (passed_by (needed (suc j)) line lines) before j line lines (cost_on left (lines ++ tail) exit) behind tt (λ z. z)
      (lines_most n needed (passed_by (needed (suc j)) line lines) (suc j) lines tail exit behind h (All-tail (CallsBelow functions) line lines c))

  lines_ranked : (n : ℕ → ℕ) (needed : ℕ → ℕ → Bool) (before : Option Constant) (j : ℕ) (lines : List Line) (behind : After) → ((j : ℕ) → (4 ≤ n j) × (n j ≤ 31)) → CutAfterCalls lines → AreRanked at (lines_code places n needed before j lines) behind
  lines_ranked n needed before j [] behind o k = tt
  lines_ranked n needed before j (Cut cause ∷ lines) behind o k = ranked_append at (cut_code (n j) cause) (lines_code places n needed None (suc j) lines) behind (cut_ranked (n j) cause (scan at (lines_code places n needed None (suc j) lines) behind) (o j)) (lines_ranked n needed None (suc j) lines behind o k)
  lines_ranked n needed before j (Call to i start given ∷ lines) behind o k =
      ranked_append at (call_code 1 (entry_label i)) (lines_code places n needed None (suc j) lines) behind
      (jump_ranked 1 (entry_label i) (scan at (lines_code places n needed None (suc j) lines) behind) (λ e. absurd (omega arith)) (omega arith) (λ e. (let s = starts n needed None (suc j) lines behind k.0 in omega arith)))
      (lines_ranked n needed None (suc j) lines behind o k.1)
  lines_ranked n needed before j (Serve to service None ∷ lines) behind o k =
      ranked_append at (call_code 1 (service_label service)) (lines_code places n needed None (suc j) lines) behind
      (jump_ranked 1 (service_label service) (scan at (lines_code places n needed None (suc j) lines) behind) (λ e. absurd (omega arith)) (service_high service) (λ e. (let s = starts n needed None (suc j) lines behind k.0 in omega arith)))
      (lines_ranked n needed None (suc j) lines behind o k.1)
  lines_ranked n needed before j (Serve to service (Some from) ∷ lines) behind o k =
      ranked_append at (call_code 1 (service_label service)) (lines_code places n needed None (suc j) lines) behind
      (jump_ranked 1 (service_label service) (scan at (lines_code places n needed None (suc j) lines) behind) (λ e. absurd (omega arith)) (service_high service) (λ e. (let s = starts n needed None (suc j) lines behind k.0 in omega arith)))
      (lines_ranked n needed None (suc j) lines behind o k.1)
  lines_ranked n needed before j (line ∷ lines) behind o k =
      let passed : Option Constant = passed_by (needed (suc j)) line lines in
      ranked_append at (way_code places (n j) passed before line) (lines_code places n needed passed (suc j) lines) behind (plain_ranked at (way_code places (n j) passed before line) (scan at (lines_code places n needed passed (suc j) lines) behind) (way_plain places (n j) passed before line tt)) (lines_ranked n needed passed (suc j) lines behind o k)

  -- ---- blocks

  abbrev laying : Laying
  laying = laid f places m live distance first frame

  abbrev count : ℕ
  count = length f.blocks.items

  abbrev leads : ℕ → ℕ
  leads = leads_of laying

  all_below : f.entry < count → AreBelow count (kept_order laying)
  all_below there = kept_below leads count (laid_order f.entry count) (order_below f.entry count there)

  abbrev taken_of : Block → Option Test
  taken_of block = taken_test live block.lines.items block.exit

  abbrev own_of : Block → List Line
  own_of block = own_lines (taken_of block) block.lines.items

  abbrev tail_of : Block → List Line
  tail_of block = (takes live block.lines.items block.exit).tail

  whole_of : (block : Block) → own_of block ++ tail_of block ≡ block.lines.items
  whole_of block = (takes live block.lines.items block.exit).whole

  own_calls : (block : Block) → All (CallsBelow functions) block.lines.items → All (CallsBelow functions) (own_of block)
  own_calls block c = all_left (CallsBelow functions) (own_of block) (tail_of block) (subst (All (CallsBelow functions)) (sym (whole_of block)) c)

  abbrev needed_of : Block → ℕ → ℕ → Bool
  needed_of block = behind_each live block.lines.items block.exit

  abbrev lines_of : ℕ → Block → List CodeLine
  lines_of b block = lines_code places (m b) (needed_of block) None 0 (own_of block)

  abbrev ends : Option ℕ → ℕ → Block → List CodeLine
  ends next b block = exit_code distance next (is_empty (lines_of b block)) first frame (taken_of block) (led leads block.exit)

  abbrev body : Option ℕ → ℕ → Block → List CodeLine
  body next b block = taking_code places (m b) (needed_of block) distance next first frame (taken_of block) block.lines.items (led leads block.exit)

  abbrev code_of : Option ℕ → ℕ → Block → List CodeLine
  code_of next b block = block_code places (m b) live leads distance next first frame b block

  -- as much as is left where a block leads is left at the block
  abbrev Falls : Type 0
  Falls = (b : ℕ) → left (leads b) ≤ left b

  led_cost : (exit : Exit) → Falls → cost_on left [] (led leads exit) ≤ cost_on left [] exit
  led_cost (Jump c) falls = let k = falls c in omega arith
  led_cost (Turn c) falls = let k = falls c in omega arith
  led_cost (Branch on x y) falls = let k = falls x in let l = falls y in omega arith
  led_cost (Return from) falls = omega arith

  onward_cost : (b c : ℕ) → LeadsOn f.blocks.items f.entry b c → ((block : Block) → slice_get f.blocks.items b ≡ Some block → BlockFacts functions left f b block) → left c ≤ left b
  onward_cost b c on facts =
      let most = (facts on.block on.there).most in
      let same : cost_on left on.block.lines.items on.block.exit ≡ cost_on left [] (Jump c) = ap (λ (z : List Line). cost_on left z on.block.exit) on.lines ∙ ap (cost_on left []) on.exit in
      omega arith

  falls_from : ((b : ℕ) (block : Block) → slice_get f.blocks.items b ≡ Some block → BlockFacts functions left f b block) → Falls
  falls_from facts b = lead_path f.blocks.items f.entry (λ x d. left d ≤ left x) (λ x. omega arith) (λ x c d on k. (let o = onward_cost x c on (facts x) in omega arith)) b

  ends_most : (next : Option ℕ) (b : ℕ) (block : Block) (behind : After) → Falls → Meets at next behind → ExitThere count block.exit → (scan at (ends next b block) behind).next ≤ block_base + cost_on left (tail_of block) block.exit
  ends_most next b block behind falls meets there =
      let inside : ExitThere count (led leads block.exit) = led_there leads count block.exit (λ x h. lead_below f.blocks.items f.entry x count h) there in
      let most = exit_most next (is_empty (lines_of b block)) (taken_of block) (led leads block.exit) behind meets inside in
      let further = led_cost block.exit falls in
      let less = tail_cost left live (tail_of block) block.exit (taken_of block) (takes live block.lines.items block.exit).is in
      omega arith

  body_most : (next : Option ℕ) (b : ℕ) (block : Block) (behind : After) → Falls → BlockFacts functions left f b block → Meets at next behind → (scan at (body next b block) behind).next ≤ at (first + b)
  body_most next b block behind falls facts meets =
      subst (λ z. (scan at (body next b block) behind).next ≤ z) (sym (blocks b facts.inside)) (by (b == f.entry) refl)
    where
      exits : After
      exits = scan at (ends next b block) behind

      is : (scan at (body next b block) behind).next ≡ (scan at (lines_of b block) exits).next
      is = ap (λ (z : After). z.next) (scan_append at (lines_of b block) (ends next b block) behind)

      by : (t : Bool) → (b == f.entry) ≡ t → (scan at (body next b block) behind).next ≤ rank_by_entry t (block_base + left b)
      by true e =
          let s = starts (m b) (needed_of block) None 0 (own_of block) exits (starts_left live (own_of block) (tail_of block) block.exit (taken_of block) (takes live block.lines.items block.exit).is (subst StartsWithCut (sym (whole_of block)) (facts.entry (same_of b f.entry e)))) in
          let q = is in
          omega arith
      by false e =
          let whole = lines_most (m b) (needed_of block) None 0 (own_of block) (tail_of block) block.exit exits (ends_most next b block behind falls meets facts.there) (own_calls block facts.calls) in
          let all = ap (λ (z : List Line). cost_on left z block.exit) (whole_of block) in
          let most = facts.most in
          let q = is in
          omega arith

  block_within_label : (next : Option ℕ) (b : ℕ) (block : Block) (behind : After) → Falls → BlockFacts functions left f b block → Meets at next behind → (scan at (code_of next b block) behind).next ≤ at (first + b)
  block_within_label next b block behind falls facts meets =
      subst (λ (z : After). z.next ≤ at (first + b)) (sym (scan_labelled at (first + b) (body next b block) behind)) (body_most next b block behind falls facts meets)

  block_ranked : (next : Option ℕ) (b : ℕ) (block : Block) (behind : After) → Falls → BlockFacts functions left f b block → Meets at next behind → AreRanked at (code_of next b block) behind
  block_ranked next b block behind falls facts meets =
      ranked_labelled at (first + b) (body next b block) behind (body_most next b block behind falls facts meets)
      (ranked_append at (lines_of b block) (ends next b block) behind (lines_ranked (m b) (needed_of block) None 0 (own_of block) (scan at (ends next b block) behind) (okay b) (calls_left live (own_of block) (tail_of block) block.exit (taken_of block) (takes live block.lines.items block.exit).is (subst CutAfterCalls (sym (whole_of block)) facts.cuts))) (exit_ranked next (is_empty (lines_of b block)) (taken_of block) (led leads block.exit) behind))

  -- ---- as they are laid

  module _ (facts : (b : ℕ) (block : Block) → slice_get f.blocks.items b ≡ Some block → BlockFacts functions left f b block) where
    laid_most : (b : ℕ) (order : List ℕ) (behind : After) → b < count → Meets at (next_label first order) behind → (scan at (laid_block laying b order) behind).next ≤ at (first + b)
    laid_most b order behind there meets = by (slice_get f.blocks.items b) refl
      where
        next : Option ℕ
        next = next_label first order

        by : (o : Option Block) → slice_get f.blocks.items b ≡ o → (scan at (found_code laying b next o) behind).next ≤ at (first + b)
        by None e = absurd (some_there f.blocks.items b there e)
        by (Some block) e = block_within_label next b block behind (falls_from facts) (facts b block e) meets

    laid_ranked : (b : ℕ) (order : List ℕ) (behind : After) → Meets at (next_label first order) behind → AreRanked at (laid_block laying b order) behind
    laid_ranked b order behind meets = by (slice_get f.blocks.items b) refl
      where
        next : Option ℕ
        next = next_label first order

        by : (o : Option Block) → slice_get f.blocks.items b ≡ o → AreRanked at (found_code laying b next o) behind
        by None e = tt
        by (Some block) e = block_ranked next b block behind (falls_from facts) (facts b block e) meets

    code_meets : (order : List ℕ) (behind : After) → AreBelow count order → Meets at (next_label first order) (scan at (laid_code laying order) behind)
    code_meets [] behind h l e = absurd cc
    code_meets (b ∷ order) behind h l e =
        let rest : After = scan at (laid_code laying order) behind in
        let is = ap (λ (z : After). z.next) (scan_append at (laid_block laying b order) (laid_code laying order) behind) in
        let same : first + b ≡ l = cc in
        let most = laid_most b order rest h.0 (code_meets order behind h.1) in
        subst (λ z. (scan at (laid_code laying (b ∷ order)) behind).next ≤ at z) same (subst (λ z. z ≤ at (first + b)) (sym is) most)

    code_ranked : (order : List ℕ) (behind : After) → AreBelow count order → AreRanked at (laid_code laying order) behind
    code_ranked [] behind h = tt
    code_ranked (b ∷ order) behind h =
        ranked_append at (laid_block laying b order) (laid_code laying order) behind (laid_ranked b order (scan at (laid_code laying order) behind) (code_meets order behind h.1)) (code_ranked order behind h.1)

    -- the prologue goes on to the entry
    entered_most : (behind : After) → f.entry < count → (scan at (blocks_code laying) behind).next ≤ cut_rank
    entered_most behind there =
        let begins = kept_first leads f.entry (others_below f.entry count) (lead_entry f.blocks.items f.entry) in
        let most = code_meets (kept_order laying) behind (all_below there) (first + f.entry) (ap (next_label first) begins) in
        let is = entry_is there in
        omega arith

  -- ---- the prologue

  enter_most : (behind : After) → behind.next ≤ cut_rank → (scan at enter_code behind).next ≤ cut_rank + 4
  enter_most behind e =
      let stops = callees.stops in
      let within = greater_within (suc (at stack_label)) (suc (suc behind.next)) (cut_rank + 2) (omega arith) (omega arith) in
      omega arith

  enter_ranked : (behind : After) → AreRanked at enter_code behind
  enter_ranked behind =
      let moved : List CodeLine = plain_line (with_immediate Addi 2 6 0) ∷ plain_line (storing Sw 2 1 0) ∷ [] in
      let taken = plain_ranked at moved behind ((refl, refl), ((refl, refl), tt)) in
      let full = jump_ranked 0 stack_label (scan at moved behind) (λ e. absurd (omega arith)) (omega arith) (λ e. absurd (omega arith)) in (
        plain_one at (plain_line (with_immediate Lw 5 0 28)) _ (refl, refl),
        (record { label = λ l e. absurd cc; goes = inl (refl, refl) }, (full.0, taken)),
      )

  pub function_ranked : (i : ℕ) (behind : After) → i < functions → f.entry < count → ((b : ℕ) (block : Block) → slice_get f.blocks.items b ≡ Some block → BlockFacts functions left f b block) → AreRanked at (function_code i laying) behind
  function_ranked i behind here there facts =
      let by : ℕ = 2 ^ 32 - frame in
      let rest : List CodeLine = blocks_code laying in
      let onward : After = scan at rest behind in
      let e = ap (λ (z : After). z.next) (scan_append at (adds_code 6 by) enter_code onward) in
      let p = plain_rank at (adds_code 6 by) (scan at enter_code onward) (adds_plain 6 by) in
      let few = adds_few 6 by in
      let most = enter_most onward (entered_most facts behind there) in
      let called = callees.entries i here in
      ranked_append at (labelled (entry_label i) (prologue_code frame)) rest behind
      (ranked_labelled at (entry_label i) (prologue_code frame) onward (omega arith)
      (ranked_append at (adds_code 6 by) enter_code onward (plain_ranked at (adds_code 6 by) (scan at enter_code onward) (adds_plain 6 by)) (enter_ranked onward)))
      (code_ranked facts (kept_order laying) behind (all_below there))

  -- ---- what stands behind cuts

  -- behind each cut of the function so little is left
  abbrev HasLittleLeft : ℕ → List Line → Exit → Type 0
  HasLittleLeft top lines exit = (before : List Line) (cause : Cause) (rest : List Line) → lines ≡ before ++ Cut cause ∷ rest → block_base + cost_on left rest exit ≤ top

  -- one line, whose jump isn't a cut
  jump_within : (top rd label : ℕ) (behind : After) → rd ≢ 3 → AreWithin at top (call_code rd label) behind
  jump_within top rd label behind other = ((λ jumps cut. absurd (other cut)), tt)

  leave_within : (top : ℕ) (behind : After) → AreWithin at top (leave_code frame) behind
  leave_within top behind = ((λ jumps cut. absurd cc), within_append at top (adds_code 2 frame) return_code behind (plain_within at top (adds_code 2 frame) (scan at return_code behind) (adds_plain 2 frame)) ((λ jumps cut. absurd cc), tt))

  onward_within : (top : ℕ) (falls : Bool) (label : ℕ) (behind : After) → AreWithin at top (onward_code falls label) behind
  onward_within top true label behind = tt
  onward_within top false label behind = jump_within top 0 label behind (λ e. absurd (omega arith))

  test_within : (top : ℕ) (by : Reach) (holds : Bool) (t : Test) (label : ℕ) (behind : After) → AreWithin at top (test_code by holds t label) behind
  test_within top Near holds t label behind = ((λ jumps cut. (let none : 0 ≡ 3 = cut in absurd (omega arith))), tt)
  test_within top Far holds t label behind = ((λ jumps cut. (let none : 0 ≡ 3 = cut in absurd (omega arith))), onward_within top false label behind)

  branch_within : (top : ℕ) (next : Option ℕ) (t : Test) (there other : ℕ) (behind : After) → AreWithin at top (branch_code distance next t there other) behind
  branch_within top next t there other behind = by (is_next next there)
    where
      rest : List CodeLine
      rest = onward_code (is_next next other) other

      by : (q : Bool) → AreWithin at top (if q then test_code distance false t other else test_code distance true t there ++ rest) behind
      by true = test_within top distance false t other behind
      by false = within_append at top (test_code distance true t there) rest behind (test_within top distance true t there (scan at rest behind)) (onward_within top (is_next next other) other behind)

  exit_within : (top : ℕ) (next : Option ℕ) (bare : Bool) (taken : Option Test) (exit : Exit) (behind : After) → AreWithin at top (exit_code distance next bare first frame taken exit) behind
  exit_within top next bare taken (Jump b) behind = onward_within top (not bare && is_next next (first + b)) (first + b) behind
  exit_within top next bare taken (Turn b) behind = onward_within top false (first + b) behind
  exit_within top next bare taken (Branch on x y) behind = branch_within top next (test_or taken on) (first + x) (first + y) behind
  exit_within top next bare taken (Return None) behind = ((λ jumps cut. absurd cc), leave_within top behind)
  exit_within top next bare taken (Return (Some r)) behind = leave_within top behind

  lines_within : (top : ℕ) (n : ℕ → ℕ) (needed : ℕ → ℕ → Bool) (before : Option Constant) (j : ℕ) (lines tail : List Line) (exit : Exit) (behind : After) → behind.next ≤ block_base + cost_on left tail exit → All (CallsBelow functions) lines → HasLittleLeft top (lines ++ tail) exit → AreWithin at top (lines_code places n needed before j lines) behind
  lines_within top n needed before j [] tail exit behind h c little = tt
  lines_within top n needed before j (line ∷ lines) tail exit behind h c little =
      within_append at top (way_code places (n j) passed before line) (lines_code places n needed passed (suc j) lines) behind (one line little)
      (lines_within top n needed passed (suc j) lines tail exit behind h later (λ former cause rest e. little (line ∷ former) cause rest (ap (λ z. line ∷ z) e)))
    where
      passed : Option Constant
      passed = passed_by (needed (suc j)) line lines

      later : All (CallsBelow functions) lines
      later = All-tail (CallsBelow functions) line lines c

      onward : After
      onward = scan at (lines_code places n needed passed (suc j) lines) behind

      one : (x : Line) → HasLittleLeft top (x ∷ (lines ++ tail)) exit → AreWithin at top (way_code places (n j) passed before x) onward
      one (Cut cause) k = ((λ jumps cut. (let most = lines_most n needed passed (suc j) lines tail exit behind h later in let less = k [] cause (lines ++ tail) refl in omega arith)), tt)
      one (Call to i start given) k = jump_within top 1 (entry_label i) onward (λ e. absurd (omega arith))
      one (Serve to service None) k = jump_within top 1 (service_label service) onward (λ e. absurd (omega arith))
      one (Serve to service (Some from)) k = jump_within top 1 (service_label service) onward (λ e. absurd (omega arith))
      one x k = plain_within at top (way_code places (n j) passed before x) onward (way_plain places (n j) passed before x tt)

  block_within : (top : ℕ) (next : Option ℕ) (b : ℕ) (block : Block) (behind : After) → Falls → BlockFacts functions left f b block → HasLittleLeft top block.lines.items block.exit → Meets at next behind → AreWithin at top (code_of next b block) behind
  block_within top next b block behind falls facts little meets =
      within_labelled at top (first + b) (body next b block) behind
      (within_append at top (lines_of b block) (ends next b block) behind
      (lines_within top (m b) (needed_of block) None 0 (own_of block) (tail_of block) block.exit (scan at (ends next b block) behind) (ends_most next b block behind falls meets facts.there) (own_calls block facts.calls) (subst (λ (z : List Line). HasLittleLeft top z block.exit) (sym (whole_of block)) little))
      (exit_within top next (is_empty (lines_of b block)) (taken_of block) (led leads block.exit) behind))

  -- a block's facts, and little left behind its cuts
  abbrev Facts : ℕ → ℕ → Block → Type 0
  Facts top b block = BlockFacts functions left f b block × HasLittleLeft top block.lines.items block.exit

  module _ (top : ℕ) (facts : (b : ℕ) (block : Block) → slice_get f.blocks.items b ≡ Some block → Facts top b block) where
    laid_within : (b : ℕ) (order : List ℕ) (behind : After) → Meets at (next_label first order) behind → AreWithin at top (laid_block laying b order) behind
    laid_within b order behind meets = by (slice_get f.blocks.items b) refl
      where
        next : Option ℕ
        next = next_label first order

        by : (o : Option Block) → slice_get f.blocks.items b ≡ o → AreWithin at top (found_code laying b next o) behind
        by None e = tt
        by (Some block) e = (let k = facts b block e in block_within top next b block behind (falls_from (λ c x g. (facts c x g).0)) k.0 k.1 meets)

    code_within : (order : List ℕ) (behind : After) → AreBelow count order → AreWithin at top (laid_code laying order) behind
    code_within [] behind h = tt
    code_within (b ∷ order) behind h =
        within_append at top (laid_block laying b order) (laid_code laying order) behind
        (laid_within b order (scan at (laid_code laying order) behind) (code_meets (λ c block e. (facts c block e).0) order behind h.1))
        (code_within order behind h.1)

  prologue_within : (top : ℕ) (behind : After) → AreWithin at top (prologue_code frame) behind
  prologue_within top behind =
      within_append at top (adds_code 6 (2 ^ 32 - frame)) enter_code behind (plain_within at top (adds_code 6 (2 ^ 32 - frame)) (scan at enter_code behind) (adds_plain 6 (2 ^ 32 - frame)))
      ((λ jumps cut. absurd cc), ((λ jumps cut. absurd cc), ((λ jumps cut. absurd cc), ((λ jumps cut. absurd cc), ((λ jumps cut. absurd cc), tt)))))

  pub function_within : (top i : ℕ) (behind : After) → f.entry < count → ((b : ℕ) (block : Block) → slice_get f.blocks.items b ≡ Some block → Facts top b block) → AreWithin at top (function_code i laying) behind
  function_within top i behind there facts =
      let rest : List CodeLine = blocks_code laying in
      within_append at top (labelled (entry_label i) (prologue_code frame)) rest behind
      (within_labelled at top (entry_label i) (prologue_code frame) (scan at rest behind) (prologue_within top (scan at rest behind)))
      (code_within top facts (kept_order laying) behind (all_below there))
