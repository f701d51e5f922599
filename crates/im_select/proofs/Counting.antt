-- How many lines stand for a line, an exit, a function: at most what these cost.
use Rattle.std.proofs.Common.{subst, sym, ◌≡◌, ◌<◌, ◌≤◌, ℕ, suc, ◌+◌, ◌-◌, ◌^◌, Bool, true, false, List, [], ◌∷◌, ◌++◌, Option, Some, None, length, refl, ap, length-append, arith}
use Rattle.std.specs.Prelude.{◌==◌, ◌&&◌, not, if◌then◌else◌, slice_get}
use Rattle.im_num.specs.declared.kind.Kind.TheVariants.{I8, U8, I16, U16, I32, U32, Ptr}
use Rattle.im_num.specs.Kinds.{word}
use Rattle.im_rv.specs.declared.instr.Op.TheVariants.{Jalr, Lw, Sw, Addi, Sltiu, Add as AddOp, Sltu, Mul, Div}
use Rattle.im_rv.specs.Decode.{Line as Instruction}
use Rattle.im_rv.specs.Lines.{CodeLine, plain_line}
use Rattle.im_rv_reach.specs.Instructions.{with_immediate, on_registers, storing, upper}
use Rattle.im_select_relation.specs.OperatorTables.{load_op, store_op, less_op}
use Rattle.im_rtlib.specs.Routines.{numbered}
use Rattle.im_store.specs.declared.operators.UnaryOp.TheVariants.{Negate, Complement}
use Rattle.im_store.specs.declared.operators.Comparison.{Comparison}
use Rattle.im_store.specs.declared.operators.Comparison.TheVariants.{Less, Greater, LessOrEqual, GreaterOrEqual, Equal, NotEqual}
use Rattle.im_store.specs.Objects.{Name, Slot}
use Rattle.im_block.specs.declared.code.Place.{Place}
use Rattle.im_block.specs.declared.code.Place.TheVariants.{Static, Local, Through}
use Rattle.im_block.specs.declared.code.Line.{Line}
use Rattle.im_block.specs.declared.code.Line.TheVariants.{Put, PutNull, Copy, Convert, Unary, Not, Compute, Compare, Move, Distance as Measure, Address, Read, Write, Reload, Spill, Cut, Call, Serve}
use Rattle.im_block.specs.declared.code.Exit.{Exit}
use Rattle.im_block.specs.declared.code.Exit.TheVariants.{Jump, Turn, Branch, Return}
use Rattle.im_block.specs.declared.code.Block.{Block}
use Rattle.im_block.specs.declared.unit.Function.{Function}
use Rattle.im_block.specs.Forced.{StartsWithCut}
use Rattle.im_block.specs.Shape.{sum_of, with_cut, exit_words, placed_block_cost, placed_cost}
use Rattle.im_alloc_placed.specs.Apart.{CutsApart}
use Rattle.im_select.specs.Leads.{led}
use Rattle.im_select.specs.declared.branching.Test.{Test}
use Rattle.im_select.specs.declared.distance.Distance.{Distance}
use Rattle.im_select.specs.declared.distance.Distance.TheVariants.{Near, Far}
use Rattle.im_select.specs.declared.folding.Constant.{Constant}
use Rattle.im_select.specs.Emitted.{high_of, low_of, constant_by, constant_code, displaced_by, displaced_code, displaced_base, step_op, adds_by, adds_code, place_number, place_code, place_base, moved_code, copied_code, shift_of, shifts_code, scaled_code, scaled_register, based_code, address_code, computed_code, constant_line, comparison_line, compared_code, comparison_rest, passed_by, by_or, stored_from, way_code, line_code, lines_code, behind_each, onward_code, test_code, test_or, taken_test, own_lines, is_next, branch_code, exit_code, is_empty, ended_code, block_code, Laying, leads_of, next_label, found_code, laid_block, laid_code, laid_order, kept_order, blocks_code, enter_code, prologue_code, function_code, labelled, entry_label}
use Rattle.im_select.proofs.Taking.{takes}
use Rattle.im_select.proofs.Following.{led_words, kept_cost}
use Rattle.im_select.proofs.Ordering.{cost_found, cost_in, order_cost}
use Rattle.im_select.proofs.Plain.{length_labelled}

constant_few : (rd n : ℕ) → length (constant_code rd n) ≤ 2
constant_few rd n = by (high_of n == 0)
  where
    by : (b : Bool) → length (constant_by b rd (high_of n) (low_of n)) ≤ 2
    by true = omega arith
    by false = omega arith

displaced_few : (r n : ℕ) → length (displaced_code r n) ≤ 2
displaced_few r n = by (high_of n == 0)
  where
    by : (b : Bool) → length (displaced_by b r (high_of n)) ≤ 2
    by true = omega arith
    by false = omega arith

then_few : (xs ys : List CodeLine) (m n : ℕ) → length xs ≤ m → length ys ≤ n → length (xs ++ ys) ≤ m + n
then_few xs ys m n a b = let e = length-append xs ys in omega arith

adds_few : (rd n : ℕ) → length (adds_code rd n) ≤ 3
adds_few rd n = by (high_of n == 0)
  where
    by : (b : Bool) → length (adds_by b rd n) ≤ 3
    by true = omega arith
    by false = let ys : List CodeLine = plain_line (on_registers AddOp rd 2 5) ∷ [] in then_few (constant_code 5 n) ys 2 1 (constant_few 5 n) (omega arith)

place_few : (place : Place) (n : ℕ) → length (place_code place n) ≤ 2
place_few (Static object offset) n = omega arith
place_few (Local object offset) n = displaced_few 2 n
place_few (Through r offset) n = displaced_few r n

copied_few : (to from : ℕ) → length (copied_code to from) ≤ 1
copied_few to from = by (to == from)
  where
    by : (b : Bool) → length (if b then [] else moved_code to from) ≤ 1
    by true = omega arith
    by false = omega arith

shifts_few : (shift : Option ℕ) (size by : ℕ) → length (shifts_code shift size by) ≤ 3
shifts_few None size by = let ys : List CodeLine = plain_line (on_registers Mul 5 5 by) ∷ [] in then_few (constant_code 5 size) ys 2 1 (constant_few 5 size) (omega arith)
shifts_few (Some bits) size by = omega arith

scaled_few : (size by : ℕ) → length (scaled_code size by) ≤ 3
scaled_few size by = cases (size == 1)
  where
    cases : (b : Bool) → length (if b then [] else shifts_code (shift_of size) size by) ≤ 3
    cases true = omega arith
    cases false = shifts_few (shift_of size) size by

based_few : (to : ℕ) (place : Place) (n : ℕ) → length (based_code to place n) ≤ 3
based_few to place n = let ys : List CodeLine = plain_line (with_immediate Addi to (place_base place n) (low_of n)) ∷ [] in then_few (place_code place n) ys 2 1 (place_few place n) (omega arith)

address_few : (to : ℕ) (place : Place) (n : ℕ) → length (address_code to place n) ≤ 3
address_few to (Static object offset) n = by (low_of n == 0)
  where
    by : (b : Bool) → length (if b then plain_line (upper to (high_of n)) ∷ [] else based_code to (Static object offset) n) ≤ 3
    by true = omega arith
    by false = based_few to (Static object offset) n
address_few to (Local object offset) n = based_few to (Local object offset) n
address_few to (Through r offset) n = based_few to (Through r offset) n

-- each line but a cut has at most its words
few : (at : Name → ℕ) (m : ℕ) (line : Line) → (StartsWithCut (line ∷ []) → ⊥) → length (line_code at m line) + 1 ≤ with_cut line
few at m (Put to z) h = let q = constant_few to (word z) in omega arith
few at m (PutNull to) h = omega arith
few at m (Copy to from) h = let q = copied_few to from in omega arith
few at m (Convert to I8 from) h = omega arith
few at m (Convert to U8 from) h = omega arith
few at m (Convert to I16 from) h = omega arith
few at m (Convert to U16 from) h = omega arith
few at m (Convert to I32 from) h = let q = copied_few to from in omega arith
few at m (Convert to U32 from) h = let q = copied_few to from in omega arith
few at m (Convert to Ptr from) h = let q = copied_few to from in omega arith
few at m (Unary to Negate kind from) h = omega arith
few at m (Unary to Complement kind from) h = omega arith
few at m (Not to from) h = omega arith
few at m (Compute to op kind left right) h = omega arith
few at m (Compare to Less kind left right) h = omega arith
few at m (Compare to Greater kind left right) h = omega arith
few at m (Compare to LessOrEqual kind left right) h = omega arith
few at m (Compare to GreaterOrEqual kind left right) h = omega arith
few at m (Compare to Equal kind left right) h = omega arith
few at m (Compare to NotEqual kind left right) h = omega arith
few at m (Move to size back pointer by) h = let ys : List CodeLine = plain_line (on_registers (step_op back) to pointer (scaled_register size by)) ∷ [] in let q = then_few (scaled_code size by) ys 3 1 (scaled_few size by) (omega arith) in omega arith
few at m (Measure to size left right) h = let ys : List CodeLine = plain_line (on_registers Div to 5 6) ∷ [] in let q = then_few (constant_code 6 size) ys 2 1 (constant_few 6 size) (omega arith) in omega arith
few at m (Address to place) h = let q = address_few to place (place_number at place) in omega arith
few at m (Read to place kind access) h = let ys : List CodeLine = numbered access (with_immediate (load_op kind) to (place_base place (place_number at place)) (low_of (place_number at place))) ∷ [] in let q = then_few (place_code place (place_number at place)) ys 2 1 (place_few place (place_number at place)) (omega arith) in omega arith
few at m (Write place kind from access) h = let ys : List CodeLine = numbered access (storing (store_op kind) (place_base place (place_number at place)) from (low_of (place_number at place))) ∷ [] in let q = then_few (place_code place (place_number at place)) ys 2 1 (place_few place (place_number at place)) (omega arith) in omega arith
few at m (Reload to slot access) h = let ys : List CodeLine = numbered access (with_immediate Lw to (displaced_base 2 (at (Slot slot))) (low_of (at (Slot slot)))) ∷ [] in let q = then_few (displaced_code 2 (at (Slot slot))) ys 2 1 (displaced_few 2 (at (Slot slot))) (omega arith) in omega arith
few at m (Spill slot from access) h = let ys : List CodeLine = numbered access (storing Sw (displaced_base 2 (at (Slot slot))) from (low_of (at (Slot slot)))) ∷ [] in let q = then_few (displaced_code 2 (at (Slot slot))) ys 2 1 (displaced_few 2 (at (Slot slot))) (omega arith) in omega arith
few at m (Cut cause) h = absurd (h tt)
few at m (Call to i first count) h = omega arith
few at m (Serve to service None) h = omega arith
few at m (Serve to service (Some from)) h = omega arith

weighed_few : (to : ℕ) (op : Comparison) (n : ℕ) → length (comparison_rest to op n) ≤ 1
weighed_few to Less n = omega arith
weighed_few to Greater n = omega arith
weighed_few to LessOrEqual n = omega arith
weighed_few to GreaterOrEqual n = omega arith
weighed_few to Equal n = one (n == 0) (plain_line (with_immediate Sltiu to 5 1))
  where
    one : (b : Bool) (x : CodeLine) → length (if b then [] else x ∷ []) ≤ 1
    one true x = omega arith
    one false x = omega arith
weighed_few to NotEqual n = one (n == 0) (plain_line (on_registers Sltu to 0 5))
  where
    one : (b : Bool) (x : CodeLine) → length (if b then [] else x ∷ []) ≤ 1
    one true x = omega arith
    one false x = omega arith

-- whatever it takes and passes on
pub way_few : (at : Name → ℕ) (m : ℕ) (passed before : Option Constant) (line : Line) → (StartsWithCut (line ∷ []) → ⊥) → length (way_code at m passed before line) + 1 ≤ with_cut line
way_few at m None before (Put to z) h = few at m (Put to z) h
way_few at m (Some c) before (Put to z) h = omega arith
way_few at m None before (PutNull to) h = few at m (PutNull to) h
way_few at m (Some c) before (PutNull to) h = omega arith
way_few at m passed None (Compute to op kind left right) h = few at m (Compute to op kind left right) h
way_few at m passed (Some c) (Compute to op kind left right) h = by (constant_line to op kind left right c)
  where
    by : (o : Option Instruction) → length (by_or (computed_code to op kind left right) o []) + 1 ≤ with_cut (Compute to op kind left right)
    by None = omega arith
    by (Some l) = omega arith
way_few at m passed None (Compare to op kind left right) h = few at m (Compare to op kind left right) h
way_few at m passed (Some c) (Compare to op kind left right) h = by (comparison_line to op kind left right c)
  where
    by : (o : Option Instruction) → length (by_or (compared_code to (less_op kind) left right op) o (comparison_rest to op c.word)) + 1 ≤ with_cut (Compare to op kind left right)
    by None = few at m (Compare to op kind left right) h
    by (Some l) = let q = weighed_few to op c.word in omega arith
way_few at m passed before (Write place kind from access) h = few at m (Write place kind (stored_from before from) access) h
way_few at m passed before line h = few at m line h

-- a cut is paid by what stands behind it
pub record Paid (at : Name → ℕ) (m : ℕ → ℕ) (needed : ℕ → ℕ → Bool) (before : Option Constant) (j : ℕ) (lines : List Line) : Type 0 where
  pub most : length (lines_code at m needed before j lines) ≤ sum_of with_cut lines + 1
  pub own : (StartsWithCut lines → ⊥) → length (lines_code at m needed before j lines) ≤ sum_of with_cut lines

behind : (at : Name → ℕ) (m : ℕ → ℕ) (needed : ℕ → ℕ → Bool) (before : Option Constant) (j : ℕ) (line : Line) (rest : List Line) → (StartsWithCut (line ∷ []) → ⊥) → Paid at m needed (passed_by (needed (suc j)) line rest) (suc j) rest → Paid at m needed before j (line ∷ rest)
behind at m needed before j line rest h p =
    let passed : Option Constant = passed_by (needed (suc j)) line rest in
    let q = way_few at (m j) passed before line h in
    let e = length-append (way_code at (m j) passed before line) (lines_code at m needed passed (suc j) rest) in
    let o = p.most in
    record { most = omega arith; own = λ n. omega arith }

pub paid : (at : Name → ℕ) (m : ℕ → ℕ) (needed : ℕ → ℕ → Bool) (before : Option Constant) (j : ℕ) (lines : List Line) → CutsApart lines → Paid at m needed before j lines
paid at m needed before j [] h = record { most = omega arith; own = λ n. omega arith }
paid at m needed before j (Cut cause ∷ rest) h =
    let p = paid at m needed None (suc j) rest h.1 in
    let o = p.own h.0 in
    let e = length-append (line_code at (m j) (Cut cause)) (lines_code at m needed None (suc j) rest) in
    record { most = omega arith; own = λ n. absurd (n tt) }
paid at m needed before j (line ∷ rest) h = behind at m needed before j line rest (λ n. n) (paid at m needed (passed_by (needed (suc j)) line rest) (suc j) rest h)

onward_few : (falls : Bool) (label : ℕ) → length (onward_code falls label) ≤ 1
onward_few true label = omega arith
onward_few false label = omega arith

test_few : (distance : Distance) (holds : Bool) (t : Test) (label : ℕ) → (0 < length (test_code distance holds t label)) × (length (test_code distance holds t label) ≤ 2)
test_few Near holds t label = (omega arith, omega arith)
test_few Far holds t label = (omega arith, omega arith)

abbrev branch_by : Bool → Distance → Option ℕ → Test → ℕ → ℕ → List CodeLine
branch_by b distance next t there other = if b then test_code distance false t other else test_code distance true t there ++ onward_code (is_next next other) other

branch_few : (distance : Distance) (next : Option ℕ) (t : Test) (there other : ℕ) → (0 < length (branch_code distance next t there other)) × (length (branch_code distance next t there other) ≤ 3)
branch_few distance next t there other = by (is_next next there)
  where
    by : (b : Bool) → (0 < length (branch_by b distance next t there other)) × (length (branch_by b distance next t there other) ≤ 3)
    by true = let q = test_few distance false t other in let a = q.0 in let b = q.1 in (omega arith, omega arith)
    by false =
        let q = test_few distance true t there in
        let a = q.0 in
        let b = q.1 in
        let o = onward_few (is_next next other) other in
        let e = length-append (test_code distance true t there) (onward_code (is_next next other) other) in
        (omega arith, omega arith)

exit_few : (distance : Distance) (next : Option ℕ) (bare : Bool) (first frame : ℕ) (taken : Option Test) (exit : Exit) → length (exit_code distance next bare first frame taken exit) ≤ exit_words exit
exit_few distance next bare first frame taken (Jump b) = onward_few (not bare && is_next next (first + b)) (first + b)
exit_few distance next bare first frame taken (Turn b) = omega arith
exit_few distance next bare first frame taken (Branch on x y) = (branch_few distance next (test_or taken on) (first + x) (first + y)).1
exit_few distance next bare first frame taken (Return None) = let q = then_few (adds_code 2 frame) (plain_line (with_immediate Jalr 0 1 0) ∷ []) 3 1 (adds_few 2 frame) (omega arith) in omega arith
exit_few distance next bare first frame taken (Return (Some r)) = let q = then_few (adds_code 2 frame) (plain_line (with_immediate Jalr 0 1 0) ∷ []) 3 1 (adds_few 2 frame) (omega arith) in omega arith

-- a block without other lines keeps its jump
bare_some : (distance : Distance) (next : Option ℕ) (first frame : ℕ) (taken : Option Test) (exit : Exit) → 0 < length (exit_code distance next true first frame taken exit)
bare_some distance next first frame taken (Jump b) = omega arith
bare_some distance next first frame taken (Turn b) = omega arith
bare_some distance next first frame taken (Branch on x y) = (branch_few distance next (test_or taken on) (first + x) (first + y)).0
bare_some distance next first frame taken (Return None) = omega arith
bare_some distance next first frame taken (Return (Some r)) = omega arith

-- so each block has a line for its label
pub ended_some : (distance : Distance) (next : Option ℕ) (first frame : ℕ) (taken : Option Test) (lines : List CodeLine) (exit : Exit) → 0 < length (ended_code distance next first frame taken lines exit)
ended_some distance next first frame taken [] exit = bare_some distance next first frame taken exit
ended_some distance next first frame taken (line ∷ lines) exit = omega arith

-- a block's own lines cost no more than all of its lines
sum_left : (f : Line → ℕ) (xs ys : List Line) → sum_of f xs ≤ sum_of f (xs ++ ys)
sum_left f [] ys = omega arith
sum_left f (x ∷ xs) ys = let h = sum_left f xs ys in omega arith

starts_left : (xs ys : List Line) → StartsWithCut xs → StartsWithCut (xs ++ ys)
starts_left [] ys h = absurd h
starts_left (Cut cause ∷ xs) ys h = tt
starts_left (x ∷ xs) ys h = absurd h

apart_left : (xs ys : List Line) → CutsApart (xs ++ ys) → CutsApart xs
apart_left [] ys h = tt
apart_left (Cut cause ∷ xs) ys h = ((λ s. h.0 (starts_left xs ys s)), apart_left xs ys h.1)
apart_left (x ∷ xs) ys h = apart_left xs ys h

block_few : (at : Name → ℕ) (m : ℕ → ℕ) (live : ℕ → ℕ → Bool) (leads : ℕ → ℕ) (distance : Distance) (next : Option ℕ) (first frame b : ℕ) (block : Block) → CutsApart block.lines.items → length (block_code at m live leads distance next first frame b block) ≤ placed_block_cost block
block_few at m live leads distance next first frame b block h =
    let taken : Option Test = taken_test live block.lines.items block.exit in
    let own : List Line = own_lines taken block.lines.items in
    let t = takes live block.lines.items block.exit in
    let needed : ℕ → ℕ → Bool = behind_each live block.lines.items block.exit in
    let p = paid at m needed None 0 own (apart_left own t.tail (subst CutsApart (sym t.whole) h)) in
    let o = p.most in
    let s = sum_left with_cut own t.tail in
    let w = ap (sum_of with_cut) t.whole in
    let lines : List CodeLine = lines_code at m needed None 0 own in
    let exit : List CodeLine = exit_code distance next (is_empty lines) first frame taken (led leads block.exit) in
    let q = exit_few distance next (is_empty lines) first frame taken (led leads block.exit) in
    let same = led_words leads block.exit in
    let e = length-append lines exit in
    let l = length_labelled (first + b) (lines ++ exit) in
    omega arith

-- in no block two cuts stand side by side
abbrev pub Apart : List Block → Type 0
Apart blocks = (b : ℕ) (block : Block) → slice_get blocks b ≡ Some block → CutsApart block.lines.items

found_few : (laying : Laying) (b : ℕ) (next : Option ℕ) (block : Option Block) → ((x : Block) → block ≡ Some x → CutsApart x.lines.items) → length (found_code laying b next block) ≤ cost_found block
found_few laying b next None h = omega arith
found_few laying b next (Some block) h = block_few laying.at (laying.cut b) laying.live (leads_of laying) laying.distance next laying.first laying.frame b block (h block refl)

laid_few : (laying : Laying) (order : List ℕ) → Apart laying.blocks → length (laid_code laying order) ≤ cost_in laying.blocks order
laid_few laying [] h = omega arith
laid_few laying (b ∷ rest) h =
    let own = found_few laying b (next_label laying.first rest) (slice_get laying.blocks b) (λ x e. h b x e) in
    let later = laid_few laying rest h in
    let e = length-append (laid_block laying b rest) (laid_code laying rest) in
    omega arith

prologue_few : (frame : ℕ) → length (prologue_code frame) ≤ 8
prologue_few frame = then_few (adds_code 6 (2 ^ 32 - frame)) enter_code 3 5 (adds_few 6 (2 ^ 32 - frame)) (omega arith)

pub function_few : (i : ℕ) (laying : Laying) (f : Function) → laying.blocks ≡ f.blocks.items → laying.entry < length laying.blocks → Apart laying.blocks → length (function_code i laying) ≤ placed_cost f
function_few i laying f same within h =
    let head : List CodeLine = prologue_code laying.frame in
    let rest : List CodeLine = blocks_code laying in
    let a = prologue_few laying.frame in
    let l = length_labelled (entry_label i) head in
    let b = laid_few laying (kept_order laying) h in
    let k = kept_cost laying.blocks (leads_of laying) (laid_order laying.entry (length laying.blocks)) in
    let c = order_cost laying.blocks laying.entry within in
    let s = ap (sum_of placed_block_cost) same in
    let e = length-append (labelled (entry_label i) head) rest in
    omega arith
