-- A line of a program links x3 just where it has a cause.
use Rattle.std.proofs.Common.{◌≡◌, ℕ, zero, suc, ◌+◌, ◌-◌, ◌^◌, inl, inr, Bool, true, false, List, [], ◌∷◌, ◌++◌, Option, Some, None, length, map, refl, sym, ap, ◌∙◌, subst, arith}
use Rattle.std.specs.Prelude.{not, ◌&&◌, ◌==◌, if◌then◌else◌, slice_get}
use Rattle.std.proofs.lemmas.Option.{slice_get_cases, slice_get_within}
use Rattle.im_num.specs.declared.kind.Kind.TheVariants.{I8, U8, I16, U16, I32, U32, Ptr}
use Rattle.im_num.specs.Kinds.{word}
use Rattle.im_rv.specs.declared.instr.Op.{Op}
use Rattle.im_rv.specs.declared.instr.Op.TheVariants.{Jal, Sltiu, Sltu}
use Rattle.im_rv.specs.declared.code.Line.{Line as RustLine}
use Rattle.im_rv.specs.declared.code.Part.{Part}
use Rattle.im_rv.specs.Decode.{Line as Instruction}
use Rattle.im_rv.specs.Lines.{CodeLine, plain_line, code_line, code_lines}
use Rattle.im_rv_reach.specs.Instructions.{with_immediate, on_registers, upper}
use Rattle.im_gap.specs.declared.flow.Turn.TheVariants.{Passes, Jumps}
use Rattle.im_gap.specs.Flow.{links_by}
use Rattle.im_link.specs.Parts.{IsPart, lines_of}
use Rattle.im_ckpt.specs.Recovery.{recovery}
use Rattle.im_ckpt.specs.Checkpoint.{checkpoint_code}
use Rattle.im_rtlib.specs.Laws.{is_cut}
use Rattle.im_rtlib.specs.Routines.{getchar, putchar, stack, exit}
use Rattle.im_store.specs.declared.operators.UnaryOp.TheVariants.{Negate, Complement}
use Rattle.im_store.specs.declared.operators.Comparison.{Comparison}
use Rattle.im_store.specs.declared.operators.Comparison.TheVariants.{Less, Greater, LessOrEqual, GreaterOrEqual, Equal, NotEqual}
use Rattle.im_store.specs.Objects.{Name, Slot}
use Rattle.im_select_relation.specs.OperatorTables.{operation, less_op, load_op, store_op}
use Rattle.im_block.specs.declared.code.Place.{Place}
use Rattle.im_block.specs.declared.code.Place.TheVariants.{Static, Local, Through}
use Rattle.im_block.specs.declared.code.Line.{Line}
use Rattle.im_block.specs.declared.code.Line.TheVariants.{Put, PutNull, Copy, Convert, Unary, Not, Compute, Compare, Move, Distance, Address, Read, Write, Reload, Spill, Cut, Call, Serve}
use Rattle.im_block.specs.declared.code.Exit.{Exit}
use Rattle.im_block.specs.declared.code.Exit.TheVariants.{Jump, Turn, Branch, Return}
use Rattle.im_block.specs.declared.code.Block.{Block}
use Rattle.im_block.specs.declared.unit.Function.{Function}
use Rattle.im_block.specs.declared.unit.Unit.{Unit as Code}
use Rattle.im_frame.specs.declared.layout.Layout.{Layout}
use Rattle.im_select.specs.Leads.{led}
use Rattle.im_select.specs.declared.branching.Test.{Test}
use Rattle.im_select.specs.declared.distance.Distance.{Distance as Reach}
use Rattle.im_select.specs.declared.distance.Distance.TheVariants.{Near, Far}
use Rattle.im_select.specs.declared.folding.Constant.{Constant}
use Rattle.im_select.specs.Emitted.{high_of, low_of, constant_by, constant_code, displaced_by, displaced_code, adds_by, adds_code, place_number, place_code, moved_code, copied_code, step_op, shift_of, shifts_code, scaled_code, based_code, address_code, computed_code, constant_line, comparison_line, compared_code, comparison_rest, passed_by, by_or, stored_from, way_code, line_code, lines_code, behind_each, onward_code, test_op, test_code, test_or, taken_test, own_lines, is_next, branch_code, exit_code, is_empty, result_code, leave_code, block_code, kept_order, Laying, leads_of, next_label, found_code, laid_block, laid_code, blocks_code, prologue_code, function_code, labelled, entry_label}
use Rattle.im_select.specs.Selects.{laying_of}
use Rattle.im_link_laws.specs.Program.{HasCode, part_of, given_at, start_code, IsProgram}
use Rattle.im_saved_code.specs.Scan.{way}
use Rattle.im_saved_code.proofs.Scanning.{both}
use Rattle.im_saved_code.proofs.Working.{constant_way, comparison_way}
use Rattle.im_saved_code.proofs.Plain.{operation_way, less_way, load_way, store_way, step_way}

abbrev pub IsMarked : CodeLine → Type 0
IsMarked l = links_by l.line.op 3 l.line.rd ≡ is_cut l.cause

abbrev pub AreMarked : List CodeLine → Type 0
AreMarked [] = Unit {0}
AreMarked (l ∷ ls) = IsMarked l × AreMarked ls

marked_append : (xs ys : List CodeLine) → AreMarked xs → AreMarked ys → AreMarked (xs ++ ys)
marked_append [] ys a b = b
marked_append (x ∷ xs) ys a b = (a.0, marked_append xs ys a.1 b)

unlinked : (op : Op) (rd : ℕ) → way op ≡ Passes → links_by op 3 rd ≡ false
unlinked Jal rd e = (let bad : Jumps ≡ Passes = e in cc)
unlinked op rd e = refl

-- ---- lines that are written out

abbrev same : Bool → Bool → Bool
same true b = b
same false b = not b

same_is : (a b : Bool) → same a b ≡ true → a ≡ b
same_is true b e = sym e
same_is false true e = cc
same_is false false e = refl

abbrev marked_test : List CodeLine → Bool
marked_test [] = true
marked_test (l ∷ ls) = same (links_by l.line.op 3 l.line.rd) (is_cut l.cause) && marked_test ls

tested : (xs : List CodeLine) → marked_test xs ≡ true → AreMarked xs
tested [] t = tt
tested (x ∷ xs) t =
    let a = both (same (links_by x.line.op 3 x.line.rd) (is_cut x.cause)) (marked_test xs) t in
    (same_is (links_by x.line.op 3 x.line.rd) (is_cut x.cause) a.0, tested xs a.1)

recovery_marked : AreMarked (map plain_line recovery)
recovery_marked = tested (map plain_line recovery) refl

checkpoint_marked : AreMarked checkpoint_code
checkpoint_marked = tested checkpoint_code refl

getchar_marked : AreMarked getchar
getchar_marked = tested getchar refl

putchar_marked : AreMarked putchar
putchar_marked = tested putchar refl

stack_marked : AreMarked stack
stack_marked = tested stack refl

start_marked : (main : ℕ) → AreMarked (start_code main)
start_marked main = (refl, tested exit refl)

-- ---- selected lines

constant_marked : (rd n : ℕ) → AreMarked (constant_code rd n)
constant_marked rd n = by (high_of n == 0)
  where
    by : (b : Bool) → AreMarked (constant_by b rd (high_of n) (low_of n))
    by true = (refl, tt)
    by false = (refl, (refl, tt))

displaced_marked : (r n : ℕ) → AreMarked (displaced_code r n)
displaced_marked r n = by (high_of n == 0)
  where
    by : (b : Bool) → AreMarked (displaced_by b r (high_of n))
    by true = tt
    by false = (refl, (refl, tt))

adds_marked : (rd n : ℕ) → AreMarked (adds_code rd n)
adds_marked rd n = by (high_of n == 0)
  where
    by : (b : Bool) → AreMarked (adds_by b rd n)
    by true = (refl, tt)
    by false = marked_append (constant_code 5 n) _ (constant_marked 5 n) (refl, tt)

place_marked : (place : Place) (n : ℕ) → AreMarked (place_code place n)
place_marked (Static object offset) n = (refl, tt)
place_marked (Local object offset) n = displaced_marked 2 n
place_marked (Through r offset) n = displaced_marked r n

copied_marked : (to from : ℕ) → AreMarked (copied_code to from)
copied_marked to from = by (to == from)
  where
    by : (b : Bool) → AreMarked (if b then [] else moved_code to from)
    by true = tt
    by false = (refl, tt)

shifts_marked : (bits : Option ℕ) (size by : ℕ) → AreMarked (shifts_code bits size by)
shifts_marked None size by = marked_append (constant_code 5 size) _ (constant_marked 5 size) (refl, tt)
shifts_marked (Some bits) size by = (refl, tt)

scaled_marked : (size by : ℕ) → AreMarked (scaled_code size by)
scaled_marked size by = one (size == 1)
  where
    one : (b : Bool) → AreMarked (if b then [] else shifts_code (shift_of size) size by)
    one true = tt
    one false = shifts_marked (shift_of size) size by

based_marked : (to : ℕ) (place : Place) (n : ℕ) → AreMarked (based_code to place n)
based_marked to place n = marked_append (place_code place n) _ (place_marked place n) (refl, tt)

address_marked : (to : ℕ) (place : Place) (n : ℕ) → AreMarked (address_code to place n)
address_marked to (Static object offset) n = by (low_of n == 0)
  where
    by : (b : Bool) → AreMarked (if b then plain_line (upper to (high_of n)) ∷ [] else based_code to (Static object offset) n)
    by true = (refl, tt)
    by false = based_marked to (Static object offset) n
address_marked to (Local object offset) n = based_marked to (Local object offset) n
address_marked to (Through r offset) n = based_marked to (Through r offset) n

line_marked : (at : Name → ℕ) (m : ℕ) (line : Line) → AreMarked (line_code at m line)
line_marked at m (Put to z) = constant_marked to (word z)
line_marked at m (PutNull to) = (refl, tt)
line_marked at m (Copy to from) = copied_marked to from
line_marked at m (Convert to I8 from) = (refl, (refl, tt))
line_marked at m (Convert to U8 from) = (refl, tt)
line_marked at m (Convert to I16 from) = (refl, (refl, tt))
line_marked at m (Convert to U16 from) = (refl, (refl, tt))
line_marked at m (Convert to I32 from) = copied_marked to from
line_marked at m (Convert to U32 from) = copied_marked to from
line_marked at m (Convert to Ptr from) = copied_marked to from
line_marked at m (Unary to Negate kind from) = (refl, tt)
line_marked at m (Unary to Complement kind from) = (refl, tt)
line_marked at m (Not to from) = (refl, tt)
line_marked at m (Compute to op kind left right) = (unlinked (operation op kind) to (operation_way op kind), tt)
line_marked at m (Compare to Less kind left right) = (unlinked (less_op kind) to (less_way kind), tt)
line_marked at m (Compare to Greater kind left right) = (unlinked (less_op kind) to (less_way kind), tt)
line_marked at m (Compare to LessOrEqual kind left right) = (unlinked (less_op kind) to (less_way kind), (refl, tt))
line_marked at m (Compare to GreaterOrEqual kind left right) = (unlinked (less_op kind) to (less_way kind), (refl, tt))
line_marked at m (Compare to Equal kind left right) = (refl, (refl, tt))
line_marked at m (Compare to NotEqual kind left right) = (refl, (refl, tt))
line_marked at m (Move to size back pointer by) = marked_append (scaled_code size by) _ (scaled_marked size by) (unlinked (step_op back) to (step_way back), tt)
line_marked at m (Distance to size left right) = (refl, marked_append (constant_code 6 size) _ (constant_marked 6 size) (refl, tt))
line_marked at m (Address to place) = address_marked to place (place_number at place)
line_marked at m (Read to place kind access) = marked_append (place_code place (place_number at place)) _ (place_marked place (place_number at place)) (unlinked (load_op kind) to (load_way kind), tt)
line_marked at m (Write place kind from access) = marked_append (place_code place (place_number at place)) _ (place_marked place (place_number at place)) (unlinked (store_op kind) 0 (store_way kind), tt)
line_marked at m (Reload to slot access) = marked_append (displaced_code 2 (at (Slot slot))) _ (displaced_marked 2 (at (Slot slot))) (refl, tt)
line_marked at m (Spill slot from access) = marked_append (displaced_code 2 (at (Slot slot))) _ (displaced_marked 2 (at (Slot slot))) (refl, tt)
line_marked at m (Cut cause) = (refl, tt)
line_marked at m (Call to i first count) = (refl, tt)
line_marked at m (Serve to service None) = (refl, tt)
line_marked at m (Serve to service (Some from)) = (refl, tt)

weighed_marked : (to : ℕ) (op : Comparison) (n : ℕ) → AreMarked (comparison_rest to op n)
weighed_marked to Less n = tt
weighed_marked to Greater n = (refl, tt)
weighed_marked to LessOrEqual n = tt
weighed_marked to GreaterOrEqual n = (refl, tt)
weighed_marked to Equal n = by (n == 0)
  where
    by : (b : Bool) → AreMarked (if b then [] else plain_line (with_immediate Sltiu to 5 1) ∷ [])
    by true = tt
    by false = (refl, tt)
weighed_marked to NotEqual n = by (n == 0)
  where
    by : (b : Bool) → AreMarked (if b then [] else plain_line (on_registers Sltu to 0 5) ∷ [])
    by true = tt
    by false = (refl, tt)

way_marked : (at : Name → ℕ) (m : ℕ) (passed before : Option Constant) (line : Line) → AreMarked (way_code at m passed before line)
way_marked at m None before (Put to z) = constant_marked to (word z)
way_marked at m (Some c) before (Put to z) = tt
way_marked at m None before (PutNull to) = line_marked at m (PutNull to)
way_marked at m (Some c) before (PutNull to) = tt
way_marked at m passed None (Compute to op kind left right) = line_marked at m (Compute to op kind left right)
way_marked at m passed (Some c) (Compute to op kind left right) = by (constant_line to op kind left right c) refl
  where
    by : (o : Option Instruction) → constant_line to op kind left right c ≡ o → AreMarked (by_or (computed_code to op kind left right) o [])
    by None e = line_marked at m (Compute to op kind left right)
    by (Some l) e = (unlinked l.op l.rd (constant_way to op kind left right c l e), tt)
way_marked at m passed None (Compare to op kind left right) = line_marked at m (Compare to op kind left right)
way_marked at m passed (Some c) (Compare to op kind left right) = by (comparison_line to op kind left right c) refl
  where
    by : (o : Option Instruction) → comparison_line to op kind left right c ≡ o → AreMarked (by_or (compared_code to (less_op kind) left right op) o (comparison_rest to op c.word))
    by None e = line_marked at m (Compare to op kind left right)
    by (Some l) e = (unlinked l.op l.rd (comparison_way to op kind left right c l e), weighed_marked to op c.word)
way_marked at m passed before (Write place kind from access) = line_marked at m (Write place kind (stored_from before from) access)
way_marked at m passed before line = line_marked at m line

lines_marked : (at : Name → ℕ) (m : ℕ → ℕ) (needed : ℕ → ℕ → Bool) (before : Option Constant) (j : ℕ) (lines : List Line) → AreMarked (lines_code at m needed before j lines)
lines_marked at m needed before j [] = tt
lines_marked at m needed before j (line ∷ lines) =
    let passed : Option Constant = passed_by (needed (suc j)) line lines in
    marked_append (way_code at (m j) passed before line) (lines_code at m needed passed (suc j) lines) (way_marked at (m j) passed before line) (lines_marked at m needed passed (suc j) lines)

result_marked : (from : Option ℕ) → AreMarked (result_code from)
result_marked None = (refl, tt)
result_marked (Some r) = tt

leave_marked : (frame : ℕ) → AreMarked (leave_code frame)
leave_marked frame = (refl, marked_append (adds_code 2 frame) _ (adds_marked 2 frame) (refl, tt))

onward_marked : (falls : Bool) (label : ℕ) → AreMarked (onward_code falls label)
onward_marked true label = tt
onward_marked false label = (refl, tt)

-- what writes no register links nothing
zero_unlinked : (op : Op) → links_by op 3 0 ≡ false
zero_unlinked Jal = refl
zero_unlinked op = refl

test_marked : (distance : Reach) (holds : Bool) (t : Test) (label : ℕ) → AreMarked (test_code distance holds t label)
test_marked Near holds t label = (zero_unlinked (test_op holds t), tt)
test_marked Far holds t label = (zero_unlinked (test_op (not holds) t), (refl, tt))

branch_marked : (distance : Reach) (next : Option ℕ) (t : Test) (there other : ℕ) → AreMarked (branch_code distance next t there other)
branch_marked distance next t there other = by (is_next next there)
  where
    rest : List CodeLine
    rest = onward_code (is_next next other) other

    by : (q : Bool) → AreMarked (if q then test_code distance false t other else test_code distance true t there ++ rest)
    by true = test_marked distance false t other
    by false = marked_append (test_code distance true t there) rest (test_marked distance true t there) (onward_marked (is_next next other) other)

exit_marked : (distance : Reach) (next : Option ℕ) (bare : Bool) (first frame : ℕ) (taken : Option Test) (exit : Exit) → AreMarked (exit_code distance next bare first frame taken exit)
exit_marked distance next bare first frame taken (Jump b) = onward_marked (not bare && is_next next (first + b)) (first + b)
exit_marked distance next bare first frame taken (Turn b) = (refl, tt)
exit_marked distance next bare first frame taken (Branch on x y) = branch_marked distance next (test_or taken on) (first + x) (first + y)
exit_marked distance next bare first frame taken (Return from) = marked_append (result_code from) (leave_code frame) (result_marked from) (leave_marked frame)

labelled_marked : (label : ℕ) (lines : List CodeLine) → AreMarked lines → AreMarked (labelled label lines)
labelled_marked label [] a = tt
labelled_marked label (x ∷ xs) a = (a.0, a.1)

block_marked : (at : Name → ℕ) (m : ℕ → ℕ) (live : ℕ → ℕ → Bool) (leads : ℕ → ℕ) (distance : Reach) (next : Option ℕ) (first frame b : ℕ) (block : Block) → AreMarked (block_code at m live leads distance next first frame b block)
block_marked at m live leads distance next first frame b block =
    let taken : Option Test = taken_test live block.lines.items block.exit in
    let own : List Line = own_lines taken block.lines.items in
    let needed : ℕ → ℕ → Bool = behind_each live block.lines.items block.exit in
    let lines : List CodeLine = lines_code at m needed None 0 own in
    let ends : List CodeLine = exit_code distance next (is_empty lines) first frame taken (led leads block.exit) in
    labelled_marked (first + b) (lines ++ ends)
    (marked_append lines ends (lines_marked at m needed None 0 own) (exit_marked distance next (is_empty lines) first frame taken (led leads block.exit)))

found_marked : (laying : Laying) (b : ℕ) (next : Option ℕ) (o : Option Block) → AreMarked (found_code laying b next o)
found_marked laying b next None = tt
found_marked laying b next (Some block) = block_marked laying.at (laying.cut b) laying.live (leads_of laying) laying.distance next laying.first laying.frame b block

laid_marked : (laying : Laying) (order : List ℕ) → AreMarked (laid_code laying order)
laid_marked laying [] = tt
laid_marked laying (b ∷ order) =
    marked_append (laid_block laying b order) (laid_code laying order) (found_marked laying b (next_label laying.first order) (slice_get laying.blocks b)) (laid_marked laying order)

prologue_marked : (frame : ℕ) → AreMarked (prologue_code frame)
prologue_marked frame =
    marked_append (adds_code 6 (2 ^ 32 - frame)) _ (adds_marked 6 (2 ^ 32 - frame)) (refl, (refl, (refl, (refl, (refl, tt)))))

function_marked : (i : ℕ) (laying : Laying) → AreMarked (function_code i laying)
function_marked i laying =
    marked_append (labelled (entry_label i) (prologue_code laying.frame)) (blocks_code laying)
    (labelled_marked (entry_label i) (prologue_code laying.frame) (prologue_marked laying.frame))
    (laid_marked laying (kept_order laying))

-- ---- the lines of all parts

-- the lines of a part are its code
pub code_is : (parts : List Part) (p : ℕ) (part : Part) (code : List CodeLine) → IsPart parts p part → HasCode parts p code → code_lines part.lines.items ≡ code
code_is parts p part code a c = let b = c.is_part in let one : part ≡ c.part = cc in ap (λ (z : Part). code_lines z.lines.items) one ∙ c.lines

abbrev AllMarked : List RustLine → Type 0
AllMarked [] = Unit {0}
AllMarked (x ∷ xs) = IsMarked (code_line x) × AllMarked xs

all_of : (xs : List RustLine) → AreMarked (code_lines xs) → AllMarked xs
all_of [] a = tt
all_of (x ∷ xs) a = (a.0, all_of xs a.1)

all_append : (xs ys : List RustLine) → AllMarked xs → AllMarked ys → AllMarked (xs ++ ys)
all_append [] ys a b = b
all_append (x ∷ xs) ys a b = (a.0, all_append xs ys a.1 b)

all_parts : (parts : List Part) → ((p : ℕ) (part : Part) → slice_get parts p ≡ Some part → AllMarked part.lines.items) → AllMarked (lines_of parts)
all_parts [] k = tt
all_parts (x ∷ xs) k = all_append x.lines.items (lines_of xs) (k 0 x refl) (all_parts xs (λ p part e. k (suc p) part e))

marked_at : (xs : List RustLine) (i : ℕ) (line : RustLine) → AllMarked xs → slice_get xs i ≡ Some line → IsMarked (code_line line)
marked_at [] i line a e = absurd cc
marked_at (x ∷ xs) zero line a e = let one : x ≡ line = cc in subst (λ (z : RustLine). IsMarked (code_line z)) one a.0
marked_at (x ∷ xs) (suc i) line a e = marked_at xs i line a.1 e

module _ (u : Code) (statics : List ℕ) (layouts : List Layout) (parts : List Part) (program : IsProgram u statics layouts parts) where
  by_code : (p : ℕ) (part : Part) (code : List CodeLine) → IsPart parts p part → HasCode parts p code → AreMarked code → AllMarked part.lines.items
  by_code p part code is_part has marked = all_of part.lines.items (subst AreMarked (sym (code_is parts p part code is_part has)) marked)

  function_part : (i : ℕ) (f : Function) → slice_get u.functions.items i ≡ Some f → (part : Part) → IsPart parts (part_of i) part → AllMarked part.lines.items
  function_part i f e part is_part =
      let own = program.functions i f e in
      let exact = own.selection.exact in
      by_code (part_of i) part own.code is_part own.there
      (subst AreMarked (sym exact.lines_are)
      (function_marked i (laying_of (given_at u.functions.items statics i f own.layout) exact.live exact.distance)))

  part_marked : (p : ℕ) (part : Part) → IsPart parts p part → AllMarked part.lines.items
  part_marked zero part e = by_code 0 part _ e program.recovers recovery_marked
  part_marked (suc zero) part e = by_code 1 part _ e program.saves checkpoint_marked
  part_marked (suc (suc zero)) part e = by_code 2 part _ e program.gets getchar_marked
  part_marked (suc (suc (suc zero))) part e = by_code 3 part _ e program.puts putchar_marked
  part_marked (suc (suc (suc (suc zero)))) part e = by_code 4 part _ e program.stops stack_marked
  part_marked (suc (suc (suc (suc (suc i))))) part e = elim (slice_get_cases u.functions.items i).1 [
    | inl c ↦ (let q : suc (suc (suc (suc (suc i)))) ≡ part_of i = omega arith in function_part i c.0 c.2 part (subst (λ z. IsPart parts z part) q e))
    | inr c ↦
        (let le = c.0 in
        let count = program.count in
        let within = slice_get_within parts (suc (suc (suc (suc (suc i))))) part e in
        let q : suc (suc (suc (suc (suc i)))) ≡ part_of (length u.functions.items) = omega arith in
        by_code (part_of (length u.functions.items)) part (start_code u.main) (subst (λ z. IsPart parts z part) q e) program.begins (start_marked u.main))
  ]

  -- line i of the code links x3 where it has a cause, and nowhere else
  pub line_is_marked : (i : ℕ) (line : RustLine) → slice_get (lines_of parts) i ≡ Some line → IsMarked (code_line line)
  line_is_marked i line e = marked_at (lines_of parts) i line (all_parts parts part_marked) e
