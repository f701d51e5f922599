-- Accesses and causes of lines are those of the placed code, in order.
use Rattle.std.proofs.Common.{◌≡◌, ℕ, Bool, true, false, Option, Some, None, suc, ◌+◌, ◌-◌, ◌^◌, List, [], ◌∷◌, ◌++◌, length, refl, ap, ◌∙◌}
use Rattle.std.specs.Prelude.{◌&&◌, not, if◌then◌else◌, slice_get}
use Rattle.std.proofs.lemmas.List.{append-nil}
use Rattle.im_num.specs.declared.kind.Kind.TheVariants.{I8, U8, I16, U16, I32, U32, Ptr}
use Rattle.im_num.specs.Kinds.{word}
use Rattle.im_rv.specs.Decode.{Line as Instruction}
use Rattle.im_rv.specs.Lines.{CodeLine}
use Rattle.im_select_relation.specs.OperatorTables.{less_op}
use Rattle.im_store.specs.declared.operators.UnaryOp.TheVariants.{Negate, Complement}
use Rattle.im_store.specs.declared.operators.Comparison.TheVariants.{Less, Greater, LessOrEqual, GreaterOrEqual, Equal, NotEqual}
use Rattle.im_store.specs.Objects.{Name, Slot}
use Rattle.im_block.specs.declared.code.Line.{Line}
use Rattle.im_block.specs.declared.code.Line.TheVariants.{Put, PutNull, Copy, Convert, Unary, Not, Compute, Compare, Move, Distance as Measure, Address, Read, Write, Reload, Spill, Cut, Call, Serve}
use Rattle.im_block.specs.declared.code.Exit.{Exit}
use Rattle.im_block.specs.declared.code.Exit.TheVariants.{Jump, Turn, Branch, Return}
use Rattle.im_block.specs.declared.code.Block.{Block}
use Rattle.im_block.specs.Wellformed.{accesses_of_line, accesses_of_lines, accesses_of_blocks}
use Rattle.im_select.specs.Leads.{led}
use Rattle.im_select.specs.declared.branching.Test.{Test}
use Rattle.im_select.specs.declared.distance.Distance.{Distance}
use Rattle.im_select.specs.declared.distance.Distance.TheVariants.{Near, Far}
use Rattle.im_select.specs.declared.folding.Constant.{Constant}
use Rattle.im_select.specs.Emitted.{constant_code, displaced_code, adds_code, place_number, place_code, copied_code, scaled_code, address_code, computed_code, constant_line, comparison_line, compared_code, comparison_rest, passed_by, by_or, stored_from, way_code, line_code, lines_code, behind_each, onward_code, test_code, test_or, taken_test, own_lines, is_next, branch_code, exit_code, is_empty, block_code, Laying, leads_of, next_label, found_code, laid_block, laid_code, laid_order, kept_order, blocks_code, enter_code, prologue_code, function_code, labelled, entry_label}
use Rattle.im_select.specs.Selects.{accesses_in, causes_in, causes_of_line, causes_of_lines, causes_of_blocks, if_found, blocks_at, laid_blocks}
use Rattle.im_select.proofs.Following.{kept_accesses, kept_causes}
use Rattle.im_select.proofs.Taking.{IsTaken, Nothing, Comparing, Zeroing, zero_line, takes}
use Rattle.im_select.proofs.Plain.{weighed_bare, constant_bare, displaced_bare, adds_bare, place_bare, copied_bare, scaled_bare, address_bare, accesses_append, causes_append, bare_accesses, bare_causes, accesses_behind, causes_behind, accesses_labelled, causes_labelled}

line_accesses : (at : Name → ℕ) (m : ℕ) (line : Line) → accesses_in (line_code at m line) ≡ accesses_of_line line
line_accesses at m (Put to z) = bare_accesses (constant_code to (word z)) (constant_bare to (word z))
line_accesses at m (PutNull to) = refl
line_accesses at m (Copy to from) = bare_accesses (copied_code to from) (copied_bare to from)
line_accesses at m (Convert to I8 from) = refl
line_accesses at m (Convert to U8 from) = refl
line_accesses at m (Convert to I16 from) = refl
line_accesses at m (Convert to U16 from) = refl
line_accesses at m (Convert to I32 from) = bare_accesses (copied_code to from) (copied_bare to from)
line_accesses at m (Convert to U32 from) = bare_accesses (copied_code to from) (copied_bare to from)
line_accesses at m (Convert to Ptr from) = bare_accesses (copied_code to from) (copied_bare to from)
line_accesses at m (Unary to Negate kind from) = refl
line_accesses at m (Unary to Complement kind from) = refl
line_accesses at m (Not to from) = refl
line_accesses at m (Compute to op kind left right) = refl
line_accesses at m (Compare to Less kind left right) = refl
line_accesses at m (Compare to Greater kind left right) = refl
line_accesses at m (Compare to LessOrEqual kind left right) = refl
line_accesses at m (Compare to GreaterOrEqual kind left right) = refl
line_accesses at m (Compare to Equal kind left right) = refl
line_accesses at m (Compare to NotEqual kind left right) = refl
line_accesses at m (Move to size back pointer by) = accesses_behind (scaled_code size by) _ (scaled_bare size by)
line_accesses at m (Measure to size left right) = accesses_behind (constant_code 6 size) _ (constant_bare 6 size)
line_accesses at m (Address to place) = bare_accesses (address_code to place (place_number at place)) (address_bare to place (place_number at place))
line_accesses at m (Read to place kind access) = accesses_behind (place_code place (place_number at place)) _ (place_bare place (place_number at place))
line_accesses at m (Write place kind from access) = accesses_behind (place_code place (place_number at place)) _ (place_bare place (place_number at place))
line_accesses at m (Reload to slot access) = accesses_behind (displaced_code 2 (at (Slot slot))) _ (displaced_bare 2 (at (Slot slot)))
line_accesses at m (Spill slot from access) = accesses_behind (displaced_code 2 (at (Slot slot))) _ (displaced_bare 2 (at (Slot slot)))
line_accesses at m (Cut cause) = refl
line_accesses at m (Call to i first count) = refl
line_accesses at m (Serve to service None) = refl
line_accesses at m (Serve to service (Some from)) = refl

line_causes : (at : Name → ℕ) (m : ℕ) (line : Line) → causes_in (line_code at m line) ≡ causes_of_line line
line_causes at m (Put to z) = bare_causes (constant_code to (word z)) (constant_bare to (word z))
line_causes at m (PutNull to) = refl
line_causes at m (Copy to from) = bare_causes (copied_code to from) (copied_bare to from)
line_causes at m (Convert to I8 from) = refl
line_causes at m (Convert to U8 from) = refl
line_causes at m (Convert to I16 from) = refl
line_causes at m (Convert to U16 from) = refl
line_causes at m (Convert to I32 from) = bare_causes (copied_code to from) (copied_bare to from)
line_causes at m (Convert to U32 from) = bare_causes (copied_code to from) (copied_bare to from)
line_causes at m (Convert to Ptr from) = bare_causes (copied_code to from) (copied_bare to from)
line_causes at m (Unary to Negate kind from) = refl
line_causes at m (Unary to Complement kind from) = refl
line_causes at m (Not to from) = refl
line_causes at m (Compute to op kind left right) = refl
line_causes at m (Compare to Less kind left right) = refl
line_causes at m (Compare to Greater kind left right) = refl
line_causes at m (Compare to LessOrEqual kind left right) = refl
line_causes at m (Compare to GreaterOrEqual kind left right) = refl
line_causes at m (Compare to Equal kind left right) = refl
line_causes at m (Compare to NotEqual kind left right) = refl
line_causes at m (Move to size back pointer by) = causes_behind (scaled_code size by) _ (scaled_bare size by)
line_causes at m (Measure to size left right) = causes_behind (constant_code 6 size) _ (constant_bare 6 size)
line_causes at m (Address to place) = bare_causes (address_code to place (place_number at place)) (address_bare to place (place_number at place))
line_causes at m (Read to place kind access) = causes_behind (place_code place (place_number at place)) _ (place_bare place (place_number at place))
line_causes at m (Write place kind from access) = causes_behind (place_code place (place_number at place)) _ (place_bare place (place_number at place))
line_causes at m (Reload to slot access) = causes_behind (displaced_code 2 (at (Slot slot))) _ (displaced_bare 2 (at (Slot slot)))
line_causes at m (Spill slot from access) = causes_behind (displaced_code 2 (at (Slot slot))) _ (displaced_bare 2 (at (Slot slot)))
line_causes at m (Cut cause) = refl
line_causes at m (Call to i first count) = refl
line_causes at m (Serve to service None) = refl
line_causes at m (Serve to service (Some from)) = refl

way_accesses : (at : Name → ℕ) (m : ℕ) (passed before : Option Constant) (line : Line) → accesses_in (way_code at m passed before line) ≡ accesses_of_line line
way_accesses at m None before (Put to z) = line_accesses at m (Put to z)
way_accesses at m (Some c) before (Put to z) = refl
way_accesses at m None before (PutNull to) = line_accesses at m (PutNull to)
way_accesses at m (Some c) before (PutNull to) = refl
way_accesses at m passed None (Compute to op kind left right) = refl
way_accesses at m passed (Some c) (Compute to op kind left right) = by (constant_line to op kind left right c)
  where
    by : (o : Option Instruction) → accesses_in (by_or (computed_code to op kind left right) o []) ≡ []
    by None = refl
    by (Some l) = refl
way_accesses at m passed None (Compare to op kind left right) = line_accesses at m (Compare to op kind left right)
way_accesses at m passed (Some c) (Compare to op kind left right) = by (comparison_line to op kind left right c)
  where
    by : (o : Option Instruction) → accesses_in (by_or (compared_code to (less_op kind) left right op) o (comparison_rest to op c.word)) ≡ []
    by None = line_accesses at m (Compare to op kind left right)
    by (Some l) = bare_accesses (comparison_rest to op c.word) (weighed_bare to op c.word)
way_accesses at m passed before (Write place kind from access) = line_accesses at m (Write place kind (stored_from before from) access)
way_accesses at m passed before line = line_accesses at m line

way_causes : (at : Name → ℕ) (m : ℕ) (passed before : Option Constant) (line : Line) → causes_in (way_code at m passed before line) ≡ causes_of_line line
way_causes at m None before (Put to z) = line_causes at m (Put to z)
way_causes at m (Some c) before (Put to z) = refl
way_causes at m None before (PutNull to) = line_causes at m (PutNull to)
way_causes at m (Some c) before (PutNull to) = refl
way_causes at m passed None (Compute to op kind left right) = refl
way_causes at m passed (Some c) (Compute to op kind left right) = by (constant_line to op kind left right c)
  where
    by : (o : Option Instruction) → causes_in (by_or (computed_code to op kind left right) o []) ≡ []
    by None = refl
    by (Some l) = refl
way_causes at m passed None (Compare to op kind left right) = line_causes at m (Compare to op kind left right)
way_causes at m passed (Some c) (Compare to op kind left right) = by (comparison_line to op kind left right c)
  where
    by : (o : Option Instruction) → causes_in (by_or (compared_code to (less_op kind) left right op) o (comparison_rest to op c.word)) ≡ []
    by None = line_causes at m (Compare to op kind left right)
    by (Some l) = bare_causes (comparison_rest to op c.word) (weighed_bare to op c.word)
way_causes at m passed before (Write place kind from access) = line_causes at m (Write place kind (stored_from before from) access)
way_causes at m passed before line = line_causes at m line

lines_accesses : (at : Name → ℕ) (m : ℕ → ℕ) (needed : ℕ → ℕ → Bool) (before : Option Constant) (j : ℕ) (lines : List Line) → accesses_in (lines_code at m needed before j lines) ≡ accesses_of_lines lines
lines_accesses at m needed before j [] = refl
lines_accesses at m needed before j (line ∷ lines) =
    let passed : Option Constant = passed_by (needed (suc j)) line lines in
    let own : List CodeLine = way_code at (m j) passed before line in
    let rest : List CodeLine = lines_code at m needed passed (suc j) lines in
    accesses_append own rest ∙ ap (λ z. z ++ accesses_in rest) (way_accesses at (m j) passed before line) ∙ ap (λ z. accesses_of_line line ++ z) (lines_accesses at m needed passed (suc j) lines)

lines_causes : (at : Name → ℕ) (m : ℕ → ℕ) (needed : ℕ → ℕ → Bool) (before : Option Constant) (j : ℕ) (lines : List Line) → causes_in (lines_code at m needed before j lines) ≡ causes_of_lines lines
lines_causes at m needed before j [] = refl
lines_causes at m needed before j (line ∷ lines) =
    let passed : Option Constant = passed_by (needed (suc j)) line lines in
    let own : List CodeLine = way_code at (m j) passed before line in
    let rest : List CodeLine = lines_code at m needed passed (suc j) lines in
    causes_append own rest ∙ ap (λ z. z ++ causes_in rest) (way_causes at (m j) passed before line) ∙ ap (λ z. causes_of_line line ++ z) (lines_causes at m needed passed (suc j) lines)

onward_accesses : (falls : Bool) (label : ℕ) → accesses_in (onward_code falls label) ≡ []
onward_accesses true label = refl
onward_accesses false label = refl

test_accesses : (distance : Distance) (holds : Bool) (t : Test) (label : ℕ) → accesses_in (test_code distance holds t label) ≡ []
test_accesses Near holds t label = refl
test_accesses Far holds t label = refl

branch_accesses : (distance : Distance) (next : Option ℕ) (t : Test) (there other : ℕ) → accesses_in (branch_code distance next t there other) ≡ []
branch_accesses distance next t there other = by (is_next next there)
  where
    by : (b : Bool) → accesses_in (if b then test_code distance false t other else test_code distance true t there ++ onward_code (is_next next other) other) ≡ []
    by true = test_accesses distance false t other
    by false =
        accesses_append (test_code distance true t there) (onward_code (is_next next other) other)
        ∙ ap (λ z. z ++ accesses_in (onward_code (is_next next other) other)) (test_accesses distance true t there)
        ∙ onward_accesses (is_next next other) other

exit_accesses : (distance : Distance) (next : Option ℕ) (bare : Bool) (first frame : ℕ) (taken : Option Test) (exit : Exit) → accesses_in (exit_code distance next bare first frame taken exit) ≡ []
exit_accesses distance next bare first frame taken (Jump b) = onward_accesses (not bare && is_next next (first + b)) (first + b)
exit_accesses distance next bare first frame taken (Turn b) = refl
exit_accesses distance next bare first frame taken (Branch on x y) = branch_accesses distance next (test_or taken on) (first + x) (first + y)
exit_accesses distance next bare first frame taken (Return None) = accesses_behind (adds_code 2 frame) _ (adds_bare 2 frame)
exit_accesses distance next bare first frame taken (Return (Some r)) = accesses_behind (adds_code 2 frame) _ (adds_bare 2 frame)

-- what an exit takes has none
tail_accesses : (live : ℕ → ℕ → Bool) (lines tail : List Line) (exit : Exit) (taken : Option Test) → IsTaken live tail exit taken → accesses_of_lines lines ≡ accesses_of_lines (lines ++ tail)
tail_accesses live [] tail exit taken (Nothing exit') = refl
tail_accesses live [] tail exit taken (Comparing to op kind left right a b x y) = refl
tail_accesses live [] tail exit taken (Zeroing line r to op kind left right a b zero x y z w) = zero_line (λ l. [] ≡ accesses_of_line l ++ []) line r zero (λ z. refl) refl
tail_accesses live (line ∷ lines) tail exit taken t = ap (λ z. accesses_of_line line ++ z) (tail_accesses live lines tail exit taken t)

block_accesses : (at : Name → ℕ) (m : ℕ → ℕ) (live : ℕ → ℕ → Bool) (leads : ℕ → ℕ) (distance : Distance) (next : Option ℕ) (first frame b : ℕ) (block : Block) → accesses_in (block_code at m live leads distance next first frame b block) ≡ accesses_of_lines block.lines.items
block_accesses at m live leads distance next first frame b block =
    let taken : Option Test = taken_test live block.lines.items block.exit in
    let own : List Line = own_lines taken block.lines.items in
    let t = takes live block.lines.items block.exit in
    let needed : ℕ → ℕ → Bool = behind_each live block.lines.items block.exit in
    let lines : List CodeLine = lines_code at m needed None 0 own in
    let exit : List CodeLine = exit_code distance next (is_empty lines) first frame taken (led leads block.exit) in
    accesses_labelled (first + b) (lines ++ exit) ∙ accesses_append lines exit ∙ ap (λ z. accesses_in lines ++ z) (exit_accesses distance next (is_empty lines) first frame taken (led leads block.exit)) ∙ append-nil (accesses_in lines) ∙ lines_accesses at m needed None 0 own
    ∙ tail_accesses live own t.tail block.exit taken t.is ∙ ap accesses_of_lines t.whole

found_accesses : (laying : Laying) (b : ℕ) (next : Option ℕ) (block : Option Block) (rest : List Block) → accesses_in (found_code laying b next block) ++ accesses_of_blocks rest ≡ accesses_of_blocks (if_found block rest)
found_accesses laying b next None rest = refl
found_accesses laying b next (Some block) rest = ap (λ z. z ++ accesses_of_blocks rest) (block_accesses laying.at (laying.cut b) laying.live (leads_of laying) laying.distance next laying.first laying.frame b block)

laid_accesses : (laying : Laying) (order : List ℕ) → accesses_in (laid_code laying order) ≡ accesses_of_blocks (blocks_at laying.blocks order)
laid_accesses laying [] = refl
laid_accesses laying (b ∷ rest) =
    accesses_append (laid_block laying b rest) (laid_code laying rest)
    ∙ ap (λ z. accesses_in (laid_block laying b rest) ++ z) (laid_accesses laying rest)
    ∙ found_accesses laying b (next_label laying.first rest) (slice_get laying.blocks b) (blocks_at laying.blocks rest)

pub function_accesses : (i : ℕ) (laying : Laying) → accesses_in (function_code i laying) ≡ accesses_of_blocks (laid_blocks laying.entry laying.blocks)
function_accesses i laying =
    let head : List CodeLine = prologue_code laying.frame in
    let rest : List CodeLine = blocks_code laying in
    accesses_append (labelled (entry_label i) head) rest
    ∙ ap (λ z. z ++ accesses_in rest) (accesses_labelled (entry_label i) head ∙ accesses_behind (adds_code 6 (2 ^ 32 - laying.frame)) enter_code (adds_bare 6 (2 ^ 32 - laying.frame)))
    ∙ laid_accesses laying (kept_order laying)
    ∙ kept_accesses laying.blocks laying.entry (laid_order laying.entry (length laying.blocks))

onward_causes : (falls : Bool) (label : ℕ) → causes_in (onward_code falls label) ≡ []
onward_causes true label = refl
onward_causes false label = refl

test_causes : (distance : Distance) (holds : Bool) (t : Test) (label : ℕ) → causes_in (test_code distance holds t label) ≡ []
test_causes Near holds t label = refl
test_causes Far holds t label = refl

branch_causes : (distance : Distance) (next : Option ℕ) (t : Test) (there other : ℕ) → causes_in (branch_code distance next t there other) ≡ []
branch_causes distance next t there other = by (is_next next there)
  where
    by : (b : Bool) → causes_in (if b then test_code distance false t other else test_code distance true t there ++ onward_code (is_next next other) other) ≡ []
    by true = test_causes distance false t other
    by false =
        causes_append (test_code distance true t there) (onward_code (is_next next other) other)
        ∙ ap (λ z. z ++ causes_in (onward_code (is_next next other) other)) (test_causes distance true t there)
        ∙ onward_causes (is_next next other) other

exit_causes : (distance : Distance) (next : Option ℕ) (bare : Bool) (first frame : ℕ) (taken : Option Test) (exit : Exit) → causes_in (exit_code distance next bare first frame taken exit) ≡ []
exit_causes distance next bare first frame taken (Jump b) = onward_causes (not bare && is_next next (first + b)) (first + b)
exit_causes distance next bare first frame taken (Turn b) = refl
exit_causes distance next bare first frame taken (Branch on x y) = branch_causes distance next (test_or taken on) (first + x) (first + y)
exit_causes distance next bare first frame taken (Return None) = causes_behind (adds_code 2 frame) _ (adds_bare 2 frame)
exit_causes distance next bare first frame taken (Return (Some r)) = causes_behind (adds_code 2 frame) _ (adds_bare 2 frame)

-- what an exit takes has none
tail_causes : (live : ℕ → ℕ → Bool) (lines tail : List Line) (exit : Exit) (taken : Option Test) → IsTaken live tail exit taken → causes_of_lines lines ≡ causes_of_lines (lines ++ tail)
tail_causes live [] tail exit taken (Nothing exit') = refl
tail_causes live [] tail exit taken (Comparing to op kind left right a b x y) = refl
tail_causes live [] tail exit taken (Zeroing line r to op kind left right a b zero x y z w) = zero_line (λ l. [] ≡ causes_of_line l ++ []) line r zero (λ z. refl) refl
tail_causes live (line ∷ lines) tail exit taken t = ap (λ z. causes_of_line line ++ z) (tail_causes live lines tail exit taken t)

block_causes : (at : Name → ℕ) (m : ℕ → ℕ) (live : ℕ → ℕ → Bool) (leads : ℕ → ℕ) (distance : Distance) (next : Option ℕ) (first frame b : ℕ) (block : Block) → causes_in (block_code at m live leads distance next first frame b block) ≡ causes_of_lines block.lines.items
block_causes at m live leads distance next first frame b block =
    let taken : Option Test = taken_test live block.lines.items block.exit in
    let own : List Line = own_lines taken block.lines.items in
    let t = takes live block.lines.items block.exit in
    let needed : ℕ → ℕ → Bool = behind_each live block.lines.items block.exit in
    let lines : List CodeLine = lines_code at m needed None 0 own in
    let exit : List CodeLine = exit_code distance next (is_empty lines) first frame taken (led leads block.exit) in
    causes_labelled (first + b) (lines ++ exit) ∙ causes_append lines exit ∙ ap (λ z. causes_in lines ++ z) (exit_causes distance next (is_empty lines) first frame taken (led leads block.exit)) ∙ append-nil (causes_in lines) ∙ lines_causes at m needed None 0 own
    ∙ tail_causes live own t.tail block.exit taken t.is ∙ ap causes_of_lines t.whole

found_causes : (laying : Laying) (b : ℕ) (next : Option ℕ) (block : Option Block) (rest : List Block) → causes_in (found_code laying b next block) ++ causes_of_blocks rest ≡ causes_of_blocks (if_found block rest)
found_causes laying b next None rest = refl
found_causes laying b next (Some block) rest = ap (λ z. z ++ causes_of_blocks rest) (block_causes laying.at (laying.cut b) laying.live (leads_of laying) laying.distance next laying.first laying.frame b block)

laid_causes : (laying : Laying) (order : List ℕ) → causes_in (laid_code laying order) ≡ causes_of_blocks (blocks_at laying.blocks order)
laid_causes laying [] = refl
laid_causes laying (b ∷ rest) =
    causes_append (laid_block laying b rest) (laid_code laying rest)
    ∙ ap (λ z. causes_in (laid_block laying b rest) ++ z) (laid_causes laying rest)
    ∙ found_causes laying b (next_label laying.first rest) (slice_get laying.blocks b) (blocks_at laying.blocks rest)

pub function_causes : (i : ℕ) (laying : Laying) → causes_in (function_code i laying) ≡ causes_of_blocks (laid_blocks laying.entry laying.blocks)
function_causes i laying =
    let head : List CodeLine = prologue_code laying.frame in
    let rest : List CodeLine = blocks_code laying in
    causes_append (labelled (entry_label i) head) rest
    ∙ ap (λ z. z ++ causes_in rest) (causes_labelled (entry_label i) head ∙ causes_behind (adds_code 6 (2 ^ 32 - laying.frame)) enter_code (adds_bare 6 (2 ^ 32 - laying.frame)))
    ∙ laid_causes laying (kept_order laying)
    ∙ kept_causes laying.blocks laying.entry (laid_order laying.entry (length laying.blocks))
