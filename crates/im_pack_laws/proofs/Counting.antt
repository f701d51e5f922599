-- Each line but a copy to itself has a word, and so have each block and each function's entry.
use Rattle.std.proofs.Common.{◌≡◌, ◌<◌, ◌≤◌, inl, inr, ℕ, zero, suc, ◌+◌, ◌*◌, ◌-◌, ◌/◌, ◌^◌, Bool, true, false, List, [], ◌∷◌, ◌++◌, Option, Some, None, length, take, max, refl, ap, ◌∙◌, arith, length-append}
use Rattle.std.specs.Prelude.{◌==◌, ◌&&◌, if◌then◌else◌, slice_get}
use Rattle.std.proofs.lemmas.Bool.Decides.{nat_tests}
use Rattle.std.proofs.lemmas.List.{take_all}
use Rattle.std.proofs.lemmas.Option.{slice_get_cases}
use Rattle.im_num.specs.declared.kind.Kind.{Kind}
use Rattle.im_num.specs.declared.kind.Kind.TheVariants.{I8, U8, I16, U16, I32, U32, Ptr}
use Rattle.im_num.specs.Kinds.{kind_size, word}
use Rattle.im_rv.specs.declared.code.Part.{Part}
use Rattle.im_rv.specs.Lines.{CodeLine, plain_line}
use Rattle.im_rv_reach.specs.Instructions.{upper}
use Rattle.im_store.specs.declared.operators.UnaryOp.{UnaryOp}
use Rattle.im_store.specs.declared.operators.UnaryOp.TheVariants.{Negate, Complement}
use Rattle.im_store.specs.declared.operators.Comparison.{Comparison}
use Rattle.im_store.specs.declared.operators.Comparison.TheVariants.{Less, Greater, LessOrEqual, GreaterOrEqual, Equal, NotEqual}
use Rattle.im_store.specs.Objects.{Name, Slot}
use Rattle.im_block.specs.declared.code.Place.{Place}
use Rattle.im_block.specs.declared.code.Place.TheVariants.{Static, Local, Through}
use Rattle.im_block.specs.declared.code.Line.{Line}
use Rattle.im_block.specs.declared.code.Line.TheVariants.{Put, PutNull, Copy, Convert, Unary, Not, Compute, Compare, Move, Distance, Address, Read, Write, Reload, Spill, Cut, Call, Serve}
use Rattle.im_block.specs.declared.code.Exit.{Exit}
use Rattle.im_block.specs.declared.code.Exit.TheVariants.{Jump, Turn, Branch, Return}
use Rattle.im_block.specs.declared.code.Block.{Block}
use Rattle.im_block.specs.declared.unit.Unit.{Unit as Code}
use Rattle.im_block.specs.Shape.{sum_of}
use Rattle.im_frame.specs.declared.layout.Layout.{Layout}
use Rattle.im_select_relation.specs.Jumps.{jump_of, one_if, jumps_in, are_few}
use Rattle.im_select.specs.Leads.{lead, led, kept}
use Rattle.im_select.specs.declared.folding.Constant.{Constant}
use Rattle.im_select.specs.declared.branching.Test.{Test}
use Rattle.im_select.specs.declared.branching.Test.TheVariants.{Compares, ComparesZero}
use Rattle.im_select.specs.declared.distance.Distance.{Distance as Reach}
use Rattle.im_select.specs.declared.distance.Distance.TheVariants.{Near, Far}
use Rattle.im_select.specs.Emitted.{constant_by, high_of, low_of, moved_code, copied_code, converted_code, unary_code, compared_code, scaled_code, place_code, displaced_code, place_number, based_code, address_code, passed_by, way_code, line_code, lines_code, behind_each, adds_code, enter_code, onward_code, test_code, test_or, taken_test, own_lines, is_next, branch_code, exit_code, is_empty, ended_code, labelled, block_code, others_below, laid_order, kept_order, Laying, leads_of, next_label, found_code, laid_block, laid_code, blocks_code, prologue_code, function_code, entry_label}
use Rattle.im_select.specs.Selects.{laying_of}
use Rattle.im_select.proofs.Following.{LeadsOn, lead_away}
use Rattle.im_select.proofs.Pairing.{lines_alone, last_passes, pass_cases, Takes, OnRight, OnLeft, Weighs, Stores, passes, lines_paired, right_code, left_code, weighs_code}
use Rattle.im_select.proofs.Taking.{IsTaken, Nothing, Comparing, Zeroing, zero_line, takes}
use Rattle.im_rv.specs.declared.instr.Op.{Op}
use Rattle.im_select_relation.specs.OperatorTables.{less_op}
use Rattle.im_link.specs.Parts.{first_of, word_count}
use Rattle.im_link.proofs.Joining.{first_whole}
use Rattle.im_link_laws.specs.Program.{IsProgram, part_of, start_code, given_at}
use Rattle.im_link_laws.proofs.Runtimes.{size_of}
use Rattle.im_select_relation.specs.Law.{is_nothing}
use Rattle.im_select_relation.specs.Selected.{IsConstant, ConstantNumber, ConstantNull, or_zero}
use Rattle.im_select_executes.specs.Executing.{line_halves, words_by, block_words, jump_words, function_words}

append_some : (xs : List CodeLine) (y : CodeLine) (ys : List CodeLine) → 0 < length (xs ++ y ∷ ys)
append_some [] y ys = omega arith
append_some (x ∷ xs) y ys = omega arith

constant_some : (b : Bool) (rd hi lo : ℕ) → 0 < length (constant_by b rd hi lo)
constant_some true rd hi lo = omega arith
constant_some false rd hi lo = omega arith

-- no line where a test says so, else one at least
abbrev unless : Bool → ℕ
unless nothing = if nothing then 0 else 1

copy_some : (to from : ℕ) → unless (to == from) ≤ length (copied_code to from)
copy_some to from = by (to == from)
  where
    by : (b : Bool) → unless b ≤ length (if b then [] else moved_code to from)
    by true = omega arith
    by false = omega arith

convert_some : (to : ℕ) (kind : Kind) (from : ℕ) → unless (kind_size kind == 4 && to == from) ≤ length (converted_code to kind from)
convert_some to I8 from = omega arith
convert_some to U8 from = omega arith
convert_some to I16 from = omega arith
convert_some to U16 from = omega arith
convert_some to I32 from = copy_some to from
convert_some to U32 from = copy_some to from
convert_some to Ptr from = copy_some to from

unary_some : (to : ℕ) (op : UnaryOp) (from : ℕ) → 0 < length (unary_code to op from)
unary_some to Negate from = omega arith
unary_some to Complement from = omega arith

compare_some : (to : ℕ) (less : Op) (left right : ℕ) (op : Comparison) → 0 < length (compared_code to less left right op)
compare_some to less left right Less = omega arith
compare_some to less left right Greater = omega arith
compare_some to less left right LessOrEqual = omega arith
compare_some to less left right GreaterOrEqual = omega arith
compare_some to less left right Equal = omega arith
compare_some to less left right NotEqual = omega arith

based_some : (to : ℕ) (place : Place) (n : ℕ) → 0 < length (based_code to place n)
based_some to place n = append_some (place_code place n) _ _

address_some : (to : ℕ) (place : Place) (n : ℕ) → 0 < length (address_code to place n)
address_some to (Static object offset) n = by (low_of n == 0)
  where
    by : (b : Bool) → 0 < length (if b then plain_line (upper to (high_of n)) ∷ [] else based_code to (Static object offset) n)
    by true = omega arith
    by false = based_some to (Static object offset) n
address_some to (Local object offset) n = based_some to (Local object offset) n
address_some to (Through r offset) n = based_some to (Through r offset) n

-- a line that isn't nothing has a word
abbrev line_words : Line → ℕ
line_words line = if is_nothing line then 0 else 1

line_some : (at : Name → ℕ) (m : ℕ) (line : Line) → line_words line ≤ length (line_code at m line)
line_some at m (Put to number) = constant_some (high_of (word number) == 0) to (high_of (word number)) (low_of (word number))
line_some at m (PutNull to) = omega arith
line_some at m (Copy to from) = copy_some to from
line_some at m (Convert to kind from) = convert_some to kind from
line_some at m (Unary to op kind from) = unary_some to op from
line_some at m (Not to from) = omega arith
line_some at m (Compute to op kind left right) = omega arith
line_some at m (Compare to op kind left right) = compare_some to (less_op kind) left right op
line_some at m (Move to size back pointer by) = append_some (scaled_code size by) _ _
line_some at m (Distance to size left right) = omega arith
line_some at m (Address to place) = address_some to place (place_number at place)
line_some at m (Read to place kind access) = append_some (place_code place (place_number at place)) _ _
line_some at m (Write place kind from access) = append_some (place_code place (place_number at place)) _ _
line_some at m (Reload to slot access) = append_some (displaced_code 2 (at (Slot slot))) _ _
line_some at m (Spill slot from access) = append_some (displaced_code 2 (at (Slot slot))) _ _
line_some at m (Cut cause) = omega arith
line_some at m (Call to function first count) = omega arith
line_some at m (Serve to service None) = omega arith
line_some at m (Serve to service (Some from)) = omega arith

halves_some : (at : Name → ℕ) (m : ℕ) (line : Line) → line_halves line ≤ 2 * length (line_code at m line)
halves_some at m (Cut cause) = omega arith
halves_some at m line = let a = line_some at m line in omega arith

alone_some : (at : Name → ℕ) (m : ℕ → ℕ) (needed : ℕ → ℕ → Bool) (j : ℕ) (line : Line) (lines : List Line) → passed_by (needed (suc j)) line lines ≡ None → sum_of line_halves lines ≤ 2 * length (lines_code at m needed None (suc j) lines) → sum_of line_halves (line ∷ lines) ≤ 2 * length (lines_code at m needed None j (line ∷ lines))
alone_some at m needed j line lines e r =
    let a = halves_some at (m j) line in
    let l = length-append (line_code at (m j) line) (lines_code at m needed None (suc j) lines) in
    let same = ap length (lines_alone at m needed j line lines e) in
    omega arith

-- a constant that the next line takes is paid by that
taker_some : (at : Name → ℕ) (m : ℕ) (lives : ℕ → Bool) (c : Constant) (user : Line) → Takes lives c user → line_halves user + 1 ≤ 2 * length (way_code at m None (Some c) user)
taker_some at m lives c user (OnRight to op kind left l ne spent e) = let q = ap length (right_code to op kind left c l ne e) in omega arith
taker_some at m lives c user (OnLeft to op kind right l ne spent turns e) = let q = ap length (left_code to op kind right c l ne turns e) in omega arith
taker_some at m lives c user (Weighs to op kind left l ne spent e) = let q = ap length (weighs_code to op kind left c l ne e) in omega arith
taker_some at m lives c user (Stores place kind access is_zero apart unread) = let q = line_some at m (Write place kind 0 access) in omega arith

constant_halves : (line : Line) (r n : ℕ) → IsConstant line r n → line_halves line ≤ 1
constant_halves line r n (ConstantNumber q k z e) = omega arith
constant_halves line r n (ConstantNull q) = omega arith

paired_some : (at : Name → ℕ) (m : ℕ → ℕ) (needed : ℕ → ℕ → Bool) (j : ℕ) (line user : Line) (lines : List Line) (c : Constant) → passed_by (needed (suc j)) line (user ∷ lines) ≡ Some c → sum_of line_halves lines ≤ 2 * length (lines_code at m needed None (suc (suc j)) lines) → sum_of line_halves (line ∷ user ∷ lines) ≤ 2 * length (lines_code at m needed None j (line ∷ user ∷ lines))
paired_some at m needed j line user lines c e rest =
    let d = passes (needed (suc j)) line user lines c e in
    let first = constant_halves line c.register c.word d.constant in
    let second = taker_some at (m (suc j)) (needed (suc j)) c user d.takes in
    let l = length-append (way_code at (m (suc j)) None (Some c) user) (lines_code at m needed None (suc (suc j)) lines) in
    let same = ap length (lines_paired at m needed j line user lines c e) in
    omega arith

lines_some : (at : Name → ℕ) (m : ℕ → ℕ) (needed : ℕ → ℕ → Bool) (j : ℕ) (lines : List Line) → sum_of line_halves lines ≤ 2 * length (lines_code at m needed None j lines)
lines_some at m needed j [] = omega arith
lines_some at m needed j (line ∷ []) = alone_some at m needed j line [] (last_passes (needed (suc j)) line) (lines_some at m needed (suc j) [])
lines_some at m needed j (line ∷ user ∷ lines) =
    pass_cases (passed_by (needed (suc j)) line (user ∷ lines))
    (λ e. alone_some at m needed j line (user ∷ lines) e (lines_some at m needed (suc j) (user ∷ lines)))
    (λ c e. paired_some at m needed j line user lines c e (lines_some at m needed (suc (suc j)) lines))

branch_some : (distance : Reach) (next : Option ℕ) (t : Test) (there other : ℕ) → 0 < length (branch_code distance next t there other)
branch_some distance next t there other = by (is_next next there)
  where
    rest : List CodeLine
    rest = onward_code (is_next next other) other

    tested : (distance : Reach) (holds : Bool) (label : ℕ) → 0 < length (test_code distance holds t label)
    tested Near holds label = omega arith
    tested Far holds label = omega arith

    by : (q : Bool) → 0 < length (if q then test_code distance false t other else test_code distance true t there ++ rest)
    by true = tested distance false other
    by false =
        let a = tested distance true there in
        let l = length-append (test_code distance true t there) rest in
        omega arith

-- a block without lines has a jump
ended_some : (distance : Reach) (next : Option ℕ) (first frame : ℕ) (taken : Option Test) (lines : List CodeLine) (exit : Exit) → 0 < length (ended_code distance next first frame taken lines exit)
ended_some distance next first frame taken (x ∷ xs) exit = let l = length-append (x ∷ xs) (exit_code distance next false first frame taken exit) in omega arith
ended_some distance next first frame taken [] (Jump b) = omega arith
ended_some distance next first frame taken [] (Turn b) = omega arith
ended_some distance next first frame taken [] (Branch on x y) = branch_some distance next (test_or taken on) (first + x) (first + y)
ended_some distance next first frame taken [] (Return None) = omega arith
ended_some distance next first frame taken [] (Return (Some r)) = omega arith

same_count : (l : ℕ) (xs : List CodeLine) → length (labelled l xs) ≡ length xs
same_count l [] = refl
same_count l (x ∷ xs) = refl

sum_append : (w : Line → ℕ) (xs ys : List Line) → sum_of w (xs ++ ys) ≡ sum_of w xs + sum_of w ys
sum_append w [] ys = omega arith
sum_append w (x ∷ xs) ys = let h = sum_append w xs ys in omega arith

-- a comparison that the exit takes is paid by its branch
tail_some : (live : ℕ → ℕ → Bool) (leads : ℕ → ℕ) (distance : Reach) (next : Option ℕ) (bare : Bool) (first frame : ℕ) (tail : List Line) (exit : Exit) (taken : Option Test) → IsTaken live tail exit taken → sum_of line_halves tail ≤ 2 * length (exit_code distance next bare first frame taken (led leads exit))
tail_some live leads distance next bare first frame tail exit taken (Nothing exit') = omega arith
tail_some live leads distance next bare first frame tail exit taken (Comparing to op kind left right x y p q) = let some = branch_some distance next (Compares op kind left right) (first + leads x) (first + leads y) in omega arith
tail_some live leads distance next bare first frame tail exit taken (Zeroing line r to op kind left right x y nought p q s t) =
    let some = branch_some distance next (ComparesZero op kind (or_zero r left) (or_zero r right)) (first + leads x) (first + leads y) in
    zero_line (λ l. sum_of line_halves (l ∷ Compare to op kind left right ∷ []) ≤ 2 * length (branch_code distance next (ComparesZero op kind (or_zero r left) (or_zero r right)) (first + leads x) (first + leads y))) line r nought (λ z. omega arith) (omega arith)

-- what a block is worth, where those that only jump are few or not
abbrev worth : Bool → Block → ℕ
worth true block = block_words block
worth false block = block_words block + one_if (jump_of block.lines.items block.exit)

worth_most : (few : Bool) (block : Block) → worth few block ≤ max 1 ((sum_of line_halves block.lines.items + 1) / 2)
worth_most true block = by (jump_of block.lines.items block.exit)
  where
    by : (o : Option ℕ) → words_by o block.lines.items ≤ max 1 ((sum_of line_halves block.lines.items + 1) / 2)
    by None = omega arith
    by (Some c) = omega arith
worth_most false block = by (jump_of block.lines.items block.exit)
  where
    by : (o : Option ℕ) → words_by o block.lines.items + one_if o ≤ max 1 ((sum_of line_halves block.lines.items + 1) / 2)
    by None = omega arith
    by (Some c) = omega arith

block_some : (at : Name → ℕ) (m : ℕ → ℕ) (live : ℕ → ℕ → Bool) (leads : ℕ → ℕ) (distance : Reach) (next : Option ℕ) (first frame b : ℕ) (few : Bool) (block : Block) → worth few block ≤ length (block_code at m live leads distance next first frame b block)
block_some at m live leads distance next first frame b few block =
    let taken : Option Test = taken_test live block.lines.items block.exit in
    let own : List Line = own_lines taken block.lines.items in
    let t = takes live block.lines.items block.exit in
    let needed : ℕ → ℕ → Bool = behind_each live block.lines.items block.exit in
    let lines : List CodeLine = lines_code at m needed None 0 own in
    let ends : List CodeLine = exit_code distance next (is_empty lines) first frame taken (led leads block.exit) in
    let most = worth_most few block in
    let a = lines_some at m needed 0 own in
    let rest = tail_some live leads distance next (is_empty lines) first frame t.tail block.exit taken t.is in
    let sum = sum_append line_halves own t.tail in
    let all = ap (sum_of line_halves) t.whole in
    let e = ended_some distance next first frame taken lines (led leads block.exit) in
    let l = length-append lines ends in
    let s = same_count (first + b) (lines ++ ends) in
    omega arith

-- ---- as they are laid

abbrev words_in : Bool → Option Block → ℕ
words_in few None = 0
words_in few (Some block) = worth few block

-- of block b, if it is there
abbrev words_at : Bool → List Block → ℕ → ℕ
words_at few blocks b = words_in few (slice_get blocks b)

laid_some : (laying : Laying) (few : Bool) (order : List ℕ) → sum_of (words_at few laying.blocks) order ≤ length (laid_code laying order)
laid_some laying few [] = omega arith
laid_some laying few (b ∷ order) =
    let a = by (slice_get laying.blocks b) in
    let r = laid_some laying few order in
    let l = length-append (laid_block laying b order) (laid_code laying order) in
    omega arith
  where
    by : (o : Option Block) → words_in few o ≤ length (found_code laying b (next_label laying.first order) o)
    by None = omega arith
    by (Some block) = block_some laying.at (laying.cut b) laying.live (leads_of laying) laying.distance (next_label laying.first order) laying.first laying.frame b few block

module _ (few : Bool) (blocks : List Block) (entry : ℕ) where
  abbrev upto : ℕ → ℕ
  upto zero = 0
  upto (suc n) = words_at few blocks n + upto n

  abbrev others : ℕ → ℕ
  others n = sum_of (words_at few blocks) (others_below entry n)

  before_entry : (n : ℕ) → n ≤ entry → upto n ≤ others n
  before_entry zero h = omega arith
  before_entry (suc n) h = by (n == entry) refl (before_entry n (omega arith))
    where
      by : (t : Bool) → (n == entry) ≡ t → upto n ≤ others n → upto (suc n) ≤ sum_of (words_at few blocks) (if t then others_below entry n else n ∷ others_below entry n)
      by true e k = let same : n ≡ entry = grind (arith, nat_tests) in absurd (omega arith)
      by false e k = omega arith

  -- each but the entry is among the others
  with_entry : (n : ℕ) → upto n ≤ words_at few blocks entry + others n
  with_entry zero = omega arith
  with_entry (suc n) = by (n == entry) refl (with_entry n)
    where
      by : (t : Bool) → (n == entry) ≡ t → upto n ≤ words_at few blocks entry + others n → upto (suc n) ≤ words_at few blocks entry + sum_of (words_at few blocks) (if t then others_below entry n else n ∷ others_below entry n)
      by true e rest =
          let same : n ≡ entry = grind (arith, nat_tests) in
          let k = before_entry n (omega arith) in
          let here : words_at few blocks n ≡ words_at few blocks entry = ap (words_at few blocks) same in
          omega arith
      by false e rest = omega arith

upto_more : (few : Bool) (block : Block) (blocks : List Block) (entry n : ℕ) → upto few (block ∷ blocks) entry (suc n) ≡ worth few block + upto few blocks entry n
upto_more few block blocks entry zero = omega arith
upto_more few block blocks entry (suc n) = let k = upto_more few block blocks entry n in omega arith

all_upto : (few : Bool) (blocks : List Block) (entry : ℕ) → sum_of (worth few) blocks ≡ upto few blocks entry (length blocks)
all_upto few [] entry = refl
all_upto few (block ∷ blocks) entry =
    let k = all_upto few blocks entry in
    let more = upto_more few block blocks entry (length blocks) in
    omega arith

-- where no line is put for a block, it is worth nothing
kept_worth : (blocks : List Block) (entry : ℕ) (order : List ℕ) → sum_of (words_at (are_few blocks) blocks) order ≤ sum_of (words_at (are_few blocks) blocks) (kept (lead blocks entry) order)
kept_worth blocks entry [] = omega arith
kept_worth blocks entry (x ∷ order) = by (lead blocks entry x == x) refl (kept_worth blocks entry order)
  where
    worthless : (few : Bool) (c : ℕ) → few ≡ true → LeadsOn blocks entry x c → words_at few blocks x ≡ 0
    worthless few c e on =
        ap (λ t. words_at t blocks x) e ∙ ap (words_in true) on.there
        ∙ ap (λ z. words_by (jump_of z on.block.exit) z) on.lines ∙ ap (λ z. words_by (jump_of [] z) []) on.exit

    by : (t : Bool) → (lead blocks entry x == x) ≡ t → sum_of (words_at (are_few blocks) blocks) order ≤ sum_of (words_at (are_few blocks) blocks) (kept (lead blocks entry) order) → sum_of (words_at (are_few blocks) blocks) (x ∷ order) ≤ sum_of (words_at (are_few blocks) blocks) (if t then x ∷ kept (lead blocks entry) order else kept (lead blocks entry) order)
    by true e rest = omega arith
    by false e rest =
        let away = lead_away blocks entry x e in
        let none = worthless (are_few blocks) away.1.0 away.0 away.1.1 in
        omega arith

sum_worth : (few : Bool) (blocks : List Block) → sum_of block_words blocks + (if few then 0 else jumps_in blocks) ≡ sum_of (worth few) blocks
sum_worth true [] = refl
sum_worth true (x ∷ xs) = let h = sum_worth true xs in omega arith
sum_worth false [] = refl
sum_worth false (x ∷ xs) = let h = sum_worth false xs in omega arith

blocks_some : (laying : Laying) → sum_of block_words laying.blocks + jump_words laying.blocks ≤ length (blocks_code laying)
blocks_some laying =
    let few : Bool = are_few laying.blocks in
    let n : ℕ = length laying.blocks in
    let a = laid_some laying few (kept_order laying) in
    let k = kept_worth laying.blocks laying.entry (laid_order laying.entry n) in
    let b = with_entry few laying.blocks laying.entry n in
    let c = all_upto few laying.blocks laying.entry in
    let s = sum_worth few laying.blocks in
    omega arith

function_some : (i : ℕ) (laying : Laying) → 1 + sum_of block_words laying.blocks + jump_words laying.blocks ≤ length (function_code i laying)
function_some i laying =
    let b = blocks_some laying in
    let l = length-append (labelled (entry_label i) (prologue_code laying.frame)) (blocks_code laying) in
    let s = same_count (entry_label i) (prologue_code laying.frame) in
    let p = length-append (adds_code 6 (2 ^ 32 - laying.frame)) enter_code in
    let five : length enter_code ≡ 5 = refl in
    omega arith

take_one : {X : Type 0} (w : X → ℕ) (xs : List X) (i : ℕ) (x : X) → slice_get xs i ≡ Some x → sum_of w (take (suc i) xs) ≡ sum_of w (take i xs) + w x
take_one w [] i x e = absurd cc
take_one w (y ∷ ys) zero x e = (let same : y ≡ x = cc in let q : w y ≡ w x = ap w same in omega arith)
take_one w (y ∷ ys) (suc i) x e = let r = take_one w ys i x e in omega arith

module _ (u : Code) (statics : List ℕ) (layouts : List Layout) (parts : List Part) (program : IsProgram u statics layouts parts) where
  functions : (i : ℕ) → i ≤ length u.functions.items → sum_of function_words (take i u.functions.items) ≤ first_of parts (part_of i)
  functions zero h = omega arith
  functions (suc i) h = elim (slice_get_cases u.functions.items i).1 [
    | inl c ↦
        (let f = program.functions i c.0 c.2 in
        let before = functions i (omega arith) in
        let size = size_of parts (part_of i) f.code f.there in
        let exact = f.selection.exact in
        let lines = ap (length {A = CodeLine}) exact.lines_are in
        let some = function_some i (laying_of (given_at u.functions.items statics i c.0 f.layout) exact.live exact.distance) in
        let sum = take_one function_words u.functions.items i c.0 c.2 in
        let q : first_of parts (part_of (suc i)) ≡ first_of parts (part_of i + 1) = ap (first_of parts) (omega arith) in
        omega arith)
    | inr c ↦ (let le = c.0 in absurd (omega arith))
  ]

  pub at_least : 3 + sum_of function_words u.functions.items ≤ word_count parts
  at_least =
      let n : ℕ = length u.functions.items in
      let before = functions n (omega arith) in
      let size = size_of parts (part_of n) (start_code u.main) program.begins in
      let l : length (start_code u.main) ≡ 3 = refl in
      let last : first_of parts (length parts) ≡ first_of parts (part_of n + 1) = ap (first_of parts) (let c = program.count in omega arith) in
      let all = first_whole parts in
      let t : sum_of function_words (take n u.functions.items) ≡ sum_of function_words u.functions.items = ap (sum_of function_words) (take_all n u.functions.items (omega arith)) in
      omega arith
