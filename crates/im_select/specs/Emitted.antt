-- The very lines that are put for each line of placed code.
use Rattle.std.specs.Prelude.{ℕ, zero, suc, ◌+◌, ◌-◌, ◌/◌, ◌%◌, ◌^◌, ◌==◌, ◌&&◌, ◌||◌, nat_lt, Bool, true, false, not, if◌then◌else◌, List, [], ◌∷◌, ◌++◌, Option, Some, None, is_some, length, drop, slice_get, slice_index}
use Rattle.im_num.specs.declared.kind.Kind.{Kind}
use Rattle.im_num.specs.declared.kind.Kind.TheVariants.{I8, U8, I16, U16, I32, U32, Ptr}
use Rattle.im_num.specs.declared.values.Cause.{Cause}
use Rattle.im_num.specs.Kinds.{word}
use Rattle.im_rv.specs.declared.instr.Op.{Op}
use Rattle.im_rv.specs.declared.instr.Op.TheVariants.{Jalr, Bgeu, Lw, Sw, Addi, Sltiu, Xori, Ori, Andi, Slli, Srli, Srai, Add as AddOp, Sub, Sltu, Mul, Div}
use Rattle.im_rv.specs.Decode.{Line as Instruction}
use Rattle.im_rv.specs.Lines.{CodeLine, plain_line}
use Rattle.im_rv_reach.specs.Instructions.{with_immediate, on_registers, storing, branching, upper, jumping}
use Rattle.im_select_relation.specs.OperatorTables.{load_op, store_op, by_sign, operation, commutes, less_op, less_by, least}
use Rattle.im_store.specs.declared.operators.BinaryOp.{BinaryOp}
use Rattle.im_store.specs.declared.operators.BinaryOp.TheVariants.{Add, Subtract, BitAnd, BitOr, BitXor, ShiftLeft, ShiftRight}
use Rattle.im_store.specs.declared.operators.UnaryOp.{UnaryOp}
use Rattle.im_store.specs.declared.operators.UnaryOp.TheVariants.{Negate, Complement}
use Rattle.im_store.specs.declared.operators.Comparison.{Comparison}
use Rattle.im_store.specs.declared.operators.Comparison.TheVariants.{Less, Greater, LessOrEqual, GreaterOrEqual, Equal, NotEqual}
use Rattle.im_store.specs.Objects.{Name, Named, Slot}
use Rattle.im_block.specs.declared.code.Place.{Place}
use Rattle.im_block.specs.declared.code.Place.TheVariants.{Static, Local, Through}
use Rattle.im_block.specs.declared.code.Line.{Line}
use Rattle.im_block.specs.declared.code.Line.TheVariants.{Put, PutNull, Copy, Convert, Unary, Not, Compute, Compare, Move, Distance as Measure, Address, Read, Write, Reload, Spill, Cut, Call, Serve}
use Rattle.im_block.specs.declared.code.Exit.{Exit}
use Rattle.im_block.specs.declared.code.Exit.TheVariants.{Jump, Turn, Branch, Return}
use Rattle.im_block.specs.declared.code.Block.{Block}
use Rattle.im_alloc_relation.specs.Live.{place_uses}
use Rattle.im_live.specs.Reads.{lives_before}
use Rattle.im_live.specs.Words.{has}
use Rattle.im_select.specs.Leads.{lead, led, kept}
use Rattle.im_select_relation.specs.Selected.{ones, Test as BothWays, nonzero, comparing, or_zero}
use Rattle.im_select.specs.declared.folding.Constant.{Constant}
use Rattle.im_select.specs.declared.branching.Test.{Test}
use Rattle.im_select.specs.declared.branching.Test.TheVariants.{Nonzero, Compares, ComparesZero}
use Rattle.im_select.specs.declared.distance.Distance.{Distance}
use Rattle.im_select.specs.declared.distance.Distance.TheVariants.{Near, Far}
use Rattle.im_rtlib.specs.Routines.{service_label, stack_label, aimed, numbered}

-- the labels of functions; those below 64 are the runtime's
abbrev pub entry_label : ℕ → ℕ
entry_label i = 64 + i

-- ---- words in two parts

-- the upper 20 bits of a word, so that the lower 12, sign extended, make it whole
unfoldable pub high_of : ℕ → ℕ
high_of n = (n + 2048) / 4096 % 2 ^ 20

unfoldable pub low_of : ℕ → ℕ
low_of n = if nat_lt (n % 4096) 2048 then n % 4096 else n % 4096 + 4294963200

abbrev pub constant_by : Bool → ℕ → ℕ → ℕ → List CodeLine
constant_by small rd hi lo = if small then plain_line (with_immediate Addi rd 0 lo) ∷ [] else plain_line (upper rd hi) ∷ plain_line (with_immediate Addi rd rd lo) ∷ []

-- a word into rd
abbrev pub constant_code : ℕ → ℕ → List CodeLine
constant_code rd n = constant_by (high_of n == 0) rd (high_of n) (low_of n)

abbrev pub displaced_by : Bool → ℕ → ℕ → List CodeLine
displaced_by small r hi = if small then [] else plain_line (upper 5 hi) ∷ plain_line (on_registers AddOp 5 5 r) ∷ []

-- register r plus n, as a base and an offset
abbrev pub displaced_code : ℕ → ℕ → List CodeLine
displaced_code r n = displaced_by (high_of n == 0) r (high_of n)

abbrev pub displaced_base : ℕ → ℕ → ℕ
displaced_base r n = if high_of n == 0 then r else 5

abbrev pub adds_by : Bool → ℕ → ℕ → List CodeLine
adds_by small rd by = if small then plain_line (with_immediate Addi rd 2 (low_of by)) ∷ [] else constant_code 5 by ++ plain_line (on_registers AddOp rd 2 5) ∷ []

-- the stack pointer plus a word into rd
abbrev pub adds_code : ℕ → ℕ → List CodeLine
adds_code rd by = adds_by (high_of by == 0) rd by

-- ---- places

abbrev pub place_number : (Name → ℕ) → Place → ℕ
place_number at (Static object offset) = at (Named object) + offset
place_number at (Local object offset) = at (Named object) + offset
place_number at (Through r offset) = offset

abbrev pub static_code : ℕ → List CodeLine
static_code address = plain_line (upper 5 (high_of address)) ∷ []

-- with the number of the place
abbrev pub place_code : Place → ℕ → List CodeLine
place_code (Static object offset) n = static_code n
place_code (Local object offset) n = displaced_code 2 n
place_code (Through r offset) n = displaced_code r n

abbrev pub place_base : Place → ℕ → ℕ
place_base (Static object offset) n = 5
place_base (Local object offset) n = displaced_base 2 n
place_base (Through r offset) n = displaced_base r n

-- ---- operators

abbrev pub moved_code : ℕ → ℕ → List CodeLine
moved_code to from = plain_line (with_immediate Addi to from 0) ∷ []

-- a copy; to itself no line
abbrev pub copied_code : ℕ → ℕ → List CodeLine
copied_code to from = if to == from then [] else moved_code to from

abbrev pub masked_code : ℕ → ℕ → List CodeLine
masked_code to from = plain_line (with_immediate Andi to from 255) ∷ []

-- shifted up, and down again
abbrev pub shifted_code : ℕ → ℕ → Bool → ℕ → List CodeLine
shifted_code to bits signed from = plain_line (with_immediate Slli to from bits) ∷ plain_line (with_immediate (if signed then Srai else Srli) to to bits) ∷ []

abbrev pub converted_code : ℕ → Kind → ℕ → List CodeLine
converted_code to I8 from = shifted_code to 24 true from
converted_code to U8 from = masked_code to from
converted_code to I16 from = shifted_code to 16 true from
converted_code to U16 from = shifted_code to 16 false from
converted_code to I32 from = copied_code to from
converted_code to U32 from = copied_code to from
converted_code to Ptr from = copied_code to from

abbrev pub unary_code : ℕ → UnaryOp → ℕ → List CodeLine
unary_code to Negate from = plain_line (on_registers Sub to 0 from) ∷ []
unary_code to Complement from = plain_line (with_immediate Xori to from ones) ∷ []

abbrev pub not_code : ℕ → ℕ → List CodeLine
not_code to from = plain_line (with_immediate Sltiu to from 1) ∷ []

abbrev pub computed_code : ℕ → BinaryOp → Kind → ℕ → ℕ → List CodeLine
computed_code to op kind left right = plain_line (on_registers (operation op kind) to left right) ∷ []

abbrev pub less_code : ℕ → Op → ℕ → ℕ → List CodeLine
less_code to less left right = plain_line (on_registers less to left right) ∷ []

abbrev pub not_less_code : ℕ → Op → ℕ → ℕ → List CodeLine
not_less_code to less left right = plain_line (on_registers less to left right) ∷ plain_line (with_immediate Xori to to 1) ∷ []

abbrev pub compared_code : ℕ → Op → ℕ → ℕ → Comparison → List CodeLine
compared_code to less left right Less = less_code to less left right
compared_code to less left right Greater = less_code to less right left
compared_code to less left right LessOrEqual = not_less_code to less right left
compared_code to less left right GreaterOrEqual = not_less_code to less left right
compared_code to less left right Equal = plain_line (on_registers Sub 5 left right) ∷ plain_line (with_immediate Sltiu to 5 1) ∷ []
compared_code to less left right NotEqual = plain_line (on_registers Sub 5 left right) ∷ plain_line (on_registers Sltu to 0 5) ∷ []

abbrev pub step_op : Bool → Op
step_op back = if back then Sub else AddOp

-- the n for which a size is 2 ^ n, if that is from 1 to 20
abbrev pub shift_below : ℕ → ℕ → Option ℕ
shift_below size zero = None
shift_below size (suc n) = if size == 2 ^ suc n then Some (suc n) else shift_below size n

unfoldable pub shift_of : ℕ → Option ℕ
shift_of size = shift_below size 20

abbrev pub multiplied_code : ℕ → ℕ → List CodeLine
multiplied_code size by = constant_code 5 size ++ plain_line (on_registers Mul 5 5 by) ∷ []

abbrev pub shifts_code : Option ℕ → ℕ → ℕ → List CodeLine
shifts_code None size by = multiplied_code size by
shifts_code (Some bits) size by = plain_line (with_immediate Slli 5 by bits) ∷ []

-- so many times a register: of 1 the register itself, else in x5
abbrev pub scaled_code : ℕ → ℕ → List CodeLine
scaled_code size by = if size == 1 then [] else shifts_code (shift_of size) size by

abbrev pub scaled_register : ℕ → ℕ → ℕ
scaled_register size by = if size == 1 then by else 5

abbrev pub pointer_code : ℕ → ℕ → Bool → ℕ → ℕ → List CodeLine
pointer_code to size back pointer by = scaled_code size by ++ plain_line (on_registers (step_op back) to pointer (scaled_register size by)) ∷ []

abbrev pub distance_code : ℕ → ℕ → ℕ → ℕ → List CodeLine
distance_code to size left right = plain_line (on_registers Sub 5 left right) ∷ (constant_code 6 size ++ plain_line (on_registers Div to 5 6) ∷ [])

-- ---- lines

-- a jump and link to a label
abbrev pub call_code : ℕ → ℕ → List CodeLine
call_code rd label = aimed label (jumping rd 0) ∷ []

-- a cut with entry Em of the checkpoint, whose label is m
abbrev pub cut_code : ℕ → Cause → List CodeLine
cut_code m cause = record (plain_line (jumping 3 0)) { target = Some m; cause = Some cause } ∷ []

abbrev pub based_code : ℕ → Place → ℕ → List CodeLine
based_code to place n = place_code place n ++ plain_line (with_immediate Addi to (place_base place n) (low_of n)) ∷ []

-- a static whose address has no lower part takes one line
abbrev pub address_code : ℕ → Place → ℕ → List CodeLine
address_code to (Static object offset) n = if low_of n == 0 then plain_line (upper to (high_of n)) ∷ [] else based_code to (Static object offset) n
address_code to place n = based_code to place n

abbrev pub fetch_code : ℕ → Place → Kind → ℕ → ℕ → List CodeLine
fetch_code to place kind access n = place_code place n ++ numbered access (with_immediate (load_op kind) to (place_base place n) (low_of n)) ∷ []

abbrev pub keep_code : Place → Kind → ℕ → ℕ → ℕ → List CodeLine
keep_code place kind from access n = place_code place n ++ numbered access (storing (store_op kind) (place_base place n) from (low_of n)) ∷ []

abbrev pub reload_code : ℕ → ℕ → ℕ → List CodeLine
reload_code to place access = displaced_code 2 place ++ numbered access (with_immediate Lw to (displaced_base 2 place) (low_of place)) ∷ []

abbrev pub spill_code : ℕ → ℕ → ℕ → List CodeLine
spill_code place from access = displaced_code 2 place ++ numbered access (storing Sw (displaced_base 2 place) from (low_of place)) ∷ []

-- m: the entry, if it is a cut
abbrev pub line_code : (Name → ℕ) → ℕ → Line → List CodeLine
line_code at m (Put to number) = constant_code to (word number)
line_code at m (PutNull to) = moved_code to 0
line_code at m (Copy to from) = copied_code to from
line_code at m (Convert to kind from) = converted_code to kind from
line_code at m (Unary to op kind from) = unary_code to op from
line_code at m (Not to from) = not_code to from
line_code at m (Compute to op kind left right) = computed_code to op kind left right
line_code at m (Compare to op kind left right) = compared_code to (less_op kind) left right op
line_code at m (Move to size back pointer by) = pointer_code to size back pointer by
line_code at m (Measure to size left right) = distance_code to size left right
line_code at m (Address to place) = address_code to place (place_number at place)
line_code at m (Read to place kind access) = fetch_code to place kind access (place_number at place)
line_code at m (Write place kind from access) = keep_code place kind from access (place_number at place)
line_code at m (Reload to slot access) = reload_code to (at (Slot slot)) access
line_code at m (Spill slot from access) = spill_code (at (Slot slot)) from access
line_code at m (Cut cause) = cut_code m cause
line_code at m (Call to function first count) = call_code 1 (entry_label function)
line_code at m (Serve to service from) = call_code 1 (service_label service)

-- ---- a constant as the immediate of the line that uses it, or as x0 (RISC-V Unprivileged ISA, 2.1, 2.4)

-- with an immediate of twelve bits, where a word is one with its sign
abbrev pub by_low : Op → ℕ → ℕ → ℕ → Option Instruction
by_low op to left n = if high_of n == 0 then Some (with_immediate op to left (low_of n)) else None

-- a shift by so many bits
abbrev pub by_bits : Op → ℕ → ℕ → ℕ → Option Instruction
by_bits op to left n = if nat_lt n 32 then Some (with_immediate op to left n) else None

abbrev pub negated : ℕ → ℕ
negated n = (2 ^ 32 - n) % 2 ^ 32

-- an operator with a word on its right as one instruction, if there is one
abbrev pub immediate_line : ℕ → BinaryOp → Kind → ℕ → ℕ → Option Instruction
immediate_line to Add kind left n = by_low Addi to left n
immediate_line to Subtract kind left n = by_low Addi to left (negated n)
immediate_line to BitAnd kind left n = by_low Andi to left n
immediate_line to BitOr kind left n = by_low Ori to left n
immediate_line to BitXor kind left n = by_low Xori to left n
immediate_line to ShiftLeft kind left n = by_bits Slli to left n
immediate_line to ShiftRight kind left n = by_bits (by_sign kind Srai Srli) to left n
immediate_line to op kind left n = None

-- so with a constant in a register, which is one of its operands
abbrev pub constant_line : ℕ → BinaryOp → Kind → ℕ → ℕ → Constant → Option Instruction
constant_line to op kind left right c = if right == c.register then (if left == c.register then None else immediate_line to op kind left c.word) else (if left == c.register && commutes op then immediate_line to op kind right c.word else None)

-- the word behind a word
abbrev pub above : ℕ → ℕ
above n = (n + 1) % 2 ^ 32

-- whether a register is less than a word, unless no word is
abbrev pub below_line : ℕ → Kind → ℕ → ℕ → Option Instruction
below_line to kind left n = if n == least kind then None else by_low (less_by kind) to left n

-- whether a register is 0, or another word, into `to`; or its difference from that into x5
abbrev pub equal_line : ℕ → ℕ → ℕ → Option Instruction
equal_line to left n = if n == 0 then Some (with_immediate Sltiu to left 1) else by_low Addi 5 left (negated n)

-- whether a register is 0, or isn't, into `to`; of another word, the register less that word into x5
abbrev pub unequal_line : ℕ → ℕ → ℕ → Option Instruction
unequal_line to left n = if n == 0 then Some (on_registers Sltu to 0 left) else by_low Addi 5 left (negated n)

-- a comparison with a word on its right: its first instruction, if there is one with an immediate
abbrev pub comparison_start : ℕ → Comparison → Kind → ℕ → ℕ → Option Instruction
comparison_start to Less kind left n = by_low (less_by kind) to left n
comparison_start to Greater kind left n = below_line to kind left (above n)
comparison_start to LessOrEqual kind left n = below_line to kind left (above n)
comparison_start to GreaterOrEqual kind left n = by_low (less_by kind) to left n
comparison_start to Equal kind left n = equal_line to left n
comparison_start to NotEqual kind left n = unequal_line to left n

-- and what is behind that
abbrev pub comparison_rest : ℕ → Comparison → ℕ → List CodeLine
comparison_rest to Less n = []
comparison_rest to Greater n = plain_line (with_immediate Xori to to 1) ∷ []
comparison_rest to LessOrEqual n = []
comparison_rest to GreaterOrEqual n = plain_line (with_immediate Xori to to 1) ∷ []
comparison_rest to Equal n = if n == 0 then [] else plain_line (with_immediate Sltiu to 5 1) ∷ []
comparison_rest to NotEqual n = if n == 0 then [] else plain_line (on_registers Sltu to 0 5) ∷ []

-- so with a constant in a register, which is its right operand
abbrev pub comparison_line : ℕ → Comparison → Kind → ℕ → ℕ → Constant → Option Instruction
comparison_line to op kind left right c = if right == c.register && not (left == c.register) then comparison_start to op kind left c.word else None

-- whether a register isn't read behind a line that sets `to`; lives: what lives there
abbrev pub is_spent : (ℕ → Bool) → ℕ → ℕ → Bool
is_spent lives to r = r == to || not (lives r)

-- whether a line takes the constant before it, as its immediate or as x0. Nothing reads the constant's register behind it
abbrev pub is_taken : (ℕ → Bool) → Constant → Line → Bool
is_taken lives c (Compute to op kind left right) = is_some (constant_line to op kind left right c) && is_spent lives to c.register
is_taken lives c (Compare to op kind left right) = is_some (comparison_line to op kind left right c) && is_spent lives to c.register
is_taken lives c (Write place kind from access) = c.word == 0 && (from == c.register && not (place_uses place c.register || lives c.register))
is_taken lives c line = false

-- lives: what lives behind the first of these lines
abbrev pub passed_to : (ℕ → Bool) → Constant → List Line → Option Constant
passed_to lives c [] = None
passed_to lives c (user ∷ rest) = if is_taken lives c user then Some c else None

-- what a line passes to the lines behind it
abbrev pub passed_by : (ℕ → Bool) → Line → List Line → Option Constant
passed_by lives (Put to number) rest = passed_to lives (record { register = to; word = word number }) rest
passed_by lives (PutNull to) rest = passed_to lives (record { register = to; word = 0 }) rest
passed_by lives line rest = None

-- no line for a constant that is passed on
abbrev pub put_code : Option Constant → List CodeLine → List CodeLine
put_code None code = code
put_code (Some c) code = []

-- these lines, or an instruction and what is behind it
abbrev pub by_or : List CodeLine → Option Instruction → List CodeLine → List CodeLine
by_or code None rest = code
by_or code (Some l) rest = plain_line l ∷ rest

-- with a constant that the line before it passed
abbrev pub operated_code : Option Constant → ℕ → BinaryOp → Kind → ℕ → ℕ → List CodeLine
operated_code None to op kind left right = computed_code to op kind left right
operated_code (Some c) to op kind left right = by_or (computed_code to op kind left right) (constant_line to op kind left right c) []

abbrev pub compared_with_code : Option Constant → ℕ → Comparison → Kind → ℕ → ℕ → List CodeLine
compared_with_code None to op kind left right = compared_code to (less_op kind) left right op
compared_with_code (Some c) to op kind left right = by_or (compared_code to (less_op kind) left right op) (comparison_line to op kind left right c) (comparison_rest to op c.word)

-- the register that is stored, or x0 for a zero that the line before it passed
abbrev pub stored_from : Option Constant → ℕ → ℕ
stored_from None from = from
stored_from (Some c) from = 0

-- passed: the constant that the line passes to the next; before: the one that the line before passed to it
abbrev pub way_code : (Name → ℕ) → ℕ → Option Constant → Option Constant → Line → List CodeLine
way_code at m passed before (Put to number) = put_code passed (constant_code to (word number))
way_code at m passed before (PutNull to) = put_code passed (moved_code to 0)
way_code at m passed before (Compute to op kind left right) = operated_code before to op kind left right
way_code at m passed before (Compare to op kind left right) = compared_with_code before to op kind left right
way_code at m passed before (Write place kind from access) = line_code at m (Write place kind (stored_from before from) access)
way_code at m passed before line = line_code at m line

-- lines from number j on; m: the entries of a block's lines; needed: what lives behind each; before: what the line before them passed
abbrev pub lines_code : (Name → ℕ) → (ℕ → ℕ) → (ℕ → ℕ → Bool) → Option Constant → ℕ → List Line → List CodeLine
lines_code at m needed before j [] = []
lines_code at m needed before j (line ∷ lines) = way_code at (m j) (passed_by (needed (suc j)) line lines) before line ++ lines_code at m needed (passed_by (needed (suc j)) line lines) (suc j) lines

-- what lives behind each of a block's lines
abbrev pub behind_each : (ℕ → ℕ → Bool) → List Line → Exit → ℕ → ℕ → Bool
behind_each live lines exit j r = lives_before live (drop (suc j) lines) exit r

-- as words of a block's points have it
abbrev pub behind_at : List ℕ → ℕ → ℕ → Bool
behind_at points j r = has (slice_index points (j + 1)) r

-- ---- the ends of blocks. Block b has the label first + b

abbrev pub leave_code : ℕ → List CodeLine
leave_code frame = plain_line (with_immediate Lw 1 2 0) ∷ (adds_code 2 frame ++ plain_line (with_immediate Jalr 0 1 0) ∷ [])

-- where there is no result x10 is 0, so that nothing lives in it
abbrev pub result_code : Option ℕ → List CodeLine
result_code None = plain_line (with_immediate Addi 10 0 0) ∷ []
result_code (Some r) = []

-- on to a label: no line where it stands next
abbrev pub onward_code : Bool → ℕ → List CodeLine
onward_code true label = []
onward_code false label = call_code 0 label

-- the branches of a test: where it holds, and where it doesn't
abbrev pub both_ways : Test → BothWays
both_ways (Nonzero on) = nonzero on
both_ways (Compares op kind left right) = comparing kind left right op
both_ways (ComparesZero op kind left right) = comparing kind left right op

abbrev pub test_op : Bool → Test → Op
test_op holds t = if holds then (both_ways t).holds else (both_ways t).fails

-- the branch by a test that holds, or by one that doesn't
abbrev pub test_line : Bool → Test → ℕ → Instruction
test_line holds t imm = branching (test_op holds t) (both_ways t).left (both_ways t).right imm

-- to a label, where a test holds, or where it doesn't: near, or over a jump
abbrev pub test_code : Distance → Bool → Test → ℕ → List CodeLine
test_code Near holds t label = aimed label (test_line holds t 0) ∷ []
test_code Far holds t label = plain_line (test_line (not holds) t 8) ∷ call_code 0 label

-- the label that stands next, if any
abbrev pub is_next : Option ℕ → ℕ → Bool
is_next None label = false
is_next (Some next) label = next == label

-- by a test to one of two labels
abbrev pub branch_code : Distance → Option ℕ → Test → ℕ → ℕ → List CodeLine
branch_code distance next t there other = if is_next next there then test_code distance false t other else test_code distance true t there ++ onward_code (is_next next other) other

-- the test of a branch: that of the comparison before it, if it takes that, else of its register
abbrev pub test_or : Option Test → ℕ → Test
test_or None on = Nonzero on
test_or (Some t) on = t

-- bare: no line stands before it in its block; taken: the comparison that it takes
abbrev pub exit_code : Distance → Option ℕ → Bool → ℕ → ℕ → Option Test → Exit → List CodeLine
exit_code distance next bare first frame taken (Jump b) = onward_code (not bare && is_next next (first + b)) (first + b)
exit_code distance next bare first frame taken (Turn b) = call_code 0 (first + b)
exit_code distance next bare first frame taken (Branch on x y) = branch_code distance next (test_or taken on) (first + x) (first + y)
exit_code distance next bare first frame taken (Return from) = result_code from ++ leave_code frame

-- the comparison that an exit takes: its block's last line, whose register nothing but the exit reads. live: what lives at the starts of blocks
abbrev pub taken_by : (ℕ → ℕ → Bool) → Line → Exit → Option Test
taken_by live (Compare to op kind left right) (Branch on a b) = if on == to && not (live a to || live b to) then Some (Compares op kind left right) else None
taken_by live line exit = None

-- the register that a line sets to a value whose word is 0, if it does
abbrev pub zero_of : Line → Option ℕ
zero_of (Put to number) = if word number == 0 then Some to else None
zero_of (PutNull to) = Some to
zero_of line = None

-- a comparison with a zero that is put before it into register r, which no block reads: x0 stands for that
abbrev pub by_zero : (ℕ → ℕ → Bool) → Option ℕ → Option Test → Exit → Option Test
by_zero live (Some r) (Some (Compares op kind left right)) (Branch on a b) = Some (if live a r || live b r then Compares op kind left right else ComparesZero op kind (or_zero r left) (or_zero r right))
by_zero live before taken exit = taken

abbrev pub taken_test : (ℕ → ℕ → Bool) → List Line → Exit → Option Test
taken_test live [] exit = None
taken_test live (line ∷ []) exit = taken_by live line exit
taken_test live (line ∷ next ∷ []) exit = by_zero live (zero_of line) (taken_by live next exit) exit
taken_test live (line ∷ next ∷ more ∷ rest) exit = taken_test live (next ∷ more ∷ rest) exit

abbrev pub but_last : List Line → List Line
but_last [] = []
but_last (line ∷ []) = []
but_last (line ∷ next ∷ rest) = line ∷ but_last (next ∷ rest)

-- the lines that the exit doesn't take
abbrev pub own_lines : Option Test → List Line → List Line
own_lines None lines = lines
own_lines (Some (ComparesZero op kind left right)) lines = but_last (but_last lines)
own_lines (Some t) lines = but_last lines

-- the first line has a label
abbrev pub labelled : ℕ → List CodeLine → List CodeLine
labelled label [] = []
labelled label (line ∷ lines) = record line { label = Some label } ∷ lines

abbrev pub is_empty : List CodeLine → Bool
is_empty [] = true
is_empty (line ∷ lines) = false

-- its lines, and behind them its exit
abbrev pub ended_code : Distance → Option ℕ → ℕ → ℕ → Option Test → List CodeLine → Exit → List CodeLine
ended_code distance next first frame taken lines exit = lines ++ exit_code distance next (is_empty lines) first frame taken exit

-- the lines that it doesn't take, and the exit
abbrev pub taking_code : (Name → ℕ) → (ℕ → ℕ) → (ℕ → ℕ → Bool) → Distance → Option ℕ → ℕ → ℕ → Option Test → List Line → Exit → List CodeLine
taking_code at m needed distance next first frame taken lines exit = ended_code distance next first frame taken (lines_code at m needed None 0 (own_lines taken lines)) exit

-- m: the entries of its lines; live: what lives at the starts of blocks; leads: where blocks lead; next: the label that stands behind it
abbrev pub block_code : (Name → ℕ) → (ℕ → ℕ) → (ℕ → ℕ → Bool) → (ℕ → ℕ) → Distance → Option ℕ → ℕ → ℕ → ℕ → Block → List CodeLine
block_code at m live leads distance next first frame b block = labelled (first + b) (taking_code at m (behind_each live block.lines.items block.exit) distance next first frame (taken_test live block.lines.items block.exit) block.lines.items (led leads block.exit))

-- ---- the order of blocks: the entry first, then the others, from the last to the first

-- the first n blocks, the entry left out, from the last to the first
abbrev pub others_below : ℕ → ℕ → List ℕ
others_below entry zero = []
others_below entry (suc n) = if n == entry then others_below entry n else n ∷ others_below entry n

abbrev pub laid_order : ℕ → ℕ → List ℕ
laid_order entry count = entry ∷ others_below entry count

-- what a function's blocks are laid by: places of objects, entries of its cuts by block and line, which registers live at the starts
-- of blocks, how far its labels are, the label of its block 0, its frame, its blocks and the number of the entry
pub record Laying : Type 0 where
  pub at : Name → ℕ
  pub cut : ℕ → ℕ → ℕ
  pub live : ℕ → ℕ → Bool
  pub distance : Distance
  pub first : ℕ
  pub frame : ℕ
  pub blocks : List Block
  pub entry : ℕ

-- where its blocks lead
abbrev pub leads_of : Laying → ℕ → ℕ
leads_of laying = lead laying.blocks laying.entry

-- the label of the first of these blocks
abbrev pub next_label : ℕ → List ℕ → Option ℕ
next_label first [] = None
next_label first (b ∷ behind) = Some (first + b)

abbrev pub found_code : Laying → ℕ → Option ℕ → Option Block → List CodeLine
found_code laying b next None = []
found_code laying b next (Some block) = block_code laying.at (laying.cut b) laying.live (leads_of laying) laying.distance next laying.first laying.frame b block

-- block b, behind which these stand
abbrev pub laid_block : Laying → ℕ → List ℕ → List CodeLine
laid_block laying b behind = found_code laying b (next_label laying.first behind) (slice_get laying.blocks b)

-- blocks in this order
abbrev pub laid_code : Laying → List ℕ → List CodeLine
laid_code laying [] = []
laid_code laying (b ∷ behind) = laid_block laying b behind ++ laid_code laying behind

-- without those that only lead on, for which no line is put
abbrev pub kept_order : Laying → List ℕ
kept_order laying = kept (leads_of laying) (laid_order laying.entry (length laying.blocks))

abbrev pub blocks_code : Laying → List CodeLine
blocks_code laying = laid_code laying (kept_order laying)

-- the test of the stack; the first block stands behind it
abbrev pub enter_code : List CodeLine
enter_code =
    plain_line (with_immediate Lw 5 0 28)
    ∷ plain_line (branching Bgeu 6 5 8)
    ∷ aimed stack_label (jumping 0 0)
    ∷ plain_line (with_immediate Addi 2 6 0)
    ∷ plain_line (storing Sw 2 1 0)
    ∷ []

abbrev pub prologue_code : ℕ → List CodeLine
prologue_code frame = adds_code 6 (2 ^ 32 - frame) ++ enter_code

-- the lines of function i
abbrev pub function_code : ℕ → Laying → List CodeLine
function_code i laying = labelled (entry_label i) (prologue_code laying.frame) ++ blocks_code laying
