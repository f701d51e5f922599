-- A line that is neither a cut nor a call: selected, it uses and sets what it does in placed code, beside registers that each cut saves.
use Rattle.std.proofs.Common.{◌≡◌, ◌≢◌, ℕ, ◌^◌, ◌<◌, ◌⊎◌, inl, inr, Bool, true, false, List, [], ◌∷◌, ◌++◌, Option, Some, None, refl, sym, ap, ◌∙◌, subst}
use Rattle.std.specs.Prelude.{◌==◌, ◌&&◌, ◌||◌, not, nat_lt, if◌then◌else◌}
use Rattle.im_num.specs.declared.kind.Kind.{Kind}
use Rattle.im_num.specs.declared.kind.Kind.TheVariants.{I8, U8, I16, U16, I32, U32, Ptr}
use Rattle.im_num.specs.Kinds.{is_signed, word}
use Rattle.im_rv.specs.declared.instr.Op.{Op}
use Rattle.im_rv.specs.declared.instr.Op.TheVariants.{Addi, Slti, Sltiu, Xori, Ori, Andi, Slli, Srli, Srai, Sltu}
use Rattle.im_rv.specs.Decode.{Line as Instruction}
use Rattle.im_rv.specs.Lines.{CodeLine, plain_line}
use Rattle.im_rv_reach.specs.Instructions.{with_immediate, on_registers, upper}
use Rattle.im_gap.specs.declared.flow.Turn.TheVariants.{Passes}
use Rattle.im_select_relation.specs.OperatorTables.{by_sign, commutes, less_op, less_by, least}
use Rattle.im_store.specs.declared.operators.BinaryOp.{BinaryOp}
use Rattle.im_store.specs.declared.operators.BinaryOp.TheVariants.{Add, Subtract, BitAnd, BitOr, BitXor, ShiftLeft, ShiftRight}
use Rattle.im_store.specs.declared.operators.UnaryOp.TheVariants.{Negate, Complement}
use Rattle.im_store.specs.declared.operators.Comparison.{Comparison}
use Rattle.im_store.specs.declared.operators.Comparison.TheVariants.{Less, Greater, LessOrEqual, GreaterOrEqual, Equal, NotEqual}
use Rattle.im_store.specs.Objects.{Name, Slot}
use Rattle.im_block.specs.declared.code.Place.{Place}
use Rattle.im_block.specs.declared.code.Place.TheVariants.{Static, Local, Through}
use Rattle.im_block.specs.declared.code.Line.{Line}
use Rattle.im_block.specs.declared.code.Line.TheVariants.{Put, PutNull, Copy, Convert, Unary, Not, Compute, Compare, Move, Distance, Address, Read, Write, Reload, Spill, Cut, Call, Serve}
use Rattle.im_alloc_relation.specs.Live.{uses, sets, place_uses}
use Rattle.im_live.specs.Reads.{writes}
use Rattle.im_select.specs.declared.folding.Constant.{Constant}
use Rattle.im_select.specs.Emitted.{high_of, low_of, constant_code, displaced_code, displaced_base, place_number, place_code, place_base, moved_code, copied_code, compared_code, shifted_code, step_op, shift_of, multiplied_code, shifts_code, scaled_code, pointer_code, based_code, address_code, computed_code, by_low, by_bits, negated, above, immediate_line, constant_line, below_line, comparison_start, comparison_rest, comparison_line, by_or, stored_from, way_code, line_code}
use Rattle.im_select.proofs.Pairing.{Spent, Takes, OnRight, OnLeft, Weighs, Stores, right_code, left_code, weighs_code, low_is, below_is, above_small, ZeroOr, IsNone, IsSome, zero_or, immediate_of}
use Rattle.im_saved_code.specs.Scan.{way}
use Rattle.im_saved_code.proofs.Scanning.{IsUnsaved, unsaved_not, either, other_is, or_left, or_right, same_of, same_is, ArePlain, plain_append, Wants, wants_append}
use Rattle.im_saved_code.proofs.Plain.{operation_way, less_way, load_way, store_way, step_way, constant_plain, constant_wants, displaced_plain, displaced_wants, place_plain, place_wants}

-- no cut and no call
abbrev pub IsWork : Line → Type 0
IsWork (Cut cause) = ⊥
IsWork (Call to i first count) = ⊥
IsWork (Serve to service None) = ⊥
IsWork (Serve to service (Some from)) = ⊥
IsWork line = Unit {0}

srl_way : (b : Bool) → way (if b then Srai else Srli) ≡ Passes
srl_way true = refl
srl_way false = refl

shifted_plain : (to bits : ℕ) (signed : Bool) (from : ℕ) → ArePlain (shifted_code to bits signed from)
shifted_plain to bits signed from = ((refl, refl), ((srl_way signed, refl), tt))

copied_plain : (to from : ℕ) → ArePlain (copied_code to from)
copied_plain to from = by (to == from)
  where
    by : (b : Bool) → ArePlain (if b then [] else moved_code to from)
    by true = tt
    by false = ((refl, refl), tt)

shifts_plain : (bits : Option ℕ) (size by : ℕ) → ArePlain (shifts_code bits size by)
shifts_plain None size by = plain_append (constant_code 5 size) _ (constant_plain 5 size) ((refl, refl), tt)
shifts_plain (Some bits) size by = ((refl, refl), tt)

scaled_plain : (size by : ℕ) → ArePlain (scaled_code size by)
scaled_plain size by = one (size == 1)
  where
    one : (b : Bool) → ArePlain (if b then [] else shifts_code (shift_of size) size by)
    one true = tt
    one false = shifts_plain (shift_of size) size by

based_plain : (to : ℕ) (place : Place) (n : ℕ) → ArePlain (based_code to place n)
based_plain to place n = plain_append (place_code place n) _ (place_plain place n) ((refl, refl), tt)

address_plain : (to : ℕ) (place : Place) (n : ℕ) → ArePlain (address_code to place n)
address_plain to (Static object offset) n = by (low_of n == 0)
  where
    by : (b : Bool) → ArePlain (if b then plain_line (upper to (high_of n)) ∷ [] else based_code to (Static object offset) n)
    by true = ((refl, refl), tt)
    by false = based_plain to (Static object offset) n
address_plain to (Local object offset) n = based_plain to (Local object offset) n
address_plain to (Through r offset) n = based_plain to (Through r offset) n

compared_plain : (to : ℕ) (kind : Kind) (left right : ℕ) (op : Comparison) → ArePlain (compared_code to (less_op kind) left right op)
compared_plain to kind left right Less = ((less_way kind, refl), tt)
compared_plain to kind left right Greater = ((less_way kind, refl), tt)
compared_plain to kind left right LessOrEqual = ((less_way kind, refl), ((refl, refl), tt))
compared_plain to kind left right GreaterOrEqual = ((less_way kind, refl), ((refl, refl), tt))
compared_plain to kind left right Equal = ((refl, refl), ((refl, refl), tt))
compared_plain to kind left right NotEqual = ((refl, refl), ((refl, refl), tt))

pub work_plain : (at : Name → ℕ) (m : ℕ) (line : Line) → IsWork line → ArePlain (line_code at m line)
work_plain at m (Put to z) work = constant_plain to (word z)
work_plain at m (PutNull to) work = ((refl, refl), tt)
work_plain at m (Copy to from) work = copied_plain to from
work_plain at m (Convert to I8 from) work = shifted_plain to 24 true from
work_plain at m (Convert to U8 from) work = ((refl, refl), tt)
work_plain at m (Convert to I16 from) work = shifted_plain to 16 true from
work_plain at m (Convert to U16 from) work = shifted_plain to 16 false from
work_plain at m (Convert to I32 from) work = copied_plain to from
work_plain at m (Convert to U32 from) work = copied_plain to from
work_plain at m (Convert to Ptr from) work = copied_plain to from
work_plain at m (Unary to Negate kind from) work = ((refl, refl), tt)
work_plain at m (Unary to Complement kind from) work = ((refl, refl), tt)
work_plain at m (Not to from) work = ((refl, refl), tt)
work_plain at m (Compute to op kind left right) work = ((operation_way op kind, refl), tt)
work_plain at m (Compare to op kind left right) work = compared_plain to kind left right op
work_plain at m (Move to size back pointer by) work = plain_append (scaled_code size by) _ (scaled_plain size by) ((step_way back, refl), tt)
work_plain at m (Distance to size left right) work = ((refl, refl), plain_append (constant_code 6 size) _ (constant_plain 6 size) ((refl, refl), tt))
work_plain at m (Address to place) work = address_plain to place (place_number at place)
work_plain at m (Read to place kind access) work = plain_append (place_code place (place_number at place)) _ (place_plain place (place_number at place)) ((load_way kind, refl), tt)
work_plain at m (Write place kind from access) work = plain_append (place_code place (place_number at place)) _ (place_plain place (place_number at place)) ((store_way kind, refl), tt)
work_plain at m (Reload to slot access) work = plain_append (displaced_code 2 (at (Slot slot))) _ (displaced_plain 2 (at (Slot slot))) ((refl, refl), tt)
work_plain at m (Spill slot from access) work = plain_append (displaced_code 2 (at (Slot slot))) _ (displaced_plain 2 (at (Slot slot))) ((refl, refl), tt)
work_plain at m (Cut cause) work = absurd work
work_plain at m (Call to i first count) work = absurd work
work_plain at m (Serve to service None) work = absurd work
work_plain at m (Serve to service (Some from)) work = absurd work

-- ---- with an immediate

low_way : (op : Op) (to left n : ℕ) (l : Instruction) → way op ≡ Passes → by_low op to left n ≡ Some l → way l.op ≡ Passes
low_way op to left n l w = by (high_of n == 0)
  where
    by : (b : Bool) → (if b then Some (with_immediate op to left (low_of n)) else None) ≡ Some l → way l.op ≡ Passes
    by true e = let s : with_immediate op to left (low_of n) ≡ l = cc in subst (λ (x : Instruction). way x.op ≡ Passes) s w
    by false e = absurd cc

bits_way : (op : Op) (to left n : ℕ) (l : Instruction) → way op ≡ Passes → by_bits op to left n ≡ Some l → way l.op ≡ Passes
bits_way op to left n l w = by (nat_lt n 32)
  where
    by : (b : Bool) → (if b then Some (with_immediate op to left n) else None) ≡ Some l → way l.op ≡ Passes
    by true e = let s : with_immediate op to left n ≡ l = cc in subst (λ (x : Instruction). way x.op ≡ Passes) s w
    by false e = absurd cc

pub immediate_way : (to : ℕ) (op : BinaryOp) (kind : Kind) (left n : ℕ) (l : Instruction) → immediate_line to op kind left n ≡ Some l → way l.op ≡ Passes
immediate_way to Add kind left n l e = low_way Addi to left n l refl e
immediate_way to Subtract kind left n l e = low_way Addi to left (negated n) l refl e
immediate_way to BitAnd kind left n l e = low_way Andi to left n l refl e
immediate_way to BitOr kind left n l e = low_way Ori to left n l refl e
immediate_way to BitXor kind left n l e = low_way Xori to left n l refl e
immediate_way to ShiftLeft kind left n l e = bits_way Slli to left n l refl e
immediate_way to ShiftRight kind left n l e = bits_way (by_sign kind Srai Srli) to left n l (srl_way (is_signed kind)) e
immediate_way to op kind left n l e = absurd cc

pub constant_way : (to : ℕ) (op : BinaryOp) (kind : Kind) (left right : ℕ) (c : Constant) (l : Instruction) → constant_line to op kind left right c ≡ Some l → way l.op ≡ Passes
constant_way to op kind left right c l = by (right == c.register) (left == c.register) (commutes op)
  where
    by : (p q s : Bool) → (if p then (if q then None else immediate_line to op kind left c.word) else (if q && s then immediate_line to op kind right c.word else None)) ≡ Some l → way l.op ≡ Passes
    by true true s e = absurd cc
    by true false s e = immediate_way to op kind left c.word l e
    by false true true e = immediate_way to op kind right c.word l e
    by false true false e = absurd cc
    by false false s e = absurd cc

slt_way : (b : Bool) → way (if b then Slti else Sltiu) ≡ Passes
slt_way true = refl
slt_way false = refl

below_way : (to : ℕ) (kind : Kind) (left n : ℕ) (l : Instruction) → below_line to kind left n ≡ Some l → way l.op ≡ Passes
below_way to kind left n l = by (n == least kind)
  where
    by : (b : Bool) → (if b then None else by_low (less_by kind) to left n) ≡ Some l → way l.op ≡ Passes
    by true e = absurd cc
    by false e = low_way (less_by kind) to left n l (slt_way (is_signed kind)) e

zero_way : (zero : Instruction) (left n : ℕ) (l : Instruction) → way zero.op ≡ Passes → (if n == 0 then Some zero else by_low Addi 5 left (negated n)) ≡ Some l → way l.op ≡ Passes
zero_way zero left n l w = by (n == 0)
  where
    by : (b : Bool) → (if b then Some zero else by_low Addi 5 left (negated n)) ≡ Some l → way l.op ≡ Passes
    by true e = let s : zero ≡ l = cc in subst (λ (x : Instruction). way x.op ≡ Passes) s w
    by false e = low_way Addi 5 left (negated n) l refl e

weighing_way : (to : ℕ) (op : Comparison) (kind : Kind) (left n : ℕ) (l : Instruction) → comparison_start to op kind left n ≡ Some l → way l.op ≡ Passes
weighing_way to Less kind left n l e = low_way (less_by kind) to left n l (slt_way (is_signed kind)) e
weighing_way to Greater kind left n l e = below_way to kind left (above n) l e
weighing_way to LessOrEqual kind left n l e = below_way to kind left (above n) l e
weighing_way to GreaterOrEqual kind left n l e = low_way (less_by kind) to left n l (slt_way (is_signed kind)) e
weighing_way to Equal kind left n l e = zero_way (with_immediate Sltiu to left 1) left n l refl e
weighing_way to NotEqual kind left n l e = zero_way (on_registers Sltu to 0 left) left n l refl e

pub comparison_way : (to : ℕ) (op : Comparison) (kind : Kind) (left right : ℕ) (c : Constant) (l : Instruction) → comparison_line to op kind left right c ≡ Some l → way l.op ≡ Passes
comparison_way to op kind left right c l = by (right == c.register) (left == c.register)
  where
    by : (p q : Bool) → (if p && not q then comparison_start to op kind left c.word else None) ≡ Some l → way l.op ≡ Passes
    by true false e = weighing_way to op kind left c.word l e
    by true true e = absurd cc
    by false q e = absurd cc

weighed_plain : (to : ℕ) (op : Comparison) (n : ℕ) → ArePlain (comparison_rest to op n)
weighed_plain to Less n = tt
weighed_plain to Greater n = ((refl, refl), tt)
weighed_plain to LessOrEqual n = tt
weighed_plain to GreaterOrEqual n = ((refl, refl), tt)
weighed_plain to Equal n = by (n == 0)
  where
    by : (b : Bool) → ArePlain (if b then [] else plain_line (with_immediate Sltiu to 5 1) ∷ [])
    by true = tt
    by false = ((refl, refl), tt)
weighed_plain to NotEqual n = by (n == 0)
  where
    by : (b : Bool) → ArePlain (if b then [] else plain_line (on_registers Sltu to 0 5) ∷ [])
    by true = tt
    by false = ((refl, refl), tt)

-- whatever it takes and passes on
pub way_plain : (at : Name → ℕ) (m : ℕ) (passed before : Option Constant) (line : Line) → IsWork line → ArePlain (way_code at m passed before line)
way_plain at m None before (Put to z) work = work_plain at m (Put to z) work
way_plain at m (Some c) before (Put to z) work = tt
way_plain at m None before (PutNull to) work = work_plain at m (PutNull to) work
way_plain at m (Some c) before (PutNull to) work = tt
way_plain at m passed None (Compute to op kind left right) work = work_plain at m (Compute to op kind left right) work
way_plain at m passed (Some c) (Compute to op kind left right) work = by (constant_line to op kind left right c) refl
  where
    by : (o : Option Instruction) → constant_line to op kind left right c ≡ o → ArePlain (by_or (computed_code to op kind left right) o [])
    by None e = ((operation_way op kind, refl), tt)
    by (Some l) e = ((constant_way to op kind left right c l e, refl), tt)
way_plain at m passed None (Compare to op kind left right) work = work_plain at m (Compare to op kind left right) work
way_plain at m passed (Some c) (Compare to op kind left right) work = by (comparison_line to op kind left right c) refl
  where
    by : (o : Option Instruction) → comparison_line to op kind left right c ≡ o → ArePlain (by_or (compared_code to (less_op kind) left right op) o (comparison_rest to op c.word))
    by None e = work_plain at m (Compare to op kind left right) work
    by (Some l) e = ((comparison_way to op kind left right c l e, refl), weighed_plain to op c.word)
way_plain at m passed before (Write place kind from access) work = work_plain at m (Write place kind (stored_from before from) access) work
way_plain at m passed before line work = work_plain at m line work

-- ---- what they want

module _ (X : Type 0) (r : ℕ) (u : IsUnsaved r) where
  -- used, or wanted behind a line that sets `to`
  abbrev Wanted : Bool → ℕ → Type 0
  Wanted used to = (used ≡ true) ⊎ (((r == to) ≡ false) × X)

  abbrev One : ℕ → ℕ → ℕ → Type 0 → Type 0
  One a b to Y = (r ≡ a) ⊎ (r ≡ b) ⊎ ((r ≢ to) × Y)

  -- an instruction with one operand, or with two
  none_of : (to : ℕ) → One 0 0 to X → Wanted false to
  none_of to (inl e) = absurd (unsaved_not r 0 u refl e)
  none_of to (inr (inl e)) = absurd (unsaved_not r 0 u refl e)
  none_of to (inr (inr c)) = inr (other_is r to c.0, c.1)

  one_of : (from to : ℕ) → One from 0 to X → Wanted (r == from) to
  one_of from to (inl e) = inl (same_is r from e)
  one_of from to (inr (inl e)) = absurd (unsaved_not r 0 u refl e)
  one_of from to (inr (inr c)) = inr (other_is r to c.0, c.1)

  -- a copy, which to itself is no line
  copied_of : (from to : ℕ) → Wants (copied_code to from) X r → Wanted (r == from) to
  copied_of from to w = by (to == from) refl w
    where
      own : to ≡ from → X → (t : Bool) → (r == from) ≡ t → Wanted (r == from) to
      own e x true t = inl t
      own e x false t = inr (ap (λ z. r == z) e ∙ t, x)

      by : (b : Bool) → (to == from) ≡ b → Wants (if b then [] else moved_code to from) X r → Wanted (r == from) to
      by true e x = own (same_of to from e) x (r == from) refl
      by false e v = one_of from to v

  zero_one_of : (from to : ℕ) → One 0 from to X → Wanted (r == from) to
  zero_one_of from to (inl e) = absurd (unsaved_not r 0 u refl e)
  zero_one_of from to (inr (inl e)) = inl (same_is r from e)
  zero_one_of from to (inr (inr c)) = inr (other_is r to c.0, c.1)

  two_of : (left right to : ℕ) → One left right to X → Wanted (r == left || r == right) to
  two_of left right to (inl e) = inl (or_left (r == left) (r == right) (same_is r left e))
  two_of left right to (inr (inl e)) = inl (or_right (r == left) (r == right) (same_is r right e))
  two_of left right to (inr (inr c)) = inr (other_is r to c.0, c.1)

  turned_of : (left right to : ℕ) → One right left to X → Wanted (r == left || r == right) to
  turned_of left right to (inl e) = inl (or_right (r == left) (r == right) (same_is r right e))
  turned_of left right to (inr (inl e)) = inl (or_left (r == left) (r == right) (same_is r left e))
  turned_of left right to (inr (inr c)) = inr (other_is r to c.0, c.1)

  -- and a second one, on what the first one set
  on_to : (to : ℕ) → r ≢ to → One to 0 to X → X
  on_to to ne (inl e) = absurd (ne e)
  on_to to ne (inr (inl e)) = absurd (unsaved_not r 0 u refl e)
  on_to to ne (inr (inr c)) = c.1

  one_twice : (from to : ℕ) → One from 0 to (One to 0 to X) → Wanted (r == from) to
  one_twice from to (inl e) = inl (same_is r from e)
  one_twice from to (inr (inl e)) = absurd (unsaved_not r 0 u refl e)
  one_twice from to (inr (inr c)) = inr (other_is r to c.0, on_to to c.0 c.1)

  two_twice : (left right to : ℕ) → One left right to (One to 0 to X) → Wanted (r == left || r == right) to
  two_twice left right to (inl e) = inl (or_left (r == left) (r == right) (same_is r left e))
  two_twice left right to (inr (inl e)) = inl (or_right (r == left) (r == right) (same_is r right e))
  two_twice left right to (inr (inr c)) = inr (other_is r to c.0, on_to to c.0 c.1)

  turned_twice : (left right to : ℕ) → One right left to (One to 0 to X) → Wanted (r == left || r == right) to
  turned_twice left right to (inl e) = inl (or_right (r == left) (r == right) (same_is r right e))
  turned_twice left right to (inr (inl e)) = inl (or_left (r == left) (r == right) (same_is r left e))
  turned_twice left right to (inr (inr c)) = inr (other_is r to c.0, on_to to c.0 c.1)

  zero_not : (r ≡ 0) → ⊥
  zero_not e = unsaved_not r 0 u refl e

  -- through x5
  by_five : (left right to : ℕ) → One left right 5 (One 5 0 to X) → Wanted (r == left || r == right) to
  by_five left right to (inl e) = inl (or_left (r == left) (r == right) (same_is r left e))
  by_five left right to (inr (inl e)) = inl (or_right (r == left) (r == right) (same_is r right e))
  by_five left right to (inr (inr (ne, inl e))) = absurd (ne e)
  by_five left right to (inr (inr (ne, inr (inl e)))) = absurd (zero_not e)
  by_five left right to (inr (inr (ne, inr (inr c)))) = inr (other_is r to c.0, c.1)

  not_five : (left right to : ℕ) → One left right 5 (One 0 5 to X) → Wanted (r == left || r == right) to
  not_five left right to (inl e) = inl (or_left (r == left) (r == right) (same_is r left e))
  not_five left right to (inr (inl e)) = inl (or_right (r == left) (r == right) (same_is r right e))
  not_five left right to (inr (inr (ne, inl e))) = absurd (zero_not e)
  not_five left right to (inr (inr (ne, inr (inl e)))) = absurd (ne e)
  not_five left right to (inr (inr (ne, inr (inr c)))) = inr (other_is r to c.0, c.1)

  -- a comparison with a word
  five_of : (left to : ℕ) → One left 0 5 (One 5 0 to X) → Wanted (r == left) to
  five_of left to (inl e) = inl (same_is r left e)
  five_of left to (inr (inl e)) = absurd (zero_not e)
  five_of left to (inr (inr (ne, inl e))) = absurd (ne e)
  five_of left to (inr (inr (ne, inr (inl e)))) = absurd (zero_not e)
  five_of left to (inr (inr (ne, inr (inr c)))) = inr (other_is r to c.0, c.1)

  zero_five_of : (left to : ℕ) → One left 0 5 (One 0 5 to X) → Wanted (r == left) to
  zero_five_of left to (inl e) = inl (same_is r left e)
  zero_five_of left to (inr (inl e)) = absurd (zero_not e)
  zero_five_of left to (inr (inr (ne, inl e))) = absurd (zero_not e)
  zero_five_of left to (inr (inr (ne, inr (inl e)))) = absurd (ne e)
  zero_five_of left to (inr (inr (ne, inr (inr c)))) = inr (other_is r to c.0, c.1)

  equal_of : (left n to : ℕ) (l : Instruction) (rest : List CodeLine) → ZeroOr n (with_immediate Sltiu to left 1) left (plain_line (with_immediate Sltiu to 5 1)) l rest → Wants (plain_line l ∷ rest) X r → Wanted (r == left) to
  equal_of left n to l rest (IsNone e) w = one_of left to w
  equal_of left n to l rest IsSome w = five_of left to w

  unequal_of : (left n to : ℕ) (l : Instruction) (rest : List CodeLine) → ZeroOr n (on_registers Sltu to 0 left) left (plain_line (on_registers Sltu to 0 5)) l rest → Wants (plain_line l ∷ rest) X r → Wanted (r == left) to
  unequal_of left n to l rest (IsNone e) w = zero_one_of left to w
  unequal_of left n to l rest IsSome w = zero_five_of left to w

  weighed_of : (to : ℕ) (op : Comparison) (kind : Kind) (left n : ℕ) (l : Instruction) → n < 2 ^ 32 → comparison_start to op kind left n ≡ Some l → Wants (plain_line l ∷ comparison_rest to op n) X r → Wanted (r == left) to
  weighed_of to Less kind left n l small e w = one_of left to (subst (λ x. Wants (plain_line x ∷ []) X r) (low_is (less_by kind) to left n l small e) w)
  weighed_of to Greater kind left n l small e w = one_twice left to (subst (λ x. Wants (plain_line x ∷ comparison_rest to Greater n) X r) (below_is to kind left (above n) l (above_small n) e).1 w)
  weighed_of to LessOrEqual kind left n l small e w = one_of left to (subst (λ x. Wants (plain_line x ∷ []) X r) (below_is to kind left (above n) l (above_small n) e).1 w)
  weighed_of to GreaterOrEqual kind left n l small e w = one_twice left to (subst (λ x. Wants (plain_line x ∷ comparison_rest to GreaterOrEqual n) X r) (low_is (less_by kind) to left n l small e) w)
  weighed_of to Equal kind left n l small e w = equal_of left n to l _ (zero_or n (with_immediate Sltiu to left 1) left (plain_line (with_immediate Sltiu to 5 1)) l small e) w
  weighed_of to NotEqual kind left n l small e w = unequal_of left n to l _ (zero_or n (on_registers Sltu to 0 left) left (plain_line (on_registers Sltu to 0 5)) l small e) w

  moved_of : (pointer by to : ℕ) → r ≢ 5 → One 5 by 5 (One pointer 5 to X) → Wanted (r == pointer || r == by) to
  moved_of pointer by to away (inl e) = absurd (away e)
  moved_of pointer by to away (inr (inl e)) = inl (or_right (r == pointer) (r == by) (same_is r by e))
  moved_of pointer by to away (inr (inr (ne, inl e))) = inl (or_left (r == pointer) (r == by) (same_is r pointer e))
  moved_of pointer by to away (inr (inr (ne, inr (inl e)))) = absurd (ne e)
  moved_of pointer by to away (inr (inr (ne, inr (inr c)))) = inr (other_is r to c.0, c.1)

  -- scaled by a shift
  lifted_of : (pointer by to : ℕ) → One by 0 5 (One pointer 5 to X) → Wanted (r == pointer || r == by) to
  lifted_of pointer by to (inl e) = inl (or_right (r == pointer) (r == by) (same_is r by e))
  lifted_of pointer by to (inr (inl e)) = absurd (zero_not e)
  lifted_of pointer by to (inr (inr (ne, inl e))) = inl (or_left (r == pointer) (r == by) (same_is r pointer e))
  lifted_of pointer by to (inr (inr (ne, inr (inl e)))) = absurd (ne e)
  lifted_of pointer by to (inr (inr (ne, inr (inr c)))) = inr (other_is r to c.0, c.1)

  shifts_of : (bits : Option ℕ) (size by pointer to : ℕ) (back : Bool) → Wants (shifts_code bits size by ++ plain_line (on_registers (step_op back) to pointer 5) ∷ []) X r → Wanted (r == pointer || r == by) to
  shifts_of None size by pointer to back w =
      let v = wants_append (multiplied_code size by) (plain_line (on_registers (step_op back) to pointer 5) ∷ []) X r w in
      let c = constant_wants 5 size _ r u (wants_append (constant_code 5 size) _ _ r v) in
      moved_of pointer by to c.0 c.1
  shifts_of (Some bits) size by pointer to back w = lifted_of pointer by to w

  scaled_of : (size by pointer to : ℕ) (back : Bool) → Wants (pointer_code to size back pointer by) X r → Wanted (r == pointer || r == by) to
  scaled_of size by pointer to back w = one (size == 1) w
    where
      one : (b : Bool) → Wants ((if b then [] else shifts_code (shift_of size) size by) ++ plain_line (on_registers (step_op back) to pointer (if b then by else 5)) ∷ []) X r → Wanted (r == pointer || r == by) to
      one true v = two_of pointer by to v
      one false v = shifts_of (shift_of size) size by pointer to back v

  divided_of : (to : ℕ) → r ≢ 5 → r ≢ 6 → One 5 6 to X → Wanted false to
  divided_of to away apart (inl e) = absurd (away e)
  divided_of to away apart (inr (inl e)) = absurd (apart e)
  divided_of to away apart (inr (inr c)) = inr (other_is r to c.0, c.1)

  measured_of : (left right to : ℕ) (Y : Type 0) → (Y → (r ≢ 6) × One 5 6 to X) → One left right 5 Y → Wanted (r == left || r == right) to
  measured_of left right to Y k (inl e) = inl (or_left (r == left) (r == right) (same_is r left e))
  measured_of left right to Y k (inr (inl e)) = inl (or_right (r == left) (r == right) (same_is r right e))
  measured_of left right to Y k (inr (inr c)) = let d = k c.1 in elim (divided_of to c.0 d.0 d.1) [ inl e ↦ absurd cc | inr x ↦ inr x ]

  -- a place, and then an instruction on its base
  placed_of : (place : Place) (n to : ℕ) → (r ≡ place_base place n → place_uses place r ≡ true) → One (place_base place n) 0 to X → Wanted (place_uses place r) to
  placed_of place n to base (inl e) = inl (base e)
  placed_of place n to base (inr (inl e)) = absurd (zero_not e)
  placed_of place n to base (inr (inr c)) = inr (other_is r to c.0, c.1)

  address_of : (place : Place) (n to : ℕ) → (place_uses place r ≡ true) ⊎ ((r ≡ place_base place n → place_uses place r ≡ true) × One (place_base place n) 0 to X) → Wanted (place_uses place r) to
  address_of place n to (inl e) = inl e
  address_of place n to (inr w) = placed_of place n to w.0 w.1

  based_of : (place : Place) (n to : ℕ) → Wants (based_code to place n) X r → Wanted (place_uses place r) to
  based_of place n to w = address_of place n to (place_wants place n _ r u (wants_append (place_code place n) _ X r w))

  addressed_of : (place : Place) (n to : ℕ) → Wants (address_code to place n) X r → Wanted (place_uses place r) to
  addressed_of (Static object offset) n to w = by (low_of n == 0) w
    where
      by : (b : Bool) → Wants (if b then plain_line (upper to (high_of n)) ∷ [] else based_code to (Static object offset) n) X r → Wanted false to
      by true v = none_of to v
      by false v = based_of (Static object offset) n to v
  addressed_of (Local object offset) n to w = based_of (Local object offset) n to w
  addressed_of (Through pointer offset) n to w = based_of (Through pointer offset) n to w

  stored_of : (place : Place) (n from : ℕ) → (place_uses place r ≡ true) ⊎ ((r ≡ place_base place n → place_uses place r ≡ true) × One (place_base place n) from 0 X) → ((place_uses place r || r == from) ≡ true) ⊎ X
  stored_of place n from (inl e) = inl (or_left (place_uses place r) (r == from) e)
  stored_of place n from (inr (base, inl e)) = inl (or_left (place_uses place r) (r == from) (base e))
  stored_of place n from (inr (base, inr (inl e))) = inl (or_right (place_uses place r) (r == from) (same_is r from e))
  stored_of place n from (inr (base, inr (inr c))) = inr c.1

  -- a slot is at the stack pointer
  two_not : (r ≡ 2) → ⊥
  two_not e = unsaved_not r 2 u refl e

  reloaded_of : (n to : ℕ) → (r ≡ 2) ⊎ ((r ≡ displaced_base 2 n → r ≡ 2) × One (displaced_base 2 n) 0 to X) → Wanted false to
  reloaded_of n to (inl e) = absurd (two_not e)
  reloaded_of n to (inr (base, inl e)) = absurd (two_not (base e))
  reloaded_of n to (inr (base, inr (inl e))) = absurd (zero_not e)
  reloaded_of n to (inr (base, inr (inr c))) = inr (other_is r to c.0, c.1)

  spilled_of : (n from : ℕ) → (r ≡ 2) ⊎ ((r ≡ displaced_base 2 n → r ≡ 2) × One (displaced_base 2 n) from 0 X) → ((r == from) ≡ true) ⊎ X
  spilled_of n from (inl e) = absurd (two_not e)
  spilled_of n from (inr (base, inl e)) = absurd (two_not (base e))
  spilled_of n from (inr (base, inr (inl e))) = inl (same_is r from e)
  spilled_of n from (inr (base, inr (inr c))) = inr c.1

  sets_none : (used : Bool) → (used ≡ true) ⊎ X → (used ≡ true) ⊎ ((false ≡ false) × X)
  sets_none used (inl e) = inl e
  sets_none used (inr x) = inr (refl, x)

pub work_wants : (at : Name → ℕ) (m : ℕ) (line : Line) → IsWork line → (X : Type 0) (r : ℕ) → IsUnsaved r → Wants (line_code at m line) X r → (uses line r ≡ true) ⊎ ((sets line r ≡ false) × X)
work_wants at m (Put to z) work X r u w = let c = constant_wants to (word z) X r u w in inr (other_is r to c.0, c.1)
work_wants at m (PutNull to) work X r u w = none_of X r u to w
work_wants at m (Copy to from) work X r u w = copied_of X r u from to w
work_wants at m (Convert to I8 from) work X r u w = one_twice X r u from to w
work_wants at m (Convert to U8 from) work X r u w = one_of X r u from to w
work_wants at m (Convert to I16 from) work X r u w = one_twice X r u from to w
work_wants at m (Convert to U16 from) work X r u w = one_twice X r u from to w
work_wants at m (Convert to I32 from) work X r u w = copied_of X r u from to w
work_wants at m (Convert to U32 from) work X r u w = copied_of X r u from to w
work_wants at m (Convert to Ptr from) work X r u w = copied_of X r u from to w
work_wants at m (Unary to Negate kind from) work X r u w = zero_one_of X r u from to w
work_wants at m (Unary to Complement kind from) work X r u w = one_of X r u from to w
work_wants at m (Not to from) work X r u w = one_of X r u from to w
work_wants at m (Compute to op kind left right) work X r u w = two_of X r u left right to w
work_wants at m (Compare to Less kind left right) work X r u w = two_of X r u left right to w
work_wants at m (Compare to Greater kind left right) work X r u w = turned_of X r u left right to w
work_wants at m (Compare to LessOrEqual kind left right) work X r u w = turned_twice X r u left right to w
work_wants at m (Compare to GreaterOrEqual kind left right) work X r u w = two_twice X r u left right to w
work_wants at m (Compare to Equal kind left right) work X r u w = by_five X r u left right to w
work_wants at m (Compare to NotEqual kind left right) work X r u w = not_five X r u left right to w
work_wants at m (Move to size back pointer by) work X r u w = scaled_of X r u size by pointer to back w
work_wants at m (Distance to size left right) work X r u w = measured_of X r u left right to _ (λ y. (let c = constant_wants 6 size _ r u (wants_append (constant_code 6 size) _ X r y) in (c.0, c.1))) w
work_wants at m (Address to place) work X r u w = addressed_of X r u place (place_number at place) to w
work_wants at m (Read to place kind access) work X r u w =
    let n : ℕ = place_number at place in
    address_of X r u place n to (place_wants place n _ r u (wants_append (place_code place n) _ X r w))
work_wants at m (Write place kind from access) work X r u w =
    let n : ℕ = place_number at place in
    sets_none X r u (place_uses place r || r == from) (stored_of X r u place n from (place_wants place n _ r u (wants_append (place_code place n) _ X r w)))
work_wants at m (Reload to slot access) work X r u w =
    let n : ℕ = at (Slot slot) in
    reloaded_of X r u n to (displaced_wants 2 n _ r u (wants_append (displaced_code 2 n) _ X r w))
work_wants at m (Spill slot from access) work X r u w =
    let n : ℕ = at (Slot slot) in
    sets_none X r u (r == from) (spilled_of X r u n from (displaced_wants 2 n _ r u (wants_append (displaced_code 2 n) _ X r w)))
work_wants at m (Cut cause) work X r u w = absurd work
work_wants at m (Call to i first count) work X r u w = absurd work
work_wants at m (Serve to service None) work X r u w = absurd work
work_wants at m (Serve to service (Some from)) work X r u w = absurd work

-- ---- a line that takes the constant before it

pub taker_works : (lives : ℕ → Bool) (c : Constant) (user : Line) → Takes lives c user → IsWork user
taker_works lives c user (OnRight to op kind left l ne spent e) = tt
taker_works lives c user (OnLeft to op kind right l ne spent turns e) = tt
taker_works lives c user (Weighs to op kind left l ne spent e) = tt
taker_works lives c user (Stores place kind access zero apart unread) = tt

pub taker_writes : (lives : ℕ → Bool) (c : Constant) (user : Line) (r : ℕ) → Takes lives c user → writes user r ≡ sets user r
taker_writes lives c user r (OnRight to op kind left l ne spent e) = refl
taker_writes lives c user r (OnLeft to op kind right l ne spent turns e) = refl
taker_writes lives c user r (Weighs to op kind left l ne spent e) = refl
taker_writes lives c user r (Stores place kind access zero apart unread) = refl

-- the constant's register doesn't live behind it, unless it sets that
spent_dead : (lives : ℕ → Bool) (to x r : ℕ) → Spent lives to x → (r == to) ≡ false → r ≡ x → lives x ≡ false
spent_dead lives to x r (inl e) other q = absurd (let same = same_is r to (q ∙ e) in let bad : true ≡ false = sym same ∙ other in cc)
spent_dead lives to x r (inr dead) other q = dead

pub taker_spent : (lives : ℕ → Bool) (c : Constant) (user : Line) (r : ℕ) → Takes lives c user → sets user r ≡ false → r ≡ c.register → lives c.register ≡ false
taker_spent lives c user r (OnRight to op kind left l ne spent e) other q = spent_dead lives to c.register r spent other q
taker_spent lives c user r (OnLeft to op kind right l ne spent turns e) other q = spent_dead lives to c.register r spent other q
taker_spent lives c user r (Weighs to op kind left l ne spent e) other q = spent_dead lives to c.register r spent other q
taker_spent lives c user r (Stores place kind access zero apart unread) other q = unread

-- it wants what it uses beside the constant
abbrev pub Taken : Type 0 → ℕ → ℕ → Line → Type 0
Taken X r x user = ((uses user r ≡ true) × (r ≢ x)) ⊎ ((sets user r ≡ false) × X)

one_left : (r left x : ℕ) → left ≢ x → (r == left) ≡ true → ((r == left || r == x) ≡ true) × (r ≢ x)
one_left r left x ne e = (or_left (r == left) (r == x) e, λ q. ne (sym (same_of r left e) ∙ q))

one_right : (r right x : ℕ) → right ≢ x → (r == right) ≡ true → ((r == x || r == right) ≡ true) × (r ≢ x)
one_right r right x ne e = (or_right (r == x) (r == right) e, λ q. ne (sym (same_of r right e) ∙ q))

pub taker_wants : (at : Name → ℕ) (m : ℕ) (lives : ℕ → Bool) (c : Constant) (user : Line) → c.word < 2 ^ 32 → Takes lives c user → (X : Type 0) (r : ℕ) → IsUnsaved r → Wants (way_code at m None (Some c) user) X r → Taken X r c.register user
taker_wants at m lives c user small (OnRight to op kind left l ne spent e) X r u w =
    let i = immediate_of to op kind left c.word l small e in
    let v : Wants (plain_line l ∷ []) X r = subst (λ z. Wants z X r) (right_code to op kind left c l ne e) w in
    elim (one_of X r u left to (subst (λ x. Wants (plain_line x ∷ []) X r) i.line v)) [ inl a ↦ inl (one_left r left c.register ne a) | inr b ↦ inr b ]
taker_wants at m lives c user small (OnLeft to op kind right l ne spent turns e) X r u w =
    let i = immediate_of to op kind right c.word l small e in
    let v : Wants (plain_line l ∷ []) X r = subst (λ z. Wants z X r) (left_code to op kind right c l ne turns e) w in
    elim (one_of X r u right to (subst (λ x. Wants (plain_line x ∷ []) X r) i.line v)) [ inl a ↦ inl (one_right r right c.register ne a) | inr b ↦ inr b ]
taker_wants at m lives c user small (Weighs to op kind left l ne spent e) X r u w =
    let v : Wants (plain_line l ∷ comparison_rest to op c.word) X r = subst (λ z. Wants z X r) (weighs_code to op kind left c l ne e) w in
    elim (weighed_of X r u to op kind left c.word l small e v) [ inl a ↦ inl (one_left r left c.register ne a) | inr b ↦ inr b ]
taker_wants at m lives c user small (Stores place kind access zero apart unread) X r u w = elim (work_wants at m (Write place kind 0 access) tt X r u w) [
  | inl a ↦ elim (either (place_uses place r) (r == 0) a) [
    | inl b ↦ inl (or_left (place_uses place r) (r == c.register) b, λ q. (let bad : true ≡ false = sym b ∙ ap (place_uses place) q ∙ apart in cc))
    | inr b ↦ absurd (unsaved_not r 0 u refl (same_of r 0 b))
  ]
  | inr b ↦ inr b
]
