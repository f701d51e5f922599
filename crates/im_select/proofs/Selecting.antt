-- What is put for a line is what may stand for it.
use Rattle.std.proofs.Common.{◌≡◌, ◌<◌, ◌≤◌, ℕ, zero, suc, ◌+◌, ◌^◌, Bool, true, false, List, [], ◌∷◌, Option, Some, None, length, inl, inr, refl, sym, ap, ◌∙◌, subst, eq-eqb, arith}
use Rattle.std.specs.Prelude.{◌==◌, if◌then◌else◌}
use Rattle.im_num.specs.declared.kind.Kind.{Kind}
use Rattle.im_num.specs.declared.kind.Kind.TheVariants.{I8, U8, I16, U16, I32, U32, Ptr}
use Rattle.im_num.specs.Kinds.{word}
use Rattle.im_rv.specs.declared.instr.Op.TheVariants.{Addi, Add as AddOp, Mul}
use Rattle.im_rv.specs.Lines.{CodeLine, plain_line}
use Rattle.im_rv_reach.specs.Instructions.{Splits, with_immediate, on_registers, upper, jumping}
use Rattle.im_select_relation.proofs.Words.{word_small}
use Rattle.im_store.specs.declared.operators.UnaryOp.TheVariants.{Negate, Complement}
use Rattle.im_store.specs.declared.operators.Comparison.TheVariants.{Less as LessThan, Greater, LessOrEqual, GreaterOrEqual, Equal, NotEqual}
use Rattle.im_store.specs.Objects.{Name, Named, Slot}
use Rattle.im_serve.specs.Services.{row, IsNullary, IsUnary}
use Rattle.im_block.specs.declared.code.Place.{Place}
use Rattle.im_block.specs.declared.code.Place.TheVariants.{Static, Local, Through}
use Rattle.im_block.specs.declared.code.Line.{Line}
use Rattle.im_block.specs.declared.code.Line.TheVariants.{Put, PutNull, Copy, Convert, Unary, Not, Compute, Compare, Move, Distance, Address, Read, Write, Reload, Spill, Cut, Call, Serve}
use Rattle.im_alloc_placed.specs.Operands.{PlaceAtHome}
use Rattle.im_alloc_placed.specs.Placed.{IsPlacedLine}
use Rattle.im_select_relation.specs.Symbolic.{Lines, HasLine, Plain, Aimed, ConstantIn, Small, Large, DisplacedIn, Near, Far, BasedIn, InFrame, InStatic, Behind, AddsIn, Short, Long, Lesser, Larger, NotLarger, NotLesser, Same, Other, Whole, Already, Moved, CopiedIn, Narrowed, Masked, Bytes, Shifted, Multiplied, ScaledIn, SelectedIn, Numbers, Nulls, Copies, Converts, Negates, Complements, Nots, Computes, Compares, Moves, Measures, Addresses, AddressesPage, Fetches, StoresValue, Reloads, Spills, Cuts_, Calls, Serves_}
use Rattle.im_select_relation.specs.Selected.{IsHome, IsEntry, argument_register}
use Rattle.im_select.specs.Emitted.{high_of, low_of, constant_by, constant_code, displaced_by, displaced_code, displaced_base, adds_by, adds_code, place_number, place_code, place_base, moved_code, copied_code, step_op, shift_below, shift_of, shifts_code, scaled_code, scaled_register, based_code, address_code, line_code}
use Rattle.im_select.specs.Given.{Given}
use Rattle.im_select.specs.Places.{CallsBelow}
use Rattle.im_select.specs.Selects.{Agrees}
use Rattle.im_select.proofs.Ordering.{same_number}
use Rattle.im_select.proofs.Standing.{At, after, after_append, at_left, at_right}
use Rattle.im_select.proofs.Splitting.{splits, low_whole}

pub constant_in : (w : Lines) (k rd n : ℕ) → n < 2 ^ 32 → At w k (constant_code rd n) → ConstantIn w k rd n (after k (constant_code rd n))
constant_in w k rd n small = by (high_of n == 0) refl
  where
    by : (b : Bool) → (high_of n == 0) ≡ b → At w k (constant_by b rd (high_of n) (low_of n)) → ConstantIn w k rd n (after k (constant_by b rd (high_of n) (low_of n)))
    by true e a = Small n small (subst (λ z. Plain w k (with_immediate Addi rd 0 z)) (low_whole n small (same_number (high_of n) 0 e)) a.0)
    by false e a = Large n (high_of n) (low_of n) (splits n small) a.0 a.1.0

pub displaced_in : (w : Lines) (k r n : ℕ) → n < 2 ^ 32 → At w k (displaced_code r n) → DisplacedIn w k r n (displaced_base r n) (low_of n) (after k (displaced_code r n))
displaced_in w k r n small = by (high_of n == 0) refl
  where
    by : (b : Bool) → (high_of n == 0) ≡ b → At w k (displaced_by b r (high_of n)) → DisplacedIn w k r n (if b then r else 5) (low_of n) (after k (displaced_by b r (high_of n)))
    by true e a = subst (λ z. DisplacedIn w k r n r z k) (sym (low_whole n small (same_number (high_of n) 0 e))) (Near n)
    by false e a = Far n (high_of n) (low_of n) (splits n small) a.0 a.1.0

pub adds_in : (w : Lines) (k rd n : ℕ) → n < 2 ^ 32 → At w k (adds_code rd n) → AddsIn w k rd n (after k (adds_code rd n))
adds_in w k rd n small = by (high_of n == 0) refl
  where
    by : (b : Bool) → (high_of n == 0) ≡ b → At w k (adds_by b rd n) → AddsIn w k rd n (after k (adds_by b rd n))
    by true e a = Short (subst (λ z. Plain w k (with_immediate Addi rd 2 z)) (low_whole n small (same_number (high_of n) 0 e)) a.0)
    by false e a =
        let last : CodeLine = plain_line (on_registers AddOp rd 2 5) in
        let r = at_right w k (constant_code 5 n) (last ∷ []) a in
        subst (AddsIn w k rd n) (sym (after_append k (constant_code 5 n) (last ∷ [])))
        (Long (after k (constant_code 5 n)) (constant_in w k 5 n small (at_left w k (constant_code 5 n) (last ∷ []) a)) r.0)

pub based_in : (w : Lines) (k : ℕ) (place : Place) → place_number w.at place < 2 ^ 32 → PlaceAtHome place → At w k (place_code place (place_number w.at place)) → BasedIn w k place (place_base place (place_number w.at place)) (low_of (place_number w.at place)) (after k (place_code place (place_number w.at place)))
based_in w k (Static object offset) small home a = InStatic object offset (high_of (w.at (Named object) + offset)) (low_of (w.at (Named object) + offset)) (splits (w.at (Named object) + offset) small) a.0
based_in w k (Local object offset) small home a = InFrame object offset _ _ _ (displaced_in w k 2 (w.at (Named object) + offset) small a)
based_in w k (Through r offset) small home a = Behind r offset _ _ _ home (displaced_in w k r offset small a)

addressed_in : (w : Lines) (k to : ℕ) (place : Place) → IsHome to → PlaceAtHome place → place_number w.at place < 2 ^ 32 → At w k (based_code to place (place_number w.at place)) → SelectedIn w k (Address to place) (after k (based_code to place (place_number w.at place)))
addressed_in w k to place h home small a =
    let n : ℕ = place_number w.at place in
    let code : List CodeLine = place_code place n in
    let last : List CodeLine = plain_line (with_immediate Addi to (place_base place n) (low_of n)) ∷ [] in
    let r = at_right w k code last a in
    subst (SelectedIn w k (Address to place)) (sym (after_append k code last))
    (Addresses to place _ _ (after k code) h (based_in w k place small home (at_left w k code last a)) r.0)

abbrev page_code : ℕ → ℕ → List CodeLine
page_code to n = plain_line (upper to (high_of n)) ∷ []

static_in : (w : Lines) (k to object offset : ℕ) → IsHome to → w.at (Named object) + offset < 2 ^ 32 → At w k (address_code to (Static object offset) (w.at (Named object) + offset)) → SelectedIn w k (Address to (Static object offset)) (after k (address_code to (Static object offset) (w.at (Named object) + offset)))
static_in w k to object offset h small = by (w.at (Named object) + offset) refl (low_of (w.at (Named object) + offset) == 0) refl
  where
    by : (n : ℕ) → w.at (Named object) + offset ≡ n → (t : Bool) → (low_of n == 0) ≡ t → At w k (if t then page_code to n else based_code to (Static object offset) n) → SelectedIn w k (Address to (Static object offset)) (after k (if t then page_code to n else based_code to (Static object offset) n))
    by n q true e a = AddressesPage to object offset (high_of n) h (subst (λ z. Splits (high_of n) 0 z) (sym q) (subst (λ z. Splits (high_of n) z n) (same_number (low_of n) 0 e) (splits n (subst (λ z. z < 2 ^ 32) q small)))) a.0
    by n q false e a = subst (λ z. At w k (based_code to (Static object offset) z) → SelectedIn w k (Address to (Static object offset)) (after k (based_code to (Static object offset) z))) q (addressed_in w k to (Static object offset) h tt small) a

-- ---- copies and multiples

copied_in : (w : Lines) (k to from : ℕ) → At w k (copied_code to from) → CopiedIn w k to from (after k (copied_code to from))
copied_in w k to from = by (to == from) refl
  where
    by : (t : Bool) → (to == from) ≡ t → At w k (if t then [] else moved_code to from) → CopiedIn w k to from (after k (if t then [] else moved_code to from))
    by true e a = Already (same_number to from e)
    by false e a = Moved (λ s. let t = eq-eqb to from s in cc) a.0

shift_is : (size n bits : ℕ) → shift_below size n ≡ Some bits → (bits ≤ n) × (size ≡ 2 ^ bits)
shift_is size zero bits e = absurd cc
shift_is size (suc n) bits e = by (shift_is size n bits) (size == 2 ^ suc n) refl e
  where
    by : (shift_below size n ≡ Some bits → (bits ≤ n) × (size ≡ 2 ^ bits)) → (t : Bool) → (size == 2 ^ suc n) ≡ t → (if t then Some (suc n) else shift_below size n) ≡ Some bits → (bits ≤ suc n) × (size ≡ 2 ^ bits)
    by h true f e = let same : suc n ≡ bits = cc in (omega arith, same_number size (2 ^ suc n) f ∙ ap (λ z. 2 ^ z) same)
    by h false f e = let r = h e in (let l = r.0 in omega arith, r.1)

shifts_in : (w : Lines) (k size by : ℕ) (shift : Option ℕ) → shift_below size 20 ≡ shift → size < 2 ^ 32 → At w k (shifts_code shift size by) → ScaledIn w k size by 5 (after k (shifts_code shift size by))
shifts_in w k size by None e small a =
    let code : List CodeLine = constant_code 5 size in
    let last : List CodeLine = plain_line (on_registers Mul 5 5 by) ∷ [] in
    let r = at_right w k code last a in
    subst (ScaledIn w k size by 5) (sym (after_append k code last)) (Multiplied (after k code) (constant_in w k 5 size small (at_left w k code last a)) r.0)
shifts_in w k size by (Some bits) e small a = let h = shift_is size 20 bits e in Shifted bits (let l = h.0 in omega arith) h.1 a.0

scaled_in : (w : Lines) (k size by : ℕ) → size < 2 ^ 32 → At w k (scaled_code size by) → ScaledIn w k size by (scaled_register size by) (after k (scaled_code size by))
unfolding shift_of
scaled_in w k size by small = cases (size == 1) refl
  where
    cases : (t : Bool) → (size == 1) ≡ t → At w k (if t then [] else shifts_code (shift_of size) size by) → ScaledIn w k size by (if t then by else 5) (after k (if t then [] else shifts_code (shift_of size) size by))
    cases true e a = Bytes (same_number size 1 e)
    cases false e a = shifts_in w k size by (shift_of size) refl small a

-- numbers of places that a line names are words
abbrev pub Words : (Name → ℕ) → Line → Type 0
Words at (Address to place) = place_number at place < 2 ^ 32
Words at (Read to place kind access) = place_number at place < 2 ^ 32
Words at (Write place kind from access) = place_number at place < 2 ^ 32
Words at (Reload to slot access) = at (Slot slot) < 2 ^ 32
Words at (Spill slot from access) = at (Slot slot) < 2 ^ 32
Words at line = Unit {0}

-- a service's argument is in x10
no_argument : (parameter : Option Kind) → IsNullary parameter → argument_register parameter ≡ None
no_argument None h = refl
no_argument (Some kind) h = absurd h

one_argument : (parameter : Option Kind) (from : ℕ) → from ≡ 10 → IsUnary parameter → argument_register parameter ≡ Some from
one_argument None from e h = absurd h
one_argument (Some kind) from e h = ap Some (sym e)

-- the place that a store names is the same by two maps of objects
abbrev pub Sited : (Name → ℕ) → (Name → ℕ) → Line → Type 0
Sited own at (Write place kind from access) = place_number own place ≡ place_number at place
Sited own at line = Unit {0}

pub selected_in : (w : Lines) (given : Given) (k m : ℕ) → IsEntry m → Agrees w given → (line : Line) → IsPlacedLine (length given.statics) given.function line → CallsBelow given.functions line → Words w.at line → At w k (line_code w.at m line) → SelectedIn w k line (after k (line_code w.at m line))
selected_in w given k m o g (Put to z) h c s a = Numbers to z _ h (constant_in w k to (word z) (word_small z) a)
selected_in w given k m o g (PutNull to) h c s a = Nulls to h a.0
selected_in w given k m o g (Copy to from) h c s a = Copies to from _ h.0 h.1 (copied_in w k to from a)
selected_in w given k m o g (Convert to I8 from) h c s a = Converts to I8 from _ h.0 h.1 (Narrowed (omega arith) a.0 a.1.0)
selected_in w given k m o g (Convert to U8 from) h c s a = Converts to U8 from _ h.0 h.1 (Masked refl a.0)
selected_in w given k m o g (Convert to I16 from) h c s a = Converts to I16 from _ h.0 h.1 (Narrowed (omega arith) a.0 a.1.0)
selected_in w given k m o g (Convert to U16 from) h c s a = Converts to U16 from _ h.0 h.1 (Narrowed (omega arith) a.0 a.1.0)
selected_in w given k m o g (Convert to I32 from) h c s a = Converts to I32 from _ h.0 h.1 (Whole _ (inl refl) (copied_in w k to from a))
selected_in w given k m o g (Convert to U32 from) h c s a = Converts to U32 from _ h.0 h.1 (Whole _ (inr refl) (copied_in w k to from a))
selected_in w given k m o g (Convert to Ptr from) h c s a = absurd (h.2 refl)
selected_in w given k m o g (Unary to Negate kind from) h c s a = Negates to kind from h.0 h.1 h.2 a.0
selected_in w given k m o g (Unary to Complement kind from) h c s a = Complements to kind from h.0 h.1 h.2 a.0
selected_in w given k m o g (Not to from) h c s a = Nots to from h.0 h.1 a.0
selected_in w given k m o g (Compute to op kind left right) h c s a = Computes to op kind left right h.0 h.1 h.2 h.3 a.0
selected_in w given k m o g (Compare to LessThan kind left right) h c s a = Compares to LessThan kind left right _ h.0 h.1 h.2 h.3 (Lesser a.0)
selected_in w given k m o g (Compare to Greater kind left right) h c s a = Compares to Greater kind left right _ h.0 h.1 h.2 h.3 (Larger a.0)
selected_in w given k m o g (Compare to LessOrEqual kind left right) h c s a = Compares to LessOrEqual kind left right _ h.0 h.1 h.2 h.3 (NotLarger a.0 a.1.0)
selected_in w given k m o g (Compare to GreaterOrEqual kind left right) h c s a = Compares to GreaterOrEqual kind left right _ h.0 h.1 h.2 h.3 (NotLesser a.0 a.1.0)
selected_in w given k m o g (Compare to Equal kind left right) h c s a = Compares to Equal kind left right _ h.0 h.1 h.2 h.3 (Same a.0 a.1.0)
selected_in w given k m o g (Compare to NotEqual kind left right) h c s a = Compares to NotEqual kind left right _ h.0 h.1 h.2 h.3 (Other a.0 a.1.0)
selected_in w given k m o g (Move to size back pointer by) h c s a =
    let code : List CodeLine = scaled_code size by in
    let last : List CodeLine = plain_line (on_registers (step_op back) to pointer (scaled_register size by)) ∷ [] in
    let r = at_right w k code last a in
    subst (SelectedIn w k (Move to size back pointer by)) (sym (after_append k code last))
    (Moves to size back pointer by (scaled_register size by) (after k code) h.0 h.1 h.2 h.3 (scaled_in w k size by h.3 (at_left w k code last a)) r.0)
selected_in w given k m o g (Distance to size left right) h c s a =
    let r = at_right w (suc k) (constant_code 6 size) _ a.1 in
    let small : size < 2 ^ 32 = (let q = h.4 in omega arith) in
    subst (SelectedIn w k (Distance to size left right)) (sym (after_append (suc k) (constant_code 6 size) _))
    (Measures to size left right (after (suc k) (constant_code 6 size)) h.0 h.1 h.2 h.3 h.4 a.0 (constant_in w (suc k) 6 size small (at_left w (suc k) (constant_code 6 size) _ a.1)) r.0)
selected_in w given k m o g (Address to (Static object offset)) h c s a = static_in w k to object offset h.0 s a
selected_in w given k m o g (Address to (Local object offset)) h c s a = addressed_in w k to (Local object offset) h.0 h.1 s a
selected_in w given k m o g (Address to (Through r offset)) h c s a = addressed_in w k to (Through r offset) h.0 h.1 s a
selected_in w given k m o g (Read to place kind access) h c s a =
    let r = at_right w k (place_code place (place_number w.at place)) _ a in
    subst (SelectedIn w k (Read to place kind access)) (sym (after_append k (place_code place (place_number w.at place)) _))
    (Fetches to place kind access _ _ (after k (place_code place (place_number w.at place))) h.0 (based_in w k place s h.1 (at_left w k (place_code place (place_number w.at place)) _ a)) r.0)
selected_in w given k m o g (Write place kind from access) h c s a =
    let r = at_right w k (place_code place (place_number w.at place)) _ a in
    subst (SelectedIn w k (Write place kind from access)) (sym (after_append k (place_code place (place_number w.at place)) _))
    (StoresValue place kind from access _ _ (after k (place_code place (place_number w.at place))) h.0 (based_in w k place s h.1 (at_left w k (place_code place (place_number w.at place)) _ a)) r.0)
selected_in w given k m o g (Reload to slot access) h c s a =
    let code = displaced_code 2 (w.at (Slot slot)) in
    let r = at_right w k code _ a in
    subst (SelectedIn w k (Reload to slot access)) (sym (after_append k code _))
    (Reloads to slot access _ _ (after k code) h.0 (displaced_in w k 2 (w.at (Slot slot)) s (at_left w k code _ a)) r.0)
selected_in w given k m o g (Spill slot from access) h c s a =
    let code = displaced_code 2 (w.at (Slot slot)) in
    let r = at_right w k code _ a in
    subst (SelectedIn w k (Spill slot from access)) (sym (after_append k code _))
    (Spills slot from access _ _ (after k code) h.0 (displaced_in w k 2 (w.at (Slot slot)) s (at_left w k code _ a)) r.0)
selected_in w given k m o g (Cut cause) h c s a = Cuts_ cause m o (subst (λ z. HasLine w k (jumping 3 0) (Some z) None (Some cause)) (sym (g.checkpoint m o)) a.0)
selected_in w given k m o g (Call to i base count) h c s a =
    let call : Aimed w k (jumping 1 0) (w.entry i) = subst (Aimed w k (jumping 1 0)) (sym (g.entries i c)) a.0 in
    subst (λ z. SelectedIn w k (Call z i base count) (suc k)) (sym h.0) (subst (λ z. SelectedIn w k (Call 10 i z count) (suc k)) (sym h.1) (Calls i count call))
selected_in w given k m o g (Serve to service None) h c s a =
    let call : Aimed w k (jumping 1 0) (w.serves service) = subst (Aimed w k (jumping 1 0)) (sym (g.serves service)) a.0 in
    subst (λ z. SelectedIn w k (Serve z service None) (suc k)) (sym h.0) (subst (λ z. SelectedIn w k (Serve 10 service z) (suc k)) (no_argument (row service).parameter h.1) (Serves_ service call))
selected_in w given k m o g (Serve to service (Some from)) h c s a =
    let call : Aimed w k (jumping 1 0) (w.serves service) = subst (Aimed w k (jumping 1 0)) (sym (g.serves service)) a.0 in
    subst (λ z. SelectedIn w k (Serve z service (Some from)) (suc k)) (sym h.0) (subst (λ z. SelectedIn w k (Serve 10 service z) (suc k)) (one_argument (row service).parameter from h.1 h.2) (Serves_ service call))
