-- The pieces of selected lines: constants, places, sums with the stack pointer. Each goes on to the next.
use Rattle.std.proofs.Common.{◌≡◌, ◌≢◌, ℕ, ◌⊎◌, inl, inr, Bool, true, false, refl}
use Rattle.std.specs.Prelude.{◌==◌, if◌then◌else◌}
use Rattle.im_num.specs.declared.kind.Kind.{Kind}
use Rattle.im_num.specs.declared.kind.Kind.TheVariants.{I8, U8, I16, U16, I32, U32, Ptr}
use Rattle.im_num.specs.Kinds.{is_signed}
use Rattle.im_rv.specs.declared.instr.Op.TheVariants.{Div, Divu, Rem, Remu, Sra, Srl, Slt, Sltu}
use Rattle.im_gap.specs.declared.flow.Turn.TheVariants.{Passes}
use Rattle.im_select_relation.specs.OperatorTables.{operation, less_op, load_op, store_op}
use Rattle.im_store.specs.declared.operators.BinaryOp.{BinaryOp}
use Rattle.im_store.specs.declared.operators.BinaryOp.TheVariants.{Add, Subtract, Multiply, Divide, Remainder, BitAnd, BitOr, BitXor, ShiftLeft, ShiftRight}
use Rattle.im_block.specs.declared.code.Place.{Place}
use Rattle.im_block.specs.declared.code.Place.TheVariants.{Static, Local, Through}
use Rattle.im_alloc_relation.specs.Live.{place_uses}
use Rattle.im_select.specs.Emitted.{high_of, low_of, constant_by, constant_code, displaced_by, displaced_code, displaced_base, adds_by, adds_code, place_code, place_base, step_op}
use Rattle.im_saved_code.specs.Scan.{way}
use Rattle.im_saved_code.proofs.Scanning.{IsUnsaved, unsaved_not, same_is, ArePlain, plain_append, Wants, wants_append}

-- ---- operations that go on to the next line

pub operation_way : (op : BinaryOp) (kind : Kind) → way (operation op kind) ≡ Passes
operation_way Add kind = refl
operation_way Subtract kind = refl
operation_way Multiply kind = refl
operation_way Divide kind = by (is_signed kind)
  where
    by : (b : Bool) → way (if b then Div else Divu) ≡ Passes
    by true = refl
    by false = refl
operation_way Remainder kind = by (is_signed kind)
  where
    by : (b : Bool) → way (if b then Rem else Remu) ≡ Passes
    by true = refl
    by false = refl
operation_way BitAnd kind = refl
operation_way BitOr kind = refl
operation_way BitXor kind = refl
operation_way ShiftLeft kind = refl
operation_way ShiftRight kind = by (is_signed kind)
  where
    by : (b : Bool) → way (if b then Sra else Srl) ≡ Passes
    by true = refl
    by false = refl

pub less_way : (kind : Kind) → way (less_op kind) ≡ Passes
less_way kind = by (is_signed kind)
  where
    by : (b : Bool) → way (if b then Slt else Sltu) ≡ Passes
    by true = refl
    by false = refl

pub load_way : (kind : Kind) → way (load_op kind) ≡ Passes
load_way I8 = refl
load_way U8 = refl
load_way I16 = refl
load_way U16 = refl
load_way I32 = refl
load_way U32 = refl
load_way Ptr = refl

pub store_way : (kind : Kind) → way (store_op kind) ≡ Passes
store_way I8 = refl
store_way U8 = refl
store_way I16 = refl
store_way U16 = refl
store_way I32 = refl
store_way U32 = refl
store_way Ptr = refl

pub step_way : (back : Bool) → way (step_op back) ≡ Passes
step_way true = refl
step_way false = refl

-- ---- constants

pub constant_plain : (rd n : ℕ) → ArePlain (constant_code rd n)
constant_plain rd n = by (high_of n == 0)
  where
    by : (b : Bool) → ArePlain (constant_by b rd (high_of n) (low_of n))
    by true = ((refl, refl), tt)
    by false = ((refl, refl), ((refl, refl), tt))

pub constant_wants : (rd n : ℕ) (X : Type 0) (r : ℕ) → IsUnsaved r → Wants (constant_code rd n) X r → (r ≢ rd) × X
constant_wants rd n X r u w = by (high_of n == 0) w
  where
    by : (b : Bool) → Wants (constant_by b rd (high_of n) (low_of n)) X r → (r ≢ rd) × X
    by true (inl e) = absurd (unsaved_not r 0 u refl e)
    by true (inr (inl e)) = absurd (unsaved_not r 0 u refl e)
    by true (inr (inr c)) = (c.0, c.1)
    by false (inl e) = absurd (unsaved_not r 0 u refl e)
    by false (inr (inl e)) = absurd (unsaved_not r 0 u refl e)
    by false (inr (inr c)) = second c.0 c.1
      where
        second : r ≢ rd → (r ≡ rd) ⊎ (r ≡ 0) ⊎ ((r ≢ rd) × X) → (r ≢ rd) × X
        second ne (inl e) = absurd (ne e)
        second ne (inr (inl e)) = absurd (unsaved_not r 0 u refl e)
        second ne (inr (inr d)) = (d.0, d.1)

-- ---- a register and an offset

pub displaced_plain : (base n : ℕ) → ArePlain (displaced_code base n)
displaced_plain base n = by (high_of n == 0)
  where
    by : (b : Bool) → ArePlain (displaced_by b base (high_of n))
    by true = tt
    by false = ((refl, refl), ((refl, refl), tt))

pub displaced_wants : (base n : ℕ) (X : Type 0) (r : ℕ) → IsUnsaved r → Wants (displaced_code base n) X r → (r ≡ base) ⊎ ((r ≡ displaced_base base n → r ≡ base) × X)
displaced_wants base n X r u w = by (high_of n == 0) w
  where
    second : r ≢ 5 → (r ≡ 5) ⊎ (r ≡ base) ⊎ ((r ≢ 5) × X) → (r ≡ base) ⊎ ((r ≡ 5 → r ≡ base) × X)
    second ne (inl e) = absurd (ne e)
    second ne (inr (inl e)) = inl e
    second ne (inr (inr d)) = inr ((λ e. absurd (ne e)), d.1)

    by : (b : Bool) → Wants (displaced_by b base (high_of n)) X r → (r ≡ base) ⊎ ((r ≡ (if b then base else 5) → r ≡ base) × X)
    by true x = inr ((λ e. e), x)
    by false (inl e) = absurd (unsaved_not r 0 u refl e)
    by false (inr (inl e)) = absurd (unsaved_not r 0 u refl e)
    by false (inr (inr c)) = second c.0 c.1

-- ---- the stack pointer plus a word

pub adds_plain : (rd n : ℕ) → ArePlain (adds_code rd n)
adds_plain rd n = by (high_of n == 0)
  where
    by : (b : Bool) → ArePlain (adds_by b rd n)
    by true = ((refl, refl), tt)
    by false = plain_append (constant_code 5 n) _ (constant_plain 5 n) ((refl, refl), tt)

pub adds_wants : (rd n : ℕ) (X : Type 0) (r : ℕ) → IsUnsaved r → Wants (adds_code rd n) X r → (r ≢ rd) × X
adds_wants rd n X r u w = by (high_of n == 0) w
  where
    last : r ≢ 5 → (r ≡ 2) ⊎ (r ≡ 5) ⊎ ((r ≢ rd) × X) → (r ≢ rd) × X
    last ne (inl e) = absurd (unsaved_not r 2 u refl e)
    last ne (inr (inl e)) = absurd (ne e)
    last ne (inr (inr c)) = (c.0, c.1)

    by : (b : Bool) → Wants (adds_by b rd n) X r → (r ≢ rd) × X
    by true (inl e) = absurd (unsaved_not r 2 u refl e)
    by true (inr (inl e)) = absurd (unsaved_not r 0 u refl e)
    by true (inr (inr c)) = (c.0, c.1)
    by false v = let c = constant_wants 5 n _ r u (wants_append (constant_code 5 n) _ X r v) in last c.0 c.1

-- ---- places

pub place_plain : (place : Place) (n : ℕ) → ArePlain (place_code place n)
place_plain (Static object offset) n = ((refl, refl), tt)
place_plain (Local object offset) n = displaced_plain 2 n
place_plain (Through pointer offset) n = displaced_plain pointer n

-- used, or not its base unless it is used
pub place_wants : (place : Place) (n : ℕ) (X : Type 0) (r : ℕ) → IsUnsaved r → Wants (place_code place n) X r → (place_uses place r ≡ true) ⊎ ((r ≡ place_base place n → place_uses place r ≡ true) × X)
place_wants (Static object offset) n X r u (inl e) = absurd (unsaved_not r 0 u refl e)
place_wants (Static object offset) n X r u (inr (inl e)) = absurd (unsaved_not r 0 u refl e)
place_wants (Static object offset) n X r u (inr (inr c)) = inr ((λ e. absurd (c.0 e)), c.1)
place_wants (Local object offset) n X r u w = elim (displaced_wants 2 n X r u w) [ inl e ↦ absurd (unsaved_not r 2 u refl e) | inr x ↦ inr ((λ e. absurd (unsaved_not r 2 u refl (x.0 e))), x.1) ]
place_wants (Through pointer offset) n X r u w = elim (displaced_wants pointer n X r u w) [ inl e ↦ inl (same_is r pointer e) | inr x ↦ inr ((λ e. same_is r pointer (x.0 e)), x.1) ]
