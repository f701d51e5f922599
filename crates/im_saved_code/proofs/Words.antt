-- What the words of lines are, and how they go on.
use Rattle.std.proofs.Common.{◌≡◌, ℕ, ◌<◌, ◌⊎◌, inl, inr, Bool, true, false, cond, List, Option, Some, None, length, refl, sym, ap, ◌∙◌, subst, arith}
use Rattle.std.specs.Prelude.{slice_get, slice_index}
use Rattle.std.proofs.lemmas.Option.{slice_get_within, slice_get-get_or, slice_get_past, slice_get_cases}
use Rattle.im_rv.specs.declared.code.Line.{Line}
use Rattle.im_rv.specs.declared.format.Format.{Format}
use Rattle.im_rv.specs.declared.format.Format.TheVariants.{Register, Immediate, Shift, Store, Branch, Upper, Jump, Order, Whole}
use Rattle.im_rv.specs.declared.instr.Op.{Op}
use Rattle.im_rv.specs.declared.instr.Op.TheVariants.{Jal, Sw, Fence}
use Rattle.im_rv.specs.Formats.{format_of}
use Rattle.im_rv.specs.Decode.{Line as Instruction, fields, line_at, decode}
use Rattle.im_rv.specs.Effects.{decoded_word}
use Rattle.im_rv.specs.Code.{instruction_at}
use Rattle.im_gap.specs.declared.flow.Turn.TheVariants.{Passes, Jumps, Stops}
use Rattle.im_gap.specs.Flow.{is_flip, turn_by, links_by}
use Rattle.im_link.specs.Links.{Does, AreWordsOf}
use Rattle.im_saved_code.specs.Scan.{way}
use Rattle.im_saved_code.proofs.Scanning.{same_of}
use Rattle.im_saved.specs.Liveness.{has_result}

-- word i, which does what the line does
pub record Word (lines : List Line) (words : List ℕ) (i : ℕ) (line : Line) : Type 0 where
  pub to : Instruction
  pub w : ℕ
  pub decoded : decode w ≡ Some to
  pub here : instruction_at words i ≡ Some to
  pub does : Does lines i line line.target to
  pub op : to.op ≡ line.instr.op
  pub rd : to.rd ≡ line.instr.rd
  pub rs1 : to.rs1 ≡ line.instr.rs1
  pub rs2 : to.rs2 ≡ line.instr.rs2

record Same (line : Line) (to : Instruction) : Type 0 where
  op : to.op ≡ line.instr.op
  rd : to.rd ≡ line.instr.rd
  rs1 : to.rs1 ≡ line.instr.rs1
  rs2 : to.rs2 ≡ line.instr.rs2

same_of_does : (lines : List Line) (i : ℕ) (line : Line) (target : Option ℕ) (to : Instruction) → Does lines i line target to → Same line to
same_of_does lines i line None to d = record {
  op = ap (λ (z : Instruction). z.op) d;
  rd = ap (λ (z : Instruction). z.rd) d;
  rs1 = ap (λ (z : Instruction). z.rs1) d;
  rs2 = ap (λ (z : Instruction). z.rs2) d;
}
same_of_does lines i line (Some l) to d = record { op = d.2.op; rd = d.2.rd; rs1 = d.2.rs1; rs2 = d.2.rs2 }

pub word_of : (lines : List Line) (words : List ℕ) (i : ℕ) (line : Line) → AreWordsOf lines words → slice_get lines i ≡ Some line → Word lines words i line
word_of lines words i line are e =
    let k = are.each i line e in
    let within : i < length lines = slice_get_within lines i line e in
    let count = are.count in
    let s = same_of_does lines i line line.target k.0 k.2 in
    record {
      to = k.0;
      w = slice_index words i;
      decoded = k.1;
      here = ap decoded_word (slice_get-get_or words i 0 (omega arith)) ∙ k.1;
      does = k.2;
      op = s.op;
      rd = s.rd;
      rs1 = s.rs1;
      rs2 = s.rs2;
    }

pub no_word : (lines : List Line) (words : List ℕ) (i : ℕ) → AreWordsOf lines words → slice_get lines i ≡ None → instruction_at words i ≡ None
no_word lines words i are e = elim (slice_get_cases lines i).1 [
  | inl c ↦ (let bad = c.2 in absurd cc)
  | inr c ↦ (let le = c.0 in let count = are.count in ap decoded_word (slice_get_past words i (omega arith)))
]

-- ---- what has no result names x0

fields_op : (format : Format) (op : Op) (w : ℕ) → (fields format op w).op ≡ op
fields_op Register op w = refl
fields_op Immediate op w = refl
fields_op Shift op w = refl
fields_op Store op w = refl
fields_op Branch op w = refl
fields_op Upper op w = refl
fields_op Jump op w = refl
fields_op Order op w = refl
fields_op Whole op w = refl

fields_rd : (format : Format) (op : Op) (w : ℕ) → has_result format ≡ false → (format ≡ Order → ⊥) → (fields format op w).rd ≡ 0
fields_rd Register op w h n = absurd cc
fields_rd Immediate op w h n = absurd cc
fields_rd Shift op w h n = absurd cc
fields_rd Store op w h n = refl
fields_rd Branch op w h n = refl
fields_rd Upper op w h n = absurd cc
fields_rd Jump op w h n = absurd cc
fields_rd Order op w h n = absurd (n refl)
fields_rd Whole op w h n = refl

order_stops : (op : Op) → format_of op ≡ Order → way op ≡ Stops
order_stops Fence e = refl
order_stops op e = absurd cc

pub resultless : (w : ℕ) (o : Option Op) (to : Instruction) → line_at w o ≡ Some to → has_result (format_of to.op) ≡ false → (way to.op ≡ Stops → ⊥) → to.rd ≡ 0
resultless w None to e h n = absurd cc
resultless w (Some op) to e h n =
    let same : fields (format_of op) op w ≡ to = cc in
    let is : op ≡ to.op = sym (fields_op (format_of op) op w) ∙ ap (λ (z : Instruction). z.op) same in
    sym (ap (λ (z : Instruction). z.rd) same)
    ∙ fields_rd (format_of op) op w (subst (λ z. has_result (format_of z) ≡ false) (sym is) h) (λ q. n (ap way (sym is) ∙ order_stops op q))

-- ---- how a word goes on

pub turn_way : (op : Op) (l : Instruction) → (turn_by op l ≡ way op) ⊎ ((turn_by op l ≡ Stops) ⊎ (op ≡ Fence))
turn_way Sw l = by (is_flip l)
  where
    by : (b : Bool) → (cond b Stops Passes ≡ Passes) ⊎ ((cond b Stops Passes ≡ Stops) ⊎ (Sw ≡ Fence))
    by true = inr (inl refl)
    by false = inl refl
turn_way Fence l = inr (inr refl)
turn_way op l = inl refl

-- what a jal that links a register is
pub links_is : (r : ℕ) (l : Instruction) → links_by l.op r l.rd ≡ true → (l.op ≡ Jal) × (l.rd ≡ r)
links_is r l e = by l.op e
  where
    by : (op : Op) → links_by op r l.rd ≡ true → (op ≡ Jal) × (l.rd ≡ r)
    by Jal e = (refl, same_of l.rd r e)
    by op e = absurd cc

pub jumps_is : (op : Op) → way op ≡ Jumps → op ≡ Jal
jumps_is Jal e = refl
jumps_is op e = absurd cc
