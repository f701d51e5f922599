-- How each operation goes on, and what it sets, whatever its operands.
use Rattle.std.proofs.Common.{◌≡◌, ◌≢◌, ℕ, ◌⊎◌, inl, inr, Bool, true, false, cond, Option, Some, None, refl, arith}
use Rattle.std.specs.Prelude.{◌==◌, ◌&&◌, nat_lt}
use Rattle.std.proofs.lemmas.Bool.Decides.{nat_tests}
use Rattle.im_mem.specs.Memory.{Mem, loaded, is_place, stored}
use Rattle.im_rv.specs.declared.instr.Op.{Op}
use Rattle.im_rv.specs.declared.instr.Op.TheVariants.{Lui, Jal, Jalr, Beq, Bne, Blt, Bge, Bltu, Bgeu, Sw, Ebreak}
use Rattle.im_rv.specs.declared.step.Went.TheVariants.{On, Faulted}
use Rattle.im_rv.specs.declared.effect.Effect.{Effect}
use Rattle.im_rv.specs.declared.effect.Effect.TheVariants.{Puts, Goes, Loads, Stores, Stops as Ends}
use Rattle.im_rv.specs.declared.effect.Extension.{Extension}
use Rattle.im_rv.specs.Formats.{format_of}
use Rattle.im_rv.specs.Steps.{Cpu, Stepped, sum_of, row, less_signed, effected, loads, faulted}
use Rattle.im_rv.specs.Effects.{sets_by}
use Rattle.im_rv.specs.Decode.{Line}
use Rattle.im_gap.specs.declared.flow.Turn.TheVariants.{Passes, Returns, Stops}
use Rattle.im_gap.specs.Flow.{is_flip, turn_by, links_by}
use Rattle.im_saved.specs.Liveness.{has_result, names_target}

-- where an effect leads, if it is no halt or fault
abbrev pub place_by : Effect → ℕ → ℕ
place_by (Puts v target) pc = target
place_by (Goes target) pc = target
place_by (Loads a n extension) pc = sum_of pc 4
place_by (Stores a n v) pc = sum_of pc 4
place_by Ends pc = pc

-- where an operation's row leads
pub data Way (op : Op) (l : Line) (pc a b imm : ℕ) : Type 0 where
  Over : ((r rd : ℕ) → links_by op r rd ≡ false) → place_by (row op pc a b imm) pc ≡ sum_of pc 4 → Way op l pc a b imm
  To : names_target (turn_by op l) ≡ true → place_by (row op pc a b imm) pc ≡ sum_of pc imm → Way op l pc a b imm
  Back : ((r rd : ℕ) → links_by op r rd ≡ false) → turn_by op l ≡ Returns → Way op l pc a b imm
  Halts : row op pc a b imm ≡ Ends → Way op l pc a b imm

taken : (op : Op) (l : Line) (pc a b imm : ℕ) (t : Bool) → ((r rd : ℕ) → links_by op r rd ≡ false) → names_target (turn_by op l) ≡ true → place_by (row op pc a b imm) pc ≡ cond t (sum_of pc imm) (sum_of pc 4) → Way op l pc a b imm
taken op l pc a b imm true away names e = To names e
taken op l pc a b imm false away names e = Over away e

passed : (op : Op) (l : Line) (pc a b imm : ℕ) (t : Bool) → ((r rd : ℕ) → links_by op r rd ≡ false) → names_target (turn_by op l) ≡ true → place_by (row op pc a b imm) pc ≡ cond t (sum_of pc 4) (sum_of pc imm) → Way op l pc a b imm
passed op l pc a b imm true away names e = Over away e
passed op l pc a b imm false away names e = To names e

pub way : (op : Op) (l : Line) (pc a b imm : ℕ) → Way op l pc a b imm
way Jal l pc a b imm = To refl refl
way Jalr l pc a b imm = Back (λ r rd. refl) refl
way Beq l pc a b imm = taken Beq l pc a b imm (a == b) (λ r rd. refl) refl refl
way Bne l pc a b imm = passed Bne l pc a b imm (a == b) (λ r rd. refl) refl refl
way Blt l pc a b imm = taken Blt l pc a b imm (less_signed a b) (λ r rd. refl) refl refl
way Bge l pc a b imm = passed Bge l pc a b imm (less_signed a b) (λ r rd. refl) refl refl
way Bltu l pc a b imm = taken Bltu l pc a b imm (nat_lt a b) (λ r rd. refl) refl refl
way Bgeu l pc a b imm = passed Bgeu l pc a b imm (nat_lt a b) (λ r rd. refl) refl refl
way Ebreak l pc a b imm = Halts refl
way op l pc a b imm = Over (λ r rd. refl) refl

equal_of : (i j : ℕ) → (i == j) ≡ true → i ≡ j
equal_of i j h = grind (arith, nat_tests)

pub link_of : (op : Op) (r rd : ℕ) → links_by op r rd ≡ true → (op ≡ Jal) × (rd ≡ r)
link_of Jal r rd h = (refl, equal_of rd r h)
link_of op r rd h = absurd (cc)

by_flip : (t : Bool) → cond t Stops Passes ≡ Stops → t ≡ true
by_flip true h = refl
by_flip false h = absurd (cc)

pub stop_of : (op : Op) (l : Line) → turn_by op l ≡ Stops → (op ≡ Ebreak) ⊎ ((op ≡ Sw) × (is_flip l ≡ true))
stop_of Ebreak l h = inl refl
stop_of Sw l h = inr (refl, by_flip (is_flip l) h)
stop_of op l h = absurd (cc)

-- an operation sets a register, or none does whatever the operands are
pub sets_same : (op : Op) (pc a b imm rd i : ℕ) → sets_by (row op pc a b imm) rd i ≡ (has_result (format_of op) && i == rd && nat_lt 0 rd)
sets_same Lui pc a b imm rd i = refl
sets_same op pc a b imm rd i = refl

-- a step that doesn't fault halts, or leads where its effect says
loads_on : (c : Cpu) (m : Mem) (rd n : ℕ) (e : Extension) (o : Option ℕ) → ((at : ℕ) → (loads c m rd n e o).went ≢ Faulted at) → ((loads c m rd n e o).went ≡ On) × ((loads c m rd n e o).cpu.pc ≡ sum_of c.pc 4)
loads_on c m rd n e None calm = absurd (calm c.pc refl)
loads_on c m rd n e (Some v) calm = (refl, refl)

stored_or : Bool → Cpu → Mem → Mem → Stepped
stored_or b c m k = cond b (record { went = On; cpu = record { pc = sum_of c.pc 4; x = c.x }; mem = k }) (faulted c m)

stores_on : (b : Bool) (c : Cpu) (m k : Mem) → ((at : ℕ) → (stored_or b c m k).went ≢ Faulted at) → ((stored_or b c m k).went ≡ On) × ((stored_or b c m k).cpu.pc ≡ sum_of c.pc 4)
unfolding stored_or
stores_on true c m k calm = (refl, refl)
stores_on false c m k calm = absurd (calm c.pc refl)

pub goes_on : (c : Cpu) (m : Mem) (rd : ℕ) (e : Effect) → ((at : ℕ) → (effected c m rd e).went ≢ Faulted at) → (e ≡ Ends) ⊎ (((effected c m rd e).went ≡ On) × ((effected c m rd e).cpu.pc ≡ place_by e c.pc))
unfolding stored_or
goes_on c m rd (Puts v target) calm = inr (refl, refl)
goes_on c m rd (Goes target) calm = inr (refl, refl)
goes_on c m rd (Loads a n e) calm = inr (loads_on c m rd n e (loaded m a n) calm)
goes_on c m rd (Stores a n v) calm = inr (stores_on (is_place a n) c m (stored m a n v) calm)
goes_on c m rd Ends calm = inl refl
