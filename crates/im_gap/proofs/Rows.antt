-- A step of the machine goes along the flow.
use Rattle.std.proofs.Common.{◌≡◌, ◌≢◌, ℕ, ◌<◌, ◌≤◌, ◌⊎◌, inl, inr, Bool, true, false, cond, List, length, Option, Some, None, refl, sym, ap, subst, ◌∙◌, arith}
use Rattle.std.specs.Prelude.{slice_index, nat_lt, ◌==◌}
use Rattle.std.proofs.lemmas.Option.{slice_get-get_or}
use Rattle.std.proofs.lemmas.Bool.Decides.{nat_tests}
use Rattle.im_mem.specs.Memory.{Mem, little, loaded, is_place, stored, Stands}
use Rattle.im_mem.proofs.Words.{stands-at}
use Rattle.im_rv.specs.declared.instr.Op.{Op}
use Rattle.im_rv.specs.declared.instr.Op.TheVariants.{Lui, Auipc, Jal, Jalr, Beq, Bne, Blt, Bge, Bltu, Bgeu, Lb, Lh, Lw, Lbu, Lhu, Sb, Sh, Sw, Addi, Slti, Sltiu, Xori, Ori, Andi, Slli, Srli, Srai, Add, Sub, Sll, Slt, Sltu, Xor, Srl, Sra, Or, And, Mul, Mulh, Mulhsu, Mulhu, Div, Divu, Rem, Remu, Fence, Ebreak}
use Rattle.im_rv.specs.declared.step.Went.TheVariants.{On, Halted, Faulted}
use Rattle.im_rv.specs.declared.effect.Effect.{Effect}
use Rattle.im_rv.specs.declared.effect.Extension.{Extension}
use Rattle.im_rv.specs.declared.effect.Effect.TheVariants.{Puts as Gives, Goes as Leaps, Loads, Stores, Stops as Ends}
use Rattle.im_rv.specs.Steps.{Cpu, Stepped, sum_of, row, less_signed, effected, loads, faulted}
use Rattle.im_rv.specs.Decode.{Line, decode}
use Rattle.im_rv.specs.Runs.{fetched, decoded as done_line, step_of}
use Rattle.im_gap.specs.declared.flow.Turn.{Turn}
use Rattle.im_gap.specs.declared.flow.Turn.TheVariants.{Passes, Jumps, Branches, Returns, Stops}
use Rattle.im_rv.specs.Code.{address, instruction_at}
use Rattle.im_rv.specs.Effects.{decoded_word}
use Rattle.im_gap.specs.FlowLaws.{StepLaw}
use Rattle.im_gap.specs.Flow.{is_flip, turn_by, turn_of, imm_of, Leads, Flow}

-- these words stand in memory, each at its address
abbrev pub HoldsCode : List ℕ → Mem → Type 0
HoldsCode words m = (i : ℕ) → i < length words → little m (address i) 4 ≡ slice_index words i

pub holds_code : (words : List ℕ) (m : Mem) → Stands m 4096 words → HoldsCode words m
holds_code words m h = λ i l. stands-at m 4096 words i h l

-- where an effect leads, if it is no halt or fault
place_by : Effect → ℕ → ℕ
place_by (Gives v target) pc = target
place_by (Leaps target) pc = target
place_by (Loads a n is_signed) pc = sum_of pc 4
place_by (Stores a n v) pc = sum_of pc 4
place_by Ends pc = pc

-- by the turn of an instruction, where it may lead
Turned : Turn → ℕ → ℕ → ℕ → Type 0
Turned Passes pc imm next = next ≡ sum_of pc 4
Turned Jumps pc imm next = next ≡ sum_of pc imm
Turned Branches pc imm next = (next ≡ sum_of pc 4) ⊎ (next ≡ sum_of pc imm)
Turned Returns pc imm next = Unit {0}
Turned Stops pc imm next = Unit {0}

truth : (b : Bool) → (b ≡ true) ⊎ (b ≡ false)
truth true = inl refl
truth false = inr refl

taken : (b : Bool) (pc imm : ℕ) → Turned Branches pc imm (cond b (sum_of pc imm) (sum_of pc 4))
unfolding Turned
taken true pc imm = inr refl
taken false pc imm = inl refl

passed : (b : Bool) (pc imm : ℕ) → Turned Branches pc imm (cond b (sum_of pc 4) (sum_of pc imm))
unfolding Turned
passed true pc imm = inl refl
passed false pc imm = inr refl

store_turn : (b : Bool) (pc imm : ℕ) → Turned (cond b Stops Passes) pc imm (sum_of pc 4)
unfolding Turned
store_turn true pc imm = tt
store_turn false pc imm = refl

-- each row leads where its turn says
row_place : (op : Op) (l : Line) (pc a b imm : ℕ) → Turned (turn_by op l) pc imm (place_by (row op pc a b imm) pc)
unfolding Turned place_by
row_place Lui l pc a b imm = refl
row_place Auipc l pc a b imm = refl
row_place Jal l pc a b imm = refl
row_place Jalr l pc a b imm = tt
row_place Beq l pc a b imm = taken (a == b) pc imm
row_place Bne l pc a b imm = passed (a == b) pc imm
row_place Blt l pc a b imm = taken (less_signed a b) pc imm
row_place Bge l pc a b imm = passed (less_signed a b) pc imm
row_place Bltu l pc a b imm = taken (nat_lt a b) pc imm
row_place Bgeu l pc a b imm = passed (nat_lt a b) pc imm
row_place Lb l pc a b imm = refl
row_place Lh l pc a b imm = refl
row_place Lw l pc a b imm = refl
row_place Lbu l pc a b imm = refl
row_place Lhu l pc a b imm = refl
row_place Sb l pc a b imm = refl
row_place Sh l pc a b imm = refl
row_place Sw l pc a b imm = store_turn (is_flip l) pc imm
row_place Addi l pc a b imm = refl
row_place Slti l pc a b imm = refl
row_place Sltiu l pc a b imm = refl
row_place Xori l pc a b imm = refl
row_place Ori l pc a b imm = refl
row_place Andi l pc a b imm = refl
row_place Slli l pc a b imm = refl
row_place Srli l pc a b imm = refl
row_place Srai l pc a b imm = refl
row_place Add l pc a b imm = refl
row_place Sub l pc a b imm = refl
row_place Sll l pc a b imm = refl
row_place Slt l pc a b imm = refl
row_place Sltu l pc a b imm = refl
row_place Xor l pc a b imm = refl
row_place Srl l pc a b imm = refl
row_place Sra l pc a b imm = refl
row_place Or l pc a b imm = refl
row_place And l pc a b imm = refl
row_place Mul l pc a b imm = refl
row_place Mulh l pc a b imm = refl
row_place Mulhsu l pc a b imm = refl
row_place Mulhu l pc a b imm = refl
row_place Div l pc a b imm = refl
row_place Divu l pc a b imm = refl
row_place Rem l pc a b imm = refl
row_place Remu l pc a b imm = refl
row_place Fence l pc a b imm = refl
row_place Ebreak l pc a b imm = tt

loads_place : (c : Cpu) (m : Mem) (rd n : ℕ) (s : Extension) (o : Option ℕ) → (loads c m rd n s o).went ≡ On → (loads c m rd n s o).cpu.pc ≡ sum_of c.pc 4
loads_place c m rd n s None w = absurd (let bad : Faulted c.pc ≡ On = w in cc)
loads_place c m rd n s (Some v) w = refl

store_place : (b : Bool) (c : Cpu) (m k : Mem) → (cond b (record { went = On; cpu = record { pc = sum_of c.pc 4; x = c.x }; mem = k }) (faulted c m)).went ≡ On → (cond b (record { went = On; cpu = record { pc = sum_of c.pc 4; x = c.x }; mem = k }) (faulted c m)).cpu.pc ≡ sum_of c.pc 4
store_place true c m k w = refl
store_place false c m k w = absurd (let bad : Faulted c.pc ≡ On = w in cc)

effect_place : (c : Cpu) (m : Mem) (rd : ℕ) (e : Effect) → (effected c m rd e).went ≡ On → (effected c m rd e).cpu.pc ≡ place_by e c.pc
unfolding place_by
effect_place c m rd (Gives v target) w = refl
effect_place c m rd (Leaps target) w = refl
effect_place c m rd (Loads a n s) w = loads_place c m rd n s (loaded m a n) w
effect_place c m rd (Stores a n v) w = store_place (is_place a n) c m (stored m a n v) w
effect_place c m rd Ends w = absurd (let bad : Halted ≡ On = w in cc)

-- a line's step
line_place : (c : Cpu) (m : Mem) (o : Option Line) → (done_line c m o).went ≡ On → Turned (turn_of o) c.pc (imm_of o) (done_line c m o).cpu.pc
line_place c m None w = absurd (let bad : Faulted c.pc ≡ On = w in cc)
line_place c m (Some l) w = subst (λ (z : ℕ). Turned (turn_by l.op l) c.pc l.imm z) (sym (effect_place c m l.rd (row l.op c.pc (c.x l.rs1) (c.x l.rs2) l.imm) w)) (row_place l.op l c.pc (c.x l.rs1) (c.x l.rs2) l.imm)

leads_by : (words : List ℕ) (i j imm pc next : ℕ) (t : Turn) → i < 261120 → pc ≡ address i → next ≡ address j → t ≢ Returns → t ≢ Stops → Turned t pc imm next → Leads words i j imm t
unfolding Turned
leads_by words i j imm pc next Passes l p q r s h = omega arith
leads_by words i j imm pc next Jumps l p q r s h = sym q ∙ h ∙ ap (λ (z : ℕ). sum_of z imm) p
leads_by words i j imm pc next Branches l p q r s (inl h) = inl (omega arith)
leads_by words i j imm pc next Branches l p q r s (inr h) = inr (sym q ∙ h ∙ ap (λ (z : ℕ). sum_of z imm) p)
leads_by words i j imm pc next Returns l p q r s h = absurd (r refl)
leads_by words i j imm pc next Stops l p q r s h = absurd (s refl)

fetch_place : (i : ℕ) → i < 261120 → is_place (address i) 4 ≡ true
fetch_place i l = grind (arith, nat_tests)

pub fetched_word : (words : List ℕ) (m : Mem) (i pc : ℕ) → length words ≤ 261120 → HoldsCode words m → i < length words → pc ≡ address i → loaded m pc 4 ≡ Some (slice_index words i)
fetched_word words m i pc few code l p =
    ap (λ (z : ℕ). loaded m z 4) p ∙ ap (λ (b : Bool). cond b (Some (little m (address i) 4)) None) (fetch_place i (omega arith)) ∙ ap (λ (z : ℕ). Some z) (code i l)

pub step_on : (words : List ℕ) (c : Cpu) (m : Mem) (i j : ℕ) → length words ≤ 261120 → HoldsCode words m → i < length words → j < length words → c.pc ≡ address i → (step_of c m).cpu.pc ≡ address j → (step_of c m).went ≡ On → turn_of (instruction_at words i) ≢ Returns → turn_of (instruction_at words i) ≢ Stops → Flow words i j
step_on words c m i j few code l k p q w r s =
    let word = fetched_word words m i c.pc few code l p in
    let line : instruction_at words i ≡ decode (slice_index words i) = ap decoded_word (slice_get-get_or words i 0 l) in
    let here : step_of c m ≡ done_line c m (instruction_at words i) = ap (fetched c m) word ∙ ap (done_line c m) (sym line) in
    let on : (done_line c m (instruction_at words i)).went ≡ On = sym (ap (λ (z : Stepped). z.went) here) ∙ w in
    let to : (done_line c m (instruction_at words i)).cpu.pc ≡ address j = sym (ap (λ (z : Stepped). z.cpu.pc) here) ∙ q in
    record { inside = k; leads = leads_by words i j (imm_of (instruction_at words i)) c.pc (done_line c m (instruction_at words i)).cpu.pc (turn_of (instruction_at words i)) (omega arith) p to r s (line_place c m (instruction_at words i) on) }

pub step_law : StepLaw
step_law words c m i j few code = step_on words c m i j few (holds_code words m code)
