-- A run that has what the replay theorem asks goes along the flow.
use Rattle.std.proofs.Common.{◌≡◌, ◌≢◌, ℕ, zero, suc, ◌+◌, ◌/◌, ◌%◌, ◌-◌, ◌<◌, ◌≤◌, ◌⊎◌, inl, inr, Bool, true, false, cond, List, length, Some, None, refl, sym, ap, subst, ◌∙◌, arith}
use Rattle.std.specs.Prelude.{not, ◌==◌, ◌&&◌, ◌||◌}
use Rattle.std.proofs.lemmas.Option.{slice_get-get_or}
use Rattle.std.proofs.lemmas.Bool.Decides.{nat_tests}
use Rattle.im_mem.specs.Memory.{little, loaded, is_place, Stands}
use Rattle.im_mem.proofs.Words.{stands-alike}
use Rattle.im_rv.specs.declared.instr.Op.{Op}
use Rattle.im_rv.specs.declared.instr.Op.TheVariants.{Lui, Auipc, Jal, Jalr, Beq, Bne, Blt, Bge, Bltu, Bgeu, Lb, Lh, Lw, Lbu, Lhu, Sb, Sh, Sw, Addi, Slti, Sltiu, Xori, Ori, Andi, Slli, Srli, Srai, Add, Sub, Sll, Slt, Sltu, Xor, Srl, Sra, Or, And, Mul, Mulh, Mulhsu, Mulhu, Div, Divu, Rem, Remu, Fence, Ebreak}
use Rattle.im_rv.specs.declared.effect.Effect.{Effect}
use Rattle.im_rv.specs.declared.effect.Effect.TheVariants.{Puts as Gives, Loads, Stores, Stops as Ends}
use Rattle.im_rv.specs.declared.effect.Extension.TheVariants.{Zero}
use Rattle.im_rv.specs.Steps.{Stepped, sum_of, row, effected}
use Rattle.im_rv.specs.Decode.{Line}
use Rattle.im_rv.specs.Runs.{decoded as done_line, step_of}
use Rattle.im_replay_path.specs.Sections.{start}
use Rattle.im_replay_path.proofs.Times.{truth, start_le, start-flip}
use Rattle.im_rv.specs.Code.{address, instruction_at}
use Rattle.im_rv.specs.Effects.{decoded_word, effect_by, writes_by}
use Rattle.im_rv.proofs.Locality.{decoded_line}
use Rattle.im_device.specs.Run.{index_of}
use Rattle.im_ckpt.specs.Runs.{State, line_at as run_line, effect_at, is_on, flip, ends, writes}
use Rattle.im_ckpt.specs.Buffers.{is_buffer, is_fixed}
use Rattle.im_ckpt.specs.Laws.{is_runtime}
use Rattle.im_ckpt.specs.Checkpoint.{shift_line}
use Rattle.im_ckpt.proofs.Rungs.{entry_line, shift_back}
use Rattle.im_ckpt.proofs.Phases.{Outside, Enters, Climbs, Returns as Comes_back, Returning, Climbing, entry_line_at, ladder_line_at, climb_store, climb_flip, on_ladder, return_on, low_writes}
use Rattle.im_replay.specs.Sections.{resume}
use Rattle.im_replay.specs.Owed.{IsOwed}
use Rattle.im_replay.proofs.Owing.{here, doing, Plain, Reads_index, Moves, Saves_reg, Flips, flip_is, flip_phase, after_flip, sound}
use Rattle.im_replay.proofs.Instance.{resumes}
use Rattle.im_gap.specs.declared.flow.Turn.{Turn}
use Rattle.im_gap.specs.declared.flow.Turn.TheVariants.{Passes, Returns, Stops}
use Rattle.im_gap.specs.Flow.{is_flip, turn_by, turn_of, IsResumeWord}
use Rattle.im_gap.specs.Flows.{GoesAlong, IsPlaced}
use Rattle.im_gap.specs.FlowLaws.{AlongLaw}
use Rattle.im_gap.proofs.Rows.{HoldsCode, holds_code, fetched_word}

by_store : (b : Bool) → (t : Turn) → t ≢ Stops → t ≢ Passes → cond b Stops Passes ≡ t → ⊥
by_store true t p q h = p (sym h)
by_store false t p q h = q (sym h)

store_stops : (b : Bool) → cond b Stops Passes ≡ Stops → b ≡ true
store_stops true h = refl
store_stops false h = absurd (cc)

jalr_of : (op : Op) (l : Line) → turn_by op l ≡ Returns → op ≡ Jalr
jalr_of Lui l h = absurd (cc)
jalr_of Auipc l h = absurd (cc)
jalr_of Jal l h = absurd (cc)
jalr_of Jalr l h = refl
jalr_of Beq l h = absurd (cc)
jalr_of Bne l h = absurd (cc)
jalr_of Blt l h = absurd (cc)
jalr_of Bge l h = absurd (cc)
jalr_of Bltu l h = absurd (cc)
jalr_of Bgeu l h = absurd (cc)
jalr_of Lb l h = absurd (cc)
jalr_of Lh l h = absurd (cc)
jalr_of Lw l h = absurd (cc)
jalr_of Lbu l h = absurd (cc)
jalr_of Lhu l h = absurd (cc)
jalr_of Sb l h = absurd (cc)
jalr_of Sh l h = absurd (cc)
jalr_of Sw l h = absurd (by_store (is_flip l) Returns (λ q. cc) (λ q. cc) h)
jalr_of Addi l h = absurd (cc)
jalr_of Slti l h = absurd (cc)
jalr_of Sltiu l h = absurd (cc)
jalr_of Xori l h = absurd (cc)
jalr_of Ori l h = absurd (cc)
jalr_of Andi l h = absurd (cc)
jalr_of Slli l h = absurd (cc)
jalr_of Srli l h = absurd (cc)
jalr_of Srai l h = absurd (cc)
jalr_of Add l h = absurd (cc)
jalr_of Sub l h = absurd (cc)
jalr_of Sll l h = absurd (cc)
jalr_of Slt l h = absurd (cc)
jalr_of Sltu l h = absurd (cc)
jalr_of Xor l h = absurd (cc)
jalr_of Srl l h = absurd (cc)
jalr_of Sra l h = absurd (cc)
jalr_of Or l h = absurd (cc)
jalr_of And l h = absurd (cc)
jalr_of Mul l h = absurd (cc)
jalr_of Mulh l h = absurd (cc)
jalr_of Mulhsu l h = absurd (cc)
jalr_of Mulhu l h = absurd (cc)
jalr_of Div l h = absurd (cc)
jalr_of Divu l h = absurd (cc)
jalr_of Rem l h = absurd (cc)
jalr_of Remu l h = absurd (cc)
jalr_of Fence l h = absurd (cc)
jalr_of Ebreak l h = absurd (cc)

stop_of : (op : Op) (l : Line) → turn_by op l ≡ Stops → (op ≡ Ebreak) ⊎ ((op ≡ Sw) × (is_flip l ≡ true))
stop_of Lui l h = absurd (cc)
stop_of Auipc l h = absurd (cc)
stop_of Jal l h = absurd (cc)
stop_of Jalr l h = absurd (cc)
stop_of Beq l h = absurd (cc)
stop_of Bne l h = absurd (cc)
stop_of Blt l h = absurd (cc)
stop_of Bge l h = absurd (cc)
stop_of Bltu l h = absurd (cc)
stop_of Bgeu l h = absurd (cc)
stop_of Lb l h = absurd (cc)
stop_of Lh l h = absurd (cc)
stop_of Lw l h = absurd (cc)
stop_of Lbu l h = absurd (cc)
stop_of Lhu l h = absurd (cc)
stop_of Sb l h = absurd (cc)
stop_of Sh l h = absurd (cc)
stop_of Sw l h = inr (refl, store_stops (is_flip l) h)
stop_of Addi l h = absurd (cc)
stop_of Slti l h = absurd (cc)
stop_of Sltiu l h = absurd (cc)
stop_of Xori l h = absurd (cc)
stop_of Ori l h = absurd (cc)
stop_of Andi l h = absurd (cc)
stop_of Slli l h = absurd (cc)
stop_of Srli l h = absurd (cc)
stop_of Srai l h = absurd (cc)
stop_of Add l h = absurd (cc)
stop_of Sub l h = absurd (cc)
stop_of Sll l h = absurd (cc)
stop_of Slt l h = absurd (cc)
stop_of Sltu l h = absurd (cc)
stop_of Xor l h = absurd (cc)
stop_of Srl l h = absurd (cc)
stop_of Sra l h = absurd (cc)
stop_of Or l h = absurd (cc)
stop_of And l h = absurd (cc)
stop_of Mul l h = absurd (cc)
stop_of Mulh l h = absurd (cc)
stop_of Mulhsu l h = absurd (cc)
stop_of Mulhu l h = absurd (cc)
stop_of Div l h = absurd (cc)
stop_of Divu l h = absurd (cc)
stop_of Rem l h = absurd (cc)
stop_of Remu l h = absurd (cc)
stop_of Fence l h = absurd (cc)
stop_of Ebreak l h = inl refl

flip_fields : (a b i : ℕ) → (a == 0 && b == 4 && i == 0) ≡ true → (a ≡ 0) × (i ≡ 0)
flip_fields a b i h = (grind (arith, nat_tests), grind (arith, nat_tests))

-- the lines of an entry pass or jump
entry_turn : (m k : ℕ) → (turn_of (Some (entry_line m k)) ≢ Returns)
entry_turn m zero = λ q. cc
entry_turn m (suc zero) = λ q. cc
entry_turn m (suc (suc zero)) = λ q. cc
entry_turn m (suc (suc (suc zero))) = λ q. cc
entry_turn m (suc (suc (suc (suc k)))) = λ q. cc

low_in_code : (code a : ℕ) → a < 4 → (is_buffer a || is_fixed code a) ≡ true
low_in_code code a l = grind (arith, nat_tests)

aligned : (pc : ℕ) (b : Bool) (w : ℕ) (l : Line) → is_place pc 4 ≡ b → decoded_word (cond b (Some w) None) ≡ Some l → pc % 4 ≡ 0
aligned pc true w l p e = grind (arith, nat_tests)
aligned pc false w l p e = absurd (let bad : None ≡ Some l = e in cc)

places_of : (p : ℕ) → p ≤ 31 → (p < 30) ⊎ ((p ≡ 30) ⊎ (p ≡ 31))
places_of p l = grind arith

module _ (words : List ℕ) (entry code : ℕ) (run : ℕ → State) (o : IsOwed run code) (s : IsPlaced words entry code run) where
  stays : (t : ℕ) → Stands (run t).mem 4096 words
  stays t = stands-alike (run 0).mem (run t).mem words 4096 (λ a p q. sym ((here run code o t).fine.same a p (let z = s.size in omega arith))) s.first

  holds : (t : ℕ) → HoldsCode words (run t).mem
  holds t = holds_code words (run t).mem (stays t)

  place : (t : ℕ) → (i : ℕ) × (i < length words) × ((run t).cpu.pc ≡ address i)
  place t =
      let f = o.fetches t in let low = f.0 in let high = f.1 in let z = s.size in
      let r : (run t).cpu.pc % 4 ≡ 0 = aligned (run t).cpu.pc (is_place (run t).cpu.pc 4) (little (run t).mem (run t).cpu.pc 4) (o.line t) refl (o.decodes t) in
      (((run t).cpu.pc - 4096) / 4, omega arith, omega arith)

  line_word : (t i : ℕ) → i < length words → (run t).cpu.pc ≡ address i → instruction_at words i ≡ run_line (run t)
  line_word t i l p = ap decoded_word (slice_get-get_or words i 0 l) ∙ sym (ap decoded_word (fetched_word words (run t).mem i (run t).cpu.pc s.few (holds t) l p))

  inside : (t i : ℕ) → (run t).cpu.pc ≡ address i → i < length words
  inside t i p = (let x = place t in let a = x.1 in let b = x.2 in omega arith)

  turn_line : (t i : ℕ) → (run t).cpu.pc ≡ address i → turn_of (instruction_at words i) ≡ turn_by (o.line t).op (o.line t)
  turn_line t i p = ap turn_of (line_word t i (inside t i p) p ∙ o.decodes t)

  does : (t : ℕ) → effect_at (run t) ≡ row (o.line t).op (run t).cpu.pc ((run t).cpu.x (o.line t).rs1) ((run t).cpu.x (o.line t).rs2) (o.line t).imm
  does t = ap (effect_by (run t).cpu) (o.decodes t)

  return_does : (t i : ℕ) → (run t).cpu.pc ≡ address i → turn_of (instruction_at words i) ≡ Returns → (v : ℕ) × (to : ℕ) × (effect_at (run t) ≡ Gives v to)
  return_does t i p r =
      let q = jalr_of (o.line t).op (o.line t) (sym (turn_line t i p) ∙ r) in
      (_, _, does t ∙ ap (λ (z : Op). row z (run t).cpu.pc ((run t).cpu.x (o.line t).rs1) ((run t).cpu.x (o.line t).rs2) (o.line t).imm) q)

  stop_does : (t i : ℕ) → (run t).cpu.pc ≡ address i → turn_of (instruction_at words i) ≡ Stops → (effect_at (run t) ≡ Ends) ⊎ ((v : ℕ) × (effect_at (run t) ≡ Stores 0 4 v))
  stop_does t i p r = elim (stop_of (o.line t).op (o.line t) (sym (turn_line t i p) ∙ r)) [
    | inl q ↦ inl (does t ∙ ap (λ (z : Op). row z (run t).cpu.pc ((run t).cpu.x (o.line t).rs1) ((run t).cpu.x (o.line t).rs2) (o.line t).imm) q)
    | inr q ↦ (
        let f = flip_fields (o.line t).rs1 (o.line t).rs2 (o.line t).imm q.1 in
        let base : (run t).cpu.x (o.line t).rs1 ≡ 0 = ap (run t).cpu.x f.0 ∙ o.zero_reg t in
        let at : sum_of ((run t).cpu.x (o.line t).rs1) (o.line t).imm ≡ 0 = ap (λ (z : ℕ). sum_of z (o.line t).imm) base ∙ ap (sum_of 0) f.1 in
        inr ((run t).cpu.x (o.line t).rs2, does t ∙ ap (λ (z : Op). row z (run t).cpu.pc ((run t).cpu.x (o.line t).rs1) ((run t).cpu.x (o.line t).rs2) (o.line t).imm) q.0 ∙ ap (λ (z : ℕ). Stores z 4 ((run t).cpu.x (o.line t).rs2)) at))
  ]

  ended : (t : ℕ) → effect_at (run t) ≡ Ends → ends run t ≡ true
  ended t e =
      let c = (run t).cpu in let m = (run t).mem in
      let step : step_of c m ≡ effected c m (o.line t).rd (row (o.line t).op c.pc (c.x (o.line t).rs1) (c.x (o.line t).rs2) (o.line t).imm) = decoded_line c m (loaded m c.pc 4) ∙ ap (done_line c m) (o.decodes t) in
      ap (λ (z : Stepped). not (is_on z.went)) step ∙ ap (λ (z : Effect). not (is_on (effected c m (o.line t).rd z).went)) (sym (does t) ∙ e)

  stores_zero : (t v : ℕ) → effect_at (run t) ≡ Stores 0 4 v → writes run t 0 ≡ Some (v % 256)
  stores_zero t v e = ap (λ (z : Effect). writes_by z 0) e

  store_flips : (t v : ℕ) → effect_at (run t) ≡ Stores 0 4 v → flip run t ≡ true
  store_flips t v e = elim (doing run code o t) [
    | Plain out ↦ absurd (let n = o.writes_plain t 0 out (low_in_code code 0 (omega arith)) in let bad : None ≡ Some (v % 256) = sym n ∙ stores_zero t v e in cc)
    | Reads_index f ↦ absurd (let bad : Loads 0 4 Zero ≡ Stores 0 4 v = sym f ∙ e in cc)
    | Moves w to f ↦ absurd (let bad : Gives w to ≡ Stores 0 4 v = sym f ∙ e in cc)
    | Saves_reg r w l f ↦ absurd (let n = ap (λ (z : Effect). writes_by z 0) f.effect ∙ low_writes run code o.based (index_of (run t).mem) r w 0 l (omega arith) in let bad : None ≡ Some (v % 256) = sym n ∙ stores_zero t v e in cc)
    | Flips t0 m c f ↦ flip_is run code o t f
  ]

  -- before the routine's return stands the flip
  flipped : (t t0 m : ℕ) → Returning run t t0 m → (u : ℕ) × (t ≡ suc u) × (flip run u ≡ true)
  flipped t t0 m r =
      let e = on_ladder run code o.based t0 m m r.cut (here run code o (suc t0)).fine (omega arith) in
      let b = r.cut.below in
      let q : 31 - m + m ≡ 31 = omega arith in
      let c = subst (Climbing run (t0 + 6 + m) t0 m) q e.1 in
      (t0 + 6 + m, (let z = r.time in omega arith), flip_is run code o (t0 + 6 + m) (climb_flip run code o.based (t0 + 6 + m) t0 m e.0 c))

  return_outside : (t i : ℕ) → resume (start (flip run) t) ≤ t → (run t).cpu.pc ≡ address i → turn_of (instruction_at words i) ≡ Returns → is_runtime (run t).cpu.pc ≡ false
  return_outside t i late p r =
      let h = here run code o t in
      let line : run_line (run t) ≡ instruction_at words i = sym (line_word t i (inside t i p) p) in
      let d = return_does t i p r in
      elim h.phase [
        | Outside out ↦ out
        | Enters t0 m k e ↦ absurd (entry_turn m k (ap turn_of (sym (entry_line_at run code o.based t t0 m k h.fine e) ∙ line) ∙ r))
        | Climbs t0 m q e ↦ absurd (elim (places_of q e.to) [
          | inl low ↦ (let f = climb_store run code o.based t t0 m q h.fine e low in let bad = sym f.effect ∙ d.2 in cc)
          | inr (inl x) ↦ (let l = ladder_line_at run code o.based t t0 m 30 shift_line h.fine (subst (Climbing run t t0 m) x e) refl shift_back in let bad : Passes ≡ Returns = ap turn_of (sym l ∙ line) ∙ r in cc)
          | inr (inr x) ↦ (let f = climb_flip run code o.based t t0 m h.fine (subst (Climbing run t t0 m) x e) in let bad = sym f.effect ∙ d.2 in cc)
        ])
        | Comes_back t0 m e ↦ absurd (
            let u = flipped t t0 m e in
            let b : start (flip run) t ≡ suc u.0 = ap (start (flip run)) u.1 ∙ start-flip (flip run) u.0 u.2 in
            let n : resume (start (flip run) t) ≡ suc (suc u.0) = ap resume b in
            let q = u.1 in omega arith)
      ]

  begins_flip : (t : ℕ) → start (flip run) (suc t) ≡ suc t → flip run t ≡ true
  begins_flip t b = elim (truth (flip run t)) [
    | inl f ↦ f
    | inr f ↦ absurd (let q : start (flip run) t ≡ suc t = sym (ap (λ (z : Bool). cond z (suc t) (start (flip run) t)) f) ∙ b in let l = start_le (flip run) t in omega arith)
  ]

  resumes_at : (z : ℕ) → start (flip run) z ≡ z → (i : ℕ) × ((run (resume z)).cpu.pc ≡ address i) × IsResumeWord words entry i
  resumes_at zero b = (let x = place 0 in (x.0, x.2, record { inside = x.1; is = inl (sym x.2 ∙ s.entered) }))
  resumes_at (suc t) b =
      let p = flip_phase run code o t (begins_flip t b) in
      let r = after_flip run code o t p in
      let k = return_on run code o.based (suc t) p.t0 p.m (here run code o (suc t)).fine r in
      let back = k.1 in
      let from = place p.t0 in
      let x = place (suc (suc t)) in
      let l = s.cuts p.t0 p.m from.0 r.cut from.2 in
      (x.0, x.2, record { inside = x.1; is = inr (from.0, l, (let a = from.2 in let c = x.2 in omega arith)) })

  along : GoesAlong words entry run
  along = record {
    few = s.few;
    steps = o.based.steps;
    code = stays;
    places = place;
    returns = λ t i late p r. s.returns t i (return_outside t i late p r) p r;
    stops = λ t i late p r. elim (stop_does t i p r) [ inl e ↦ inr (ended t e) | inr e ↦ inl (store_flips t e.0 e.1) ];
    resumes = resumes_at;
    begins = resumes run code (sound run code o);
  }

pub along_law : AlongLaw
along_law words entry code run o s = along words entry code run o s
