-- A step of a replaying run does what the run without failures does at that time.
use Rattle.im_ckpt.proofs.Slots.{Saves}
use Rattle.std.proofs.Common.{◌≡◌, ◌≢◌, ℕ, suc, ◌+◌, ◌<◌, ◌≤◌, ◌⊎◌, inl, inr, Bool, true, false, Option, Some, refl, sym, ap, ◌∙◌, subst, arith}
use Rattle.std.specs.Prelude.{◌==◌, ◌&&◌, ◌||◌, not, unwrap_or}
use Rattle.std.proofs.lemmas.Bool.Decides.{nat_tests}
use Rattle.im_mem.specs.Memory.{Mem}
use Rattle.im_mem.proofs.Words.{little-alike}
use Rattle.im_rv.specs.declared.step.Went.TheVariants.{Faulted}
use Rattle.im_rv.specs.declared.effect.Effect.{Effect}
use Rattle.im_rv.specs.declared.effect.Effect.TheVariants.{Stores}
use Rattle.im_rv.specs.Steps.{Cpu, Stepped, row, effected}
use Rattle.im_rv.specs.Runs.{step_of}
use Rattle.im_rv.specs.Effects.{fetched_line, effect, effect_by, effect_of, rd_of, rs1_of, rs2_of, writes_by, reads_by, sets_by}
use Rattle.im_device.specs.Run.{index_of}
use Rattle.im_ckpt.specs.Runs.{State, line_at, effect_at, sets, writes, reads}
use Rattle.im_ckpt.specs.Buffers.{is_fixed, slot, idle, saves_by}
use Rattle.im_replay.specs.Needed.{uses, Needed}
use Rattle.im_replay.proofs.Sound.{IsSound, IsLike}
use Rattle.im_rv.proofs.Locality.{line_same, step_effected, stores_same, effect_same}
use Rattle.im_rv.proofs.Effecting.{word_row}

-- what the step of a replaying run does beside that of the run without failures
pub record Paces (run : ℕ → State) (t : ℕ) (c : Cpu) (m : Mem) (w : ℕ → Option ℕ) : Type 0 where
  pub went : (step_of c m).went ≡ (step_of (run t).cpu (run t).mem).went
  pub place : (step_of c m).cpu.pc ≡ (run (suc t)).cpu.pc
  pub set : (i : ℕ) → sets (run t) i ≡ true → (step_of c m).cpu.x i ≡ (run (suc t)).cpu.x i
  pub kept : (i : ℕ) → sets (run t) i ≡ false → (step_of c m).cpu.x i ≡ c.x i
  pub kept_there : (i : ℕ) → sets (run t) i ≡ false → (run (suc t)).cpu.x i ≡ (run t).cpu.x i
  pub mem : (k : ℕ) → (step_of c m).mem k ≡ unwrap_or (w k) (m k)

self_equal : (i : ℕ) → (i == i) ≡ true
self_equal i = grind (arith, nat_tests)

or_true : (b : Bool) → (b || true) ≡ true
or_true true = refl
or_true false = refl

module _ (run : ℕ → State) (code : ℕ) (u : IsSound run code) where
  pub effect_is : (t : ℕ) → effect_at (run t) ≡ effect (run t).cpu (u.line t)
  effect_is t = ap (effect_by (run t).cpu) (u.decodes t)

  -- what is used now is needed now
  pub needs_used : (t i : ℕ) → uses (run t) i ≡ true → Needed run t i
  needs_used t i h = inl (record { time = t; later = omega arith; used = h; unset = λ v a b. absurd (omega arith) })

  -- what is needed next and not set now is needed now
  pub needs_next : (t i : ℕ) → sets (run t) i ≡ false → Needed run (suc t) i → Needed run t i
  needs_next t i h (inr two) = inr two
  needs_next t i h (inl n) = inl (record {
    time = n.time;
    later = (let l = n.later in omega arith);
    used = n.used;
    unset = λ v a b. elim (now_or_later t v a) [
      | inl e ↦ subst (λ z. sets (run z) i ≡ false) e h
      | inr l ↦ n.unset v l b
    ];
  })
    where
      now_or_later : (t v : ℕ) → t ≤ v → (t ≡ v) ⊎ (suc t ≤ v)
      now_or_later t v l = grind arith

  uses_first : (t : ℕ) → uses (run t) (u.line t).rs1 ≡ true
  uses_first t = ap (λ b. b || ((u.line t).rs1 == rs2_of (line_at (run t)) && not (saves_by (effect_at (run t))))) (ap (λ o. (u.line t).rs1 == rs1_of o) (u.decodes t) ∙ self_equal (u.line t).rs1)

  uses_second : (t : ℕ) → saves_by (effect_at (run t)) ≡ false → uses (run t) (u.line t).rs2 ≡ true
  uses_second t h = ap (λ b. (u.line t).rs2 == rs1_of (line_at (run t)) || b) (ap (λ o. (u.line t).rs2 == rs2_of o && not (saves_by (effect_at (run t)))) (u.decodes t) ∙ ap (λ b. b && not (saves_by (effect_at (run t)))) (self_equal (u.line t).rs2) ∙ ap not h) ∙ or_true _

  -- the replaying run fetches the same instruction
  line_alike : (t : ℕ) (c : Cpu) (m : Mem) → c.pc ≡ (run t).cpu.pc → ((a : ℕ) → is_fixed code a ≡ true → m a ≡ (run t).mem a) → fetched_line c m ≡ Some (u.line t)
  line_alike t c m e h = line_same c (run t).cpu m (run t).mem e (little-alike m (run t).mem 4 (run t).cpu.pc (λ i l r. h i (let f = u.fetches t in let a = f.0 in let b = f.1 in let q : is_fixed code i ≡ true = in_code i (omega arith) (omega arith) in q))) ∙ u.decodes t
    where
      in_code : (i : ℕ) → 4096 ≤ i → i < code → is_fixed code i ≡ true
      in_code i a b = grind (arith, nat_tests)

  pub there : (t : ℕ) → run (suc t) ≡ record { cpu = (effected (run t).cpu (run t).mem (u.line t).rd (effect (run t).cpu (u.line t))).cpu; mem = (effected (run t).cpu (run t).mem (u.line t).rd (effect (run t).cpu (u.line t))).mem }
  there t = u.steps t ∙ ap (λ (s : Stepped). record { cpu = s.cpu; mem = s.mem }) (step_effected (run t).cpu (run t).mem (u.line t) (u.decodes t))

  pub sets_is : (t i : ℕ) → sets (run t) i ≡ sets_by (effect (run t).cpu (u.line t)) (u.line t).rd i
  sets_is t i = ap (λ e. sets_by e (rd_of (line_at (run t))) i) (effect_is t) ∙ ap (λ o. sets_by (effect (run t).cpu (u.line t)) (rd_of o) i) (u.decodes t)

  -- from facts on the two effects to facts on the two steps
  paces : (t : ℕ) (c : Cpu) (m : Mem) (w : ℕ → Option ℕ) (e : Effect) → fetched_line c m ≡ Some (u.line t) → effect c (u.line t) ≡ e
      → (effected c m (u.line t).rd e).went ≡ (effected (run t).cpu (run t).mem (u.line t).rd (effect (run t).cpu (u.line t))).went
      → (effected c m (u.line t).rd e).cpu.pc ≡ (effected (run t).cpu (run t).mem (u.line t).rd (effect (run t).cpu (u.line t))).cpu.pc
      → ((i : ℕ) → sets (run t) i ≡ true → (effected c m (u.line t).rd e).cpu.x i ≡ (effected (run t).cpu (run t).mem (u.line t).rd (effect (run t).cpu (u.line t))).cpu.x i)
      → ((i : ℕ) → sets (run t) i ≡ false → (effected c m (u.line t).rd e).cpu.x i ≡ c.x i)
      → ((i : ℕ) → sets (run t) i ≡ false → (effected (run t).cpu (run t).mem (u.line t).rd (effect (run t).cpu (u.line t))).cpu.x i ≡ (run t).cpu.x i)
      → ((k : ℕ) → (effected c m (u.line t).rd e).mem k ≡ unwrap_or (w k) (m k))
      → Paces run t c m w
  paces t c m w e l q went place set kept kept_there mem =
      let here : step_of c m ≡ effected c m (u.line t).rd e = step_effected c m (u.line t) l ∙ ap (λ z. effected c m (u.line t).rd z) q in
      let over = step_effected (run t).cpu (run t).mem (u.line t) (u.decodes t) in
      record {
        went = ap (λ (s : Stepped). s.went) here ∙ went ∙ sym (ap (λ (s : Stepped). s.went) over);
        place = ap (λ (s : Stepped). s.cpu.pc) here ∙ place ∙ sym (ap (λ (s : State). s.cpu.pc) (there t));
        set = λ i h. ap (λ (s : Stepped). s.cpu.x i) here ∙ set i h ∙ sym (ap (λ (s : State). s.cpu.x i) (there t));
        kept = λ i h. ap (λ (s : Stepped). s.cpu.x i) here ∙ kept i h;
        kept_there = λ i h. ap (λ (s : State). s.cpu.x i) (there t) ∙ kept_there i h;
        mem = λ k. ap (λ (s : Stepped). s.mem k) here ∙ mem k;
      }

  no_fault_there : (t at : ℕ) → (effected (run t).cpu (run t).mem (u.line t).rd (effect (run t).cpu (u.line t))).went ≢ Faulted at
  no_fault_there t at h = u.no_fault t at (ap (λ (s : Stepped). s.went) (step_effected (run t).cpu (run t).mem (u.line t) (u.decodes t)) ∙ h)

  -- the replaying run does the same thing
  pub effect_alike : (t : ℕ) (c : Cpu) (m : Mem) → saves_by (effect_at (run t)) ≡ false → IsLike run t c m → ((a : ℕ) → is_fixed code a ≡ true → m a ≡ (run t).mem a) → effect_of c m ≡ effect_at (run t)
  effect_alike t c m plain k fx =
      let l = u.line t in
      let d = (run t).cpu in
      let a = k.regs l.rs1 (needs_used t l.rs1 (uses_first t)) in
      let b = k.regs l.rs2 (needs_used t l.rs2 (uses_second t plain)) in
      ap (effect_by c) (line_alike t c m k.place fx) ∙ ap (λ p. row l.op p (c.x l.rs1) (c.x l.rs2) l.imm) k.place ∙ ap (λ z. row l.op d.pc z (c.x l.rs2) l.imm) a ∙ ap (λ z. row l.op d.pc (d.x l.rs1) z l.imm) b ∙ sym (effect_is t)

  -- a step that stores into no buffer
  pub paces_plain : (t : ℕ) (c : Cpu) (m : Mem) → saves_by (effect_at (run t)) ≡ false → IsLike run t c m → ((a : ℕ) → reads run t a ≡ true → m a ≡ (run t).mem a) → ((a : ℕ) → is_fixed code a ≡ true → m a ≡ (run t).mem a) → Paces run t c m (writes run t)
  paces_plain t c m plain k rd fx =
      let l = u.line t in
      let d = (run t).cpu in
      let a = k.regs l.rs1 (needs_used t l.rs1 (uses_first t)) in
      let b = k.regs l.rs2 (needs_used t l.rs2 (uses_second t plain)) in
      let q : effect c l ≡ effect d l = ap (λ p. row l.op p (c.x l.rs1) (c.x l.rs2) l.imm) k.place ∙ ap (λ z. row l.op d.pc z (c.x l.rs2) l.imm) a ∙ ap (λ z. row l.op d.pc (d.x l.rs1) z l.imm) b in
      let s = effect_same c d m (run t).mem l.rd (effect d l) k.place (λ i h. rd i (ap (λ e. reads_by e i) (effect_is t) ∙ h)) (no_fault_there t) in
      paces t c m (writes run t) (effect d l) (line_alike t c m k.place fx) q s.went s.place
      (λ i h. s.set i (sym (sets_is t i) ∙ h))
      (λ i h. s.kept i (sym (sets_is t i) ∙ h))
      (λ i h. s.kept_there i (sym (sets_is t i) ∙ h))
      (λ i. s.mem i ∙ ap (λ e. unwrap_or (writes_by e i) (m i)) (sym (effect_is t)))

  -- a step that saves a register: it may be another value
  pub paces_save : (t : ℕ) (c : Cpu) (m : Mem) (v : Saves (run t) (u.line t).rs2) → IsLike run t c m → ((a : ℕ) → is_fixed code a ≡ true → m a ≡ (run t).mem a)
      → Paces run t c m (λ k. writes_by (Stores (idle (index_of (run t).mem) + slot (u.line t).rs2) 4 (c.x (u.line t).rs2)) k)
  paces_save t c m v k fx =
      let l = u.line t in
      let d = (run t).cpu in
      let p = idle (index_of (run t).mem) + slot l.rs2 in
      let a = k.regs l.rs1 (needs_used t l.rs1 (uses_first t)) in
      let e : effect d l ≡ Stores p 4 v.value = sym (effect_is t) ∙ v.effect in
      let q0 : effect c l ≡ row l.op d.pc (d.x l.rs1) (c.x l.rs2) l.imm = ap (λ z. row l.op z (c.x l.rs1) (c.x l.rs2) l.imm) k.place ∙ ap (λ z. row l.op d.pc z (c.x l.rs2) l.imm) a in
      let q : effect c l ≡ Stores p 4 (c.x l.rs2) = q0 ∙ word_row l.op d.pc (d.x l.rs1) (d.x l.rs2) (c.x l.rs2) l.imm p v.value e in
      let s = stores_same c d m (run t).mem l.rd p 4 (c.x l.rs2) v.value k.place in
      let e' = sym (ap (λ z. effected d (run t).mem l.rd z) e) in
      let none : (i : ℕ) → sets (run t) i ≡ true → true ≡ false = λ i h. sym h ∙ sets_is t i ∙ ap (λ z. sets_by z l.rd i) e in
      paces t c m (λ i. writes_by (Stores p 4 (c.x l.rs2)) i) (Stores p 4 (c.x l.rs2)) (line_alike t c m k.place fx) q
      (s.went ∙ ap (λ (z : Stepped). z.went) e')
      (s.place ∙ ap (λ (z : Stepped). z.cpu.pc) e')
      (λ i h. absurd (let bad = none i h in cc))
      (λ i h. s.kept i)
      (λ i h. sym (ap (λ (z : Stepped). z.cpu.x i) e') ∙ s.kept_there i)
      s.mem
