-- A counter in memory, read in one section and written in the next, has all that the compiler owes.
use Rattle.std.proofs.Common.{◌≡◌, ◌≢◌, ℕ, zero, suc, ◌+◌, ◌-◌, ◌%◌, ◌^◌, ◌<◌, ◌≤◌, ◌⊎◌, inl, inr, Bool, true, false, cond, Some, None, refl, sym, ap, ◌∙◌, subst, arith}
use Rattle.std.specs.Prelude.{◌==◌, ◌&&◌, ◌||◌, not, nat_lt, nat_eq}
use Rattle.std.proofs.lemmas.Bool.Decides.{nat_tests}
use Rattle.im_mem.specs.Memory.{Mem, little, loaded, is_place, Stands}
use Rattle.im_ckpt.specs.Checkpoint.{checkpoint_words}
use Rattle.im_ckpt.specs.Recovery.{recovery_words}
use Rattle.im_mem.proofs.Words.{little-alike, word-small}
use Rattle.im_rv.specs.declared.effect.Effect.{Effect}
use Rattle.im_rv.specs.declared.effect.Effect.TheVariants.{Puts, Loads, Stores}
use Rattle.im_rv.specs.declared.step.Went.TheVariants.{On, Faulted}
use Rattle.im_rv.specs.Steps.{Cpu, Stepped, effected, sum_of, with_reg}
use Rattle.im_rv.specs.Decode.{Line, decode}
use Rattle.im_rv.specs.Runs.{step_of}
use Rattle.im_rv.specs.Encode.{encoded}
use Rattle.im_num.specs.Bytes.{bytes_of}
use Rattle.im_replay_path.specs.Sections.{start, wrote}
use Rattle.im_replay_path.proofs.Times.{order, start-flip, start-calm, start_le}
use Rattle.im_rv.specs.Effects.{decoded_word, effect, rd_of, rs1_of, rs2_of, writes_by, reads_by, sets_by}
use Rattle.im_device.specs.Run.{index_of}
use Rattle.im_ckpt.specs.Runs.{State, IsRun, flip, writes, reads, line_at, effect_at, sets}
use Rattle.im_ckpt.specs.Buffers.{is_buffer, is_fixed, idle, slot, saves_by}
use Rattle.im_replay.specs.Needed.{uses, Used, Needed}
use Rattle.im_ckpt.specs.Recovery.{return_line}
use Rattle.im_replay.specs.Sections.{IsLive}
use Rattle.im_ckpt.proofs.Rungs.{entry_line, ladder_reg, shift_back, flip_back, ladder_store, store_back, reg_named}
use Rattle.im_ckpt.specs.Checkpoint.{store_line, shift_line, flip_line}
use Rattle.im_ckpt.specs.Laws.{is_runtime, IsCut, HasRuntime, IsIntact}
use Rattle.im_replay.specs.Owed.{IsOwed}
use Rattle.im_replay_witness.specs.Counter.{read_line, add_line, call_line, write_line, back_line}
use Rattle.im_rv.proofs.Locality.{step_effected, saved_at}
use Rattle.im_rv.proofs.Tearing.{writes_small}
use Rattle.im_rv.proofs.Effecting.{step_mem}
use Rattle.im_ckpt.proofs.Slots.{word_outside, saves_if}
use Rattle.im_ckpt.proofs.Phases.{Entering, Climbing, Returning, none_kept, mem_next, calm_of, next_is, effect_is, entry_line_at, entry_step, ladder_line_at, climb_store, climb_flip, slot_place, climb_on, climb_shift, flip_on, return_on, return_line_at, enters, in_entry, on_ladder, at_return, comes_back}
use Rattle.im_rv.specs.declared.effect.Extension.TheVariants.{Zero}

-- a memory that holds the counter, loaded: INDEX is 0 and word 0 of buffer 0 is 0x13B4
pub record CounterImage (m : Mem) : Type 0 where
  pub small : (a : ℕ) → m a < 256
  pub recovery : Stands m 4096 recovery_words
  pub checkpoint : Stands m 4352 checkpoint_words
  pub read : little m 5044 4 ≡ encoded read_line
  pub add : little m 5048 4 ≡ encoded add_line
  pub call : little m 5052 4 ≡ encoded call_line
  pub write : little m 5056 4 ≡ encoded write_line
  pub back : little m 5060 4 ≡ encoded back_line
  pub index : little m 0 4 ≡ 0
  pub start : little m 128 4 ≡ 5044

-- no register but x0
none_used : (i : ℕ) (b : Bool) → (i == 0 || (i == 0 && b)) ≡ true → i ≡ 0
none_used i b h = by_zero (i == 0) refl h
  where
    by_zero : (z : Bool) → (i == 0) ≡ z → (z || (z && b)) ≡ true → i ≡ 0
    by_zero true e h = grind (arith, nat_tests)
    by_zero false e h = absurd (cc)

-- register n, or x0
one_used : (n i : ℕ) (b : Bool) → (i == n || (i == 0 && b)) ≡ true → (i ≡ n) ⊎ (i ≡ 0)
one_used n i b h = by_parts (i == n) (i == 0) refl refl h
  where
    eq_of : (a b : ℕ) → (a == b) ≡ true → a ≡ b
    eq_of a b h = grind (arith, nat_tests)

    by_parts : (y z : Bool) → (i == n) ≡ y → (i == 0) ≡ z → (y || (z && b)) ≡ true → (i ≡ n) ⊎ (i ≡ 0)
    by_parts true z e f h = inl (eq_of i n e)
    by_parts false true e f h = inr (eq_of i 0 f)
    by_parts false false e f h = absurd (cc)

zero_or_n : (n i : ℕ) → (i == 0 || (i == n && true)) ≡ true → (i ≡ n) ⊎ (i ≡ 0)
zero_or_n n i h = by_parts (i == n) (i == 0) refl refl h
  where
    eq_of : (a b : ℕ) → (a == b) ≡ true → a ≡ b
    eq_of a b h = grind (arith, nat_tests)

    by_parts : (y z : Bool) → (i == n) ≡ y → (i == 0) ≡ z → (z || (y && true)) ≡ true → (i ≡ n) ⊎ (i ≡ 0)
    by_parts true z e f h = inl (eq_of i n e)
    by_parts false true e f h = inr (eq_of i 0 f)
    by_parts false false e f h = absurd (cc)

-- a store into a buffer uses its base alone
base_used : (n i : ℕ) (b : Bool) → (i == n || (b && false)) ≡ true → i ≡ n
base_used n i b h = by_parts (i == n) b refl h
  where
    by_parts : (y b : Bool) → (i == n) ≡ y → (y || (b && false)) ≡ true → i ≡ n
    by_parts true b e h = grind (arith, nat_tests)
    by_parts false true e h = absurd (cc)
    by_parts false false e h = absurd (cc)

module _ (run : ℕ → State) (steps : IsRun run) (image : CounterImage (run 0).mem) (first_place : (run 0).cpu.pc ≡ 5044) (first_zero : (run 0).cpu.x 0 ≡ 0) (first_words : (i : ℕ) → (run 0).cpu.x i < 2 ^ 32) where
  based : HasRuntime run 5064
  based = record { steps = steps; long = omega arith; recovery = image.recovery; checkpoint = image.checkpoint }

  -- where the run is
  pub data Spot (t : ℕ) : Type 0 where
    Reads : (run t).cpu.pc ≡ 5044 → Spot t
    Adds : (run t).cpu.pc ≡ 5048 → Spot t
    Calls : (run t).cpu.pc ≡ 5052 → Spot t
    Stores_it : (u : ℕ) → t ≡ suc (suc u) → flip run u ≡ true → flip run (suc u) ≡ false → is_runtime (run (suc u)).cpu.pc ≡ true → (run t).cpu.pc ≡ 5056 → Spot t
    Turns : (run t).cpu.pc ≡ 5060 → Spot t
    Entry : (t0 k : ℕ) → (run t0).cpu.pc ≡ 5052 → IsIntact run 5064 (suc t0) → Entering run t t0 5 k → Spot t
    Rung : (t0 p : ℕ) → (run t0).cpu.pc ≡ 5052 → IsIntact run 5064 (suc t0) → Climbing run t t0 5 p → Spot t
    Exit : (t0 u : ℕ) → (run t0).cpu.pc ≡ 5052 → IsIntact run 5064 (suc t0) → t ≡ suc u → flip run u ≡ true → Returning run t t0 5 → Spot t

  pub record At (t : ℕ) : Type 0 where
    pub spot : Spot t
    pub fine : IsIntact run 5064 t

  line_there : (t pc : ℕ) (l : Line) → IsIntact run 5064 t → (run t).cpu.pc ≡ pc → 4096 ≤ pc → pc + 4 ≤ 5064 → is_place pc 4 ≡ true → little (run 0).mem pc 4 ≡ encoded l → decode (encoded l) ≡ Some l → line_at (run t) ≡ Some l
  line_there t pc l h e low high ok w d =
      ap (λ z. decoded_word (loaded (run t).mem z 4)) e
      ∙ ap (λ b. decoded_word (cond b (Some (little (run t).mem pc 4)) None)) ok
      ∙ ap decode (little-alike (run t).mem (run 0).mem 4 pc (λ i a b. h.same i (omega arith) (omega arith)) ∙ w)
      ∙ d

  read_at : (t : ℕ) → IsIntact run 5064 t → (run t).cpu.pc ≡ 5044 → line_at (run t) ≡ Some read_line
  read_at t h e = line_there t 5044 read_line h e (omega arith) (omega arith) refl image.read refl

  add_at : (t : ℕ) → IsIntact run 5064 t → (run t).cpu.pc ≡ 5048 → line_at (run t) ≡ Some add_line
  add_at t h e = line_there t 5048 add_line h e (omega arith) (omega arith) refl image.add refl

  call_at : (t : ℕ) → IsIntact run 5064 t → (run t).cpu.pc ≡ 5052 → line_at (run t) ≡ Some call_line
  call_at t h e = line_there t 5052 call_line h e (omega arith) (omega arith) refl image.call refl

  write_at : (t : ℕ) → IsIntact run 5064 t → (run t).cpu.pc ≡ 5056 → line_at (run t) ≡ Some write_line
  write_at t h e = line_there t 5056 write_line h e (omega arith) (omega arith) refl image.write refl

  turn_at : (t : ℕ) → IsIntact run 5064 t → (run t).cpu.pc ≡ 5060 → line_at (run t) ≡ Some back_line
  turn_at t h e = line_there t 5060 back_line h e (omega arith) (omega arith) refl image.back refl

  bytes : (t a : ℕ) → (run t).mem a < 256
  bytes zero a = image.small a
  bytes (suc t) a = subst (λ z. z < 256) (sym (ap (λ (s : State). s.mem a) (steps t) ∙ step_mem (run t).cpu (run t).mem a)) (writes_small (run t).mem (effect_at (run t)) (bytes t) a)

  one_word : (x : ℕ → ℕ) (rd v : ℕ) → ((i : ℕ) → x i < 2 ^ 32) → v < 2 ^ 32 → (i : ℕ) → with_reg x rd v i < 2 ^ 32
  one_word x rd v h l i = by_reg (i == rd && nat_lt 0 rd)
    where
      by_reg : (b : Bool) → cond b v (x i) < 2 ^ 32
      by_reg true = l
      by_reg false = h i

  -- a value for a register leaves memory
  jumped : (t : ℕ) (l : Line) (v target : ℕ) → IsIntact run 5064 t → line_at (run t) ≡ Some l → v < 2 ^ 32 → run (suc t) ≡ record { cpu = record { pc = target; x = with_reg (run t).cpu.x l.rd v }; mem = (run t).mem } → IsIntact run 5064 (suc t)
  jumped t l v target h e small next =
      let d = (run t).cpu in
      record {
        same = λ a x y. ap (λ (s : State). s.mem a) next ∙ h.same a x y;
        bit = subst (λ (s : State). index_of s.mem < 2) (sym next) h.bit;
        zero_reg = ap (λ (s : State). s.cpu.x 0) next ∙ zero_kept l.rd d.x v ∙ h.zero_reg;
        words = λ i. subst (λ (s : State). s.cpu.x i < 2 ^ 32) (sym next) (one_word d.x l.rd v h.words small i);
      }
    where
      zero_kept : (rd : ℕ) (x : ℕ → ℕ) (v : ℕ) → with_reg x rd v 0 ≡ x 0
      zero_kept rd x v = grind (arith, nat_tests)

  puts_next : (t : ℕ) (l : Line) (v target : ℕ) → line_at (run t) ≡ Some l → effect (run t).cpu l ≡ Puts v target → run (suc t) ≡ record { cpu = record { pc = target; x = with_reg (run t).cpu.x l.rd v }; mem = (run t).mem }
  puts_next t l v target e f = next_is run 5064 based t l e ∙ ap (λ z. record { cpu = (effected (run t).cpu (run t).mem l.rd z).cpu; mem = (effected (run t).cpu (run t).mem l.rd z).mem }) f

  -- lw x5, 0x400(x0)
  read_effect : (t : ℕ) → IsIntact run 5064 t → effect (run t).cpu read_line ≡ Loads 1024 4 Zero
  read_effect t h = ap (λ z. Loads (sum_of z 1024) 4 Zero) h.zero_reg

  read_step : (t : ℕ) → IsIntact run 5064 t → (run t).cpu.pc ≡ 5044 → IsIntact run 5064 (suc t) × ((run (suc t)).cpu.pc ≡ 5048)
  read_step t h e =
      let d = (run t).cpu in
      let n = (run t).mem in
      let next : run (suc t) ≡ record { cpu = record { pc = sum_of d.pc 4; x = with_reg d.x 5 (little n 1024 4) }; mem = n } = next_is run 5064 based t read_line (read_at t h e) ∙ ap (λ z. record { cpu = (effected d n 5 z).cpu; mem = (effected d n 5 z).mem }) (read_effect t h) in
      (jumped t read_line (little n 1024 4) (sum_of d.pc 4) h (read_at t h e) (word-small n 1024 (bytes t)) next, ap (λ (s : State). s.cpu.pc) next ∙ ap (λ z. sum_of z 4) e)

  -- addi x5, x5, 1
  add_step : (t : ℕ) → IsIntact run 5064 t → (run t).cpu.pc ≡ 5048 → IsIntact run 5064 (suc t) × ((run (suc t)).cpu.pc ≡ 5052)
  add_step t h e =
      let d = (run t).cpu in
      let next = puts_next t add_line (sum_of (d.x 5) 1) (sum_of d.pc 4) (add_at t h e) refl in
      (jumped t add_line (sum_of (d.x 5) 1) (sum_of d.pc 4) h (add_at t h e) (omega arith) next, ap (λ (s : State). s.cpu.pc) next ∙ ap (λ z. sum_of z 4) e)

  pub call_step : (t : ℕ) → IsIntact run 5064 t → (run t).cpu.pc ≡ 5052 → IsIntact run 5064 (suc t) × IsCut run t 5
  call_step t h e =
      let d = (run t).cpu in
      let next = puts_next t call_line (sum_of d.pc 4) 4372 (call_at t h e) (ap (λ z. Puts (sum_of d.pc 4) (sum_of z 4294966616)) e) in (
        jumped t call_line (sum_of d.pc 4) 4372 h (call_at t h e) (omega arith) next,
        record {
          above = omega arith;
          below = omega arith;
          entered = ap (λ (s : State). s.cpu.pc) next;
          linked = ap (λ (s : State). s.cpu.x 3) next ∙ ap (λ z. sum_of z 4) e ∙ sym (ap (λ z. z + 4) e);
          even = ap (λ z. (z + 4) % 2) e;
          outside = ap is_runtime e;
          back = ap (λ z. is_runtime (z + 4)) e;
        },
      )

  -- sw x5, 0x400(x0)
  write_effect : (t : ℕ) → IsIntact run 5064 t → effect (run t).cpu write_line ≡ Stores 1024 4 ((run t).cpu.x 5)
  write_effect t h = ap (λ z. Stores (sum_of z 1024) 4 ((run t).cpu.x 5)) h.zero_reg

  -- it writes that word alone
  beside : (v a : ℕ) → (a < 1024) ⊎ (1028 ≤ a) → writes_by (Stores 1024 4 v) a ≡ None
  beside v a h = word_outside 1024 v a h refl

  write_step : (t : ℕ) → IsIntact run 5064 t → (run t).cpu.pc ≡ 5056 → IsIntact run 5064 (suc t) × ((run (suc t)).cpu.pc ≡ 5060)
  write_step t h e =
      let d = (run t).cpu in
      let n = (run t).mem in
      let l = write_at t h e in
      let eff : effect_at (run t) ≡ Stores 1024 4 (d.x 5) = effect_is run 5064 based t write_line l ∙ write_effect t h in
      let cpu : (run (suc t)).cpu ≡ record { pc = sum_of d.pc 4; x = d.x } = ap (λ (s : State). s.cpu) (next_is run 5064 based t write_line l) ∙ ap (λ z. (effected d n 0 z).cpu) (write_effect t h) in
      let kept : (a : ℕ) → (a < 1024) ⊎ (1028 ≤ a) → (run (suc t)).mem a ≡ n a = λ a o. mem_next run 5064 based t a ∙ none_kept (writes run t a) (n a) (ap (λ z. writes_by z a) eff ∙ beside (d.x 5) a o) in (
        record {
          same = λ a x y. kept a (inr (omega arith)) ∙ h.same a x y;
          bit = subst (λ z. z < 2) (sym (little-alike (run (suc t)).mem n 4 0 (λ i a b. kept i (inl (omega arith))))) h.bit;
          zero_reg = ap (λ (c : Cpu). c.x 0) cpu ∙ h.zero_reg;
          words = λ i. subst (λ z. z < 2 ^ 32) (sym (ap (λ (c : Cpu). c.x i) cpu)) (h.words i);
        },
        ap (λ (c : Cpu). c.pc) cpu ∙ ap (λ z. sum_of z 4) e,
      )

  pub turn_step : (t : ℕ) → IsIntact run 5064 t → (run t).cpu.pc ≡ 5060 → IsIntact run 5064 (suc t) × ((run (suc t)).cpu.pc ≡ 5044)
  turn_step t h e =
      let d = (run t).cpu in
      let next = puts_next t back_line (sum_of d.pc 4) 5044 (turn_at t h e) (ap (λ z. Puts (sum_of d.pc 4) (sum_of z 4294967280)) e) in
      (jumped t back_line (sum_of d.pc 4) 5044 h (turn_at t h e) (omega arith) next, ap (λ (s : State). s.cpu.pc) next)

  -- the flip flips
  flips_here : (u t0 : ℕ) → IsIntact run 5064 u → Climbing run u t0 5 31 → flip run u ≡ true
  flips_here u t0 h x = let s = climb_flip run 5064 based u t0 5 h x in ap (λ (z : State). not (nat_eq (index_of (run u).mem) (index_of z.mem))) (sym (steps u)) ∙ ap (λ z. not (nat_eq (index_of (run u).mem) z)) s.index ∙ other (index_of (run u).mem) (bits (index_of (run u).mem) h.bit)
    where
      bits : (n : ℕ) → n < 2 → (n ≡ 0) ⊎ (n ≡ 1)
      bits n l = grind arith

      other : (n : ℕ) → (n ≡ 0) ⊎ (n ≡ 1) → not (nat_eq n (cond (n == 0) 1 0)) ≡ true
      other n (inl q) = ap (λ z. not (nat_eq z (cond (z == 0) 1 0))) q
      other n (inr q) = ap (λ z. not (nat_eq z (cond (z == 0) 1 0))) q

  -- the return does not
  calm_here : (u t0 : ℕ) → IsIntact run 5064 u → Returning run u t0 5 → flip run u ≡ false
  calm_here u t0 h x = calm_of run 5064 based u (ap (λ (s : State). index_of s.mem) (next_is run 5064 based u return_line (return_line_at run 5064 based u t0 5 h x)))

  exit_inside : (t t0 : ℕ) → Returning run t t0 5 → is_runtime (run t).cpu.pc ≡ true
  exit_inside t t0 x = let e = x.place in below_true (run t).cpu.pc (omega arith) (omega arith)
    where
      below_true : (pc : ℕ) → 4096 ≤ pc → pc < 5044 → is_runtime pc ≡ true
      below_true pc a b = grind (arith, nat_tests)

  places : (p : ℕ) → p ≤ 31 → (p < 30) ⊎ ((p ≡ 30) ⊎ (p ≡ 31))
  places p l = grind arith

  four_or_less : (k : ℕ) → k < 5 → (k < 4) ⊎ (k ≡ 4)
  four_or_less k l = grind arith

  at_next : (t : ℕ) → IsIntact run 5064 t → Spot t → At (suc t)
  at_next t h (Reads e) = let s = read_step t h e in record { spot = Adds s.1; fine = s.0 }
  at_next t h (Adds e) = let s = add_step t h e in record { spot = Calls s.1; fine = s.0 }
  at_next t h (Calls e) = let s = call_step t h e in record { spot = Entry t 0 e s.0 (enters run 5064 based t 5 s.1); fine = s.0 }
  at_next t h (Stores_it u q f g i e) = let s = write_step t h e in record { spot = Turns s.1; fine = s.0 }
  at_next t h (Turns e) = let s = turn_step t h e in record { spot = Reads s.1; fine = s.0 }
  at_next t h (Entry t0 k e f x) = let n = entry_step run 5064 based t t0 5 k h x in elim (four_or_less k x.small) [
    | inl l ↦ record { spot = Entry t0 (suc k) e f (n.on l); fine = n.fine }
    | inr q ↦ record { spot = Rung t0 26 e f (n.off q); fine = n.fine }
  ]
  at_next t h (Rung t0 p e f x) = elim (places p x.to) [
    | inl low ↦ (let n = climb_on run 5064 based t t0 5 p h x low in record { spot = Rung t0 (suc p) e f n.1; fine = n.0 })
    | inr (inl q) ↦ (let n = climb_shift run 5064 based t t0 5 h (subst (Climbing run t t0 5) q x) in record { spot = Rung t0 31 e f n.1; fine = n.0 })
    | inr (inr q) ↦ (let y = subst (Climbing run t t0 5) q x in let n = flip_on run 5064 based t t0 5 h y in record { spot = Exit t0 t e f refl (flips_here t t0 h y) n.1; fine = n.0 })
  ]
  at_next t h (Exit t0 u e f q g x) =
      let n = return_on run 5064 based t t0 5 h x in
      record {
        spot = Stores_it u (ap suc q) g (ap (flip run) (sym q) ∙ calm_here t t0 h x) (ap (λ z. is_runtime (run z).cpu.pc) (sym q) ∙ exit_inside t t0 x) (n.1 ∙ ap (λ z. z + 4) e);
        fine = n.0;
      }

  pub at : (t : ℕ) → At t
  at zero = record { spot = Reads first_place; fine = record { same = λ a l g. refl; bit = subst (λ z. z < 2) (sym image.index) (omega arith); zero_reg = first_zero; words = first_words } }
  at (suc t) = let a = at t in at_next t a.fine a.spot

  -- ---- the instruction of each time

  pub record Does (t : ℕ) : Type 0 where
    pub line : Line
    pub is : line_at (run t) ≡ Some line
    pub ok : (at : ℕ) → (step_of (run t).cpu (run t).mem).went ≢ Faulted at
    pub low : 4096 ≤ (run t).cpu.pc
    pub high : (run t).cpu.pc + 4 ≤ 5064

  on_only : (t : ℕ) (l : Line) → line_at (run t) ≡ Some l → (effected (run t).cpu (run t).mem l.rd (effect (run t).cpu l)).went ≡ On → (at : ℕ) → (step_of (run t).cpu (run t).mem).went ≢ Faulted at
  on_only t l e w at h = let q : On ≡ Faulted at = sym w ∙ sym (ap (λ (s : Stepped). s.went) (step_effected (run t).cpu (run t).mem l e)) ∙ h in cc

  effect_on : (t : ℕ) (l : Line) (e : Effect) → line_at (run t) ≡ Some l → effect (run t).cpu l ≡ e → (effected (run t).cpu (run t).mem l.rd e).went ≡ On → (at : ℕ) → (step_of (run t).cpu (run t).mem).went ≢ Faulted at
  effect_on t l e h q w = on_only t l h (ap (λ z. (effected (run t).cpu (run t).mem l.rd z).went) q ∙ w)

  entry_does : (t t0 k : ℕ) → IsIntact run 5064 t → Entering run t t0 5 k → Does t
  entry_does t t0 zero h x = let l = entry_line_at run 5064 based t t0 5 zero h x in let e = x.place in record { line = entry_line 5 zero; is = l; ok = effect_on t (entry_line 5 zero) (Loads 0 4 Zero) l (ap (λ z. Loads (sum_of z 0) 4 Zero) h.zero_reg) refl; low = omega arith; high = omega arith }
  entry_does t t0 (suc zero) h x = let l = entry_line_at run 5064 based t t0 5 1 h x in let e = x.place in record { line = entry_line 5 1; is = l; ok = on_only t (entry_line 5 1) l refl; low = omega arith; high = omega arith }
  entry_does t t0 (suc (suc zero)) h x = let l = entry_line_at run 5064 based t t0 5 2 h x in let e = x.place in record { line = entry_line 5 2; is = l; ok = on_only t (entry_line 5 2) l refl; low = omega arith; high = omega arith }
  entry_does t t0 (suc (suc (suc zero))) h x = let l = entry_line_at run 5064 based t t0 5 3 h x in let e = x.place in record { line = entry_line 5 3; is = l; ok = on_only t (entry_line 5 3) l refl; low = omega arith; high = omega arith }
  entry_does t t0 (suc (suc (suc (suc k)))) h x = let l = entry_line_at run 5064 based t t0 5 (suc (suc (suc (suc k)))) h x in let e = x.place in let s = x.small in record { line = entry_line 5 (suc (suc (suc (suc k)))); is = l; ok = on_only t (entry_line 5 (suc (suc (suc (suc k))))) l refl; low = omega arith; high = omega arith }

  store_ok : (t : ℕ) (l : Line) (a v : ℕ) → line_at (run t) ≡ Some l → effect_at (run t) ≡ Stores a 4 v → is_place a 4 ≡ true → (at : ℕ) → (step_of (run t).cpu (run t).mem).went ≢ Faulted at
  store_ok t l a v e q p = effect_on t l (Stores a 4 v) e (sym (effect_is run 5064 based t l e) ∙ q) (stored_on (run t).cpu (run t).mem l.rd a v p)
    where
      stored_on : (c : Cpu) (m : Mem) (rd a v : ℕ) → is_place a 4 ≡ true → (effected c m rd (Stores a 4 v)).went ≡ On
      stored_on c m rd a v p = ap (λ b. (saved_at b c m a (bytes_of 4 v)).went) p

  rung_does : (t t0 p : ℕ) → IsIntact run 5064 t → Climbing run t t0 5 p → Does t
  rung_does t t0 p h x = let e = x.place in let f = x.from in let u = x.to in elim (places p x.to) [
    | inl low ↦ (
        let r = ladder_reg p in
        let named = reg_named p low in
        let l = ladder_line_at run 5064 based t t0 5 p (store_line r) h x (ladder_store p low) (store_back r named.1) in
        let s = climb_store run 5064 based t t0 5 p h x low in
        record { line = store_line r; is = l; ok = store_ok t (store_line r) (idle (index_of (run t).mem) + slot r) ((run t).cpu.x r) l s.effect (slot_place (index_of (run t).mem) r named.1); low = omega arith; high = omega arith })
    | inr (inl q) ↦ (
        let l = ladder_line_at run 5064 based t t0 5 30 shift_line h (subst (Climbing run t t0 5) q x) refl shift_back in
        record { line = shift_line; is = l; ok = on_only t shift_line l refl; low = omega arith; high = omega arith })
    | inr (inr q) ↦ (
        let x' = subst (Climbing run t t0 5) q x in
        let l = ladder_line_at run 5064 based t t0 5 31 flip_line h x' refl flip_back in
        let s = climb_flip run 5064 based t t0 5 h x' in
        record { line = flip_line; is = l; ok = store_ok t flip_line 0 (cond (index_of (run t).mem == 0) 1 0) l s.effect refl; low = omega arith; high = omega arith })
  ]

  does_at : (t : ℕ) → IsIntact run 5064 t → Spot t → Does t
  does_at t h (Reads e) = record { line = read_line; is = read_at t h e; ok = effect_on t read_line (Loads 1024 4 Zero) (read_at t h e) (read_effect t h) refl; low = omega arith; high = omega arith }
  does_at t h (Adds e) = record { line = add_line; is = add_at t h e; ok = on_only t add_line (add_at t h e) refl; low = omega arith; high = omega arith }
  does_at t h (Calls e) = record { line = call_line; is = call_at t h e; ok = on_only t call_line (call_at t h e) refl; low = omega arith; high = omega arith }
  does_at t h (Stores_it u q f g i e) = record { line = write_line; is = write_at t h e; ok = effect_on t write_line (Stores 1024 4 ((run t).cpu.x 5)) (write_at t h e) (write_effect t h) refl; low = omega arith; high = omega arith }
  does_at t h (Turns e) = record { line = back_line; is = turn_at t h e; ok = on_only t back_line (turn_at t h e) refl; low = omega arith; high = omega arith }
  does_at t h (Entry t0 k e f x) = entry_does t t0 k h x
  does_at t h (Rung t0 p e f x) = rung_does t t0 p h x
  does_at t h (Exit t0 u e f q0 g0 x) = let l = return_line_at run 5064 based t t0 5 h x in let q = x.place in record { line = return_line; is = l; ok = on_only t return_line l refl; low = omega arith; high = omega arith }

  does : (t : ℕ) → Does t
  does t = let a = at t in does_at t a.fine a.spot

  -- ---- inside and outside

  below_true : (pc : ℕ) → 4096 ≤ pc → pc < 5044 → is_runtime pc ≡ true
  below_true pc a b = grind (arith, nat_tests)

  entry_inside : (t t0 k : ℕ) → Entering run t t0 5 k → is_runtime (run t).cpu.pc ≡ true
  entry_inside t t0 k x = let e = x.place in let s = x.small in below_true (run t).cpu.pc (omega arith) (omega arith)

  rung_inside : (t t0 p : ℕ) → Climbing run t t0 5 p → is_runtime (run t).cpu.pc ≡ true
  rung_inside t t0 p x = let e = x.place in let s = x.to in below_true (run t).cpu.pc (omega arith) (omega arith)

  -- outside are the five words of the loop
  pub data Out (t : ℕ) : Type 0 where
    Out_read : (run t).cpu.pc ≡ 5044 → Out t
    Out_add : (run t).cpu.pc ≡ 5048 → Out t
    Out_call : (run t).cpu.pc ≡ 5052 → Out t
    Out_write : (u : ℕ) → t ≡ suc (suc u) → flip run u ≡ true → flip run (suc u) ≡ false → is_runtime (run (suc u)).cpu.pc ≡ true → (run t).cpu.pc ≡ 5056 → Out t
    Out_turn : (run t).cpu.pc ≡ 5060 → Out t

  outside_spots : (t : ℕ) → is_runtime (run t).cpu.pc ≡ false → Spot t → Out t
  outside_spots t out (Reads e) = Out_read e
  outside_spots t out (Adds e) = Out_add e
  outside_spots t out (Calls e) = Out_call e
  outside_spots t out (Stores_it u q f g i e) = Out_write u q f g i e
  outside_spots t out (Turns e) = Out_turn e
  outside_spots t out (Entry t0 k e f x) = absurd (let q = entry_inside t t0 k x in let bad : true ≡ false = sym q ∙ out in cc)
  outside_spots t out (Rung t0 p e f x) = absurd (let q = rung_inside t t0 p x in let bad : true ≡ false = sym q ∙ out in cc)
  outside_spots t out (Exit t0 u e f q0 g0 x) = absurd (let q = exit_inside t t0 x in let bad : true ≡ false = sym q ∙ out in cc)

  -- each time within eleven steps from a cut is inside
  within : (t0 n : ℕ) → IsCut run t0 5 → IsIntact run 5064 (suc t0) → n ≤ 11 → is_runtime (run (t0 + 1 + n)).cpu.pc ≡ true
  within t0 n c f l = elim (three n l) [
    | inl low ↦ entry_inside (t0 + 1 + n) t0 n (in_entry run 5064 based t0 5 n c f low).1
    | inr (inl mid) ↦ (
        let q : t0 + 6 + (n - 5) ≡ t0 + 1 + n = (let a = mid.0 in omega arith) in
        let x = on_ladder run 5064 based t0 5 (n - 5) c f (let b = mid.1 in omega arith) in
        ap (λ z. is_runtime (run z).cpu.pc) (sym q) ∙ rung_inside (t0 + 6 + (n - 5)) t0 _ x.1)
    | inr (inr e) ↦ (
        let q : t0 + 5 + 7 ≡ t0 + 1 + n = omega arith in
        let x = at_return run 5064 based t0 5 c f in
        ap (λ z. is_runtime (run z).cpu.pc) (sym q) ∙ exit_inside (t0 + 5 + 7) t0 x.1)
  ]
    where
      three : (n : ℕ) → n ≤ 11 → (n < 5) ⊎ (((5 ≤ n) × (n ≤ 10)) ⊎ (n ≡ 11))
      three n l = elim (order n 5) [ inl a ↦ inl a | inr a ↦ elim (order n 11) [ inl b ↦ inr (inl (a, omega arith)) | inr b ↦ inr (inr (omega arith)) ] ]

  -- ---- what is needed

  pub cut_of : (t0 : ℕ) → (run t0).cpu.pc ≡ 5052 → IsCut run t0 5
  cut_of t0 e = (call_step t0 (at t0).fine e).1

  -- a use of a register, and where that was set
  pub data Use (v i : ℕ) : Type 0 where
    Nothing : i ≡ 0 → Use v i
    Five : i ≡ 5 → Use v i
    Base : (t0 : ℕ) → (run t0).cpu.pc ≡ 5052 → IsIntact run 5064 (suc t0) → i ≡ 4 → t0 + 1 < v → v ≤ t0 + 11 → Use v i
    Link : (t0 : ℕ) → (run t0).cpu.pc ≡ 5052 → IsIntact run 5064 (suc t0) → i ≡ 3 → v ≡ t0 + 12 → Use v i

  plain_use : (v i : ℕ) (l : Line) → line_at (run v) ≡ Some l → l.rs1 ≡ 0 → l.rs2 ≡ 0 → uses (run v) i ≡ true → i ≡ 0
  plain_use v i l e a b h = none_used i (not (saves_by (effect_at (run v)))) (ap (λ z. i == z || (i == z && not (saves_by (effect_at (run v))))) (sym a) ∙ ap (λ z. i == l.rs1 || (i == z && not (saves_by (effect_at (run v))))) (a ∙ sym b) ∙ sym (ap (λ z. i == rs1_of z || (i == rs2_of z && not (saves_by (effect_at (run v))))) e) ∙ h)

  first_use : (v i n : ℕ) (l : Line) → line_at (run v) ≡ Some l → l.rs1 ≡ n → l.rs2 ≡ 0 → uses (run v) i ≡ true → (i ≡ n) ⊎ (i ≡ 0)
  first_use v i n l e a b h = one_used n i (not (saves_by (effect_at (run v)))) (ap (λ z. i == z || (i == 0 && not (saves_by (effect_at (run v))))) (sym a) ∙ ap (λ z. i == l.rs1 || (i == z && not (saves_by (effect_at (run v))))) (sym b) ∙ sym (ap (λ z. i == rs1_of z || (i == rs2_of z && not (saves_by (effect_at (run v))))) e) ∙ h)

  four_or_none : (v i t0 : ℕ) → (run t0).cpu.pc ≡ 5052 → IsIntact run 5064 (suc t0) → t0 + 1 < v → v ≤ t0 + 11 → (i ≡ 4) ⊎ (i ≡ 0) → Use v i
  four_or_none v i t0 e f a b (inl q) = Base t0 e f q a b
  four_or_none v i t0 e f a b (inr q) = Nothing q

  entry_use : (v i t0 k : ℕ) → (run t0).cpu.pc ≡ 5052 → IsIntact run 5064 (suc t0) → IsIntact run 5064 v → Entering run v t0 5 k → uses (run v) i ≡ true → Use v i
  entry_use v i t0 zero e f h x u = Nothing (plain_use v i (entry_line 5 zero) (entry_line_at run 5064 based v t0 5 zero h x) refl refl u)
  entry_use v i t0 (suc zero) e f h x u = let q = x.time in four_or_none v i t0 e f (omega arith) (omega arith) (first_use v i 4 (entry_line 5 1) (entry_line_at run 5064 based v t0 5 1 h x) refl refl u)
  entry_use v i t0 (suc (suc zero)) e f h x u = let q = x.time in four_or_none v i t0 e f (omega arith) (omega arith) (first_use v i 4 (entry_line 5 2) (entry_line_at run 5064 based v t0 5 2 h x) refl refl u)
  entry_use v i t0 (suc (suc (suc zero))) e f h x u = let q = x.time in four_or_none v i t0 e f (omega arith) (omega arith) (first_use v i 4 (entry_line 5 3) (entry_line_at run 5064 based v t0 5 3 h x) refl refl u)
  entry_use v i t0 (suc (suc (suc (suc k)))) e f h x u = Nothing (plain_use v i (entry_line 5 (suc (suc (suc (suc k))))) (entry_line_at run 5064 based v t0 5 (suc (suc (suc (suc k)))) h x) refl refl u)

  rung_use : (v i t0 p : ℕ) → (run t0).cpu.pc ≡ 5052 → IsIntact run 5064 (suc t0) → IsIntact run 5064 v → Climbing run v t0 5 p → uses (run v) i ≡ true → Use v i
  rung_use v i t0 p e f h x u =
      let a : t0 + 1 < v = (let q = x.time in let r = x.from in omega arith) in
      let b : v ≤ t0 + 11 = (let q = x.time in let r = x.to in omega arith) in
      elim (places p x.to) [
        | inl low ↦ (
            let r = ladder_reg p in
            let named = reg_named p low in
            let l = ladder_line_at run 5064 based v t0 5 p (store_line r) h x (ladder_store p low) (store_back r named.1) in
            let s = saves_if (run v) r (climb_store run 5064 based v t0 5 p h x low).saves in
            Base t0 e f (base_used 4 i (i == rs2_of (line_at (run v))) (ap (λ z. i == rs1_of z || (i == rs2_of (line_at (run v)) && false)) (sym l) ∙ ap (λ z. i == rs1_of (line_at (run v)) || (i == rs2_of (line_at (run v)) && not z)) (sym s) ∙ u)) a b)
        | inr (inl q) ↦ four_or_none v i t0 e f a b (first_use v i 4 shift_line (ladder_line_at run 5064 based v t0 5 30 shift_line h (subst (Climbing run v t0 5) q x) refl shift_back) refl refl u)
        | inr (inr q) ↦ (
            let x' = subst (Climbing run v t0 5) q x in
            let l = ladder_line_at run 5064 based v t0 5 31 flip_line h x' refl flip_back in
            let s : saves_by (effect_at (run v)) ≡ false = ap saves_by (climb_flip run 5064 based v t0 5 h x').effect in
            four_or_none v i t0 e f a b (zero_or_n 4 i (ap (λ z. i == rs1_of z || (i == rs2_of z && true)) (sym l) ∙ ap (λ z. i == rs1_of (line_at (run v)) || (i == rs2_of (line_at (run v)) && not z)) (sym s) ∙ u)))
      ]

  exit_use : (v i t0 : ℕ) → (run t0).cpu.pc ≡ 5052 → IsIntact run 5064 (suc t0) → IsIntact run 5064 v → Returning run v t0 5 → uses (run v) i ≡ true → Use v i
  exit_use v i t0 e f h x u = elim (first_use v i 3 return_line (return_line_at run 5064 based v t0 5 h x) refl refl u) [
    | inl q ↦ Link t0 e f q (let t = x.time in omega arith)
    | inr q ↦ Nothing q
  ]

  five_or_none : (v i : ℕ) → (i ≡ 5) ⊎ (i ≡ 0) → Use v i
  five_or_none v i (inl q) = Five q
  five_or_none v i (inr q) = Nothing q

  use_at : (v i : ℕ) → IsIntact run 5064 v → Spot v → uses (run v) i ≡ true → Use v i
  use_at v i h (Reads e) u = Nothing (plain_use v i read_line (read_at v h e) refl refl u)
  use_at v i h (Adds e) u = five_or_none v i (first_use v i 5 add_line (add_at v h e) refl refl u)
  use_at v i h (Calls e) u = Nothing (plain_use v i call_line (call_at v h e) refl refl u)
  use_at v i h (Stores_it w q f g k e) u =
      let l = write_at v h e in
      let s : saves_by (effect_at (run v)) ≡ false = ap saves_by (effect_is run 5064 based v write_line l ∙ write_effect v h) in
      five_or_none v i (zero_or_n 5 i (ap (λ z. i == rs1_of z || (i == rs2_of z && true)) (sym l) ∙ ap (λ z. i == rs1_of (line_at (run v)) || (i == rs2_of (line_at (run v)) && not z)) (sym s) ∙ u))
  use_at v i h (Turns e) u = Nothing (plain_use v i back_line (turn_at v h e) refl refl u)
  use_at v i h (Entry t0 k e f x) u = entry_use v i t0 k e f h x u
  use_at v i h (Rung t0 p e f x) u = rung_use v i t0 p e f h x u
  use_at v i h (Exit t0 w e f q0 g0 x) u = exit_use v i t0 e f h x u

  -- no time in the routine is outside
  not_inside : (u t0 : ℕ) → (run t0).cpu.pc ≡ 5052 → IsIntact run 5064 (suc t0) → t0 < u → u ≤ t0 + 12 → is_runtime (run u).cpu.pc ≡ false → ⊥
  not_inside u t0 e f a b out =
      let n = u - (t0 + 1) in
      let q : t0 + 1 + n ≡ u = omega arith in
      let w = within t0 n (cut_of t0 e) f (omega arith) in
      let bad : true ≡ false = sym w ∙ ap (λ z. is_runtime (run z).cpu.pc) q ∙ out in
      cc

  four_set : (t0 : ℕ) → (run t0).cpu.pc ≡ 5052 → IsIntact run 5064 (suc t0) → sets (run (suc t0)) 4 ≡ true
  four_set t0 e f =
      let l = entry_line_at run 5064 based (suc t0) t0 5 0 f (enters run 5064 based t0 5 (cut_of t0 e)) in
      ap (λ z. sets_by (effect_at (run (suc t0))) (rd_of z) 4) l ∙ ap (λ z. sets_by z 4 4) (effect_is run 5064 based (suc t0) (entry_line 5 0) l)

  three_set : (t0 : ℕ) → (run t0).cpu.pc ≡ 5052 → sets (run t0) 3 ≡ true
  three_set t0 e =
      let l = call_at t0 (at t0).fine e in
      ap (λ z. sets_by (effect_at (run t0)) (rd_of z) 3) l ∙ ap (λ z. sets_by z 3 3) (effect_is run 5064 based t0 call_line l)

  -- outside the routine no register but x0 and x5 is used again
  outside_uses : (u i : ℕ) → is_runtime (run u).cpu.pc ≡ false → Used run u i → (i ≡ 0) ⊎ (i ≡ 5)
  outside_uses u i out n = elim (use_at n.time i (at n.time).fine (at n.time).spot n.used) [
    | Nothing q ↦ inl q
    | Five q ↦ inr q
    | Base t0 e f q a b ↦ elim (order (suc t0) u) [
      | inl past ↦ absurd (not_inside u t0 e f (omega arith) (let l = n.later in omega arith) out)
      | inr before ↦ absurd (
          let s = subst (λ z. sets (run (suc t0)) z ≡ false) q (n.unset (suc t0) before (omega arith)) in
          let bad : true ≡ false = sym (four_set t0 e f) ∙ s in cc)
    ]
    | Link t0 e f q b ↦ elim (order t0 u) [
      | inl past ↦ absurd (not_inside u t0 e f past (let l = n.later in omega arith) out)
      | inr before ↦ absurd (
          let s = subst (λ z. sets (run t0) z ≡ false) q (n.unset t0 before (omega arith)) in
          let bad : true ≡ false = sym (three_set t0 e) ∙ s in cc)
    ]
  ]

  -- ---- what the compiler owes

  pub plain_writes : (t a : ℕ) → is_runtime (run t).cpu.pc ≡ false → (a < 1024) ⊎ (1028 ≤ a) → writes run t a ≡ None
  plain_writes t a out o = let h = (at t).fine in elim (outside_spots t out (at t).spot) [
    | Out_read e ↦ ap (λ z. writes_by z a) (effect_is run 5064 based t read_line (read_at t h e) ∙ read_effect t h)
    | Out_add e ↦ ap (λ z. writes_by z a) (effect_is run 5064 based t add_line (add_at t h e))
    | Out_call e ↦ ap (λ z. writes_by z a) (effect_is run 5064 based t call_line (call_at t h e))
    | Out_write u q f g i e ↦ ap (λ z. writes_by z a) (effect_is run 5064 based t write_line (write_at t h e) ∙ write_effect t h) ∙ beside ((run t).cpu.x 5) a o
    | Out_turn e ↦ ap (λ z. writes_by z a) (effect_is run 5064 based t back_line (turn_at t h e))
  ]

  -- what is read is read at the loop's first word
  plain_reads : (t a : ℕ) → is_runtime (run t).cpu.pc ≡ false → reads run t a ≡ true → ((run t).cpu.pc ≡ 5044) × (is_buffer a ≡ false)
  plain_reads t a out r = let h = (at t).fine in elim (outside_spots t out (at t).spot) [
    | Out_read e ↦ (e, clear a (sym (ap (λ z. reads_by z a) (effect_is run 5064 based t read_line (read_at t h e) ∙ read_effect t h)) ∙ r))
    | Out_add e ↦ absurd (let q : false ≡ true = sym (ap (λ z. reads_by z a) (effect_is run 5064 based t add_line (add_at t h e))) ∙ r in cc)
    | Out_call e ↦ absurd (let q : false ≡ true = sym (ap (λ z. reads_by z a) (effect_is run 5064 based t call_line (call_at t h e))) ∙ r in cc)
    | Out_write u q f g i e ↦ absurd (let q : false ≡ true = sym (ap (λ z. reads_by z a) (effect_is run 5064 based t write_line (write_at t h e) ∙ write_effect t h)) ∙ r in cc)
    | Out_turn e ↦ absurd (let q : false ≡ true = sym (ap (λ z. reads_by z a) (effect_is run 5064 based t back_line (turn_at t h e))) ∙ r in cc)
  ]
    where
      clear : (a : ℕ) → reads_by (Loads 1024 4 Zero) a ≡ true → is_buffer a ≡ false
      clear a h = grind (arith, nat_tests)

  into_cut : (t : ℕ) → is_runtime (run t).cpu.pc ≡ false → is_runtime (run (suc t)).cpu.pc ≡ true → (m : ℕ) × IsCut run t m
  into_cut t out into = let h = (at t).fine in elim (outside_spots t out (at t).spot) [
    | Out_read e ↦ absurd (let s = read_step t h e in let bad : true ≡ false = sym into ∙ ap is_runtime s.1 in cc)
    | Out_add e ↦ absurd (let s = add_step t h e in let bad : true ≡ false = sym into ∙ ap is_runtime s.1 in cc)
    | Out_call e ↦ (5, cut_of t e)
    | Out_write u q f g i e ↦ absurd (let s = write_step t h e in let bad : true ≡ false = sym into ∙ ap is_runtime s.1 in cc)
    | Out_turn e ↦ absurd (let s = turn_step t h e in let bad : true ≡ false = sym into ∙ ap is_runtime s.1 in cc)
  ]

  -- a cut of the loop is the one that it has
  pub cut_is : (t m : ℕ) → IsCut run t m → (m ≡ 5) × ((run t).cpu.pc ≡ 5052)
  cut_is t m c = let h = (at t).fine in elim (outside_spots t c.outside (at t).spot) [
    | Out_read e ↦ absurd (let s = (read_step t h e).1 in let y = c.entered in let z = c.below in omega arith)
    | Out_add e ↦ absurd (let s = (add_step t h e).1 in let y = c.entered in let z = c.below in omega arith)
    | Out_call e ↦ (let d = cut_of t e in let x = d.entered in let y = c.entered in (omega arith, e))
    | Out_write u q f g i e ↦ absurd (let s = (write_step t h e).1 in let y = c.entered in let z = c.below in omega arith)
    | Out_turn e ↦ absurd (let s = (turn_step t h e).1 in let y = c.entered in let z = c.below in omega arith)
  ]

  needs : (t m i : ℕ) → IsCut run t m → Needed run (t + m + 8) i → (i ≤ m) × (i ≢ 3) × (i ≢ 4)
  needs t m i c (inr two) = let a = c.above in (omega arith, omega arith, omega arith)
  needs t m i c (inl n) =
      let q = cut_is t m c in
      let five = q.0 in
      let x = comes_back run 5064 based t m c (call_step t (at t).fine q.1).0 in
      elim (outside_uses (t + m + 8) i (ap is_runtime x.1 ∙ c.back) n) [
        | inl z ↦ (omega arith, omega arith, omega arith)
        | inr z ↦ (omega arith, omega arith, omega arith)
      ]

  pub first_needs : (i : ℕ) → Needed run 0 i → (i ≢ 3) × (i ≢ 4) × (i < 32)
  first_needs i (inr two) = (omega arith, omega arith, omega arith)
  first_needs i (inl n) = elim (outside_uses 0 i (ap is_runtime first_place) n) [
    | inl z ↦ (omega arith, omega arith, omega arith)
    | inr z ↦ (omega arith, omega arith, omega arith)
  ]

  -- the counter is written first in its section, and read behind that
  no_war : (t u a : ℕ) → t ≤ u → start (flip run) t ≡ start (flip run) u → is_runtime (run t).cpu.pc ≡ false → is_runtime (run u).cpu.pc ≡ false → reads run t a ≡ true → wrote (flip run) (writes run) t a ≡ false → writes run u a ≡ None
  no_war t u a le same out out' r w = let h = (at u).fine in elim (outside_spots u out' (at u).spot) [
    | Out_read e ↦ ap (λ z. writes_by z a) (effect_is run 5064 based u read_line (read_at u h e) ∙ read_effect u h)
    | Out_add e ↦ ap (λ z. writes_by z a) (effect_is run 5064 based u add_line (add_at u h e))
    | Out_call e ↦ ap (λ z. writes_by z a) (effect_is run 5064 based u call_line (call_at u h e))
    | Out_turn e ↦ ap (λ z. writes_by z a) (effect_is run 5064 based u back_line (turn_at u h e))
    | Out_write v q f g i e ↦ absurd (
        let first = plain_reads t a out r in
        let s1 = start-flip (flip run) v f in
        let s2 = start-calm (flip run) (suc v) g in
        let s3 = ap (start (flip run)) q in
        let l = start_le (flip run) t in
        elim (order (suc v) t) [
          | inl late ↦ (let z : t ≡ u = omega arith in let p = ap (λ k. (run k).cpu.pc) z in let p1 = first.0 in omega arith)
          | inr early ↦ (let z : t ≡ suc v = omega arith in let bad : true ≡ false = sym i ∙ ap (λ k. is_runtime (run k).cpu.pc) (sym z) ∙ out in cc)
        ])
  ]

  pub owed : IsLive run 0 (run 0).mem → IsOwed run 5064
  owed live = record {
    based = based;
    line = λ t. (does t).line;
    decodes = λ t. (does t).is;
    no_fault = λ t. (does t).ok;
    fetches = λ t. ((does t).low, (does t).high);
    writes_plain = λ t a out h. plain_writes t a out (plain_place a h);
    reads_plain = λ t a out h. (plain_reads t a out h).1;
    outside_first = ap is_runtime first_place;
    cuts = into_cut;
    needs = needs;
    no_war = no_war;
    index_first = subst (λ z. z < 2) (sym image.index) (omega arith);
    words = λ t. (at t).fine.words;
    zero_reg = λ t. (at t).fine.zero_reg;
    even_first = ap (λ z. z % 2) first_place;
    needs_first = first_needs;
    begins = live;
  }
    where
      plain_place : (a : ℕ) → (is_buffer a || is_fixed 5064 a) ≡ true → (a < 1024) ⊎ (1028 ≤ a)
      plain_place a h = grind (arith, nat_tests)
