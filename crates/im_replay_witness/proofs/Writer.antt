-- A program that writes one byte has all that the compiler owes: where its run is at each time.
use Rattle.std.proofs.Common.{◌≡◌, ◌≢◌, ℕ, zero, suc, ◌+◌, ◌-◌, ◌*◌, ◌%◌, ◌^◌, ◌<◌, ◌≤◌, ◌⊎◌, inl, inr, Bool, true, false, cond, Some, None, refl, sym, ap, ◌∙◌, subst, arith}
use Rattle.std.specs.Prelude.{◌==◌, ◌&&◌, ◌||◌, not, nat_lt, nat_eq}
use Rattle.std.proofs.lemmas.Bool.Decides.{nat_tests}
use Rattle.im_num.specs.Bytes.{bytes_of}
use Rattle.im_mem.specs.Memory.{Mem, little, loaded, is_place, Stands}
use Rattle.im_mem.proofs.Words.{little-alike, length-bytes_of}
use Rattle.im_rv.specs.declared.effect.Effect.{Effect}
use Rattle.im_rv.specs.declared.effect.Effect.TheVariants.{Puts, Loads, Stores, Stops}
use Rattle.im_rv.specs.declared.effect.Extension.TheVariants.{Zero}
use Rattle.im_rv.specs.declared.step.Went.TheVariants.{On, Halted, Faulted}
use Rattle.im_rv.specs.Steps.{Cpu, Stepped, effected, sum_of, with_reg}
use Rattle.im_rv.specs.Decode.{Line, decode}
use Rattle.im_rv.specs.Runs.{step_of}
use Rattle.im_rv.specs.Encode.{encoded}
use Rattle.im_rv.specs.Effects.{decoded_word, effect, rd_of, rs1_of, rs2_of, writes_by, reads_by, sets_by}
use Rattle.im_rv.proofs.Locality.{step_effected, saved_at, patch_below, patch_above}
use Rattle.im_device.specs.Run.{index_of}
use Rattle.im_replay_path.proofs.Times.{order}
use Rattle.im_ckpt.specs.Runs.{State, IsRun, flip, writes, reads, line_at, effect_at, sets}
use Rattle.im_ckpt.specs.Buffers.{is_buffer, is_fixed, idle, slot, saves_by}
use Rattle.im_ckpt.specs.Recovery.{recovery_words, return_line}
use Rattle.im_ckpt.specs.Checkpoint.{checkpoint_words, store_line, shift_line, flip_line}
use Rattle.im_ckpt.specs.Laws.{is_runtime, IsCut, HasRuntime, IsIntact}
use Rattle.im_ckpt.proofs.Rungs.{entry_line, ladder_reg, shift_back, flip_back, ladder_store, store_back, reg_named}
use Rattle.im_ckpt.proofs.Slots.{saves_if}
use Rattle.im_ckpt.proofs.Phases.{Entering, Climbing, Returning, none_kept, mem_next, next_is, effect_is, entry_line_at, entry_step, ladder_line_at, climb_store, climb_flip, slot_place, climb_on, climb_shift, flip_on, return_on, return_line_at, enters, in_entry, on_ladder, at_return, comes_back}
use Rattle.im_replay.specs.Needed.{uses, Used, Needed}
use Rattle.im_replay.specs.Sections.{IsLive}
use Rattle.im_replay.specs.Owed.{IsOwed}
use Rattle.im_replay_witness.specs.Writer.{own}

-- a memory that holds the program, loaded
pub record WriterImage (m : Mem) : Type 0 where
  pub small : (a : ℕ) → m a < 256
  pub recovery : Stands m 4096 recovery_words
  pub checkpoint : Stands m 4352 checkpoint_words
  pub lines : (k : ℕ) → k < 8 → little m (5044 + 4 * k) 4 ≡ encoded (own k)
  pub index : little m 0 4 ≡ 0
  pub start : little m 128 4 ≡ 5044
  pub selector : m 36 ≡ 0
  pub length0 : little m 12 4 ≡ 0

own_back : (k : ℕ) → decode (encoded (own k)) ≡ Some (own k)
own_back zero = refl
own_back (suc zero) = refl
own_back (suc (suc zero)) = refl
own_back (suc (suc (suc zero))) = refl
own_back (suc (suc (suc (suc zero)))) = refl
own_back (suc (suc (suc (suc (suc zero))))) = refl
own_back (suc (suc (suc (suc (suc (suc zero)))))) = refl
own_back (suc (suc (suc (suc (suc (suc (suc k))))))) = refl

-- when line k is executed
abbrev pub time_of : ℕ → ℕ
time_of zero = 0
time_of (suc zero) = 1
time_of (suc (suc zero)) = 2
time_of (suc (suc (suc zero))) = 3
time_of (suc (suc (suc (suc zero)))) = 4
time_of (suc (suc (suc (suc (suc zero))))) = 17
time_of (suc (suc (suc (suc (suc (suc k)))))) = 18

-- a store of n bytes leaves all others
pub stored_apart : (a n v i : ℕ) → (i < a) ⊎ (a + n ≤ i) → writes_by (Stores a n v) i ≡ None
stored_apart a n v i side = by_place (is_place a n) side
  where
    by_place : (b : Bool) → (i < a) ⊎ (a + n ≤ i) → cond b (Rattle.im_rv.specs.Effects.patch a (bytes_of n v) i) None ≡ None
    by_place true (inl l) = patch_below a (bytes_of n v) i l
    by_place true (inr l) = patch_above a (bytes_of n v) i (omega (arith, length-bytes_of n v))
    by_place false s = refl

used_among : (a b i : ℕ) (d : Bool) → (i == a || (i == b && d)) ≡ true → (i ≡ a) ⊎ (i ≡ b)
used_among a b i d h = by_parts (i == a) (i == b) refl refl h
  where
    eq_of : (a b : ℕ) → (a == b) ≡ true → a ≡ b
    eq_of a b h = grind (arith, nat_tests)

    by_parts : (y z : Bool) → (i == a) ≡ y → (i == b) ≡ z → (y || (z && d)) ≡ true → (i ≡ a) ⊎ (i ≡ b)
    by_parts true z e f h = inl (eq_of i a e)
    by_parts false true e f h = inr (eq_of i b f)
    by_parts false false e f h = absurd (cc)

-- a store into a buffer uses its base alone
base_used : (n i : ℕ) (b : Bool) → (i == n || (b && false)) ≡ true → i ≡ n
base_used n i b h = by_parts (i == n) b refl h
  where
    by_parts : (y b : Bool) → (i == n) ≡ y → (y || (b && false)) ≡ true → i ≡ n
    by_parts true b e h = grind (arith, nat_tests)
    by_parts false true e h = absurd (cc)
    by_parts false false e h = absurd (cc)

below_true : (pc : ℕ) → 4096 ≤ pc → pc < 5044 → is_runtime pc ≡ true
below_true pc a b = grind (arith, nat_tests)

above_false : (pc : ℕ) → 5044 ≤ pc → is_runtime pc ≡ false
above_false pc a = grind (arith, nat_tests)

own_place : (k : ℕ) → k < 8 → is_place (5044 + 4 * k) 4 ≡ true
own_place k l = grind (arith, nat_tests)

zero_kept : (rd : ℕ) (x : ℕ → ℕ) (v : ℕ) → with_reg x rd v 0 ≡ x 0
zero_kept rd x v = grind (arith, nat_tests)

one_word : (x : ℕ → ℕ) (rd v : ℕ) → ((i : ℕ) → x i < 2 ^ 32) → v < 2 ^ 32 → (i : ℕ) → with_reg x rd v i < 2 ^ 32
one_word x rd v h l i = by_reg (i == rd && nat_lt 0 rd)
  where
    by_reg : (b : Bool) → cond b v (x i) < 2 ^ 32
    by_reg true = l
    by_reg false = h i

pub places : (p : ℕ) → p ≤ 31 → (p < 30) ⊎ ((p ≡ 30) ⊎ (p ≡ 31))
places p l = grind arith

four_or_less : (k : ℕ) → k < 5 → (k < 4) ⊎ (k ≡ 4)
four_or_less k l = grind arith

plain_place : (a : ℕ) → (is_buffer a || is_fixed 5076 a) ≡ true → (a < 4) ⊎ ((128 ≤ a) × (a < 5076))
plain_place a h = grind (arith, nat_tests)

module _ (run : ℕ → State) (steps : IsRun run) (image : WriterImage (run 0).mem) (first_place : (run 0).cpu.pc ≡ 5044) (first_zero : (run 0).cpu.x 0 ≡ 0) (first_words : (i : ℕ) → (run 0).cpu.x i < 2 ^ 32) where
  pub based : HasRuntime run 5076
  based = record { steps = steps; long = omega arith; recovery = image.recovery; checkpoint = image.checkpoint }

  pub own_at : (t k : ℕ) → IsIntact run 5076 t → k < 8 → (run t).cpu.pc ≡ 5044 + 4 * k → line_at (run t) ≡ Some (own k)
  own_at t k h l e =
      let pc : ℕ = 5044 + 4 * k in
      ap (λ z. decoded_word (loaded (run t).mem z 4)) e
      ∙ ap (λ b. decoded_word (cond b (Some (little (run t).mem pc 4)) None)) (own_place k l)
      ∙ ap decode (little-alike (run t).mem (run 0).mem 4 pc (λ i a b. h.same i (omega arith) (omega arith)) ∙ image.lines k l)
      ∙ own_back k

  -- what a line of the program does: a value, a store outside what the runtime keeps, or the end
  pub data Act (t k : ℕ) : Type 0 where
    Values : (v target : ℕ) → effect (run t).cpu (own k) ≡ Puts v target → v < 2 ^ 32 → Act t k
    Keeps : (a n v : ℕ) → effect (run t).cpu (own k) ≡ Stores a n v → is_place a n ≡ true → 4 ≤ a → (a + n ≤ 128) ⊎ (5076 ≤ a) → Act t k
    Ends_here : effect (run t).cpu (own k) ≡ Stops → Act t k

  act : (t k : ℕ) → IsIntact run 5076 t → (k ≡ 2 → (run t).cpu.x 6 ≡ 4194304) → Act t k
  act t zero h base = Values _ _ refl (omega arith)
  act t (suc zero) h base = Values _ _ refl (omega arith)
  act t (suc (suc zero)) h base = Keeps 4194304 1 ((run t).cpu.x 5) (ap (λ z. Stores (sum_of z 0) 1 ((run t).cpu.x 5)) (base refl)) refl (omega arith) (inr (omega arith))
  act t (suc (suc (suc zero))) h base = Keeps 32 4 ((run t).cpu.x 5) (ap (λ z. Stores (sum_of z 32) 4 ((run t).cpu.x 5)) h.zero_reg) refl (omega arith) (inl (omega arith))
  act t (suc (suc (suc (suc zero)))) h base = Values _ _ refl (omega arith)
  act t (suc (suc (suc (suc (suc zero))))) h base = Keeps 36 1 ((run t).cpu.x 5) (ap (λ z. Stores (sum_of z 36) 1 ((run t).cpu.x 5)) h.zero_reg) refl (omega arith) (inl (omega arith))
  act t (suc (suc (suc (suc (suc (suc zero)))))) h base = Values _ _ refl (omega arith)
  act t (suc (suc (suc (suc (suc (suc (suc k))))))) h base = Ends_here refl

  -- ---- one step of the program

  pub puts_next : (t : ℕ) (l : Line) (v target : ℕ) → line_at (run t) ≡ Some l → effect (run t).cpu l ≡ Puts v target → run (suc t) ≡ record { cpu = record { pc = target; x = with_reg (run t).cpu.x l.rd v }; mem = (run t).mem }
  puts_next t l v target e f = next_is run 5076 based t l e ∙ ap (λ z. record { cpu = (effected (run t).cpu (run t).mem l.rd z).cpu; mem = (effected (run t).cpu (run t).mem l.rd z).mem }) f

  put_fine : (t : ℕ) (l : Line) (v target : ℕ) → IsIntact run 5076 t → v < 2 ^ 32 → run (suc t) ≡ record { cpu = record { pc = target; x = with_reg (run t).cpu.x l.rd v }; mem = (run t).mem } → IsIntact run 5076 (suc t)
  put_fine t l v target h small next =
      let d = (run t).cpu in
      record {
        same = λ a x y. ap (λ (s : State). s.mem a) next ∙ h.same a x y;
        bit = subst (λ (s : State). index_of s.mem < 2) (sym next) h.bit;
        zero_reg = ap (λ (s : State). s.cpu.x 0) next ∙ zero_kept l.rd d.x v ∙ h.zero_reg;
        words = λ i. subst (λ (s : State). s.cpu.x i < 2 ^ 32) (sym next) (one_word d.x l.rd v h.words small i);
      }

  pub store_cpu : (t : ℕ) (l : Line) (a n v : ℕ) → line_at (run t) ≡ Some l → effect (run t).cpu l ≡ Stores a n v → is_place a n ≡ true → (run (suc t)).cpu ≡ record { pc = sum_of (run t).cpu.pc 4; x = (run t).cpu.x }
  store_cpu t l a n v e f ok = ap (λ (s : State). s.cpu) (next_is run 5076 based t l e) ∙ ap (λ z. (effected (run t).cpu (run t).mem l.rd z).cpu) f ∙ ap (λ b. (saved_at b (run t).cpu (run t).mem a (bytes_of n v)).cpu) ok

  stored_kept : (t : ℕ) (l : Line) (a n v i : ℕ) → line_at (run t) ≡ Some l → effect (run t).cpu l ≡ Stores a n v → (i < a) ⊎ (a + n ≤ i) → (run (suc t)).mem i ≡ (run t).mem i
  stored_kept t l a n v i e f side = mem_next run 5076 based t i ∙ none_kept (writes run t i) ((run t).mem i) (ap (λ z. writes_by z i) (effect_is run 5076 based t l e ∙ f) ∙ stored_apart a n v i side)

  store_fine : (t : ℕ) (l : Line) (a n v : ℕ) → IsIntact run 5076 t → line_at (run t) ≡ Some l → effect (run t).cpu l ≡ Stores a n v → is_place a n ≡ true → 4 ≤ a → (a + n ≤ 128) ⊎ (5076 ≤ a) → IsIntact run 5076 (suc t)
  store_fine t l a n v h e f ok low side =
      let cpu = store_cpu t l a n v e f ok in
      record {
        same = λ i x y. stored_kept t l a n v i e f (beside i x y side) ∙ h.same i x y;
        bit = subst (λ z. z < 2) (sym (little-alike (run (suc t)).mem (run t).mem 4 0 (λ i x y. stored_kept t l a n v i e f (inl (omega arith))))) h.bit;
        zero_reg = ap (λ (c : Cpu). c.x 0) cpu ∙ h.zero_reg;
        words = λ i. subst (λ z. z < 2 ^ 32) (sym (ap (λ (c : Cpu). c.x i) cpu)) (h.words i);
      }
    where
      beside : (i : ℕ) → 4096 ≤ i → i < 5076 → (a + n ≤ 128) ⊎ (5076 ≤ a) → (i < a) ⊎ (a + n ≤ i)
      beside i x y (inl z) = inr (omega arith)
      beside i x y (inr z) = inl (omega arith)

  -- ---- where the run is

  -- a cut of the program: line 4 or 6
  pub record Call (t0 : ℕ) : Type 0 where
    pub k : ℕ
    pub which : (k ≡ 4) ⊎ (k ≡ 6)
    pub now : t0 ≡ time_of k
    pub place : (run t0).cpu.pc ≡ 5044 + 4 * k
    pub cut : IsCut run t0 5
    pub before : IsIntact run 5076 t0
    pub fine : IsIntact run 5076 (suc t0)

  pub data Spot (t : ℕ) : Type 0 where
    Own : (k : ℕ) → k < 7 → t ≡ time_of k → (run t).cpu.pc ≡ 5044 + 4 * k → (k ≡ 2 → (run t).cpu.x 6 ≡ 4194304) → (k ≡ 5 → flip run 15 ≡ true) → Spot t
    Entry : (t0 k : ℕ) → Call t0 → Entering run t t0 5 k → Spot t
    Rung : (t0 p : ℕ) → Call t0 → Climbing run t t0 5 p → Spot t
    Exit : (t0 : ℕ) → Call t0 → Returning run t t0 5 → flip run (t0 + 11) ≡ true → Spot t
    Over : 31 ≤ t → (run t).cpu.pc ≡ 5072 → Spot t

  pub record At (t : ℕ) : Type 0 where
    pub spot : Spot t
    pub fine : IsIntact run 5076 t

  pub cut_here : (t k imm : ℕ) → IsIntact run 5076 t → (k ≡ 4) ⊎ (k ≡ 6) → t ≡ time_of k → (run t).cpu.pc ≡ 5044 + 4 * k → k < 8 → own k ≡ Rattle.im_rv.specs.Lines.instruction Rattle.im_rv.specs.declared.instr.Op.TheVariants.Jal 3 0 0 imm → sum_of (5044 + 4 * k) imm ≡ 4372 → Call t
  cut_here t k imm h which now e l is leads =
      let d = (run t).cpu in
      let line = own_at t k h l e in
      let f : effect d (own k) ≡ Puts (sum_of d.pc 4) 4372 = ap (effect d) is ∙ ap (λ z. Puts (sum_of d.pc 4) (sum_of z imm)) e ∙ ap (λ z. Puts (sum_of d.pc 4) z) leads in
      let next = puts_next t (own k) (sum_of d.pc 4) 4372 line f in
      let rd : (own k).rd ≡ 3 = ap (λ (z : Line). z.rd) is in
      record {
        k = k;
        which = which;
        now = now;
        place = e;
        cut = record {
          above = omega arith;
          below = omega arith;
          entered = ap (λ (s : State). s.cpu.pc) next;
          linked = ap (λ (s : State). s.cpu.x 3) next ∙ ap (λ z. with_reg d.x z (sum_of d.pc 4) 3) rd ∙ ap (λ z. sum_of z 4) e ∙ (let q : sum_of (5044 + 4 * k) 4 ≡ 5044 + 4 * k + 4 = omega arith in q) ∙ sym (ap (λ z. z + 4) e);
          even = ap (λ z. (z + 4) % 2) e ∙ (let q : (5044 + 4 * k + 4) % 2 ≡ 0 = omega arith in q);
          outside = ap is_runtime e ∙ above_false (5044 + 4 * k) (omega arith);
          back = ap (λ z. is_runtime (z + 4)) e ∙ above_false (5044 + 4 * k + 4) (omega arith);
        };
        before = h;
        fine = put_fine t (own k) (sum_of d.pc 4) 4372 h (omega arith) next;
      }

  enter_here : (t : ℕ) → Call t → At (suc t)
  enter_here t c = record { spot = Entry t 0 c (enters run 5076 based t 5 c.cut); fine = c.fine }

  own_next : (t k : ℕ) → IsIntact run 5076 t → t ≡ time_of k → (run t).cpu.pc ≡ 5044 + 4 * k → k < 7 → (k ≡ 2 → (run t).cpu.x 6 ≡ 4194304) → At (suc t)
  own_next t zero h now e l base =
      let next = puts_next t (own 0) _ _ (own_at t 0 h (omega arith) e) refl in
      record { spot = Own 1 (omega arith) (ap suc now) (ap (λ (s : State). s.cpu.pc) next ∙ ap (λ z. sum_of z 4) e) (λ q. absurd (omega arith)) (λ q. absurd (omega arith)); fine = put_fine t (own 0) _ _ h (omega arith) next }
  own_next t (suc zero) h now e l base =
      let next = puts_next t (own 1) _ _ (own_at t 1 h (omega arith) e) refl in
      record { spot = Own 2 (omega arith) (ap suc now) (ap (λ (s : State). s.cpu.pc) next ∙ ap (λ z. sum_of z 4) e) (λ q. ap (λ (s : State). s.cpu.x 6) next) (λ q. absurd (omega arith)); fine = put_fine t (own 1) _ _ h (omega arith) next }
  own_next t (suc (suc zero)) h now e l base =
      let line = own_at t 2 h (omega arith) e in
      let v = (run t).cpu.x 5 in
      let f : effect (run t).cpu (own 2) ≡ Stores 4194304 1 v = ap (λ z. Stores (sum_of z 0) 1 v) (base refl) in
      record { spot = Own 3 (omega arith) (ap suc now) (ap (λ (c : Cpu). c.pc) (store_cpu t (own 2) 4194304 1 v line f refl) ∙ ap (λ z. sum_of z 4) e) (λ q. absurd (omega arith)) (λ q. absurd (omega arith)); fine = store_fine t (own 2) 4194304 1 v h line f refl (omega arith) (inr (omega arith)) }
  own_next t (suc (suc (suc zero))) h now e l base =
      let line = own_at t 3 h (omega arith) e in
      let v = (run t).cpu.x 5 in
      let f : effect (run t).cpu (own 3) ≡ Stores 32 4 v = ap (λ z. Stores (sum_of z 32) 4 v) h.zero_reg in
      record { spot = Own 4 (omega arith) (ap suc now) (ap (λ (c : Cpu). c.pc) (store_cpu t (own 3) 32 4 v line f refl) ∙ ap (λ z. sum_of z 4) e) (λ q. absurd (omega arith)) (λ q. absurd (omega arith)); fine = store_fine t (own 3) 32 4 v h line f refl (omega arith) (inl (omega arith)) }
  own_next t (suc (suc (suc (suc zero)))) h now e l base = enter_here t (cut_here t 4 4294966608 h (inl refl) now e (omega arith) refl refl)
  own_next t (suc (suc (suc (suc (suc zero))))) h now e l base =
      let line = own_at t 5 h (omega arith) e in
      let v = (run t).cpu.x 5 in
      let f : effect (run t).cpu (own 5) ≡ Stores 36 1 v = ap (λ z. Stores (sum_of z 36) 1 v) h.zero_reg in
      record { spot = Own 6 (omega arith) (ap suc now) (ap (λ (c : Cpu). c.pc) (store_cpu t (own 5) 36 1 v line f refl) ∙ ap (λ z. sum_of z 4) e) (λ q. absurd (omega arith)) (λ q. absurd (omega arith)); fine = store_fine t (own 5) 36 1 v h line f refl (omega arith) (inl (omega arith)) }
  own_next t (suc (suc (suc (suc (suc (suc zero)))))) h now e l base = enter_here t (cut_here t 6 4294966600 h (inr refl) now e (omega arith) refl refl)
  own_next t (suc (suc (suc (suc (suc (suc (suc k))))))) h now e l base = absurd (omega arith)

  -- the flip flips
  pub flips_here : (u t0 : ℕ) → IsIntact run 5076 u → Climbing run u t0 5 31 → flip run u ≡ true
  flips_here u t0 h x = let s = climb_flip run 5076 based u t0 5 h x in ap (λ (z : State). not (nat_eq (index_of (run u).mem) (index_of z.mem))) (sym (steps u)) ∙ ap (λ z. not (nat_eq (index_of (run u).mem) z)) s.index ∙ other (index_of (run u).mem) (bits (index_of (run u).mem) h.bit)
    where
      bits : (n : ℕ) → n < 2 → (n ≡ 0) ⊎ (n ≡ 1)
      bits n l = grind arith

      other : (n : ℕ) → (n ≡ 0) ⊎ (n ≡ 1) → not (nat_eq n (cond (n == 0) 1 0)) ≡ true
      other n (inl q) = ap (λ z. not (nat_eq z (cond (z == 0) 1 0))) q
      other n (inr q) = ap (λ z. not (nat_eq z (cond (z == 0) 1 0))) q

  -- behind a return
  returned : (t t0 : ℕ) → (c : Call t0) → Returning run t t0 5 → flip run (t0 + 11) ≡ true → IsIntact run 5076 (suc t) → (run (suc t)).cpu.pc ≡ (run t0).cpu.pc + 4 → At (suc t)
  returned t t0 c x past fine e = elim c.which [
    | inl q ↦ record { spot = Own 5 (omega arith) (let a = x.time in let b : t0 ≡ 4 = c.now ∙ ap time_of q in omega arith) (let b : (run t0).cpu.pc ≡ 5060 = c.place ∙ ap (λ z. 5044 + 4 * z) q in omega arith) (λ z. absurd (omega arith)) (λ z. ap (λ n. flip run (n + 11)) (sym (c.now ∙ ap time_of q)) ∙ past); fine = fine }
    | inr q ↦ record { spot = Over (let a = x.time in let b : t0 ≡ 18 = c.now ∙ ap time_of q in omega arith) (let b : (run t0).cpu.pc ≡ 5068 = c.place ∙ ap (λ z. 5044 + 4 * z) q in omega arith); fine = fine }
  ]

  over_next : (t : ℕ) → IsIntact run 5076 t → 31 ≤ t → (run t).cpu.pc ≡ 5072 → At (suc t)
  over_next t h l e =
      let line = own_at t 7 h (omega arith) e in
      let next : run (suc t) ≡ run t = next_is run 5076 based t (own 7) line in
      record {
        spot = Over (omega arith) (ap (λ (s : State). s.cpu.pc) next ∙ e);
        fine = record {
          same = λ a x y. ap (λ (s : State). s.mem a) next ∙ h.same a x y;
          bit = subst (λ (s : State). index_of s.mem < 2) (sym next) h.bit;
          zero_reg = ap (λ (s : State). s.cpu.x 0) next ∙ h.zero_reg;
          words = λ i. subst (λ (s : State). s.cpu.x i < 2 ^ 32) (sym next) (h.words i);
        };
      }

  at_next : (t : ℕ) → IsIntact run 5076 t → Spot t → At (suc t)
  at_next t h (Own k l now e base past) = own_next t k h now e l base
  at_next t h (Over l e) = over_next t h l e
  at_next t h (Entry t0 k c x) = let n = entry_step run 5076 based t t0 5 k h x in elim (four_or_less k x.small) [
    | inl l ↦ record { spot = Entry t0 (suc k) c (n.on l); fine = n.fine }
    | inr q ↦ record { spot = Rung t0 26 c (n.off q); fine = n.fine }
  ]
  at_next t h (Rung t0 p c x) = elim (places p x.to) [
    | inl low ↦ (let n = climb_on run 5076 based t t0 5 p h x low in record { spot = Rung t0 (suc p) c n.1; fine = n.0 })
    | inr (inl q) ↦ (let n = climb_shift run 5076 based t t0 5 h (subst (Climbing run t t0 5) q x) in record { spot = Rung t0 31 c n.1; fine = n.0 })
    | inr (inr q) ↦ (let n = flip_on run 5076 based t t0 5 h (subst (Climbing run t t0 5) q x) in record { spot = Exit t0 c n.1 (ap (flip run) (let z = x.time in let w : t0 + 11 ≡ t = omega arith in w) ∙ flips_here t t0 h (subst (Climbing run t t0 5) q x)); fine = n.0 })
  ]
  at_next t h (Exit t0 c x past) = let n = return_on run 5076 based t t0 5 h x in returned t t0 c x past n.0 n.1

  pub at : (t : ℕ) → At t
  at zero = record { spot = Own 0 (omega arith) refl first_place (λ q. absurd (omega arith)) (λ q. absurd (omega arith)); fine = record { same = λ a l g. refl; bit = subst (λ z. z < 2) (sym image.index) (omega arith); zero_reg = first_zero; words = first_words } }
  at (suc t) = let a = at t in at_next t a.fine a.spot

  -- ---- the instruction of each time

  pub record Does (t : ℕ) : Type 0 where
    pub line : Line
    pub is : line_at (run t) ≡ Some line
    pub ok : (at : ℕ) → (step_of (run t).cpu (run t).mem).went ≢ Faulted at
    pub low : 4096 ≤ (run t).cpu.pc
    pub high : (run t).cpu.pc + 4 ≤ 5076

  on_only : (t : ℕ) (l : Line) → line_at (run t) ≡ Some l → (effected (run t).cpu (run t).mem l.rd (effect (run t).cpu l)).went ≡ On → (at : ℕ) → (step_of (run t).cpu (run t).mem).went ≢ Faulted at
  on_only t l e w at h = let q : On ≡ Faulted at = sym w ∙ sym (ap (λ (s : Stepped). s.went) (step_effected (run t).cpu (run t).mem l e)) ∙ h in cc

  effect_on : (t : ℕ) (l : Line) (e : Effect) → line_at (run t) ≡ Some l → effect (run t).cpu l ≡ e → (effected (run t).cpu (run t).mem l.rd e).went ≡ On → (at : ℕ) → (step_of (run t).cpu (run t).mem).went ≢ Faulted at
  effect_on t l e h q w = on_only t l h (ap (λ z. (effected (run t).cpu (run t).mem l.rd z).went) q ∙ w)

  stored_on : (c : Cpu) (m : Mem) (rd a n v : ℕ) → is_place a n ≡ true → (effected c m rd (Stores a n v)).went ≡ On
  stored_on c m rd a n v p = ap (λ b. (saved_at b c m a (bytes_of n v)).went) p

  own_ok : (t k : ℕ) → line_at (run t) ≡ Some (own k) → Act t k → (at : ℕ) → (step_of (run t).cpu (run t).mem).went ≢ Faulted at
  own_ok t k e (Values v target f small) = effect_on t (own k) (Puts v target) e f refl
  own_ok t k e (Keeps a n v f ok low side) = effect_on t (own k) (Stores a n v) e f (stored_on (run t).cpu (run t).mem (own k).rd a n v ok)
  own_ok t k e (Ends_here f) = λ at h. (let q : Halted ≡ Faulted at = sym (ap (λ (s : Stepped). s.went) (step_effected (run t).cpu (run t).mem (own k) e) ∙ ap (λ z. (effected (run t).cpu (run t).mem (own k).rd z).went) f) ∙ h in cc)

  own_does : (t k : ℕ) → IsIntact run 5076 t → k < 8 → (run t).cpu.pc ≡ 5044 + 4 * k → (k ≡ 2 → (run t).cpu.x 6 ≡ 4194304) → Does t
  own_does t k h l e base = let line = own_at t k h l e in record { line = own k; is = line; ok = own_ok t k line (act t k h base); low = omega arith; high = omega arith }

  entry_does : (t t0 k : ℕ) → IsIntact run 5076 t → Entering run t t0 5 k → Does t
  entry_does t t0 zero h x = let l = entry_line_at run 5076 based t t0 5 zero h x in let e = x.place in record { line = entry_line 5 zero; is = l; ok = effect_on t (entry_line 5 zero) (Loads 0 4 Zero) l (ap (λ z. Loads (sum_of z 0) 4 Zero) h.zero_reg) refl; low = omega arith; high = omega arith }
  entry_does t t0 (suc zero) h x = let l = entry_line_at run 5076 based t t0 5 1 h x in let e = x.place in record { line = entry_line 5 1; is = l; ok = on_only t (entry_line 5 1) l refl; low = omega arith; high = omega arith }
  entry_does t t0 (suc (suc zero)) h x = let l = entry_line_at run 5076 based t t0 5 2 h x in let e = x.place in record { line = entry_line 5 2; is = l; ok = on_only t (entry_line 5 2) l refl; low = omega arith; high = omega arith }
  entry_does t t0 (suc (suc (suc zero))) h x = let l = entry_line_at run 5076 based t t0 5 3 h x in let e = x.place in record { line = entry_line 5 3; is = l; ok = on_only t (entry_line 5 3) l refl; low = omega arith; high = omega arith }
  entry_does t t0 (suc (suc (suc (suc k)))) h x = let l = entry_line_at run 5076 based t t0 5 (suc (suc (suc (suc k)))) h x in let e = x.place in let s = x.small in record { line = entry_line 5 (suc (suc (suc (suc k)))); is = l; ok = on_only t (entry_line 5 (suc (suc (suc (suc k))))) l refl; low = omega arith; high = omega arith }

  store_ok : (t : ℕ) (l : Line) (a v : ℕ) → line_at (run t) ≡ Some l → effect_at (run t) ≡ Stores a 4 v → is_place a 4 ≡ true → (at : ℕ) → (step_of (run t).cpu (run t).mem).went ≢ Faulted at
  store_ok t l a v e q p = effect_on t l (Stores a 4 v) e (sym (effect_is run 5076 based t l e) ∙ q) (stored_on (run t).cpu (run t).mem l.rd a 4 v p)

  rung_does : (t t0 p : ℕ) → IsIntact run 5076 t → Climbing run t t0 5 p → Does t
  rung_does t t0 p h x = let e = x.place in let f = x.from in let u = x.to in elim (places p x.to) [
    | inl low ↦ (
        let r = ladder_reg p in
        let named = reg_named p low in
        let l = ladder_line_at run 5076 based t t0 5 p (store_line r) h x (ladder_store p low) (store_back r named.1) in
        let s = climb_store run 5076 based t t0 5 p h x low in
        record { line = store_line r; is = l; ok = store_ok t (store_line r) (idle (index_of (run t).mem) + slot r) ((run t).cpu.x r) l s.effect (slot_place (index_of (run t).mem) r named.1); low = omega arith; high = omega arith })
    | inr (inl q) ↦ (
        let l = ladder_line_at run 5076 based t t0 5 30 shift_line h (subst (Climbing run t t0 5) q x) refl shift_back in
        record { line = shift_line; is = l; ok = on_only t shift_line l refl; low = omega arith; high = omega arith })
    | inr (inr q) ↦ (
        let x' = subst (Climbing run t t0 5) q x in
        let l = ladder_line_at run 5076 based t t0 5 31 flip_line h x' refl flip_back in
        let s = climb_flip run 5076 based t t0 5 h x' in
        record { line = flip_line; is = l; ok = store_ok t flip_line 0 (cond (index_of (run t).mem == 0) 1 0) l s.effect refl; low = omega arith; high = omega arith })
  ]

  does_at : (t : ℕ) → IsIntact run 5076 t → Spot t → Does t
  does_at t h (Own k l now e base past) = own_does t k h (omega arith) e base
  does_at t h (Over l e) = own_does t 7 h (omega arith) e (λ q. absurd (omega arith))
  does_at t h (Entry t0 k c x) = entry_does t t0 k h x
  does_at t h (Rung t0 p c x) = rung_does t t0 p h x
  does_at t h (Exit t0 c x past) = let l = return_line_at run 5076 based t t0 5 h x in let q = x.place in record { line = return_line; is = l; ok = on_only t return_line l refl; low = omega arith; high = omega arith }

  does : (t : ℕ) → Does t
  does t = let a = at t in does_at t a.fine a.spot

  -- ---- inside and outside

  entry_inside : (t t0 k : ℕ) → Entering run t t0 5 k → is_runtime (run t).cpu.pc ≡ true
  entry_inside t t0 k x = let e = x.place in let s = x.small in below_true (run t).cpu.pc (omega arith) (omega arith)

  rung_inside : (t t0 p : ℕ) → Climbing run t t0 5 p → is_runtime (run t).cpu.pc ≡ true
  rung_inside t t0 p x = let e = x.place in let s = x.to in below_true (run t).cpu.pc (omega arith) (omega arith)

  exit_inside : (t t0 : ℕ) → Returning run t t0 5 → is_runtime (run t).cpu.pc ≡ true
  exit_inside t t0 x = let e = x.place in below_true (run t).cpu.pc (omega arith) (omega arith)

  -- outside is a line of the program
  pub record Out (t : ℕ) : Type 0 where
    pub k : ℕ
    pub small : k < 8
    pub place : (run t).cpu.pc ≡ 5044 + 4 * k
    pub base : k ≡ 2 → (run t).cpu.x 6 ≡ 4194304
    pub now : (k < 7) → t ≡ time_of k
    pub past : k ≡ 5 → flip run 15 ≡ true

  pub outside : (t : ℕ) → is_runtime (run t).cpu.pc ≡ false → Spot t → Out t
  outside t out (Own k l now e base past) = record { k = k; small = omega arith; place = e; base = base; now = λ z. now; past = past }
  outside t out (Over l e) = record { k = 7; small = omega arith; place = e; base = λ q. absurd (omega arith); now = λ z. absurd (omega arith); past = λ q. absurd (omega arith) }
  outside t out (Entry t0 k c x) = absurd (let q = entry_inside t t0 k x in let bad : true ≡ false = sym q ∙ out in cc)
  outside t out (Rung t0 p c x) = absurd (let q = rung_inside t t0 p x in let bad : true ≡ false = sym q ∙ out in cc)
  outside t out (Exit t0 c x past) = absurd (let q = exit_inside t t0 x in let bad : true ≡ false = sym q ∙ out in cc)

  -- each time within eleven steps from a cut is inside
  within : (t0 n : ℕ) → IsCut run t0 5 → IsIntact run 5076 (suc t0) → n ≤ 11 → is_runtime (run (t0 + 1 + n)).cpu.pc ≡ true
  within t0 n c f l = elim (three n l) [
    | inl low ↦ entry_inside (t0 + 1 + n) t0 n (in_entry run 5076 based t0 5 n c f low).1
    | inr (inl mid) ↦ (
        let q : t0 + 6 + (n - 5) ≡ t0 + 1 + n = (let a = mid.0 in omega arith) in
        let x = on_ladder run 5076 based t0 5 (n - 5) c f (let b = mid.1 in omega arith) in
        ap (λ z. is_runtime (run z).cpu.pc) (sym q) ∙ rung_inside (t0 + 6 + (n - 5)) t0 _ x.1)
    | inr (inr e) ↦ (
        let q : t0 + 5 + 7 ≡ t0 + 1 + n = omega arith in
        let x = at_return run 5076 based t0 5 c f in
        ap (λ z. is_runtime (run z).cpu.pc) (sym q) ∙ exit_inside (t0 + 5 + 7) t0 x.1)
  ]
    where
      three : (n : ℕ) → n ≤ 11 → (n < 5) ⊎ (((5 ≤ n) × (n ≤ 10)) ⊎ (n ≡ 11))
      three n l = elim (order n 5) [ inl a ↦ inl a | inr a ↦ elim (order n 11) [ inl b ↦ inr (inl (a, omega arith)) | inr b ↦ inr (inr (omega arith)) ] ]

  -- ---- what is needed

  pub data Use (v i : ℕ) : Type 0 where
    Nothing : i ≡ 0 → Use v i
    Five : i ≡ 5 → Use v i
    Six : i ≡ 6 → v ≤ 2 → Use v i
    Base : (t0 : ℕ) → Call t0 → i ≡ 4 → t0 + 1 < v → v ≤ t0 + 11 → Use v i
    Link : (t0 : ℕ) → Call t0 → i ≡ 3 → v ≡ t0 + 12 → Use v i

  line_use : (v i : ℕ) (l : Line) → line_at (run v) ≡ Some l → uses (run v) i ≡ true → (i ≡ l.rs1) ⊎ (i ≡ l.rs2)
  line_use v i l e h = used_among l.rs1 l.rs2 i (not (saves_by (effect_at (run v)))) (sym (ap (λ z. i == rs1_of z || (i == rs2_of z && not (saves_by (effect_at (run v))))) e) ∙ h)

  own_use : (v i k : ℕ) → line_at (run v) ≡ Some (own k) → (k ≡ 2 → v ≤ 2) → uses (run v) i ≡ true → Use v i
  own_use v i k e early u = by_line k early (line_use v i (own k) e u)
    where
      zero_or : (i : ℕ) → (i ≡ 0) ⊎ (i ≡ 0) → Use v i
      zero_or i (inl q) = Nothing q
      zero_or i (inr q) = Nothing q

      five_or : (i : ℕ) → (i ≡ 0) ⊎ (i ≡ 5) → Use v i
      five_or i (inl q) = Nothing q
      five_or i (inr q) = Five q

      by_line : (k : ℕ) → (k ≡ 2 → v ≤ 2) → (i ≡ (own k).rs1) ⊎ (i ≡ (own k).rs2) → Use v i
      by_line zero early s = zero_or i s
      by_line (suc zero) early s = zero_or i s
      by_line (suc (suc zero)) early (inl q) = Six q (early refl)
      by_line (suc (suc zero)) early (inr q) = Five q
      by_line (suc (suc (suc zero))) early s = five_or i s
      by_line (suc (suc (suc (suc zero)))) early s = zero_or i s
      by_line (suc (suc (suc (suc (suc zero))))) early s = five_or i s
      by_line (suc (suc (suc (suc (suc (suc zero)))))) early s = zero_or i s
      by_line (suc (suc (suc (suc (suc (suc (suc k))))))) early s = zero_or i s

  four_or_none : (v i t0 : ℕ) → Call t0 → t0 + 1 < v → v ≤ t0 + 11 → (i ≡ 4) ⊎ (i ≡ 0) → Use v i
  four_or_none v i t0 c a b (inl q) = Base t0 c q a b
  four_or_none v i t0 c a b (inr q) = Nothing q

  none_either : (v i : ℕ) → (i ≡ 0) ⊎ (i ≡ 0) → Use v i
  none_either v i (inl q) = Nothing q
  none_either v i (inr q) = Nothing q

  entry_use : (v i t0 k : ℕ) → Call t0 → IsIntact run 5076 v → Entering run v t0 5 k → uses (run v) i ≡ true → Use v i
  entry_use v i t0 zero c h x u = none_either v i (line_use v i (entry_line 5 zero) (entry_line_at run 5076 based v t0 5 zero h x) u)
  entry_use v i t0 (suc zero) c h x u = let q = x.time in four_or_none v i t0 c (omega arith) (omega arith) (line_use v i (entry_line 5 1) (entry_line_at run 5076 based v t0 5 1 h x) u)
  entry_use v i t0 (suc (suc zero)) c h x u = let q = x.time in four_or_none v i t0 c (omega arith) (omega arith) (line_use v i (entry_line 5 2) (entry_line_at run 5076 based v t0 5 2 h x) u)
  entry_use v i t0 (suc (suc (suc zero))) c h x u = let q = x.time in four_or_none v i t0 c (omega arith) (omega arith) (line_use v i (entry_line 5 3) (entry_line_at run 5076 based v t0 5 3 h x) u)
  entry_use v i t0 (suc (suc (suc (suc k)))) c h x u = none_either v i (line_use v i (entry_line 5 (suc (suc (suc (suc k))))) (entry_line_at run 5076 based v t0 5 (suc (suc (suc (suc k)))) h x) u)

  swap_use : (i : ℕ) → (i ≡ 0) ⊎ (i ≡ 4) → (i ≡ 4) ⊎ (i ≡ 0)
  swap_use i (inl q) = inr q
  swap_use i (inr q) = inl q

  rung_use : (v i t0 p : ℕ) → Call t0 → IsIntact run 5076 v → Climbing run v t0 5 p → uses (run v) i ≡ true → Use v i
  rung_use v i t0 p c h x u =
      let a : t0 + 1 < v = (let q = x.time in let r = x.from in omega arith) in
      let b : v ≤ t0 + 11 = (let q = x.time in let r = x.to in omega arith) in
      elim (places p x.to) [
        | inl low ↦ (
            let r = ladder_reg p in
            let named = reg_named p low in
            let l = ladder_line_at run 5076 based v t0 5 p (store_line r) h x (ladder_store p low) (store_back r named.1) in
            let s = saves_if (run v) r (climb_store run 5076 based v t0 5 p h x low).saves in
            Base t0 c (base_used 4 i (i == rs2_of (line_at (run v))) (ap (λ z. i == rs1_of z || (i == rs2_of (line_at (run v)) && false)) (sym l) ∙ ap (λ z. i == rs1_of (line_at (run v)) || (i == rs2_of (line_at (run v)) && not z)) (sym s) ∙ u)) a b)
        | inr (inl q) ↦ four_or_none v i t0 c a b (line_use v i shift_line (ladder_line_at run 5076 based v t0 5 30 shift_line h (subst (Climbing run v t0 5) q x) refl shift_back) u)
        | inr (inr q) ↦ four_or_none v i t0 c a b (swap_use i (line_use v i flip_line (ladder_line_at run 5076 based v t0 5 31 flip_line h (subst (Climbing run v t0 5) q x) refl flip_back) u))
      ]

  exit_use : (v i t0 : ℕ) → Call t0 → IsIntact run 5076 v → Returning run v t0 5 → uses (run v) i ≡ true → Use v i
  exit_use v i t0 c h x u = elim (line_use v i return_line (return_line_at run 5076 based v t0 5 h x) u) [
    | inl q ↦ Link t0 c q (let t = x.time in omega arith)
    | inr q ↦ Nothing q
  ]

  use_at : (v i : ℕ) → IsIntact run 5076 v → Spot v → uses (run v) i ≡ true → Use v i
  use_at v i h (Own k l now e base past) u = own_use v i k (own_at v k h (omega arith) e) (λ q. (let z : v ≡ 2 = now ∙ ap time_of q in omega arith)) u
  use_at v i h (Over l e) u = own_use v i 7 (own_at v 7 h (omega arith) e) (λ q. absurd (omega arith)) u
  use_at v i h (Entry t0 k c x) u = entry_use v i t0 k c h x u
  use_at v i h (Rung t0 p c x) u = rung_use v i t0 p c h x u
  use_at v i h (Exit t0 c x past) u = exit_use v i t0 c h x u

  not_inside : (u t0 : ℕ) → Call t0 → t0 < u → u ≤ t0 + 12 → is_runtime (run u).cpu.pc ≡ false → ⊥
  not_inside u t0 c a b out =
      let n = u - (t0 + 1) in
      let q : t0 + 1 + n ≡ u = omega arith in
      let w = within t0 n c.cut c.fine (omega arith) in
      let bad : true ≡ false = sym w ∙ ap (λ z. is_runtime (run z).cpu.pc) q ∙ out in
      cc

  four_set : (t0 : ℕ) → Call t0 → sets (run (suc t0)) 4 ≡ true
  four_set t0 c =
      let l = entry_line_at run 5076 based (suc t0) t0 5 0 c.fine (enters run 5076 based t0 5 c.cut) in
      ap (λ z. sets_by (effect_at (run (suc t0))) (rd_of z) 4) l ∙ ap (λ z. sets_by z 4 4) (effect_is run 5076 based (suc t0) (entry_line 5 0) l)

  three_set : (t0 : ℕ) → Call t0 → sets (run t0) 3 ≡ true
  three_set t0 c = by_line c.k c.which c.place
    where
      by_line : (k : ℕ) → (k ≡ 4) ⊎ (k ≡ 6) → (run t0).cpu.pc ≡ 5044 + 4 * k → sets (run t0) 3 ≡ true
      by_line k (inl q) e = (let l = own_at t0 4 c.before (omega arith) (e ∙ ap (λ z. 5044 + 4 * z) q) in ap (λ z. sets_by (effect_at (run t0)) (rd_of z) 3) l ∙ ap (λ z. sets_by z 3 3) (effect_is run 5076 based t0 (own 4) l))
      by_line k (inr q) e = (let l = own_at t0 6 c.before (omega arith) (e ∙ ap (λ z. 5044 + 4 * z) q) in ap (λ z. sets_by (effect_at (run t0)) (rd_of z) 3) l ∙ ap (λ z. sets_by z 3 3) (effect_is run 5076 based t0 (own 6) l))

  -- outside the routine no register but x0, x5 and, at the beginning, x6 is used again
  outside_uses : (u i : ℕ) → is_runtime (run u).cpu.pc ≡ false → Used run u i → (i ≡ 0) ⊎ ((i ≡ 5) ⊎ ((i ≡ 6) × (u ≤ 2)))
  outside_uses u i out n = elim (use_at n.time i (at n.time).fine (at n.time).spot n.used) [
    | Nothing q ↦ inl q
    | Five q ↦ inr (inl q)
    | Six q early ↦ inr (inr (q, (let l = n.later in omega arith)))
    | Base t0 c q a b ↦ elim (order (suc t0) u) [
      | inl past ↦ absurd (not_inside u t0 c (omega arith) (let l = n.later in omega arith) out)
      | inr before ↦ absurd (
          let s = subst (λ z. sets (run (suc t0)) z ≡ false) q (n.unset (suc t0) before (omega arith)) in
          let bad : true ≡ false = sym (four_set t0 c) ∙ s in cc)
    ]
    | Link t0 c q b ↦ elim (order t0 u) [
      | inl past ↦ absurd (not_inside u t0 c past (let l = n.later in omega arith) out)
      | inr before ↦ absurd (
          let s = subst (λ z. sets (run t0) z ≡ false) q (n.unset t0 before (omega arith)) in
          let bad : true ≡ false = sym (three_set t0 c) ∙ s in cc)
    ]
  ]

  -- ---- what is written and read outside

  pub effect_now : (t k : ℕ) (e : Effect) → IsIntact run 5076 t → k < 8 → (run t).cpu.pc ≡ 5044 + 4 * k → effect (run t).cpu (own k) ≡ e → effect_at (run t) ≡ e
  effect_now t k e h l p f = effect_is run 5076 based t (own k) (own_at t k h l p) ∙ f

  act_writes : (t k : ℕ) → IsIntact run 5076 t → k < 8 → (run t).cpu.pc ≡ 5044 + 4 * k → Act t k → (a : ℕ) → (a < 4) ⊎ ((128 ≤ a) × (a < 5076)) → writes run t a ≡ None
  act_writes t k h l p (Values v target f small) a s = ap (λ z. writes_by z a) (effect_now t k (Puts v target) h l p f)
  act_writes t k h l p (Ends_here f) a s = ap (λ z. writes_by z a) (effect_now t k Stops h l p f)
  act_writes t k h l p (Keeps b n v f ok low side) a s = ap (λ z. writes_by z a) (effect_now t k (Stores b n v) h l p f) ∙ stored_apart b n v a (beside s side)
    where
      beside : (a < 4) ⊎ ((128 ≤ a) × (a < 5076)) → (b + n ≤ 128) ⊎ (5076 ≤ b) → (a < b) ⊎ (b + n ≤ a)
      beside (inl x) y = inl (omega arith)
      beside (inr x) (inl y) = inr (let z = x.0 in omega arith)
      beside (inr x) (inr y) = inl (let z = x.1 in omega arith)

  plain_writes : (t a : ℕ) → is_runtime (run t).cpu.pc ≡ false → (a < 4) ⊎ ((128 ≤ a) × (a < 5076)) → writes run t a ≡ None
  plain_writes t a out s = let h = (at t).fine in let o = outside t out (at t).spot in act_writes t o.k h o.small o.place (act t o.k h o.base) a s

  act_reads : (t k : ℕ) → IsIntact run 5076 t → k < 8 → (run t).cpu.pc ≡ 5044 + 4 * k → Act t k → (a : ℕ) → reads run t a ≡ false
  act_reads t k h l p (Values v target f small) a = ap (λ z. reads_by z a) (effect_now t k (Puts v target) h l p f)
  act_reads t k h l p (Ends_here f) a = ap (λ z. reads_by z a) (effect_now t k Stops h l p f)
  act_reads t k h l p (Keeps b n v f ok low side) a = ap (λ z. reads_by z a) (effect_now t k (Stores b n v) h l p f)

  no_reads : (t a : ℕ) → is_runtime (run t).cpu.pc ≡ false → reads run t a ≡ true → ⊥
  no_reads t a out r = let h = (at t).fine in let o = outside t out (at t).spot in let q = act_reads t o.k h o.small o.place (act t o.k h o.base) a in let bad : true ≡ false = sym r ∙ q in cc

  -- ---- cuts

  -- where a line of the program leads: into the checkpoint from a cut alone
  pub data Leads (t : ℕ) : Type 0 where
    Cuts : Call t → Leads t
    Stays : is_runtime (run (suc t)).cpu.pc ≡ false → Leads t

  leads_by : (t k : ℕ) → IsIntact run 5076 t → (run t).cpu.pc ≡ 5044 + 4 * k → k < 8 → ((k < 7) → t ≡ time_of k) → (k ≡ 2 → (run t).cpu.x 6 ≡ 4194304) → Leads t
  leads_by t zero h e l now base = let next = puts_next t (own 0) _ _ (own_at t 0 h (omega arith) e) refl in Stays (ap is_runtime (ap (λ (s : State). s.cpu.pc) next ∙ ap (λ z. sum_of z 4) e))
  leads_by t (suc zero) h e l now base = let next = puts_next t (own 1) _ _ (own_at t 1 h (omega arith) e) refl in Stays (ap is_runtime (ap (λ (s : State). s.cpu.pc) next ∙ ap (λ z. sum_of z 4) e))
  leads_by t (suc (suc zero)) h e l now base = let cpu = store_cpu t (own 2) 4194304 1 ((run t).cpu.x 5) (own_at t 2 h (omega arith) e) (ap (λ z. Stores (sum_of z 0) 1 ((run t).cpu.x 5)) (base refl)) refl in Stays (ap is_runtime (ap (λ (c : Cpu). c.pc) cpu ∙ ap (λ z. sum_of z 4) e))
  leads_by t (suc (suc (suc zero))) h e l now base = let cpu = store_cpu t (own 3) 32 4 ((run t).cpu.x 5) (own_at t 3 h (omega arith) e) (ap (λ z. Stores (sum_of z 32) 4 ((run t).cpu.x 5)) h.zero_reg) refl in Stays (ap is_runtime (ap (λ (c : Cpu). c.pc) cpu ∙ ap (λ z. sum_of z 4) e))
  leads_by t (suc (suc (suc (suc zero)))) h e l now base = Cuts (cut_here t 4 4294966608 h (inl refl) (now (omega arith)) e (omega arith) refl refl)
  leads_by t (suc (suc (suc (suc (suc zero))))) h e l now base = let cpu = store_cpu t (own 5) 36 1 ((run t).cpu.x 5) (own_at t 5 h (omega arith) e) (ap (λ z. Stores (sum_of z 36) 1 ((run t).cpu.x 5)) h.zero_reg) refl in Stays (ap is_runtime (ap (λ (c : Cpu). c.pc) cpu ∙ ap (λ z. sum_of z 4) e))
  leads_by t (suc (suc (suc (suc (suc (suc zero)))))) h e l now base = Cuts (cut_here t 6 4294966600 h (inr refl) (now (omega arith)) e (omega arith) refl refl)
  leads_by t (suc (suc (suc (suc (suc (suc (suc k))))))) h e l now base =
      let next : run (suc t) ≡ run t = next_is run 5076 based t (own (suc (suc (suc (suc (suc (suc (suc k)))))))) (own_at t (suc (suc (suc (suc (suc (suc (suc k))))))) h l e) in
      Stays (ap is_runtime (ap (λ (s : State). s.cpu.pc) next ∙ e) ∙ above_false (5044 + 4 * suc (suc (suc (suc (suc (suc (suc k))))))) (omega arith))

  leads_out : (t : ℕ) → is_runtime (run t).cpu.pc ≡ false → Leads t
  leads_out t out = let o = outside t out (at t).spot in leads_by t o.k (at t).fine o.place o.small o.now o.base

  into_cut : (t : ℕ) → is_runtime (run t).cpu.pc ≡ false → is_runtime (run (suc t)).cpu.pc ≡ true → (m : ℕ) × IsCut run t m
  into_cut t out into = elim (leads_out t out) [
    | Cuts c ↦ (5, c.cut)
    | Stays s ↦ absurd (let bad : true ≡ false = sym into ∙ s in cc)
  ]

  cut_is : (t m : ℕ) → IsCut run t m → (m ≡ 5) × Call t
  cut_is t m c = elim (leads_out t c.outside) [
    | Cuts d ↦ (let x = d.cut.entered in let y = c.entered in let z = c.above in omega arith, d)
    | Stays s ↦ absurd (
        let y = c.entered in
        let a = c.above in
        let b = c.below in
        let bad : true ≡ false = sym (below_true (run (suc t)).cpu.pc (omega arith) (omega arith)) ∙ s in
        cc)
  ]

  needs : (t m i : ℕ) → IsCut run t m → Needed run (t + m + 8) i → (i ≤ m) × (i ≢ 3) × (i ≢ 4)
  needs t m i c (inr two) = let a = c.above in (omega arith, omega arith, omega arith)
  needs t m i c (inl n) =
      let q = cut_is t m c in
      let five = q.0 in
      let x = comes_back run 5076 based t m c q.1.fine in
      elim (outside_uses (t + m + 8) i (ap is_runtime x.1 ∙ c.back) n) [
        | inl z ↦ (omega arith, omega arith, omega arith)
        | inr (inl z) ↦ (omega arith, omega arith, omega arith)
        | inr (inr z) ↦ absurd (let w = z.1 in omega arith)
      ]

  pub first_needs : (i : ℕ) → Needed run 0 i → (i ≢ 3) × (i ≢ 4) × (i < 32)
  first_needs i (inr two) = (omega arith, omega arith, omega arith)
  first_needs i (inl n) = elim (outside_uses 0 i (ap is_runtime first_place) n) [
    | inl z ↦ (omega arith, omega arith, omega arith)
    | inr (inl z) ↦ (omega arith, omega arith, omega arith)
    | inr (inr z) ↦ (let w = z.0 in omega arith, let w = z.0 in omega arith, let w = z.0 in omega arith)
  ]

  pub owed : IsLive run 0 (run 0).mem → IsOwed run 5076
  owed live = record {
    based = based;
    line = λ t. (does t).line;
    decodes = λ t. (does t).is;
    no_fault = λ t. (does t).ok;
    fetches = λ t. ((does t).low, (does t).high);
    writes_plain = λ t a out h. plain_writes t a out (plain_place a h);
    reads_plain = λ t a out r. absurd (no_reads t a out r);
    outside_first = ap is_runtime first_place;
    cuts = into_cut;
    needs = needs;
    no_war = λ t u a le same out out' r w. absurd (no_reads t a out r);
    index_first = subst (λ z. z < 2) (sym image.index) (omega arith);
    words = λ t. (at t).fine.words;
    zero_reg = λ t. (at t).fine.zero_reg;
    even_first = ap (λ z. z % 2) first_place;
    needs_first = first_needs;
    begins = live;
  }
