-- Where a run is with respect to the checkpoint routine.
use Rattle.std.proofs.Common.{◌≡◌, ◌≢◌, ℕ, zero, suc, ◌+◌, ◌-◌, ◌*◌, ◌%◌, ◌^◌, ◌<◌, ◌≤◌, ◌⊎◌, inl, inr, Bool, true, false, cond, Option, Some, None, refl, sym, ap, ◌∙◌, subst, arith}
use Rattle.std.specs.Prelude.{◌==◌, ◌&&◌, ◌||◌, not, nat_lt, nat_eq, unwrap_or, bit_xor}
use Rattle.std.proofs.lemmas.Bool.Decides.{nat_tests}
use Rattle.im_num.specs.Bytes.{bytes_of}
use Rattle.im_mem.specs.Memory.{Mem, little, loaded, written, is_place}
use Rattle.im_mem.proofs.Words.{little-alike}
use Rattle.im_rv.specs.declared.effect.Effect.TheVariants.{Puts, Loads, Stores}
use Rattle.im_rv.specs.Steps.{Cpu, Stepped, effected, sum_of, with_reg, shift_left, shift_right}
use Rattle.im_rv.specs.Decode.{Line, decode}
use Rattle.im_rv.specs.Encode.{encoded}
use Rattle.im_rv.specs.Effects.{decoded_word, effect, effect_by, rd_of, rs2_of, writes_by, stores_word, sets_by}
use Rattle.im_device.specs.Run.{index_of}
use Rattle.im_ckpt.specs.Runs.{State, line_at, effect_at, sets, flip, writes}
use Rattle.im_ckpt.specs.Buffers.{slot, idle, saves_reg, saved}
use Rattle.im_ckpt.specs.Recovery.{return_line}
use Rattle.im_ckpt.specs.Checkpoint.{entry_at, ladder_at, store_line, shift_line, flip_line}
use Rattle.im_ckpt.proofs.Rungs.{routine_of, entry_line, ladder_reg, ladder_line, entry_back, reg_named, ladder_store, store_back, shift_back, flip_back, return_back}
use Rattle.im_ckpt.specs.Laws.{is_runtime, IsCut, HasRuntime, IsIntact}
use Rattle.im_rv.proofs.Locality.{step_effected, saved_at}
use Rattle.im_rv.proofs.Effecting.{step_mem}
use Rattle.im_ckpt.proofs.Slots.{saved-calm, word_outside}
use Rattle.im_rv.specs.declared.effect.Extension.TheVariants.{Zero}

-- x4 in an entry, by whether INDEX is 0
abbrev pub staged : Bool → ℕ → ℕ
staged b zero = 0
staged b (suc zero) = cond b 0 1
staged b (suc (suc zero)) = cond b 1 0
staged b (suc (suc (suc zero))) = cond b 128 0
staged b (suc (suc (suc (suc k)))) = cond b 256 128

pub record Entering (run : ℕ → State) (t t0 m k : ℕ) : Type 0 where
  pub cut : IsCut run t0 m
  pub small : k < 5
  pub time : t ≡ t0 + 1 + k
  pub place : (run t).cpu.pc ≡ entry_at m + 4 * k
  pub link : (run t).cpu.x 3 ≡ (run t0).cpu.pc + 4
  pub stage : 0 < k → (run t).cpu.x 4 ≡ staged (index_of (run t).mem == 0) k

pub record Climbing (run : ℕ → State) (t t0 m p : ℕ) : Type 0 where
  pub cut : IsCut run t0 m
  pub from : 31 ≤ p + m
  pub to : p ≤ 31
  pub time : t + 25 ≡ t0 + p + m
  pub place : (run t).cpu.pc ≡ ladder_at p
  pub link : (run t).cpu.x 3 ≡ (run t0).cpu.pc + 4
  pub base : p ≤ 30 → (run t).cpu.x 4 ≡ idle (index_of (run t).mem)
  pub shifted : p ≡ 31 → (run t).cpu.x 4 ≡ cond (index_of (run t).mem == 0) 1 0
  pub done : (q : ℕ) → 31 ≤ q + m → q < p → q < 30 → saved run t (ladder_reg q) ≡ true

pub record Returning (run : ℕ → State) (t t0 m : ℕ) : Type 0 where
  pub cut : IsCut run t0 m
  pub time : t ≡ t0 + m + 7
  pub place : (run t).cpu.pc ≡ ladder_at 32
  pub link : (run t).cpu.x 3 ≡ (run t0).cpu.pc + 4

pub data Phase (run : ℕ → State) (t : ℕ) : Type 0 where
  Outside : is_runtime (run t).cpu.pc ≡ false → Phase run t
  Enters : (t0 m k : ℕ) → Entering run t t0 m k → Phase run t
  Climbs : (t0 m p : ℕ) → Climbing run t t0 m p → Phase run t
  Returns : (t0 m : ℕ) → Returning run t t0 m → Phase run t

pub none_kept : (o : Option ℕ) (d : ℕ) → o ≡ None → unwrap_or o d ≡ d
none_kept o d h = ap (λ z. unwrap_or z d) h

small_sum : (a b : ℕ) → a + b < 2 ^ 32 → sum_of a b ≡ a + b
small_sum a b h = omega arith

zero_or_one : (n : ℕ) → n < 2 → (n ≡ 0) ⊎ (n ≡ 1)
zero_or_one n l = grind arith

and_no : (b : Bool) → (b && false) ≡ false
and_no true = refl
and_no false = refl

nat_eq_refl : (n : ℕ) → nat_eq n n ≡ true
nat_eq_refl n = grind (arith, nat_tests)

eq_refl : (n : ℕ) → (n == n) ≡ true
eq_refl n = grind (arith, nat_tests)

word_place : (a : ℕ) → a % 4 ≡ 0 → a + 4 ≤ 5242880 → is_place a 4 ≡ true
word_place a h l = grind (arith, nat_tests)

pub slot_place : (index i : ℕ) → i < 32 → is_place (idle index + slot i) 4 ≡ true
slot_place index i l = by_index (index == 0) (i == 3)
  where
    by_index : (b d : Bool) → is_place (cond b 256 128 + cond d 0 (4 * i)) 4 ≡ true
    by_index true true = refl
    by_index true false = word_place (256 + 4 * i) (omega arith) (omega arith)
    by_index false true = refl
    by_index false false = word_place (128 + 4 * i) (omega arith) (omega arith)

pub slot_small : (index i : ℕ) → i < 32 → idle index + slot i < 2 ^ 32
slot_small index i l = by_index (index == 0) (i == 3)
  where
    by_index : (b d : Bool) → cond b 256 128 + cond d 0 (4 * i) < 2 ^ 32
    by_index true true = omega arith
    by_index true false = omega arith
    by_index false true = omega arith
    by_index false false = omega arith

slot_above : (index i : ℕ) → 128 ≤ idle index + slot i
slot_above index i = by_index (index == 0) (i == 3)
  where
    by_index : (b d : Bool) → 128 ≤ cond b 256 128 + cond d 0 (4 * i)
    by_index true true = omega arith
    by_index true false = omega arith
    by_index false true = omega arith
    by_index false false = omega arith

slot_below : (index i : ℕ) → i < 32 → idle index + slot i + 4 ≤ 384
slot_below index i l = by_index (index == 0) (i == 3)
  where
    by_index : (b d : Bool) → cond b 256 128 + cond d 0 (4 * i) + 4 ≤ 384
    by_index true true = omega arith
    by_index true false = omega arith
    by_index false true = omega arith
    by_index false false = omega arith

module _ (run : ℕ → State) (code : ℕ) (o : HasRuntime run code) where
  pub mem_next : (t a : ℕ) → (run (suc t)).mem a ≡ unwrap_or (writes run t a) ((run t).mem a)
  mem_next t a = ap (λ (s : State). s.mem a) (o.steps t) ∙ step_mem (run t).cpu (run t).mem a

  pub next_is : (t : ℕ) (l : Line) → line_at (run t) ≡ Some l → run (suc t) ≡ record { cpu = (effected (run t).cpu (run t).mem l.rd (effect (run t).cpu l)).cpu; mem = (effected (run t).cpu (run t).mem l.rd (effect (run t).cpu l)).mem }
  next_is t l h = o.steps t ∙ ap (λ (s : Stepped). record { cpu = s.cpu; mem = s.mem }) (step_effected (run t).cpu (run t).mem l h)

  pub effect_is : (t : ℕ) (l : Line) → line_at (run t) ≡ Some l → effect_at (run t) ≡ effect (run t).cpu l
  effect_is t l h = ap (effect_by (run t).cpu) h

  -- the instruction at a place of the routine
  line_here : (t pc : ℕ) (l : Line) → ((a : ℕ) → 4096 ≤ a → a < code → (run t).mem a ≡ (run 0).mem a) → (run t).cpu.pc ≡ pc → 4096 ≤ pc → pc + 4 ≤ 5044 → pc % 4 ≡ 0 → little (run 0).mem pc 4 ≡ encoded l → decode (encoded l) ≡ Some l → line_at (run t) ≡ Some l
  line_here t pc l same e low high even w d =
      ap (λ z. decoded_word (loaded (run t).mem z 4)) e
      ∙ ap (λ b. decoded_word (cond b (Some (little (run t).mem pc 4)) None)) (word_place pc even (omega arith))
      ∙ ap decode (little-alike (run t).mem (run 0).mem 4 pc (λ i a b. same i (omega arith) (let l = o.long in omega arith)) ∙ w)
      ∙ d

  -- a step that puts a value into x4 and goes on
  pub record Puts_4 (t v : ℕ) : Type 0 where
    pub effect : effect_at (run t) ≡ Puts v (sum_of (run t).cpu.pc 4)
    pub register : rd_of (line_at (run t)) ≡ 4
    pub next : run (suc t) ≡ record { cpu = record { pc = sum_of (run t).cpu.pc 4; x = with_reg (run t).cpu.x 4 v }; mem = (run t).mem }

  puts_4 : (t v : ℕ) (l : Line) → line_at (run t) ≡ Some l → l.rd ≡ 4 → effect (run t).cpu l ≡ Puts v (sum_of (run t).cpu.pc 4) → Puts_4 t v
  puts_4 t v l h r e = record {
    effect = effect_is t l h ∙ e;
    register = ap rd_of h ∙ r;
    next = next_is t l h
        ∙ ap (λ z. record { cpu = (effected (run t).cpu (run t).mem z (effect (run t).cpu l)).cpu; mem = (effected (run t).cpu (run t).mem z (effect (run t).cpu l)).mem }) r
        ∙ ap (λ z. record { cpu = (effected (run t).cpu (run t).mem 4 z).cpu; mem = (effected (run t).cpu (run t).mem 4 z).mem }) e;
  }

  -- INDEX stays where memory does
  index_same : (t : ℕ) → (run (suc t)).mem ≡ (run t).mem → index_of (run (suc t)).mem ≡ index_of (run t).mem
  index_same t e = ap index_of e

  pub calm_of : (t : ℕ) → index_of (run (suc t)).mem ≡ index_of (run t).mem → flip run t ≡ false
  calm_of t e = ap (λ (s : State). not (nat_eq (index_of (run t).mem) (index_of s.mem))) (sym (o.steps t)) ∙ ap (λ z. not (nat_eq (index_of (run t).mem) z)) e ∙ ap not (nat_eq_refl (index_of (run t).mem))

  -- a step that leaves memory as it is
  stays : (t : ℕ) → IsIntact run code t → (run (suc t)).mem ≡ (run t).mem → (run (suc t)).cpu.x 0 ≡ 0 → ((i : ℕ) → (run (suc t)).cpu.x i < 2 ^ 32) → IsIntact run code (suc t)
  stays t h e z w = record { same = λ a l r. ap (λ (m : Mem). m a) e ∙ h.same a l r; bit = subst (λ (m : Mem). index_of m < 2) (sym e) h.bit; zero_reg = z; words = w }

  one_word : (x : ℕ → ℕ) (rd v : ℕ) → ((i : ℕ) → x i < 2 ^ 32) → v < 2 ^ 32 → (i : ℕ) → with_reg x rd v i < 2 ^ 32
  one_word x rd v h l i = by_reg (i == rd && nat_lt 0 rd)
    where
      by_reg : (b : Bool) → cond b v (x i) < 2 ^ 32
      by_reg true = l
      by_reg false = h i

  -- a step that puts a small value into x4
  put_stays : (t v : ℕ) → IsIntact run code t → Puts_4 t v → v < 2 ^ 32 → IsIntact run code (suc t)
  put_stays t v h p l = stays t h (ap (λ (z : State). z.mem) p.next) (ap (λ (z : State). z.cpu.x 0) p.next ∙ h.zero_reg) (λ i. subst (λ z. z < 2 ^ 32) (sym (ap (λ (z : State). z.cpu.x i) p.next)) (one_word (run t).cpu.x 4 v h.words l i))

  -- ---- in an entry

  pub entry_line_at : (t t0 m k : ℕ) → IsIntact run code t → Entering run t t0 m k → line_at (run t) ≡ Some (entry_line m k)
  entry_line_at t t0 m k h e =
      let a = e.cut.above in
      let b = e.cut.below in
      let s = e.small in
      line_here t (entry_at m + 4 * k) (entry_line m k) h.same e.place (omega arith) (omega arith) (omega arith) ((routine_of (run 0).mem o.checkpoint).entries m k a b s) (entry_back m k a b)

  index_bit : (t : ℕ) → IsIntact run code t → (index_of (run t).mem ≡ 0) ⊎ (index_of (run t).mem ≡ 1)
  index_bit t h = zero_or_one (index_of (run t).mem) h.bit

  -- what follows an entry's step
  pub record Entry_next (t t0 m k : ℕ) : Type 0 where
    pub fine : IsIntact run code (suc t)
    pub on : k < 4 → Entering run (suc t) t0 m (suc k)
    pub off : k ≡ 4 → Climbing run (suc t) t0 m (31 - m)

  staged_small : (b : Bool) (k : ℕ) → staged b k < 2 ^ 32
  staged_small b zero = omega arith
  staged_small true (suc zero) = omega arith
  staged_small false (suc zero) = omega arith
  staged_small true (suc (suc zero)) = omega arith
  staged_small false (suc (suc zero)) = omega arith
  staged_small true (suc (suc (suc zero))) = omega arith
  staged_small false (suc (suc (suc zero))) = omega arith
  staged_small true (suc (suc (suc (suc k)))) = omega arith
  staged_small false (suc (suc (suc (suc k)))) = omega arith

  -- the next stage of x4
  entered : (t t0 m k v : ℕ) → IsIntact run code t → Entering run t t0 m k → Puts_4 t v → k < 4 → v ≡ staged (index_of (run t).mem == 0) (suc k) → Entry_next t t0 m k
  entered t t0 m k v h e p l s =
      let mem : (run (suc t)).mem ≡ (run t).mem = ap (λ (z : State). z.mem) p.next in
      let a = e.cut.above in
      let b = e.cut.below in
      record {
        fine = put_stays t v h p (subst (λ z. z < 2 ^ 32) (sym s) (staged_small (index_of (run t).mem == 0) (suc k)));
        on = λ l'. record {
          cut = e.cut;
          small = omega arith;
          time = (let q = e.time in omega arith);
          place = ap (λ (z : State). z.cpu.pc) p.next ∙ ap (λ z. sum_of z 4) e.place ∙ small_sum (entry_at m + 4 * k) 4 (omega arith) ∙ (let q : entry_at m + 4 * k + 4 ≡ entry_at m + 4 * suc k = omega arith in q);
          link = ap (λ (z : State). z.cpu.x 3) p.next ∙ e.link;
          stage = λ pos. ap (λ (z : State). z.cpu.x 4) p.next ∙ s ∙ sym (ap (λ z. staged (z == 0) (suc k)) (index_same t mem));
        };
        off = λ q. absurd (omega arith);
      }

  pub entry_step : (t t0 m k : ℕ) → IsIntact run code t → Entering run t t0 m k → Entry_next t t0 m k
  entry_step t t0 m zero h e =
      let l = entry_line_at t t0 m zero h e in
      let d = (run t).cpu in
      let n = (run t).mem in
      let f : effect d (entry_line m zero) ≡ Loads 0 4 Zero = ap (λ z. Loads (sum_of z 0) 4 Zero) h.zero_reg in
      let next : run (suc t) ≡ record { cpu = record { pc = sum_of d.pc 4; x = with_reg d.x 4 (little n 0 4) }; mem = n } = next_is t (entry_line m zero) l ∙ ap (λ z. record { cpu = (effected d n 4 z).cpu; mem = (effected d n 4 z).mem }) f in
      let mem : (run (suc t)).mem ≡ (run t).mem = ap (λ (z : State). z.mem) next in
      let a = e.cut.above in
      let b = e.cut.below in
      record {
        fine = stays t h mem (ap (λ (z : State). z.cpu.x 0) next ∙ h.zero_reg) (λ i. subst (λ z. z < 2 ^ 32) (sym (ap (λ (z : State). z.cpu.x i) next)) (one_word d.x 4 (little n 0 4) h.words (let q : little n 0 4 < 2 = h.bit in omega arith) i));
        on = λ l'. record {
          cut = e.cut;
          small = omega arith;
          time = (let q = e.time in omega arith);
          place = ap (λ (z : State). z.cpu.pc) next ∙ ap (λ z. sum_of z 4) e.place ∙ small_sum (entry_at m + 4 * 0) 4 (omega arith) ∙ (let q : entry_at m + 4 * 0 + 4 ≡ entry_at m + 4 * 1 = omega arith in q);
          link = ap (λ (z : State). z.cpu.x 3) next ∙ e.link;
          stage = λ pos. ap (λ (z : State). z.cpu.x 4) next ∙ bit_of (index_of n) (index_bit t h) ∙ sym (ap (λ z. staged (z == 0) 1) (index_same t mem));
        };
        off = λ q. absurd (omega arith);
      }
    where
      bit_of : (n : ℕ) → (n ≡ 0) ⊎ (n ≡ 1) → n ≡ staged (n == 0) 1
      bit_of n (inl q) = q ∙ sym (ap (λ z. staged (z == 0) 1) q)
      bit_of n (inr q) = q ∙ sym (ap (λ z. staged (z == 0) 1) q)
  entry_step t t0 m (suc zero) h e =
      entered t t0 m 1 (bit_xor ((run t).cpu.x 4) 1) h e (puts_4 t (bit_xor ((run t).cpu.x 4) 1) (entry_line m 1) (entry_line_at t t0 m 1 h e) refl refl) (omega arith)
      (ap (λ z. bit_xor z 1) (e.stage (omega arith)) ∙ flipped (index_of (run t).mem == 0))
    where
      flipped : (b : Bool) → bit_xor (staged b 1) 1 ≡ staged b 2
      flipped true = refl
      flipped false = refl
  entry_step t t0 m (suc (suc zero)) h e =
      entered t t0 m 2 (shift_left ((run t).cpu.x 4) 7) h e (puts_4 t (shift_left ((run t).cpu.x 4) 7) (entry_line m 2) (entry_line_at t t0 m 2 h e) refl refl) (omega arith)
      (ap (λ z. shift_left z 7) (e.stage (omega arith)) ∙ moved (index_of (run t).mem == 0))
    where
      moved : (b : Bool) → shift_left (staged b 2) 7 ≡ staged b 3
      moved true = refl
      moved false = refl
  entry_step t t0 m (suc (suc (suc zero))) h e =
      entered t t0 m 3 (sum_of ((run t).cpu.x 4) 128) h e (puts_4 t (sum_of ((run t).cpu.x 4) 128) (entry_line m 3) (entry_line_at t t0 m 3 h e) refl refl) (omega arith)
      (ap (λ z. sum_of z 128) (e.stage (omega arith)) ∙ added (index_of (run t).mem == 0))
    where
      added : (b : Bool) → sum_of (staged b 3) 128 ≡ staged b 4
      added true = refl
      added false = refl
  entry_step t t0 m (suc (suc (suc (suc k)))) h e =
      let s = e.small in
      let last : k ≡ 0 = omega arith in
      let l = entry_line_at t t0 m (suc (suc (suc (suc k)))) h e in
      let d = (run t).cpu in
      let n = (run t).mem in
      let next : run (suc t) ≡ record { cpu = record { pc = sum_of d.pc (748 - 24 * m); x = with_reg d.x 0 (sum_of d.pc 4) }; mem = n } = next_is t (entry_line m (suc (suc (suc (suc k))))) l in
      let mem : (run (suc t)).mem ≡ (run t).mem = ap (λ (z : State). z.mem) next in
      let a = e.cut.above in
      let b = e.cut.below in
      let there : entry_at m + 4 * suc (suc (suc (suc k))) + (748 - 24 * m) ≡ ladder_at (31 - m) = omega arith in
      record {
        fine = stays t h mem (ap (λ (z : State). z.cpu.x 0) next ∙ h.zero_reg) (λ i. subst (λ z. z < 2 ^ 32) (sym (ap (λ (z : State). z.cpu.x i) next)) (one_word d.x 0 (sum_of d.pc 4) h.words (omega arith) i));
        on = λ q. absurd (omega arith);
        off = λ q. record {
          cut = e.cut;
          from = omega arith;
          to = omega arith;
          time = (let q = e.time in omega arith);
          place = ap (λ (z : State). z.cpu.pc) next ∙ ap (λ z. sum_of z (748 - 24 * m)) e.place ∙ small_sum (entry_at m + 4 * suc (suc (suc (suc k)))) (748 - 24 * m) (omega arith) ∙ there;
          link = ap (λ (z : State). z.cpu.x 3) next ∙ e.link;
          base = λ le. ap (λ (z : State). z.cpu.x 4) next ∙ e.stage (omega arith) ∙ sym (ap idle (index_same t mem));
          shifted = λ q. absurd (omega arith);
          done = λ q low high. absurd (omega arith);
        };
      }

  -- ---- on the ladder

  pub ladder_line_at : (t t0 m p : ℕ) (l : Line) → IsIntact run code t → Climbing run t t0 m p → ladder_line p ≡ l → decode (encoded l) ≡ Some l → line_at (run t) ≡ Some l
  ladder_line_at t t0 m p l h e q d =
      let b = e.to in
      line_here t (ladder_at p) l h.same e.place (omega arith) (omega arith) (omega arith) ((routine_of (run 0).mem o.checkpoint).ladder p (omega arith) ∙ ap encoded q) d

  -- what a store on the ladder does
  pub record Stores_at (t r v : ℕ) : Type 0 where
    pub effect : effect_at (run t) ≡ Stores (idle (index_of (run t).mem) + slot r) 4 v
    pub source : rs2_of (line_at (run t)) ≡ r
    pub saves : saves_reg (run t) r ≡ true
    pub next_cpu : (run (suc t)).cpu ≡ record { pc = sum_of (run t).cpu.pc 4; x = (run t).cpu.x }

  pub climb_store : (t t0 m p : ℕ) → IsIntact run code t → Climbing run t t0 m p → p < 30 → Stores_at t (ladder_reg p) ((run t).cpu.x (ladder_reg p))
  climb_store t t0 m p h e low =
      let r = ladder_reg p in
      let named = reg_named p low in
      let index = index_of (run t).mem in
      let a = idle index + slot r in
      let d = (run t).cpu in
      let n = (run t).mem in
      let l = ladder_line_at t t0 m p (store_line r) h e (ladder_store p low) (store_back r named.1) in
      let address : sum_of (d.x 4) (slot r) ≡ a = ap (λ z. sum_of z (slot r)) (e.base (omega arith)) ∙ small_sum (idle index) (slot r) (slot_small index r named.1) in
      let f : effect d (store_line r) ≡ Stores a 4 (d.x r) = ap (λ z. Stores z 4 (d.x r)) address in
      let place = slot_place index r named.1 in
      let eff : effect_at (run t) ≡ Stores a 4 (d.x r) = effect_is t (store_line r) l ∙ f in
      record {
        effect = eff;
        source = ap rs2_of l;
        saves = ap (λ z. nat_lt 0 r && nat_lt r 32 && r == rs2_of z && stores_word (effect_at (run t)) a) l ∙ ap (λ z. nat_lt 0 r && nat_lt r 32 && r == r && stores_word z a) eff ∙ all_true r a named.0 named.1 place;
        next_cpu = ap (λ (z : State). z.cpu) (next_is t (store_line r) l) ∙ ap (λ z. (effected d n 0 z).cpu) f ∙ ap (λ b. (saved_at b d n a (bytes_of 4 (d.x r))).cpu) place;
      }
    where
      all_true : (r a : ℕ) → 0 < r → r < 32 → is_place a 4 ≡ true → (nat_lt 0 r && nat_lt r 32 && r == r && (a == a && 4 == 4 && is_place a 4)) ≡ true
      all_true r a x y z = grind (arith, nat_tests, z)

  pub low_writes : (index r v a : ℕ) → r < 32 → a < 128 → writes_by (Stores (idle index + slot r) 4 v) a ≡ None
  low_writes index r v a l h = word_outside (idle index + slot r) v a (inl (let q = slot_above index r in omega arith)) (slot_place index r l)

  pub high_writes : (index r v a : ℕ) → r < 32 → 384 ≤ a → writes_by (Stores (idle index + slot r) 4 v) a ≡ None
  high_writes index r v a l h = word_outside (idle index + slot r) v a (inr (let q = slot_below index r l in omega arith)) (slot_place index r l)

  store_index : (t r v : ℕ) → r < 32 → Stores_at t r v → index_of (run (suc t)).mem ≡ index_of (run t).mem
  store_index t r v l s = little-alike (run (suc t)).mem (run t).mem 4 0 (λ i a b. mem_next t i ∙ none_kept (writes run t i) ((run t).mem i) (ap (λ z. writes_by z i) s.effect ∙ low_writes (index_of (run t).mem) r v i l (omega arith)))

  or_right : (a b c : Bool) → b ≡ false → c ≡ true → (a || (not b && c)) ≡ true
  or_right true b c p q = refl
  or_right false true c p q = absurd (cc)
  or_right false false c p q = q

  -- what is saved and not set stays saved
  saved_on : (t i : ℕ) → flip run t ≡ false → sets (run t) i ≡ false → saved run t i ≡ true → saved run (suc t) i ≡ true
  saved_on t i f u s = saved-calm run t i f ∙ or_right (saves_reg (run t) i) (sets (run t) i) (saved run t i) u s

  saved_now : (t i : ℕ) → flip run t ≡ false → saves_reg (run t) i ≡ true → saved run (suc t) i ≡ true
  saved_now t i f s = saved-calm run t i f ∙ ap (λ b. b || (not (sets (run t) i) && saved run t i)) s

  before_or_now : (q p : ℕ) → q < suc p → (q < p) ⊎ (q ≡ p)
  before_or_now q p l = grind arith

  pub climb_on : (t t0 m p : ℕ) → IsIntact run code t → Climbing run t t0 m p → p < 30 → IsIntact run code (suc t) × Climbing run (suc t) t0 m (suc p)
  climb_on t t0 m p h e low =
      let r = ladder_reg p in
      let named = reg_named p low in
      let s = climb_store t t0 m p h e low in
      let d = (run t).cpu in
      let index = store_index t r (d.x r) named.1 s in
      let f = calm_of t index in
      let from = e.from in (
        record {
          same = λ a l g. mem_next t a ∙ none_kept (writes run t a) ((run t).mem a) (ap (λ z. writes_by z a) s.effect ∙ high_writes (index_of (run t).mem) r (d.x r) a named.1 (omega arith)) ∙ h.same a l g;
          bit = subst (λ z. z < 2) (sym index) h.bit;
          zero_reg = ap (λ (c : Cpu). c.x 0) s.next_cpu ∙ h.zero_reg;
          words = λ i. subst (λ z. z < 2 ^ 32) (sym (ap (λ (c : Cpu). c.x i) s.next_cpu)) (h.words i);
        },
        record {
          cut = e.cut;
          from = omega arith;
          to = omega arith;
          time = (let q = e.time in omega arith);
          place = ap (λ (c : Cpu). c.pc) s.next_cpu ∙ ap (λ z. sum_of z 4) e.place ∙ small_sum (ladder_at p) 4 (omega arith) ∙ (let q : ladder_at p + 4 ≡ ladder_at (suc p) = omega arith in q);
          link = ap (λ (c : Cpu). c.x 3) s.next_cpu ∙ e.link;
          base = λ le. ap (λ (c : Cpu). c.x 4) s.next_cpu ∙ e.base (omega arith) ∙ sym (ap idle index);
          shifted = λ q. absurd (omega arith);
          done = λ q a b c. elim (before_or_now q p b) [
            | inl l ↦ saved_on t (ladder_reg q) f (ap (λ z. sets_by z (rd_of (line_at (run t))) (ladder_reg q)) s.effect) (e.done q a l c)
            | inr l ↦ saved_now t (ladder_reg q) f (ap (λ z. saves_reg (run t) (ladder_reg z)) l ∙ s.saves)
          ];
        },
      )

  not_four : (p : ℕ) → p < 30 → (ladder_reg p == 4) ≡ false
  not_four p l = by_side (nat_lt p 27) refl
    where
      by_side : (b : Bool) → nat_lt p 27 ≡ b → (cond b (31 - p) (p - 26) == 4) ≡ false
      by_side true h = (let q : p < 27 = grind (arith, nat_tests) in let ne : 31 - p ≢ 4 = omega arith in grind (arith, nat_tests))
      by_side false h = (let q : 27 ≤ p = grind (arith, nat_tests) in let ne : p - 26 ≢ 4 = omega arith in grind (arith, nat_tests))

  pub climb_shift : (t t0 m : ℕ) → IsIntact run code t → Climbing run t t0 m 30 → IsIntact run code (suc t) × Climbing run (suc t) t0 m 31
  climb_shift t t0 m h e =
      let d = (run t).cpu in
      let l = ladder_line_at t t0 m 30 shift_line h e refl shift_back in
      let p = puts_4 t (shift_right (d.x 4) 8) shift_line l refl refl in
      let mem : (run (suc t)).mem ≡ (run t).mem = ap (λ (z : State). z.mem) p.next in
      let index = index_same t mem in
      let f = calm_of t index in
      let from = e.from in
      let v : shift_right (d.x 4) 8 ≡ cond (index_of (run t).mem == 0) 1 0 = ap (λ z. shift_right z 8) (e.base (omega arith)) ∙ halved (index_of (run t).mem == 0) in (
        put_stays t (shift_right (d.x 4) 8) h p (subst (λ z. z < 2 ^ 32) (sym v) (bit_small (index_of (run t).mem == 0))),
        record {
          cut = e.cut;
          from = omega arith;
          to = omega arith;
          time = (let q = e.time in omega arith);
          place = ap (λ (z : State). z.cpu.pc) p.next ∙ ap (λ z. sum_of z 4) e.place;
          link = ap (λ (z : State). z.cpu.x 3) p.next ∙ e.link;
          base = λ le. absurd (omega arith);
          shifted = λ q. ap (λ (z : State). z.cpu.x 4) p.next ∙ v ∙ sym (ap (λ z. cond (z == 0) 1 0) index);
          done = λ q a b c. saved_on t (ladder_reg q) f (ap (λ z. sets_by z (rd_of (line_at (run t))) (ladder_reg q)) p.effect ∙ ap (λ z. ladder_reg q == z && nat_lt 0 z) p.register ∙ ap (λ z. z && nat_lt 0 4) (not_four q c)) (e.done q a c c);
        },
      )
    where
      halved : (b : Bool) → shift_right (cond b 256 128) 8 ≡ cond b 1 0
      halved true = refl
      halved false = refl

      bit_small : (b : Bool) → cond b 1 0 < 2 ^ 32
      bit_small true = omega arith
      bit_small false = omega arith

  -- ---- the flip

  pub record Flips_at (t : ℕ) : Type 0 where
    pub effect : effect_at (run t) ≡ Stores 0 4 (cond (index_of (run t).mem == 0) 1 0)
    pub index : index_of (run (suc t)).mem ≡ cond (index_of (run t).mem == 0) 1 0
    pub next_cpu : (run (suc t)).cpu ≡ record { pc = sum_of (run t).cpu.pc 4; x = (run t).cpu.x }

  pub climb_flip : (t t0 m : ℕ) → IsIntact run code t → Climbing run t t0 m 31 → Flips_at t
  climb_flip t t0 m h e =
      let d = (run t).cpu in
      let n = (run t).mem in
      let v = cond (index_of n == 0) 1 0 in
      let l = ladder_line_at t t0 m 31 flip_line h e refl flip_back in
      let f : effect d flip_line ≡ Stores 0 4 v = ap (λ z. Stores (sum_of z 0) 4 (d.x 4)) h.zero_reg ∙ ap (λ z. Stores 0 4 z) (e.shifted refl) in
      let eff : effect_at (run t) ≡ Stores 0 4 v = effect_is t flip_line l ∙ f in
      record {
        effect = eff;
        index = ap (λ (z : State). index_of z.mem) (next_is t flip_line l) ∙ ap (λ z. index_of (effected d n 0 z).mem) f ∙ stored_bit (index_of n == 0) n;
        next_cpu = ap (λ (z : State). z.cpu) (next_is t flip_line l) ∙ ap (λ z. (effected d n 0 z).cpu) f;
      }
    where
      stored_bit : (b : Bool) (n : Mem) → little (written n 0 (bytes_of 4 (cond b 1 0))) 0 4 ≡ cond b 1 0
      stored_bit true n = refl
      stored_bit false n = refl

  pub flip_low : (v a : ℕ) → 4 ≤ a → writes_by (Stores 0 4 v) a ≡ None
  flip_low v a l = word_outside 0 v a (inr l) refl

  pub returning : (t t0 m : ℕ) → IsIntact run code t → Climbing run t t0 m 31 → Returning run (suc t) t0 m
  returning t t0 m h e = let s = climb_flip t t0 m h e in record {
    cut = e.cut;
    time = (let q = e.time in omega arith);
    place = ap (λ (c : Cpu). c.pc) s.next_cpu ∙ ap (λ z. sum_of z 4) e.place;
    link = ap (λ (c : Cpu). c.x 3) s.next_cpu ∙ e.link;
  }

  pub flip_on : (t t0 m : ℕ) → IsIntact run code t → Climbing run t t0 m 31 → IsIntact run code (suc t) × Returning run (suc t) t0 m
  flip_on t t0 m h e =
      let s = climb_flip t t0 m h e in (
        record {
          same = λ a l g. mem_next t a ∙ none_kept (writes run t a) ((run t).mem a) (ap (λ z. writes_by z a) s.effect ∙ flip_low (cond (index_of (run t).mem == 0) 1 0) a (omega arith)) ∙ h.same a l g;
          bit = subst (λ z. z < 2) (sym s.index) (small (index_of (run t).mem == 0));
          zero_reg = ap (λ (c : Cpu). c.x 0) s.next_cpu ∙ h.zero_reg;
          words = λ i. subst (λ z. z < 2 ^ 32) (sym (ap (λ (c : Cpu). c.x i) s.next_cpu)) (h.words i);
        },
        returning t t0 m h e,
      )
    where
      small : (b : Bool) → cond b 1 0 < 2
      small true = omega arith
      small false = omega arith

  -- ---- the return

  pub return_line_at : (t t0 m : ℕ) → IsIntact run code t → Returning run t t0 m → line_at (run t) ≡ Some return_line
  return_line_at t t0 m h e = line_here t (ladder_at 32) return_line h.same e.place (omega arith) (omega arith) refl ((routine_of (run 0).mem o.checkpoint).ladder 32 (omega arith)) return_back

  even_jump : (x : ℕ) → x < 2 ^ 32 → x % 2 ≡ 0 → sum_of x 0 - sum_of x 0 % 2 ≡ x
  even_jump x a b = grind (arith, a, b)

  pub link_even : (t t0 m : ℕ) → Returning run t t0 m → (run t).cpu.x 3 % 2 ≡ 0
  link_even t t0 m e = ap (λ z. z % 2) e.link ∙ e.cut.even

  pub return_on : (t t0 m : ℕ) → IsIntact run code t → Returning run t t0 m → IsIntact run code (suc t) × ((run (suc t)).cpu.pc ≡ (run t0).cpu.pc + 4)
  return_on t t0 m h e =
      let d = (run t).cpu in
      let n = (run t).mem in
      let next = next_is t return_line (return_line_at t t0 m h e) in
      let place : (run (suc t)).cpu.pc ≡ (run t0).cpu.pc + 4 = ap (λ (z : State). z.cpu.pc) next ∙ even_jump (d.x 3) (h.words 3) (link_even t t0 m e) ∙ e.link in
      (stays t h (ap (λ (z : State). z.mem) next) (ap (λ (z : State). z.cpu.x 0) next ∙ h.zero_reg) (λ i. subst (λ z. z < 2 ^ 32) (sym (ap (λ (z : State). z.cpu.x i) next)) (one_word d.x 0 (sum_of d.pc 4) h.words (omega arith) i)), place)

  places : (p : ℕ) → p ≤ 31 → (p < 30) ⊎ ((p ≡ 30) ⊎ (p ≡ 31))
  places p l = grind arith

  four_or_less : (k : ℕ) → k < 5 → (k < 4) ⊎ (k ≡ 4)
  four_or_less k l = grind arith

  -- a cut leads into the routine
  pub enters : (t m : ℕ) → IsCut run t m → Entering run (suc t) t m 0
  enters t m c = record {
    cut = c;
    small = omega arith;
    time = omega arith;
    place = c.entered ∙ (let q : entry_at m ≡ entry_at m + 4 * 0 = omega arith in q);
    link = c.linked;
    stage = λ pos. absurd (omega arith);
  }

  -- a step in the routine
  pub inside_on : (t : ℕ) → IsIntact run code t → Phase run t → is_runtime (run t).cpu.pc ≡ true → IsIntact run code (suc t) × Phase run (suc t)
  inside_on t h (Outside out) into = absurd (let bad : true ≡ false = sym into ∙ out in cc)
  inside_on t h (Enters t0 m k e) into = let n = entry_step t t0 m k h e in (n.fine, elim (four_or_less k e.small) [ inl l ↦ Enters t0 m (suc k) (n.on l) | inr q ↦ Climbs t0 m (31 - m) (n.off q) ])
  inside_on t h (Climbs t0 m p e) into = elim (places p e.to) [
    | inl low ↦ (let n = climb_on t t0 m p h e low in (n.0, Climbs t0 m (suc p) n.1))
    | inr (inl q) ↦ (let n = climb_shift t t0 m h (subst (Climbing run t t0 m) q e) in (n.0, Climbs t0 m 31 n.1))
    | inr (inr q) ↦ (let n = flip_on t t0 m h (subst (Climbing run t t0 m) q e) in (n.0, Returns t0 m n.1))
  ]
  inside_on t h (Returns t0 m e) into = let n = return_on t t0 m h e in (n.0, Outside (ap is_runtime n.1 ∙ e.cut.back))

  -- ---- from a cut to its return, m + 8 steps on

  -- the entry's five steps
  pub in_entry : (t m k : ℕ) → IsCut run t m → IsIntact run code (suc t) → k < 5 → IsIntact run code (t + 1 + k) × Entering run (t + 1 + k) t m k
  in_entry t m zero c h l = let q : suc t ≡ t + 1 + 0 = omega arith in (subst (IsIntact run code) q h, subst (λ z. Entering run z t m 0) q (enters t m c))
  in_entry t m (suc k) c h l =
      let n = in_entry t m k c h (omega arith) in
      let s = entry_step (t + 1 + k) t m k n.0 n.1 in
      let q : suc (t + 1 + k) ≡ t + 1 + suc k = omega arith in
      (subst (IsIntact run code) q s.fine, subst (λ z. Entering run z t m (suc k)) q (s.on (omega arith)))

  -- the ladder, from Lm on: its first n steps
  pub on_ladder : (t m n : ℕ) → IsCut run t m → IsIntact run code (suc t) → n ≤ m → IsIntact run code (t + 6 + n) × Climbing run (t + 6 + n) t m (31 - m + n)
  on_ladder t m zero c h l =
      let n = in_entry t m 4 c h (omega arith) in
      let s = entry_step (t + 1 + 4) t m 4 n.0 n.1 in
      let q : suc (t + 1 + 4) ≡ t + 6 + 0 = omega arith in
      let r : 31 - m ≡ 31 - m + 0 = omega arith in
      (subst (IsIntact run code) q s.fine, subst (λ z. Climbing run (t + 6 + 0) t m z) r (subst (λ z. Climbing run z t m (31 - m)) q (s.off refl)))
  on_ladder t m (suc n) c h l =
      let b = c.below in
      let x = on_ladder t m n c h (omega arith) in
      let p = 31 - m + n in
      let q : suc (t + 6 + n) ≡ t + 6 + suc n = omega arith in
      let r : suc p ≡ 31 - m + suc n = omega arith in
      elim (places p (omega arith)) [
        | inl low ↦ (let s = climb_on (t + 6 + n) t m p x.0 x.1 low in (subst (IsIntact run code) q s.0, subst (λ z. Climbing run (t + 6 + suc n) t m z) r (subst (λ z. Climbing run z t m (suc p)) q s.1)))
        | inr (inl e) ↦ (
            let s = climb_shift (t + 6 + n) t m x.0 (subst (Climbing run (t + 6 + n) t m) e x.1) in
            let r' : 31 ≡ 31 - m + suc n = omega arith in
            (subst (IsIntact run code) q s.0, subst (λ z. Climbing run (t + 6 + suc n) t m z) r' (subst (λ z. Climbing run z t m 31) q s.1)))
        | inr (inr e) ↦ absurd (omega arith)
      ]

  -- behind the flip
  pub at_return : (t m : ℕ) → IsCut run t m → IsIntact run code (suc t) → IsIntact run code (t + m + 7) × Returning run (t + m + 7) t m
  at_return t m c h =
      let b = c.below in
      let x = on_ladder t m m c h (omega arith) in
      let e : 31 - m + m ≡ 31 = omega arith in
      let s = flip_on (t + 6 + m) t m x.0 (subst (Climbing run (t + 6 + m) t m) e x.1) in
      let q : suc (t + 6 + m) ≡ t + m + 7 = omega arith in
      (subst (IsIntact run code) q s.0, subst (λ z. Returning run z t m) q s.1)

  -- the routine leads back to the word behind the cut
  pub comes_back : (t m : ℕ) → IsCut run t m → IsIntact run code (suc t) → IsIntact run code (t + m + 8) × ((run (t + m + 8)).cpu.pc ≡ (run t).cpu.pc + 4)
  comes_back t m c h =
      let x = at_return t m c h in
      let s = return_on (t + m + 7) t m x.0 x.1 in
      let q : suc (t + m + 7) ≡ t + m + 8 = omega arith in
      (subst (IsIntact run code) q s.0, ap (λ z. (run z).cpu.pc) (sym q) ∙ s.1)
