-- A sound run of the machine is one that is followed when power fails.
use Rattle.std.proofs.Common.{◌≡◌, ℕ, zero, suc, ◌+◌, ◌*◌, ◌%◌, ◌<◌, ◌≤◌, ◌⊎◌, inl, inr, Bool, true, false, cond, Option, Some, None, refl, sym, ap, ◌∙◌, subst, arith}
use Rattle.std.specs.Prelude.{◌&&◌, ◌||◌, not, nat_eq, unwrap_or, is_some}
use Rattle.std.proofs.lemmas.Bool.Decides.{nat_tests}
use Rattle.std.proofs.Math.Path.{fun_ext}
use Rattle.im_num.specs.Bytes.{bytes_of}
use Rattle.im_mem.specs.Memory.{Mem, little, loaded, written, is_place, Stands}
use Rattle.im_mem.proofs.Words.{little-alike, stands-alike}
use Rattle.im_rv.specs.declared.step.Went.{Went}
use Rattle.im_rv.specs.declared.step.Went.TheVariants.{On, Halted, Faulted}
use Rattle.im_rv.specs.declared.effect.Effect.{Effect}
use Rattle.im_rv.specs.declared.effect.Effect.TheVariants.{Puts, Goes, Loads, Stores, Stops}
use Rattle.im_rv.specs.Steps.{Cpu, Stepped, effected, loads}
use Rattle.im_rv.specs.Runs.{step_of}
use Rattle.im_device.specs.Run.{boot, index_of}
use Rattle.im_ckpt.specs.Buffers.{buffer, is_buffer, is_fixed, slot, idle, saves_by, saves_reg, saved}
use Rattle.im_ckpt.specs.Recovery.{recovery_words}
use Rattle.im_replay_path.specs.Path.{patched}
use Rattle.im_replay_path.specs.Sections.{start, wrote}
use Rattle.im_replay_path.specs.Followed.{Agrees, Advances, Followed}
use Rattle.im_replay_path.specs.Path.Next.{Goes as Goes_to, Ends}
use Rattle.im_replay_path.proofs.Times.{truth, start-flip, start-calm, start_le, start_start, wrote-flip, wrote-calm}
use Rattle.im_rv.specs.Effects.{effect, effect_of, rd_of, patch, writes_by, sets_by}
use Rattle.im_rv.specs.Torn.{masked, torn_by, torn_of}
use Rattle.im_ckpt.specs.Laws.{CanResume}
use Rattle.im_ckpt.proofs.Resume.{after_none, recovery_walks, recovered}
use Rattle.im_replay.proofs.Machine.{next_by, next_of, waking}
use Rattle.im_ckpt.specs.Runs.{State, stepped, line_at, effect_at, sets, is_on, flip, ends, memory, writes, reads}
use Rattle.im_replay.specs.Needed.{Needed}
use Rattle.im_replay.specs.Sections.{resume, IsLive}
use Rattle.im_replay.proofs.Sound.{IsSound, IsLike}
use Rattle.im_rv.proofs.Locality.{written-patch, step_effected, saved_at}
use Rattle.im_ckpt.proofs.Slots.{no_save, Saves, saves_of, saved-flip, buffer_inside, apart, word_outside}
use Rattle.im_rv.proofs.Tearing.{torn_either, torn_small, torn_flip, writes_small}
use Rattle.im_rv.proofs.Effecting.{step_mem, torn_whole}
use Rattle.im_replay.proofs.Steps.{Paces, needs_next, effect_is, effect_alike, paces_plain, paces_save}
use Rattle.im_replay.proofs.Buffers.{idle_inside, index_start, live_kept, filled_kept, filled_more, store_of_flip, flip_plain, return_is, return_place, return_calm, return_saves, live_flipped}
use Rattle.im_rv.specs.declared.effect.Extension.{Extension}

-- ---- ends

on_of : (w : Went) → not (is_on w) ≡ false → w ≡ On
on_of On h = refl
on_of Halted h = absurd (cc)
on_of (Faulted at) h = absurd (cc)

over_of : (s : Stepped) (w : Went) → not (is_on w) ≡ true → next_by s w ≡ Ends
over_of s On h = absurd (cc)
over_of s Halted h = refl
over_of s (Faulted at) h = refl

loads_ended : (c : Cpu) (m : Mem) (rd n : ℕ) (extension : Extension) (o : Option ℕ) → (loads c m rd n extension o).mem ≡ m
loads_ended c m rd n extension None = refl
loads_ended c m rd n extension (Some v) = refl

effect_ended : (c : Cpu) (m : Mem) (rd : ℕ) (e : Effect) → not (is_on (effected c m rd e).went) ≡ true → (effected c m rd e).mem ≡ m
effect_ended c m rd (Puts v target) h = refl
effect_ended c m rd (Goes target) h = refl
effect_ended c m rd (Loads a n extension) h = loads_ended c m rd n extension (loaded m a n)
effect_ended c m rd (Stores a n v) h = by_place (is_place a n) h
  where
    by_place : (b : Bool) → not (is_on (saved_at b c m a (bytes_of n v)).went) ≡ true → (saved_at b c m a (bytes_of n v)).mem ≡ m
    by_place true h = absurd (cc)
    by_place false h = refl
effect_ended c m rd Stops h = refl

nat_eq_refl : (n : ℕ) → nat_eq n n ≡ true
nat_eq_refl n = grind (arith, nat_tests)

twice_not : (b : Bool) → b ≡ cond (not b) false true
twice_not true = refl
twice_not false = refl

fixed_apart : (code a : ℕ) → is_fixed code a ≡ true → is_buffer a ≡ false
fixed_apart code a h = grind (arith, nat_tests)

low_fixed : (code a : ℕ) → a < 4 → is_fixed code a ≡ true
low_fixed code a h = grind (arith, nat_tests)

code_fixed : (code a : ℕ) → 4096 ≤ a → a < code → is_fixed code a ≡ true
code_fixed code a h l = grind (arith, nat_tests)

none_kept : (o : Option ℕ) (d : ℕ) → o ≡ None → unwrap_or o d ≡ d
none_kept o d h = ap (λ z. unwrap_or z d) h

or_no : (a b c : Bool) → a ≡ false → c ≡ false → (a || (not b && c)) ≡ false
or_no false true c p q = refl
or_no false false c p q = q
or_no true b c p q = absurd (cc)

module _ (run : ℕ → State) (code : ℕ) (u : IsSound run code) where
  mem_next : (t a : ℕ) → (run (suc t)).mem a ≡ unwrap_or (writes run t a) ((run t).mem a)
  mem_next t a = ap (λ (s : State). s.mem a) (u.steps t) ∙ step_mem (run t).cpu (run t).mem a

  code_same : (t a : ℕ) → 4096 ≤ a → a < code → (run t).mem a ≡ (run 0).mem a
  code_same zero a l r = refl
  code_same (suc t) a l r = mem_next t a ∙ none_kept (writes run t a) ((run t).mem a) (u.code_kept t a l r) ∙ code_same t a l r

  begins_flip : (t : ℕ) → start (flip run) (suc t) ≡ suc t → flip run t ≡ true
  begins_flip t b = elim (truth (flip run t)) [
    | inl f ↦ f
    | inr f ↦ absurd (let e = start-calm (flip run) t f in let l = start_le (flip run) t in omega arith)
  ]

  even_resume : (s : ℕ) → start (flip run) s ≡ s → (run (resume s)).cpu.pc % 2 ≡ 0
  even_resume zero b = u.even_first
  even_resume (suc t) b = let f = begins_flip t b in ap (λ z. z % 2) (return_place run code u t f) ∙ u.even t f

  -- ---- recovery

  pub record Wake (s : ℕ) (m : Mem) : Type 0 where
    pub small : (a : ℕ) → m a < 256
    pub stands : Stands m 4096 recovery_words
    pub bit : little m 0 4 < 2
    pub even : little m (buffer (little m 0 4)) 4 % 2 ≡ 0
    pub index : little m 0 4 ≡ index_of (run s).mem

  pub wake : (s : ℕ) (m : Mem) → start (flip run) s ≡ s → IsLive run s m → ((a : ℕ) → is_fixed code a ≡ true → m a ≡ (run s).mem a) → Wake s m
  wake s m b l h =
      let index : little m 0 4 ≡ index_of (run s).mem = little-alike m (run s).mem 4 0 (λ i p q. h i (low_fixed code i q)) in
      record {
        small = l.small;
        stands = stands-alike (run 0).mem m recovery_words 4096 (λ k p q. (let r = u.long in let q' : k < 4352 = q in let in_code : k < code = omega arith in sym (h k (code_fixed code k p in_code) ∙ code_same s k p in_code))) u.recovery;
        bit = subst (λ z. z < 2) (sym index) (u.index s);
        even = ap (λ z. little m (buffer z) 4 % 2) index ∙ ap (λ z. z % 2) l.place ∙ even_resume s b;
        index = index;
      }

  pub can_of : (s : ℕ) (m : Mem) → Wake s m → CanResume m
  can_of s m w = record { bytes = w.small; recovery = w.stands; index = w.bit; even = w.even }

  wakes_on : (s i junk : ℕ) (m : Mem) → start (flip run) s ≡ s → IsLive run s m → ((a : ℕ) → is_fixed code a ≡ true → m a ≡ (run s).mem a) → i < 33 → step_of (waking i junk m) m ≡ record { went = On; cpu = waking (suc i) junk m; mem = m }
  wakes_on s i junk m b l h q = let w = wake s m b l h in recovery_walks m junk (can_of s m w) i q

  unsaved : (s i : ℕ) → start (flip run) s ≡ s → saved run (resume s) i ≡ false
  unsaved zero i b = refl
  unsaved (suc t) i b =
      let f = begins_flip t b in
      ap (λ z. cond z false (saves_reg (run (suc t)) i || (not (sets (run (suc t)) i) && saved run (suc t) i))) (return_calm run code u t f)
      ∙ or_no (saves_reg (run (suc t)) i) (sets (run (suc t)) i) (saved run (suc t) i) (return_saves run code u t i f) (saved-flip run t i f)

  zero_or_more : (i : ℕ) → (i ≡ 0) ⊎ (0 < i)
  zero_or_more i = grind arith

  woken : (s junk : ℕ) (m : Mem) → start (flip run) s ≡ s → IsLive run s m → ((a : ℕ) → is_fixed code a ≡ true → m a ≡ (run s).mem a) → IsLike run (resume s) (waking 33 junk m) m
  woken s junk m b l h =
      let w = wake s m b l h in
      let r = recovered m junk (can_of s m w) in
      record {
        place = r.place ∙ ap (λ z. little m (buffer z) 4) w.index ∙ l.place;
        regs = λ i needed. elim (zero_or_more i) [
          | inl e ↦ ap (waking 33 junk m).x e ∙ r.zero_reg ∙ sym (u.zero_reg (resume s)) ∙ sym (ap (run (resume s)).cpu.x e)
          | inr above ↦ (let o = u.own s i b needed in r.regs i above o.2 o.0 o.1 ∙ ap (λ z. little m (buffer z + 4 * i) 4) w.index ∙ l.regs i needed above)
        ];
        filled = λ i q needed. absurd (let n = unsaved s i b in let bad : true ≡ false = sym q ∙ n in cc);
      }

  pub resumes : (s : ℕ) → start (flip run) s ≡ s → start (flip run) (resume s) ≡ s
  resumes zero b = refl
  resumes (suc t) b = start-calm (flip run) (suc t) (return_calm run code u t (begins_flip t b)) ∙ b

  resumes_unwritten : (s a : ℕ) → start (flip run) s ≡ s → wrote (flip run) (writes run) (resume s) a ≡ false
  resumes_unwritten zero a b = refl
  resumes_unwritten (suc t) a b =
      let f = begins_flip t b in
      wrote-calm (flip run) (writes run) (suc t) a (return_calm run code u t f)
      ∙ ap (λ z. is_some z || wrote (flip run) (writes run) (suc t) a) (ap (λ e. writes_by e a) (return_is run code u t f))
      ∙ wrote-flip (flip run) (writes run) t a f

  -- ---- steps

  regs_next : (t : ℕ) (c : Cpu) (m : Mem) (w : ℕ → Option ℕ) → IsLike run t c m → Paces run t c m w → (i : ℕ) → Needed run (suc t) i → (step_of c m).cpu.x i ≡ (run (suc t)).cpu.x i
  regs_next t c m w k p i needed = elim (truth (sets (run t) i)) [
    | inl s ↦ p.set i s
    | inr s ↦ p.kept i s ∙ k.regs i (needs_next run code u t i s needed) ∙ sym (p.kept_there i s)
  ]

  goes_to : (t : ℕ) (c : Cpu) (m : Mem) (w : ℕ → Option ℕ) → ends run t ≡ false → Paces run t c m w → next_of c m ≡ Goes_to (step_of c m).cpu (step_of c m).mem
  goes_to t c m w e p = ap (next_by (step_of c m)) (p.went ∙ on_of (step_of (run t).cpu (run t).mem).went e)

  plain_buffers : (t : ℕ) (c : Cpu) (m : Mem) → saves_by (effect_at (run t)) ≡ false → Paces run t c m (writes run t) → (k : ℕ) → is_buffer k ≡ true → (step_of c m).mem k ≡ m k
  plain_buffers t c m plain p k b = p.mem k ∙ none_kept (writes run t k) (m k) (no_save (effect_at (run t)) k plain b)

  step_small : (c : Cpu) (m : Mem) → ((a : ℕ) → m a < 256) → (k : ℕ) → (step_of c m).mem k < 256
  step_small c m h k = subst (λ z. z < 256) (sym (step_mem c m k)) (writes_small m (effect_of c m) h k)

  goes_plain : (t : ℕ) (c : Cpu) (m : Mem) → ends run t ≡ false → saves_by (effect_at (run t)) ≡ false → IsLike run t c m → IsLive run (start (flip run) t) m → Agrees (reads run) (memory run) (is_fixed code) t m → Advances next_of (writes run) (flip run) is_buffer (IsLike run) (IsLive run) t c m
  goes_plain t c m e plain k l g =
      let p = paces_plain run code u t c m plain k g.reads g.fixes in
      let keep = plain_buffers t c m plain p in
      let small = step_small c m l.small in
      elim (truth (flip run t)) [
        | inl f ↦ record {
          regs = (step_of c m).cpu;
          mem = (step_of c m).mem;
          step = goes_to t c m (writes run t) e p;
          bytes = λ a out. p.mem a;
          alike = record {
            place = p.place;
            regs = regs_next t c m (writes run t) k p;
            filled = λ i s needed. absurd (let n = saved-flip run t i f in let bad : true ≡ false = sym s ∙ n in cc);
          };
          lives = subst (λ z. IsLive run z (step_of c m).mem) (sym (start-flip (flip run) t f)) (live_flipped run code u t c m (step_of c m).mem f k p keep small);
        }
        | inr f ↦ record {
          regs = (step_of c m).cpu;
          mem = (step_of c m).mem;
          step = goes_to t c m (writes run t) e p;
          bytes = λ a out. p.mem a;
          alike = record {
            place = p.place;
            regs = regs_next t c m (writes run t) k p;
            filled = filled_kept run code u t c m (step_of c m).mem f plain k p keep;
          };
          lives = subst (λ z. IsLive run z (step_of c m).mem) (sym (start-calm (flip run) t f)) (live_kept run code u (start (flip run) t) m (step_of c m).mem (start_start (flip run) t) l (λ a p q. keep a (buffer_inside (index_of (run (start (flip run) t)).mem) a p q)) small);
        }
      ]

  -- a step that saves
  save_of : (t : ℕ) → saves_by (effect_at (run t)) ≡ true → Saves (run t) (u.line t).rs2
  save_of t h = saves_of (run t) (u.line t).rs2 (u.saves t h)

  save_calm : (t : ℕ) → saves_by (effect_at (run t)) ≡ true → flip run t ≡ false
  save_calm t h = elim (truth (flip run t)) [
    | inl f ↦ absurd (let q = flip_plain run code u t f in let bad : true ≡ false = sym h ∙ q in cc)
    | inr f ↦ f
  ]

  -- where it stores nothing
  save_outside : (t : ℕ) (v : Saves (run t) (u.line t).rs2) (x k : ℕ) → is_buffer k ≡ false → writes_by (Stores (idle (index_of (run t).mem) + slot (u.line t).rs2) 4 x) k ≡ None
  save_outside t v x k out = word_outside (idle (index_of (run t).mem) + slot (u.line t).rs2) x k (side (order_of k (idle (index_of (run t).mem) + slot (u.line t).rs2))) v.place
    where
      order_of : (k a : ℕ) → (k < a) ⊎ ((a ≤ k) × ((k < a + 4) ⊎ (a + 4 ≤ k)))
      order_of k a = grind arith

      side : (k < idle (index_of (run t).mem) + slot (u.line t).rs2) ⊎ ((idle (index_of (run t).mem) + slot (u.line t).rs2 ≤ k) × ((k < idle (index_of (run t).mem) + slot (u.line t).rs2 + 4) ⊎ (idle (index_of (run t).mem) + slot (u.line t).rs2 + 4 ≤ k))) → (k < idle (index_of (run t).mem) + slot (u.line t).rs2) ⊎ (idle (index_of (run t).mem) + slot (u.line t).rs2 + 4 ≤ k)
      side (inl l) = inl l
      side (inr p) = elim p.1 [
        | inl l ↦ absurd (let q = idle_inside run code u t (u.line t).rs2 k v.below p.0 l in let bad : true ≡ false = sym q ∙ out in cc)
        | inr l ↦ inr l
      ]

  save_live : (t : ℕ) (v : Saves (run t) (u.line t).rs2) (x a : ℕ) → buffer (index_of (run (start (flip run) t)).mem) ≤ a → a < buffer (index_of (run (start (flip run) t)).mem) + 128 → writes_by (Stores (idle (index_of (run t).mem) + slot (u.line t).rs2) 4 x) a ≡ None
  save_live t v x a l r =
      let e = index_start run code u t in
      let l' = subst (λ z. buffer z ≤ a) e l in
      let r' = subst (λ z. a < buffer z + 128) e r in
      word_outside (idle (index_of (run t).mem) + slot (u.line t).rs2) x a (apart (index_of (run t).mem) (u.line t).rs2 a v.below l' r') v.place

  goes_save : (t : ℕ) (c : Cpu) (m : Mem) → ends run t ≡ false → saves_by (effect_at (run t)) ≡ true → IsLike run t c m → IsLive run (start (flip run) t) m → Agrees (reads run) (memory run) (is_fixed code) t m → Advances next_of (writes run) (flip run) is_buffer (IsLike run) (IsLive run) t c m
  goes_save t c m e h k l g =
      let v = save_of t h in
      let f = save_calm t h in
      let r = (u.line t).rs2 in
      let a = idle (index_of (run t).mem) + slot r in
      let w : ℕ → Option ℕ = λ i. writes_by (Stores a 4 (c.x r)) i in
      let p = paces_save run code u t c m v k g.fixes in
      let unset : (i : ℕ) → sets (run t) i ≡ false = λ i. ap (λ z. sets_by z (rd_of (line_at (run t))) i) v.effect in
      record {
        regs = (step_of c m).cpu;
        mem = (step_of c m).mem;
        step = goes_to t c m w e p;
        bytes = λ i out. p.mem i ∙ none_kept (w i) (m i) (save_outside t v (c.x r) i out) ∙ sym (none_kept (writes run t i) (m i) (ap (λ z. writes_by z i) v.effect ∙ save_outside t v v.value i out));
        alike = record {
          place = p.place;
          regs = regs_next t c m w k p;
          filled = filled_more run code u t c m (step_of c m).mem v f k unset (λ i. p.kept_there i (unset i)) (λ i. p.mem i ∙ ap (λ b. unwrap_or (cond b (patch a (bytes_of 4 (c.x r)) i) None) (m i)) v.place ∙ sym (written-patch m a (bytes_of 4 (c.x r)) i));
        };
        lives = subst (λ z. IsLive run z (step_of c m).mem) (sym (start-calm (flip run) t f)) (live_kept run code u (start (flip run) t) m (step_of c m).mem (start_start (flip run) t) l (λ i x y. p.mem i ∙ none_kept (w i) (m i) (save_live t v (c.x r) i x y)) (step_small c m l.small));
      }

  -- ---- the end of the run

  save_on : (t : ℕ) → saves_by (effect_at (run t)) ≡ true → ends run t ≡ false
  save_on t h =
      let v = save_of t h in
      let d = (run t).cpu in
      let n = (run t).mem in
      let a = idle (index_of n) + slot (u.line t).rs2 in
      ap (λ (s : Stepped). not (is_on s.went)) (step_effected d n (u.line t) (u.decodes t) ∙ ap (λ e. effected d n (u.line t).rd e) (sym (effect_is run code u t) ∙ v.effect))
      ∙ ap (λ b. not (is_on (saved_at b d n a (bytes_of 4 v.value)).went)) v.place

  ends_mem : (t : ℕ) → ends run t ≡ true → (run (suc t)).mem ≡ (run t).mem
  ends_mem t h =
      let d = (run t).cpu in
      let n = (run t).mem in
      let e = step_effected d n (u.line t) (u.decodes t) in
      ap (λ (s : State). s.mem) (u.steps t) ∙ ap (λ (s : Stepped). s.mem) e
      ∙ effect_ended d n (u.line t).rd (effect d (u.line t)) (ap (λ (s : Stepped). not (is_on s.went)) (sym e) ∙ h)

  changes : (t : ℕ) → nat_eq (index_of (run t).mem) (index_of (run (suc t)).mem) ≡ cond (flip run t) false true
  changes t = ap (λ (s : State). nat_eq (index_of (run t).mem) (index_of s.mem)) (u.steps t) ∙ twice_not (nat_eq (index_of (run t).mem) (index_of (stepped (run t)).mem))

  ends_calm : (t : ℕ) → ends run t ≡ true → flip run t ≡ false
  ends_calm t h = elim (truth (flip run t)) [
    | inr f ↦ f
    | inl f ↦ absurd (
        let a = sym (changes t) ∙ ap (λ (m : Mem). nat_eq (index_of (run t).mem) (index_of m)) (ends_mem t h) ∙ nat_eq_refl (index_of (run t).mem) in
        let bad : false ≡ true = sym (ap (λ b. cond b false true) f) ∙ a in cc)
  ]

  stops : (t : ℕ) (c : Cpu) (m : Mem) → ends run t ≡ true → IsLike run t c m → IsLive run (start (flip run) t) m → Agrees (reads run) (memory run) (is_fixed code) t m → next_of c m ≡ Ends
  stops t c m e k l g = elim (truth (saves_by (effect_at (run t)))) [
    | inl s ↦ absurd (let q = save_on t s in let bad : true ≡ false = sym e ∙ q in cc)
    | inr s ↦ (
        let p = paces_plain run code u t c m s k g.reads g.fixes in
        ap (next_by (step_of c m)) p.went ∙ over_of (step_of c m) (step_of (run t).cpu (run t).mem).went e)
  ]

  -- ---- torn stores

  -- each byte is the old one or the one that the whole step leaves
  torn_paces : (t mask : ℕ) (c : Cpu) (m : Mem) (w : ℕ → Option ℕ) → Paces run t c m w → (k : ℕ) → (torn_of mask c m k ≡ m k) ⊎ (torn_of mask c m k ≡ unwrap_or (w k) (m k))
  torn_paces t mask c m w p k = elim (torn_either mask m (effect_of c m) k) [
    | inl e ↦ inl e
    | inr e ↦ inr (e ∙ sym (step_mem c m k) ∙ p.mem k)
  ]

  torn_kept : (t mask : ℕ) (c : Cpu) (m : Mem) (w : ℕ → Option ℕ) → Paces run t c m w → (k : ℕ) → w k ≡ None → torn_of mask c m k ≡ m k
  torn_kept t mask c m w p k h = elim (torn_paces t mask c m w p k) [
    | inl e ↦ e
    | inr e ↦ e ∙ none_kept (w k) (m k) h
  ]

  abbrev Tears : ℕ → ℕ → Cpu → Mem → Type 0
  Tears t mask c m = ((a : ℕ) → is_buffer a ≡ false → (torn_of mask c m a ≡ m a) ⊎ (torn_of mask c m a ≡ patched (writes run t) m a)) × IsLive run (start (flip run) t) (torn_of mask c m)

  tears : (t mask : ℕ) (c : Cpu) (m : Mem) → flip run t ≡ false → IsLike run t c m → IsLive run (start (flip run) t) m → Agrees (reads run) (memory run) (is_fixed code) t m → Tears t mask c m
  tears t mask c m f k l g =
      let small : (i : ℕ) → torn_of mask c m i < 256 = torn_small mask m (effect_of c m) l.small in
      let b = start_start (flip run) t in
      elim (truth (saves_by (effect_at (run t)))) [
        | inl s ↦ (
            let v = save_of t s in
            let r = (u.line t).rs2 in
            let a = idle (index_of (run t).mem) + slot r in
            let w : ℕ → Option ℕ = λ i. writes_by (Stores a 4 (c.x r)) i in
            let p = paces_save run code u t c m v k g.fixes in (
              λ i out. inl (torn_kept t mask c m w p i (save_outside t v (c.x r) i out)),
              live_kept run code u (start (flip run) t) m (torn_of mask c m) b l (λ i x y. torn_kept t mask c m w p i (save_live t v (c.x r) i x y)) small,
            ))
        | inr s ↦ (
            let p = paces_plain run code u t c m s k g.reads g.fixes in (
              λ i out. torn_paces t mask c m (writes run t) p i,
              live_kept run code u (start (flip run) t) m (torn_of mask c m) b l (λ i x y. torn_kept t mask c m (writes run t) p i (no_save (effect_at (run t)) i s (buffer_inside (index_of (run (start (flip run) t)).mem) i x y))) small,
            ))
      ]

  tears_flip : (t mask : ℕ) (c : Cpu) (m : Mem) → flip run t ≡ true → IsLike run t c m → IsLive run (start (flip run) t) m → Agrees (reads run) (memory run) (is_fixed code) t m → (torn_of mask c m ≡ m) ⊎ ((d : Cpu) × (next_of c m ≡ Goes_to d (torn_of mask c m)))
  tears_flip t mask c m f k l g =
      let plain = flip_plain run code u t f in
      let p = paces_plain run code u t c m plain k g.reads g.fixes in
      let s = store_of_flip run code u t f in
      let v = s.0 in
      let bs = bytes_of 4 v in
      let here : effect_of c m ≡ Stores 0 4 v = effect_alike run code u t c m plain k g.fixes ∙ s.1 in
      let torn : torn_of mask c m ≡ masked mask m 0 bs = ap (torn_by mask m) here in
      let whole : (step_of c m).mem ≡ written m 0 bs = fun_ext (λ i. step_mem c m i ∙ ap (λ e. unwrap_or (writes_by e i) (m i)) here ∙ sym (written-patch m 0 bs i)) in
      let index : little m 0 4 ≡ index_of (run t).mem = little-alike m (run t).mem 4 0 (λ i a b. g.fixes i (low_fixed code i b)) in
      let there : index_of (run (suc t)).mem ≡ little (written (run t).mem 0 bs) 0 4 = little-alike (run (suc t)).mem (written (run t).mem 0 bs) 4 0 (λ i a b. mem_next t i ∙ ap (λ e. unwrap_or (writes_by e i) ((run t).mem i)) s.1 ∙ sym (written-patch (run t).mem 0 bs i)) in
      let bit : little (written (run t).mem 0 bs) 0 4 < 2 = subst (λ z. z < 2) there (u.index (suc t)) in
      let bit' : little (written m 0 bs) 0 4 < 2 = bit in
      let old : little m 0 4 < 2 = subst (λ z. z < 2) (sym index) (u.index t) in
      let on : ends run t ≡ false = elim (truth (ends run t)) [ inl e ↦ absurd (let q = ends_calm t e in let bad : true ≡ false = sym f ∙ q in cc) | inr e ↦ e ] in
      elim (torn_flip mask m v bit' old) [
        | inl e ↦ inl (torn ∙ e)
        | inr e ↦ inr ((step_of c m).cpu, goes_to t c m (writes run t) on p ∙ ap (λ z. Goes_to (step_of c m).cpu z) (whole ∙ sym e ∙ sym torn))
      ]

  goes : (t : ℕ) (c : Cpu) (m : Mem) → ends run t ≡ false → IsLike run t c m → IsLive run (start (flip run) t) m → Agrees (reads run) (memory run) (is_fixed code) t m → Advances next_of (writes run) (flip run) is_buffer (IsLike run) (IsLive run) t c m
  goes t c m e k l g = elim (truth (saves_by (effect_at (run t)))) [
    | inl s ↦ goes_save t c m e s k l g
    | inr s ↦ goes_plain t c m e s k l g
  ]

  pub followed : Followed next_of torn_of boot index_of (memory run) (writes run) (reads run) (flip run) (ends run) is_buffer (is_fixed code) (IsLike run) (IsLive run) resume 33 waking
  followed = record {
    writes = λ t a out. mem_next t a;
    safe = u.no_war;
    reads_outside = u.reads_outside;
    fixed_outside = λ a h. fixed_apart code a h;
    fixed_unwritten = u.fixed;
    ends_calm = ends_calm;
    goes = goes;
    stops = stops;
    tears = tears;
    tears_flip = tears_flip;
    index_by = λ m n h. little-alike m n 4 0 (λ i a b. h i b);
    index_changes = changes;
    index_fixed = λ a l. low_fixed code a l;
    wakes = λ junk m. after_none (boot junk) m;
    wakes_on = λ s i junk m b l h q. ap (λ (z : Stepped). next_by z z.went) (wakes_on s i junk m b l h q);
    wakes_whole = λ s i junk mask m b l h q. torn_whole mask (waking i junk m) m (ap (λ (z : Stepped). z.mem) (wakes_on s i junk m b l h q));
    woken = woken;
    resumes = resumes;
    resumes_unwritten = resumes_unwritten;
  }
