-- The two register buffers, step by step.
use Rattle.std.proofs.Common.{◌≡◌, ◌≢◌, ℕ, zero, suc, ◌+◌, ◌-◌, ◌*◌, ◌%◌, ◌^◌, ◌<◌, ◌≤◌, ◌⊎◌, inl, inr, Bool, true, false, cond, Some, refl, sym, ap, ◌∙◌, subst, arith}
use Rattle.std.specs.Prelude.{◌==◌, ◌&&◌, ◌||◌, not, nat_lt, nat_eq}
use Rattle.std.proofs.lemmas.Bool.Decides.{nat_tests}
use Rattle.im_num.specs.Bytes.{bytes_of}
use Rattle.im_mem.specs.Memory.{Mem, little, written, is_place}
use Rattle.im_mem.proofs.Words.{little-alike, little-same, little-other}
use Rattle.im_rv.specs.declared.effect.Effect.TheVariants.{Puts, Stores}
use Rattle.im_rv.specs.Steps.{Cpu, effected, sum_of}
use Rattle.im_ckpt.specs.Buffers.{buffer, is_buffer, slot, idle, saves_by, saves_reg, saved}
use Rattle.im_replay_path.specs.Sections.{start}
use Rattle.im_replay_path.proofs.Times.{truth, start-flip, start-calm}
use Rattle.im_rv.specs.Effects.{effect, rd_of, rs1_of, rs2_of, stores_word, sets_by}
use Rattle.im_device.specs.Run.{index_of}
use Rattle.im_ckpt.specs.Runs.{State, stepped, line_at, effect_at, sets, flip, writes}
use Rattle.im_replay.specs.Needed.{Needed}
use Rattle.im_ckpt.specs.Recovery.{return_line}
use Rattle.im_replay.specs.Sections.{IsLive}
use Rattle.im_replay.proofs.Sound.{IsSound, IsFilled, IsLike}
use Rattle.im_rv.proofs.Tearing.{word_store}
use Rattle.im_replay.proofs.Steps.{Paces, needs_next, needs_used, effect_is, there}
use Rattle.im_ckpt.proofs.Slots.{Saves, saves_of, saves_if, or_cases, idle_other, saved_named, saved-calm, slots_apart}

eq_of : (a b : ℕ) → not (nat_eq a b) ≡ false → a ≡ b
eq_of a b h = grind (arith, nat_tests)

ne_of : (a b : ℕ) → not (nat_eq a b) ≡ true → a ≢ b
ne_of a b h = grind (arith, nat_tests)

three_or : (i : ℕ) → (i ≡ 3) ⊎ (slot i ≡ 4 * i)
three_or i = by_three (i == 3) refl
  where
    by_three : (b : Bool) → (i == 3) ≡ b → (i ≡ 3) ⊎ (slot i ≡ 4 * i)
    by_three true h = inl (grind (arith, nat_tests))
    by_three false h = inr (ap (λ z. cond z 0 (4 * i)) h)

two_ways : (i j : ℕ) → (i ≡ j) ⊎ (i ≢ j)
two_ways i j = grind arith

module _ (run : ℕ → State) (code : ℕ) (u : IsSound run code) where
  -- INDEX stays in a step that is no flip
  pub index_calm : (t : ℕ) → flip run t ≡ false → index_of (run (suc t)).mem ≡ index_of (run t).mem
  index_calm t h = ap (λ (s : State). index_of s.mem) (u.steps t) ∙ sym (eq_of (index_of (run t).mem) (index_of (stepped (run t)).mem) h)

  -- and within a section
  pub index_start : (t : ℕ) → index_of (run (start (flip run) t)).mem ≡ index_of (run t).mem
  index_start zero = refl
  index_start (suc t) = elim (truth (flip run t)) [
    | inl f ↦ ap (λ z. index_of (run z).mem) (start-flip (flip run) t f)
    | inr f ↦ ap (λ z. index_of (run z).mem) (start-calm (flip run) t f) ∙ index_start t ∙ sym (index_calm t f)
  ]

  -- the live buffer stays where its bytes do
  pub live_kept : (s : ℕ) (m n : Mem) → start (flip run) s ≡ s → IsLive run s m → ((a : ℕ) → buffer (index_of (run s).mem) ≤ a → a < buffer (index_of (run s).mem) + 128 → n a ≡ m a) → ((a : ℕ) → n a < 256) → IsLive run s n
  live_kept s m n b l h small =
      let base = buffer (index_of (run s).mem) in
      record {
        place = little-alike n m 4 base (λ i p q. h i p (omega arith)) ∙ l.place;
        regs = λ i needed above. little-alike n m 4 (base + 4 * i) (λ k p q. h k (omega arith) (let o = u.own s i b needed in let below = o.2 in omega arith)) ∙ l.regs i needed above;
        small = small;
      }

  -- a word of the idle buffer that has a slot
  pub idle_inside : (t i k : ℕ) → i < 32 → idle (index_of (run t).mem) + slot i ≤ k → k < idle (index_of (run t).mem) + slot i + 4 → is_buffer k ≡ true
  idle_inside t i k small l r = by_index (index_of (run t).mem == 0) (i == 3) l r
    where
      by_index : (b d : Bool) → cond b 256 128 + cond d 0 (4 * i) ≤ k → k < cond b 256 128 + cond d 0 (4 * i) + 4 → is_buffer k ≡ true
      by_index true true l r = grind (arith, nat_tests)
      by_index true false l r = grind (arith, nat_tests)
      by_index false true l r = grind (arith, nat_tests)
      by_index false false l r = grind (arith, nat_tests)

  -- what is saved stays saved where the buffers stay
  pub filled_kept : (t : ℕ) (c : Cpu) (m n : Mem) → flip run t ≡ false → saves_by (effect_at (run t)) ≡ false → IsLike run t c m → Paces run t c m (writes run t) → ((k : ℕ) → is_buffer k ≡ true → n k ≡ m k) → IsFilled run (suc t) n
  filled_kept t c m n f plain k p h i s needed = elim (or_cases (saves_reg (run t) i) (sets (run t) i) (saved run t i) (sym (saved-calm run t i f) ∙ s)) [
    | inl r ↦ absurd (let q = saves_if (run t) i r in let bad : true ≡ false = sym q ∙ plain in cc)
    | inr r ↦ (
        let b = idle (index_of (run t).mem) + slot i in
        ap (λ z. little n (idle z + slot i) 4) (index_calm t f)
        ∙ little-alike n m 4 b (λ a l g. h a (idle_inside t i a (saved_named run t i r.1).1 l g))
        ∙ k.filled i r.1 (needs_next run code u t i r.0 needed)
        ∙ sym (p.kept_there i r.0))
  ]

  -- a register is saved, those before stay
  pub filled_more : (t : ℕ) (c : Cpu) (m n : Mem) (v : Saves (run t) (u.line t).rs2) → flip run t ≡ false → IsLike run t c m → ((i : ℕ) → sets (run t) i ≡ false) → ((i : ℕ) → (run (suc t)).cpu.x i ≡ (run t).cpu.x i)
      → ((k : ℕ) → n k ≡ written m (idle (index_of (run t).mem) + slot (u.line t).rs2) (bytes_of 4 (c.x (u.line t).rs2)) k) → IsFilled run (suc t) n
  filled_more t c m n v f k unset same h i s needed =
      let r = (u.line t).rs2 in
      let b = idle (index_of (run t).mem) in
      let now = needs_next run code u t i (unset i) needed in
      let w : Mem = written m (b + slot r) (bytes_of 4 (c.x r)) in
      ap (λ z. little n (idle z + slot i) 4) (index_calm t f)
      ∙ little-alike n w 4 (b + slot i) (λ a l g. h a)
      ∙ elim (two_ways i r) [
        | inl e ↦ (
            let value : c.x r ≡ (run t).cpu.x r = k.regs r (subst (λ z. Needed run t z) e now) in
            let word : c.x r < 2 ^ 32 = subst (λ z. z < 2 ^ 32) (sym value) (u.words t r) in
            ap (λ z. little w (b + slot z) 4) e ∙ little-same m (b + slot r) (c.x r) word ∙ value ∙ sym (ap (λ z. (run t).cpu.x z) e))
        | inr ne ↦ elim (or_cases (saves_reg (run t) i) (sets (run t) i) (saved run t i) (sym (saved-calm run t i f) ∙ s)) [
          | inl q ↦ absurd (ne ((saves_of (run t) i q).source ∙ ap rs2_of (u.decodes t)))
          | inr q ↦ (
              let g = (saved_named run t i q.1).0 in
              little-other m (b + slot r) 4 (c.x r) (b + slot i) 4 (slots_apart b i r g v.above ne)
              ∙ k.filled i q.1 now)
        ]
      ]
      ∙ sym (same i)

  -- ---- the flip

  pub store_of_flip : (t : ℕ) → flip run t ≡ true → (v : ℕ) × (effect_at (run t) ≡ Stores 0 4 v) × (is_place 0 4 ≡ true)
  store_of_flip t f = word_store (effect_at (run t)) 0 (u.flips t f)

  pub flip_unsets : (t i : ℕ) → flip run t ≡ true → sets (run t) i ≡ false
  flip_unsets t i f = let s = store_of_flip t f in ap (λ e. sets_by e (rd_of (line_at (run t))) i) s.1

  pub flip_plain : (t : ℕ) → flip run t ≡ true → saves_by (effect_at (run t)) ≡ false
  flip_plain t f = let s = store_of_flip t f in ap saves_by s.1

  -- the return behind a flip
  pub return_is : (t : ℕ) → flip run t ≡ true → effect_at (run (suc t)) ≡ Puts (sum_of (run (suc t)).cpu.pc 4) (sum_of ((run (suc t)).cpu.x 3) 0 - sum_of ((run (suc t)).cpu.x 3) 0 % 2)
  return_is t f = effect_is run code u (suc t) ∙ ap (λ l. effect (run (suc t)).cpu l) (u.returns t f)

  return_line_is : (t : ℕ) → flip run t ≡ true → line_at (run (suc t)) ≡ Some return_line
  return_line_is t f = u.decodes (suc t) ∙ ap Some (u.returns t f)

  and_no : (b : Bool) → (b && false) ≡ false
  and_no true = refl
  and_no false = refl

  pub return_unsets : (t i : ℕ) → flip run t ≡ true → sets (run (suc t)) i ≡ false
  return_unsets t i f = ap (λ e. sets_by e (rd_of (line_at (run (suc t)))) i) (return_is t f) ∙ ap (λ o. i == rd_of o && nat_lt 0 (rd_of o)) (return_line_is t f) ∙ and_no (i == 0)

  pub return_regs : (t i : ℕ) → flip run t ≡ true → (run (suc (suc t))).cpu.x i ≡ (run (suc t)).cpu.x i
  return_regs t i f =
      let d = (run (suc t)).cpu in
      let n = (run (suc t)).mem in
      ap (λ (s : State). s.cpu.x i) (there run code u (suc t))
      ∙ ap (λ l. (effected d n l.rd (effect d l)).cpu.x i) (u.returns t f)
      ∙ ap (λ b. cond b (sum_of d.pc 4) (d.x i)) (and_no (i == 0))

  even_jump : (x : ℕ) → x < 2 ^ 32 → x % 2 ≡ 0 → sum_of x 0 - sum_of x 0 % 2 ≡ x
  even_jump x a b = grind (arith, a, b)

  pub return_place : (t : ℕ) → flip run t ≡ true → (run (suc (suc t))).cpu.pc ≡ (run (suc t)).cpu.x 3
  return_place t f =
      let d = (run (suc t)).cpu in
      let n = (run (suc t)).mem in
      ap (λ (s : State). s.cpu.pc) (there run code u (suc t))
      ∙ ap (λ l. (effected d n l.rd (effect d l)).cpu.pc) (u.returns t f)
      ∙ even_jump (d.x 3) (u.words (suc t) 3) (u.even t f)

  return_mem : (t : ℕ) → flip run t ≡ true → (run (suc (suc t))).mem ≡ (run (suc t)).mem
  return_mem t f =
      let d = (run (suc t)).cpu in
      let n = (run (suc t)).mem in
      ap (λ (s : State). s.mem) (there run code u (suc t))
      ∙ ap (λ l. (effected d n l.rd (effect d l)).mem) (u.returns t f)

  nat_eq_refl : (n : ℕ) → nat_eq n n ≡ true
  nat_eq_refl n = grind (arith, nat_tests)

  pub return_calm : (t : ℕ) → flip run t ≡ true → flip run (suc t) ≡ false
  return_calm t f =
      ap (λ (s : State). not (nat_eq (index_of (run (suc t)).mem) (index_of s.mem))) (sym (u.steps (suc t)))
      ∙ ap (λ (m : Mem). not (nat_eq (index_of (run (suc t)).mem) (index_of m))) (return_mem t f)
      ∙ ap not (nat_eq_refl (index_of (run (suc t)).mem))

  pub return_saves : (t i : ℕ) → flip run t ≡ true → saves_reg (run (suc t)) i ≡ false
  return_saves t i f = ap (λ e. nat_lt 0 i && nat_lt i 32 && i == rs2_of (line_at (run (suc t))) && stores_word e (idle (index_of (run (suc t)).mem) + slot i)) (return_is t f) ∙ and_no (nat_lt 0 i && nat_lt i 32 && i == rs2_of (line_at (run (suc t))))

  -- x3 is needed behind a flip, for the return
  link_needed : (t : ℕ) → flip run t ≡ true → Needed run (suc t) 3
  link_needed t f = needs_used run code u (suc t) 3 (ap (λ o. 3 == rs1_of o || (3 == rs2_of o && not (saves_by (effect_at (run (suc t)))))) (return_line_is t f))

  -- INDEX after a flip
  index_flipped : (t : ℕ) → flip run t ≡ true → buffer (index_of (run (suc t)).mem) ≡ idle (index_of (run t).mem)
  index_flipped t f = idle_other (index_of (run t).mem) (index_of (run (suc t)).mem) (u.index t) (u.index (suc t)) (λ q. ne_of (index_of (run t).mem) (index_of (stepped (run t)).mem) f (q ∙ ap (λ (s : State). index_of s.mem) (u.steps t)))

  -- the buffer that was idle is the live one, and holds what is needed
  pub live_flipped : (t : ℕ) (c : Cpu) (m n : Mem) → flip run t ≡ true → IsLike run t c m → Paces run t c m (writes run t) → ((k : ℕ) → is_buffer k ≡ true → n k ≡ m k) → ((a : ℕ) → n a < 256) → IsLive run (suc t) n
  live_flipped t c m n f k p h small =
      let b = idle (index_of (run t).mem) in
      let word : (i : ℕ) → Needed run (suc t) i → 0 < i → little n (b + slot i) 4 ≡ (run (suc t)).cpu.x i = λ i needed above. (
      let s = u.filled t i f needed above in
      little-alike n m 4 (b + slot i) (λ a l g. h a (idle_inside t i a (saved_named run t i s).1 l g))
      ∙ k.filled i s (needs_next run code u t i (flip_unsets t i f) needed)
      ∙ sym (p.kept_there i (flip_unsets t i f))) in
      record {
        place = ap (λ z. little n z 4) (index_flipped t f) ∙ ap (λ z. little n z 4) (let q : b ≡ b + slot 3 = omega arith in q) ∙ word 3 (link_needed t f) (omega arith) ∙ sym (return_place t f);
        regs = λ i needed above. (
            let o = u.own (suc t) i (start-flip (flip run) t f) needed in
            let q : slot i ≡ 4 * i = elim (three_or i) [ inl e ↦ absurd (o.0 e) | inr e ↦ e ] in
            ap (λ z. little n (z + 4 * i) 4) (index_flipped t f)
            ∙ ap (λ z. little n (b + z) 4) (sym q)
            ∙ word i (needs_next run code u (suc t) i (return_unsets t i f) needed) above
            ∙ sym (return_regs t i f));
        small = small;
      }
