-- The checkpoint's contract.
use Rattle.std.proofs.Common.{◌≡◌, ◌≢◌, ℕ, zero, suc, ◌+◌, ◌-◌, ◌*◌, ◌<◌, ◌≤◌, ◌⊎◌, inl, inr, Bool, true, false, cond, Option, Some, None, List, refl, sym, ap, ◌∙◌, subst, arith}
use Rattle.std.specs.Prelude.{◌==◌, ◌&&◌, nat_lt, unwrap_or}
use Rattle.std.proofs.lemmas.Bool.Decides.{nat_tests}
use Rattle.std.proofs.Math.Path.{fun_ext}
use Rattle.im_num.specs.Bytes.{bytes_of}
use Rattle.im_mem.specs.Memory.{Mem, little, loaded, written, is_place}
use Rattle.im_mem.proofs.Words.{little-alike, little-same, little-other}
use Rattle.im_rv.specs.declared.effect.Effect.{Effect}
use Rattle.im_rv.specs.declared.effect.Effect.TheVariants.{Puts, Goes, Loads, Stores, Stops}
use Rattle.im_rv.specs.Steps.{Cpu, effected, loads, with_reg, sum_of}
use Rattle.im_rv.specs.Decode.{Line}
use Rattle.im_rv.specs.Effects.{effect, rd_of, patch, writes_by, sets_by}
use Rattle.im_device.specs.Run.{index_of}
use Rattle.im_rv.specs.Torn.{masked, torn_by, torn_of}
use Rattle.im_ckpt.specs.Runs.{State, line_at, effect_at, writes, sets}
use Rattle.im_ckpt.specs.Buffers.{slot, idle}
use Rattle.im_ckpt.specs.Recovery.{return_line}
use Rattle.im_ckpt.proofs.Rungs.{entry_line, ladder_reg, reg_named, shift_back}
use Rattle.im_ckpt.specs.Checkpoint.{shift_line}
use Rattle.im_ckpt.specs.Laws.{IsCut, HasRuntime, IsIntact, is_saved, idle_at, Checkpoints, CheckpointLaw}
use Rattle.im_rv.proofs.Locality.{saved_at, written-patch}
use Rattle.im_rv.proofs.Tearing.{torn_either, torn_flip}
use Rattle.im_ckpt.proofs.Slots.{word_outside, slots_apart}
use Rattle.im_ckpt.proofs.Phases.{Entering, Climbing, none_kept, mem_next, next_is, effect_is, entry_line_at, ladder_line_at, climb_store, climb_flip, slot_place, in_entry, on_ladder, at_return, comes_back, return_line_at}
use Rattle.im_rv.specs.declared.effect.Extension.{Extension}
use Rattle.im_rv.specs.declared.effect.Extension.TheVariants.{Zero}

-- ---- what a step leaves in the registers

kept_reg : (x : ℕ → ℕ) (rd v i : ℕ) → (i == rd && nat_lt 0 rd) ≡ false → with_reg x rd v i ≡ x i
kept_reg x rd v i h = ap (λ b. cond b v (x i)) h

loads_kept : (c : Cpu) (m : Mem) (rd n : ℕ) (extension : Extension) (o : Option ℕ) (i : ℕ) → (i == rd && nat_lt 0 rd) ≡ false → (loads c m rd n extension o).cpu.x i ≡ c.x i
loads_kept c m rd n extension None i h = refl
loads_kept c m rd n extension (Some v) i h = kept_reg c.x rd _ i h

stores_kept : (b : Bool) (c : Cpu) (m : Mem) (a : ℕ) (bs : List ℕ) (i : ℕ) → (saved_at b c m a bs).cpu.x i ≡ c.x i
stores_kept true c m a bs i = refl
stores_kept false c m a bs i = refl

effect_kept : (c : Cpu) (m : Mem) (rd : ℕ) (e : Effect) (i : ℕ) → sets_by e rd i ≡ false → (effected c m rd e).cpu.x i ≡ c.x i
effect_kept c m rd (Puts v target) i h = kept_reg c.x rd v i h
effect_kept c m rd (Goes target) i h = refl
effect_kept c m rd (Loads a n extension) i h = loads_kept c m rd n extension (loaded m a n) i h
effect_kept c m rd (Stores a n v) i h = stores_kept (is_place a n) c m a (bytes_of n v) i
effect_kept c m rd Stops i h = refl

four_alone : (i : ℕ) → i ≢ 4 → (i == 4 && nat_lt 0 4) ≡ false
four_alone i ne = grind (arith, nat_tests)

and_no : (b : Bool) → (b && false) ≡ false
and_no true = refl
and_no false = refl

-- a byte outside a buffer is none of a slot in it
beside : (base i a : ℕ) → i < 32 → (a < base) ⊎ (base + 128 ≤ a) → (a < base + slot i) ⊎ (base + slot i + 4 ≤ a)
beside base i a l h = by_three (i == 3) h
  where
    by_three : (d : Bool) → (a < base) ⊎ (base + 128 ≤ a) → (a < base + cond d 0 (4 * i)) ⊎ (base + cond d 0 (4 * i) + 4 ≤ a)
    by_three true (inl p) = inl (omega arith)
    by_three true (inr p) = inr (omega arith)
    by_three false (inl p) = inl (omega arith)
    by_three false (inr p) = inr (omega arith)

low_beside : (index a : ℕ) → a < 4 → (a < idle index) ⊎ (idle index + 128 ≤ a)
low_beside index a l = inl (by_zero (index == 0))
  where
    by_zero : (b : Bool) → a < cond b 256 128
    by_zero true = omega arith
    by_zero false = omega arith

-- the place of the ladder that stores a register
saved_place : (m i : ℕ) → 4 ≤ m → m ≤ 31 → is_saved m i ≡ true → (q : ℕ) × (31 ≤ q + m) × (q < 30) × (ladder_reg q ≡ i)
saved_place m i a b h = elim (sides h) [
  | inl e ↦ (27, omega arith, omega arith, sym e)
  | inr (inl e) ↦ (28, omega arith, omega arith, sym e)
  | inr (inr (inl e)) ↦ (29, omega arith, omega arith, sym e)
  | inr (inr (inr p)) ↦ (let x = p.0 in let y = p.1 in (31 - i, omega arith, omega arith, high x y))
]
  where
    sides : is_saved m i ≡ true → (i ≡ 1) ⊎ ((i ≡ 2) ⊎ ((i ≡ 3) ⊎ ((5 ≤ i) × (i ≤ m))))
    sides h = grind (arith, nat_tests)

    lt_true : (i j : ℕ) → i < j → nat_lt i j ≡ true
    lt_true i j h = grind (arith, nat_tests)

    high : 5 ≤ i → i ≤ m → ladder_reg (31 - i) ≡ i
    high l le = ap (λ z. cond z (31 - (31 - i)) (31 - i - 26)) (lt_true (31 - i) 27 (omega arith)) ∙ (let q : 31 - (31 - i) ≡ i = omega arith in q)

order : (m n : ℕ) → (m < n) ⊎ (n ≤ m)
order m n = grind arith

places : (p : ℕ) → p < 31 → (p < 30) ⊎ (p ≡ 30)
places p l = grind arith

module _ (run : ℕ → State) (code : ℕ) (b : HasRuntime run code) where
  -- a step of the routine before the flip: it writes the idle buffer alone, and sets x4 alone
  pub record Inner (u index : ℕ) : Type 0 where
    pub writes_idle : (a : ℕ) → (a < idle index) ⊎ (idle index + 128 ≤ a) → writes run u a ≡ None
    pub sets_four : (i : ℕ) → i ≢ 4 → (run (suc u)).cpu.x i ≡ (run u).cpu.x i

  sets_none : (u i : ℕ) (l : Line) → line_at (run u) ≡ Some l → sets (run u) i ≡ false → (run (suc u)).cpu.x i ≡ (run u).cpu.x i
  sets_none u i l h s = ap (λ (z : State). z.cpu.x i) (next_is run code b u l h) ∙ effect_kept (run u).cpu (run u).mem l.rd (effect (run u).cpu l) i (sym (ap (λ e. sets_by e (rd_of (line_at (run u))) i) (effect_is run code b u l h) ∙ ap (λ o. sets_by (effect (run u).cpu l) (rd_of o) i) h) ∙ s)

  -- where the effect is known
  inner_of : (u index : ℕ) (l : Line) (e : Effect) → line_at (run u) ≡ Some l → effect (run u).cpu l ≡ e → ((a : ℕ) → (a < idle index) ⊎ (idle index + 128 ≤ a) → writes_by e a ≡ None) → ((i : ℕ) → i ≢ 4 → sets_by e l.rd i ≡ false) → Inner u index
  inner_of u index l e h q w s = record {
    writes_idle = λ a o. ap (λ z. writes_by z a) (effect_is run code b u l h ∙ q) ∙ w a o;
    sets_four = λ i ne. sets_none u i l h (ap (λ z. sets_by z (rd_of (line_at (run u))) i) (effect_is run code b u l h ∙ q) ∙ ap (λ o. sets_by e (rd_of o) i) h ∙ s i ne);
  }

  inner_entry : (u t m k index : ℕ) → IsIntact run code u → Entering run u t m k → Inner u index
  inner_entry u t m zero index h e = inner_of u index (entry_line m zero) (Loads 0 4 Zero) (entry_line_at run code b u t m zero h e) (ap (λ z. Loads (sum_of z 0) 4 Zero) h.zero_reg) (λ a o. refl) (λ i ne. four_alone i ne)
  inner_entry u t m (suc zero) index h e = inner_of u index (entry_line m 1) _ (entry_line_at run code b u t m 1 h e) refl (λ a o. refl) (λ i ne. four_alone i ne)
  inner_entry u t m (suc (suc zero)) index h e = inner_of u index (entry_line m 2) _ (entry_line_at run code b u t m 2 h e) refl (λ a o. refl) (λ i ne. four_alone i ne)
  inner_entry u t m (suc (suc (suc zero))) index h e = inner_of u index (entry_line m 3) _ (entry_line_at run code b u t m 3 h e) refl (λ a o. refl) (λ i ne. four_alone i ne)
  inner_entry u t m (suc (suc (suc (suc k)))) index h e = inner_of u index (entry_line m (suc (suc (suc (suc k))))) _ (entry_line_at run code b u t m (suc (suc (suc (suc k)))) h e) refl (λ a o. refl) (λ i ne. and_no (i == 0))

  inner_rung : (u t m p : ℕ) → IsIntact run code u → Climbing run u t m p → p < 31 → Inner u (index_of (run u).mem)
  inner_rung u t m p h e l = elim (places p l) [
    | inl low ↦ (
        let r = ladder_reg p in
        let s = climb_store run code b u t m p h e low in
        let named = reg_named p low in
        record {
          writes_idle = λ a o. ap (λ z. writes_by z a) s.effect ∙ word_outside (idle (index_of (run u).mem) + slot r) ((run u).cpu.x r) a (beside (idle (index_of (run u).mem)) r a named.1 o) (slot_place (index_of (run u).mem) r named.1);
          sets_four = λ i ne. ap (λ (c : Cpu). c.x i) s.next_cpu;
        })
    | inr q ↦ inner_of u (index_of (run u).mem) shift_line _ (ladder_line_at run code b u t m 30 shift_line h (subst (Climbing run u t m) q e) refl shift_back) refl (λ a o. refl) (λ i ne. four_alone i ne)
  ]

  -- the step j behind the jal, where INDEX is as it was then
  inner_at : (t m j : ℕ) → IsCut run t m → IsIntact run code (suc t) → j < m + 5 → index_of (run (t + 1 + j)).mem ≡ index_of (run (suc t)).mem → Inner (t + 1 + j) (index_of (run (suc t)).mem)
  inner_at t m j c f l e = elim (order j 5) [
    | inl low ↦ (let x = in_entry run code b t m j c f low in inner_entry (t + 1 + j) t m j (index_of (run (suc t)).mem) x.0 x.1)
    | inr high ↦ (
        let n = j - 5 in
        let q : t + 6 + n ≡ t + 1 + j = omega arith in
        let x = on_ladder run code b t m n c f (omega arith) in
        let a = c.above in
        let z = c.below in
        let r = inner_rung (t + 6 + n) t m (31 - m + n) x.0 x.1 (omega arith) in
        subst (λ k. Inner (t + 1 + j) k) e (subst (λ k. Inner k (index_of (run k).mem)) q r))
  ]

  still_at : (t m j a : ℕ) → IsCut run t m → IsIntact run code (suc t) → j ≤ m + 5 → (a < idle_at run t) ⊎ (idle_at run t + 128 ≤ a) → (run (t + 1 + j)).mem a ≡ (run (suc t)).mem a
  still_at t m zero a c f l o = ap (λ z. (run z).mem a) (let q : t + 1 + 0 ≡ suc t = omega arith in q)
  still_at t m (suc j) a c f l o =
      let e : index_of (run (t + 1 + j)).mem ≡ index_of (run (suc t)).mem = little-alike (run (t + 1 + j)).mem (run (suc t)).mem 4 0 (λ i x y. still_at t m j i c f (omega arith) (low_beside (index_of (run (suc t)).mem) i y)) in
      let n = inner_at t m j c f (omega arith) e in
      ap (λ z. (run z).mem a) (let q : t + 1 + suc j ≡ suc (t + 1 + j) = omega arith in q)
      ∙ mem_next run code b (t + 1 + j) a ∙ none_kept (writes run (t + 1 + j) a) ((run (t + 1 + j)).mem a) (n.writes_idle a o)
      ∙ still_at t m j a c f (omega arith) o

  index_at : (t m j : ℕ) → IsCut run t m → IsIntact run code (suc t) → j ≤ m + 5 → index_of (run (t + 1 + j)).mem ≡ index_of (run (suc t)).mem
  index_at t m j c f l = little-alike (run (t + 1 + j)).mem (run (suc t)).mem 4 0 (λ i x y. still_at t m j i c f l (low_beside (index_of (run (suc t)).mem) i y))

  regs_at : (t m j i : ℕ) → IsCut run t m → IsIntact run code (suc t) → j ≤ m + 5 → i ≢ 4 → (run (t + 1 + j)).cpu.x i ≡ (run (suc t)).cpu.x i
  regs_at t m zero i c f l ne = ap (λ z. (run z).cpu.x i) (let q : t + 1 + 0 ≡ suc t = omega arith in q)
  regs_at t m (suc j) i c f l ne =
      ap (λ z. (run z).cpu.x i) (let q : t + 1 + suc j ≡ suc (t + 1 + j) = omega arith in q)
      ∙ (inner_at t m j c f (omega arith) (index_at t m j c f (omega arith))).sets_four i ne
      ∙ regs_at t m j i c f (omega arith) ne

  not_four : (q : ℕ) → q < 30 → ladder_reg q ≢ 4
  not_four q l h = by_side (nat_lt q 27) refl h
    where
      by_side : (z : Bool) → nat_lt q 27 ≡ z → cond z (31 - q) (q - 26) ≡ 4 → ⊥
      by_side true e h = (let k : q < 27 = grind (arith, nat_tests) in absurd (omega arith))
      by_side false e h = (let k : 27 ≤ q = grind (arith, nat_tests) in absurd (omega arith))

  apart_regs : (q p : ℕ) → q < p → p < 30 → ladder_reg q ≢ ladder_reg p
  apart_regs q p l h = by_sides (nat_lt q 27) (nat_lt p 27) refl refl
    where
      below : (q : ℕ) → nat_lt q 27 ≡ true → q < 27
      below q e = grind (arith, nat_tests)

      above : (q : ℕ) → nat_lt q 27 ≡ false → 27 ≤ q
      above q e = grind (arith, nat_tests)

      by_sides : (y z : Bool) → nat_lt q 27 ≡ y → nat_lt p 27 ≡ z → cond y (31 - q) (q - 26) ≢ cond z (31 - p) (p - 26)
      by_sides true true d e w = (let a = below q d in let k = below p e in omega arith)
      by_sides true false d e w = (let a = below q d in let k = above p e in omega arith)
      by_sides false true d e w = (let a = above q d in let k = below p e in omega arith)
      by_sides false false d e w = (let a = above q d in let k = above p e in omega arith)

  before_or_now : (q p : ℕ) → q < suc p → (q < p) ⊎ (q ≡ p)
  before_or_now q p l = grind arith

  -- what the ladder's first n steps have stored
  full_at : (t m n q : ℕ) → IsCut run t m → IsIntact run code (suc t) → n ≤ m → 31 ≤ q + m → q < 31 - m + n → q < 30 → little (run (t + 6 + n)).mem (idle_at run t + slot (ladder_reg q)) 4 ≡ (run (suc t)).cpu.x (ladder_reg q)
  full_at t m zero q c f l a h k = absurd (let z = c.below in omega arith)
  full_at t m (suc n) q c f l a h k =
      let z = c.below in
      let y = c.above in
      let u = t + 6 + n in
      let p = 31 - m + n in
      let x = on_ladder run code b t m n c f (omega arith) in
      let base = idle_at run t in
      let later : t + 6 + suc n ≡ suc u = omega arith in
      let same_time : t + 1 + (n + 5) ≡ u = omega arith in
      let e : index_of (run u).mem ≡ index_of (run (suc t)).mem = subst (λ w. index_of (run w).mem ≡ index_of (run (suc t)).mem) same_time (index_at t m (n + 5) c f (omega arith)) in
      ap (λ w. little (run w).mem (base + slot (ladder_reg q)) 4) later ∙ elim (places p (omega arith)) [
        | inl low ↦ (
            let r = ladder_reg p in
            let named = reg_named p low in
            let s = climb_store run code b u t m p x.0 x.1 low in
            let v = (run u).cpu.x r in
            let w : Mem = written (run u).mem (base + slot r) (bytes_of 4 v) in
            let eff : effect_at (run u) ≡ Stores (base + slot r) 4 v = s.effect ∙ ap (λ k. Stores (idle k + slot r) 4 v) e in
            let mem : (i : ℕ) → (run (suc u)).mem i ≡ w i = λ i. (mem_next run code b u i ∙ ap (λ k. unwrap_or (writes_by k i) ((run u).mem i)) eff ∙ ap (λ k. unwrap_or (cond k (patch (base + slot r) (bytes_of 4 v) i) None) ((run u).mem i)) (slot_place (index_of (run (suc t)).mem) r named.1) ∙ sym (written-patch (run u).mem (base + slot r) (bytes_of 4 v) i)) in
            little-alike (run (suc u)).mem w 4 (base + slot (ladder_reg q)) (λ i g d. mem i) ∙ elim (before_or_now q p (omega arith)) [
              | inl old ↦ little-other (run u).mem (base + slot r) 4 v (base + slot (ladder_reg q)) 4 (slots_apart base (ladder_reg q) r (reg_named q k).0 named.0 (apart_regs q p old low)) ∙ full_at t m n q c f (omega arith) a old k
              | inr now ↦ (
                  ap (λ j. little w (base + slot (ladder_reg j)) 4) now
                  ∙ little-same (run u).mem (base + slot r) v (x.0.words r)
                  ∙ subst (λ j. (run j).cpu.x r ≡ (run (suc t)).cpu.x r) same_time (regs_at t m (n + 5) r c f (omega arith) (not_four p low))
                  ∙ sym (ap (λ j. (run (suc t)).cpu.x (ladder_reg j)) now))
            ])
        | inr top ↦ (
            let s = effect_is run code b u shift_line (ladder_line_at run code b u t m 30 shift_line x.0 (subst (Climbing run u t m) top x.1) refl shift_back) in
            little-alike (run (suc u)).mem (run u).mem 4 (base + slot (ladder_reg q)) (λ i g d. mem_next run code b u i ∙ none_kept (writes run u i) ((run u).mem i) (ap (λ k. writes_by k i) s))
            ∙ full_at t m n q c f (omega arith) a (omega arith) k)
      ]

  four_bytes : (u v : ℕ) → ((i : ℕ) → (run (suc u)).mem i ≡ written (run u).mem 0 (bytes_of 4 v) i) → (run (suc u)).mem ≡ written (run u).mem 0 (bytes_of 4 v)
  four_bytes u v h = fun_ext h

  pub checkpoints : (t m : ℕ) → IsCut run t m → IsIntact run code (suc t) → Checkpoints run t m
  checkpoints t m c f =
      let z = c.below in
      let y = c.above in
      let x = on_ladder run code b t m m c f (omega arith) in
      let top : 31 - m + m ≡ 31 = omega arith in
      let u = t + 6 + m in
      let s = climb_flip run code b u t m x.0 (subst (Climbing run u t m) top x.1) in
      let here : u ≡ t + m + 6 = omega arith in
      let next : suc u ≡ t + m + 7 = omega arith in
      let same_time : t + 1 + (m + 5) ≡ u = omega arith in
      let e : index_of (run u).mem ≡ index_of (run (suc t)).mem = subst (λ w. index_of (run w).mem ≡ index_of (run (suc t)).mem) same_time (index_at t m (m + 5) c f (omega arith)) in
      let v : ℕ = cond (index_of (run (suc t)).mem == 0) 1 0 in
      let eff : effect_at (run u) ≡ Stores 0 4 v = s.effect ∙ ap (λ k. Stores 0 4 (cond (k == 0) 1 0)) e in
      let mem : (run (suc u)).mem ≡ written (run u).mem 0 (bytes_of 4 v) = four_bytes u v (λ i. mem_next run code b u i ∙ ap (λ k. unwrap_or (writes_by k i) ((run u).mem i)) eff ∙ sym (written-patch (run u).mem 0 (bytes_of 4 v) i)) in
      let r = at_return run code b t m c f in
      let l = return_line_at run code b (t + m + 7) t m r.0 r.1 in
      let behind : suc (t + m + 7) ≡ t + m + 8 = omega arith in
      let bit : little (written (run u).mem 0 (bytes_of 4 v)) 0 4 < 2 = subst (λ (k : Mem). index_of k < 2) (ap (λ w. (run w).mem) (sym next) ∙ mem) r.0.bit in
      let whole : (mask : ℕ) → torn_of mask (run u).cpu (run u).mem ≡ masked mask (run u).mem 0 (bytes_of 4 v) = λ mask. ap (torn_by mask (run u).mem) eff in
      record {
        only_idle = λ k a le o. still_at t m k a c f le o;
        torn_idle = λ k mask a lt o. elim (torn_either mask (run (t + 1 + k)).mem (effect_at (run (t + 1 + k))) a) [
          | inl q ↦ q ∙ still_at t m k a c f (omega arith) o
          | inr q ↦ q ∙ none_kept (writes run (t + 1 + k) a) ((run (t + 1 + k)).mem a) ((inner_at t m k c f lt (index_at t m k c f (omega arith))).writes_idle a o) ∙ still_at t m k a c f (omega arith) o
        ];
        full = λ i g. (let q = saved_place m i y z g in let a = q.1 in let d = q.2 in
            ap (λ w. little (run w).mem (idle_at run t + slot i) 4) (sym here)
            ∙ ap (λ w. little (run u).mem (idle_at run t + slot w) 4) (sym q.3)
            ∙ full_at t m m q.0 c f (omega arith) q.1 (omega arith) q.2
            ∙ ap (λ w. (run (suc t)).cpu.x w) q.3);
        flips = ap (λ w. (run w).mem) (sym next) ∙ mem ∙ ap (λ w. written (run w).mem 0 (bytes_of 4 v)) here;
        torn_flip = λ mask. subst (λ w. (torn_of mask (run w).cpu (run w).mem ≡ (run w).mem) ⊎ (torn_of mask (run w).cpu (run w).mem ≡ (run (t + m + 7)).mem)) here (elim (torn_flip mask (run u).mem v bit x.0.bit) [
          | inl q ↦ inl (whole mask ∙ q)
          | inr q ↦ inr (whole mask ∙ q ∙ sym mem ∙ ap (λ w. (run w).mem) next)
        ]);
        back = (comes_back run code b t m c f).1;
        regs = λ i ne.
            ap (λ w. (run w).cpu.x i) (sym behind)
            ∙ sets_none (t + m + 7) i return_line l (ap (λ k. sets_by k (rd_of (line_at (run (t + m + 7)))) i) (effect_is run code b (t + m + 7) return_line l) ∙ ap (λ o. i == rd_of o && nat_lt 0 (rd_of o)) l ∙ and_no (i == 0))
            ∙ ap (λ w. (run w).cpu.x i) (sym next)
            ∙ ap (λ (d : Cpu). d.x i) s.next_cpu
            ∙ subst (λ w. (run w).cpu.x i ≡ (run (suc t)).cpu.x i) same_time (regs_at t m (m + 5) i c f (omega arith) ne);
        still = ap (λ w. (run w).mem) (sym behind) ∙ ap (λ (d : State). d.mem) (next_is run code b (t + m + 7) return_line l);
      }

pub checkpoint_law : CheckpointLaw
checkpoint_law run code t m b c f = checkpoints run code b t m c f
