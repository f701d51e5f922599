-- A run that has what the compiler owes is sound.
use Rattle.std.proofs.Common.{◌≡◌, ◌≢◌, ℕ, zero, suc, ◌+◌, ◌-◌, ◌/◌, ◌%◌, ◌<◌, ◌≤◌, ◌⊎◌, inl, inr, Bool, true, false, cond, Option, Some, None, refl, sym, ap, ◌∙◌, subst, arith}
use Rattle.std.specs.Prelude.{◌==◌, ◌&&◌, ◌||◌, not, nat_lt, nat_eq, is_some}
use Rattle.std.proofs.lemmas.Bool.Decides.{nat_tests}
use Rattle.im_num.specs.Bytes.{bytes_of}
use Rattle.im_mem.specs.Memory.{is_place}
use Rattle.im_mem.proofs.Words.{little-alike}
use Rattle.im_rv.specs.declared.effect.Effect.{Effect}
use Rattle.im_rv.specs.declared.effect.Effect.TheVariants.{Puts, Goes, Loads, Stores, Stops}
use Rattle.im_rv.specs.Steps.{sum_of}
use Rattle.im_rv.specs.Decode.{Line}
use Rattle.im_replay_path.specs.Sections.{start, NoWar}
use Rattle.im_replay_path.proofs.Times.{truth, start-calm, start_le}
use Rattle.im_device.specs.Run.{index_of}
use Rattle.im_ckpt.specs.Runs.{State, line_at, effect_at, flip, writes, reads}
use Rattle.im_rv.specs.Effects.{rs1_of, rs2_of, patch, writes_by, reads_by, stores_word}
use Rattle.im_ckpt.specs.Buffers.{is_buffer, is_fixed, saves_by, saves_reg, saved}
use Rattle.im_replay.specs.Needed.{uses, Needed}
use Rattle.im_replay.specs.Sections.{resume}
use Rattle.im_ckpt.specs.Recovery.{return_line}
use Rattle.im_replay.proofs.Sound.{IsSound}
use Rattle.im_ckpt.proofs.Rungs.{entry_line, ladder_reg, reg_named, shift_back}
use Rattle.im_ckpt.specs.Checkpoint.{shift_line}
use Rattle.im_ckpt.specs.Laws.{is_runtime, IsIntact}
use Rattle.im_replay.specs.Owed.{IsOwed}
use Rattle.im_ckpt.proofs.Phases.{Entering, Climbing, Returning, Phase, Outside, Enters, Climbs, Returns, none_kept, mem_next, effect_is, calm_of, entry_line_at, ladder_line_at, Stores_at, climb_store, low_writes, high_writes, Flips_at, climb_flip, flip_low, returning, return_line_at, link_even, enters, inside_on}
use Rattle.im_rv.specs.declared.effect.Extension.TheVariants.{Zero}

fixed_sides : (code a : ℕ) → is_fixed code a ≡ true → (a < 4) ⊎ (4096 ≤ a)
fixed_sides code a h = grind (arith, nat_tests)

low_fixed : (code a : ℕ) → a < 4 → is_fixed code a ≡ true
low_fixed code a h = grind (arith, nat_tests)

code_fixed : (code a : ℕ) → 4096 ≤ a → a < code → is_fixed code a ≡ true
code_fixed code a h l = grind (arith, nat_tests)

index_apart : (a : ℕ) → reads_by (Loads 0 4 Zero) a ≡ true → is_buffer a ≡ false
index_apart a h = grind (arith, nat_tests)

some_first : (a v n : ℕ) → is_some (patch a (bytes_of (suc n) v) a) ≡ true
some_first a v n = ap (λ b. is_some (cond b (Some (v % 256)) (patch (a + 1) (bytes_of n (v / 256)) a))) (eq_refl a)
  where
    eq_refl : (k : ℕ) → (k == k) ≡ true
    eq_refl k = grind (arith, nat_tests)

or_left : (a b : Bool) → a ≡ true → (a || b) ≡ true
or_left a b h = ap (λ z. z || b) h

or_right : (a b : Bool) → b ≡ true → (a || b) ≡ true
or_right true b h = refl
or_right false b h = h

or_cases : (a b : Bool) → (a || b) ≡ true → (a ≡ true) ⊎ (b ≡ true)
or_cases true b h = inl refl
or_cases false b h = inr h

lt_true : (i j : ℕ) → i < j → nat_lt i j ≡ true
lt_true i j h = grind (arith, nat_tests)

equal_of : (i j : ℕ) → (i == j) ≡ true → i ≡ j
equal_of i j h = grind (arith, nat_tests)

place_sizes : (a n : ℕ) → is_place a n ≡ true → (n ≡ 1) ⊎ ((n ≡ 2) ⊎ (n ≡ 4))
place_sizes a n h = grind (arith, nat_tests)

-- a store into a buffer writes a byte of one
saved_byte : (e : Effect) → saves_by e ≡ true → (a : ℕ) × (is_buffer a ≡ true) × (is_some (writes_by e a) ≡ true)
saved_byte (Puts v target) h = absurd (cc)
saved_byte (Goes target) h = absurd (cc)
saved_byte (Loads a n extension) h = absurd (cc)
saved_byte (Stores a n v) h = elim (truth (is_place a n)) [
  | inl p ↦ (
    a,
    sym (ap (λ b. b && is_buffer a) p) ∙ h,
    ap (λ b. is_some (cond b (patch a (bytes_of n v) a) None)) p ∙ elim (place_sizes a n p) [
      | inl e ↦ ap (λ k. is_some (patch a (bytes_of k v) a)) e ∙ some_first a v 0
      | inr (inl e) ↦ ap (λ k. is_some (patch a (bytes_of k v) a)) e ∙ some_first a v 1
      | inr (inr e) ↦ ap (λ k. is_some (patch a (bytes_of k v) a)) e ∙ some_first a v 3
    ],
  )
  | inr p ↦ absurd (let q = sym (ap (λ b. b && is_buffer a) p) ∙ h in cc)
]
saved_byte Stops h = absurd (cc)

module _ (run : ℕ → State) (code : ℕ) (o : IsOwed run code) where
  pub record Here (t : ℕ) : Type 0 where
    pub phase : Phase run t
    pub fine : IsIntact run code t

  plain_on : (t : ℕ) → IsIntact run code t → is_runtime (run t).cpu.pc ≡ false → Here (suc t)
  plain_on t h out =
      let kept : (a : ℕ) → is_fixed code a ≡ true → (run (suc t)).mem a ≡ (run t).mem a = λ a f. mem_next run code o.based t a ∙ none_kept (writes run t a) ((run t).mem a) (o.writes_plain t a out (or_right (is_buffer a) (is_fixed code a) f)) in
      let index : index_of (run (suc t)).mem ≡ index_of (run t).mem = little-alike (run (suc t)).mem (run t).mem 4 0 (λ i a b. kept i (low_fixed code i b)) in
      record {
        phase = elim (truth (is_runtime (run (suc t)).cpu.pc)) [
          | inl into ↦ (let c = o.cuts t out into in Enters t c.0 0 (enters run code o.based t c.0 c.1))
          | inr off ↦ Outside off
        ];
        fine = record {
          same = λ a l g. kept a (code_fixed code a l g) ∙ h.same a l g;
          bit = subst (λ z. z < 2) (sym index) h.bit;
          zero_reg = o.zero_reg (suc t);
          words = o.words (suc t);
        };
      }

  pub here : (t : ℕ) → Here t
  here zero = record { phase = Outside o.outside_first; fine = record { same = λ a l g. refl; bit = o.index_first; zero_reg = o.zero_reg 0; words = o.words 0 } }
  here (suc t) = let h = here t in elim (truth (is_runtime (run t).cpu.pc)) [
    | inl into ↦ (let n = inside_on run code o.based t h.fine h.phase into in record { phase = n.1; fine = n.0 })
    | inr out ↦ plain_on t h.fine out
  ]

  -- what the step of a time does
  pub data Doing (t : ℕ) : Type 0 where
    Plain : is_runtime (run t).cpu.pc ≡ false → Doing t
    Reads_index : effect_at (run t) ≡ Loads 0 4 Zero → Doing t
    Moves : (v target : ℕ) → effect_at (run t) ≡ Puts v target → Doing t
    Saves_reg : (r v : ℕ) → r < 32 → Stores_at run code o.based t r v → Doing t
    Flips : (t0 m : ℕ) → Climbing run t t0 m 31 → Flips_at run code o.based t → Doing t

  entering : (t t0 m k : ℕ) → IsIntact run code t → Entering run t t0 m k → Doing t
  entering t t0 m zero h e = Reads_index (effect_is run code o.based t (entry_line m zero) (entry_line_at run code o.based t t0 m zero h e) ∙ ap (λ z. Loads (sum_of z 0) 4 Zero) (o.zero_reg t))
  entering t t0 m (suc zero) h e = Moves _ _ (effect_is run code o.based t (entry_line m 1) (entry_line_at run code o.based t t0 m 1 h e))
  entering t t0 m (suc (suc zero)) h e = Moves _ _ (effect_is run code o.based t (entry_line m 2) (entry_line_at run code o.based t t0 m 2 h e))
  entering t t0 m (suc (suc (suc zero))) h e = Moves _ _ (effect_is run code o.based t (entry_line m 3) (entry_line_at run code o.based t t0 m 3 h e))
  entering t t0 m (suc (suc (suc (suc k)))) h e = Moves _ _ (effect_is run code o.based t (entry_line m (suc (suc (suc (suc k))))) (entry_line_at run code o.based t t0 m (suc (suc (suc (suc k)))) h e))

  places : (p : ℕ) → p ≤ 31 → (p < 30) ⊎ ((p ≡ 30) ⊎ (p ≡ 31))
  places p l = grind arith

  doing_in : (t : ℕ) → IsIntact run code t → Phase run t → Doing t
  doing_in t h (Outside out) = Plain out
  doing_in t h (Enters t0 m k e) = entering t t0 m k h e
  doing_in t h (Climbs t0 m p e) = elim (places p e.to) [
    | inl low ↦ Saves_reg (ladder_reg p) ((run t).cpu.x (ladder_reg p)) (reg_named p low).1 (climb_store run code o.based t t0 m p h e low)
    | inr (inl q) ↦ (let e' = subst (Climbing run t t0 m) q e in Moves _ _ (effect_is run code o.based t shift_line (ladder_line_at run code o.based t t0 m 30 shift_line h e' refl shift_back)))
    | inr (inr q) ↦ (let e' = subst (Climbing run t t0 m) q e in Flips t0 m e' (climb_flip run code o.based t t0 m h e'))
  ]
  doing_in t h (Returns t0 m e) = Moves _ _ (effect_is run code o.based t return_line (return_line_at run code o.based t t0 m h e))

  pub doing : (t : ℕ) → Doing t
  doing t = let h = here t in doing_in t h.fine h.phase

  -- what only a flip writes
  unwritten : (t a : ℕ) → is_fixed code a ≡ true → ((t0 m : ℕ) → Climbing run t t0 m 31 → Flips_at run code o.based t → writes run t a ≡ None) → Doing t → writes run t a ≡ None
  unwritten t a f at_flip (Plain out) = o.writes_plain t a out (or_right (is_buffer a) (is_fixed code a) f)
  unwritten t a f at_flip (Reads_index e) = ap (λ z. writes_by z a) e
  unwritten t a f at_flip (Moves v target e) = ap (λ z. writes_by z a) e
  unwritten t a f at_flip (Saves_reg r v l s) = ap (λ z. writes_by z a) s.effect ∙ elim (fixed_sides code a f) [
    | inl low ↦ low_writes run code o.based (index_of (run t).mem) r v a l (omega arith)
    | inr high ↦ high_writes run code o.based (index_of (run t).mem) r v a l (omega arith)
  ]
  unwritten t a f at_flip (Flips t0 m e s) = at_flip t0 m e s

  code_kept : (t a : ℕ) → 4096 ≤ a → a < code → writes run t a ≡ None
  code_kept t a l r = unwritten t a (code_fixed code a l r) (λ t0 m e s. ap (λ z. writes_by z a) s.effect ∙ flip_low run code o.based (cond (index_of (run t).mem == 0) 1 0) a (omega arith)) (doing t)

  -- a step that is no flip leaves INDEX
  index_of_unwritten : (t : ℕ) → ((a : ℕ) → a < 4 → writes run t a ≡ None) → flip run t ≡ false
  index_of_unwritten t h = calm_of run code o.based t (little-alike (run (suc t)).mem (run t).mem 4 0 (λ i a b. mem_next run code o.based t i ∙ none_kept (writes run t i) ((run t).mem i) (h i b)))

  pub record Flip_phase (t : ℕ) : Type 0 where
    pub t0 : ℕ
    pub m : ℕ
    pub climbing : Climbing run t t0 m 31
    pub flips : Flips_at run code o.based t

  calm_or_flip : (t : ℕ) → Doing t → (flip run t ≡ false) ⊎ Flip_phase t
  calm_or_flip t (Plain out) = inl (index_of_unwritten t (λ a l. o.writes_plain t a out (or_right (is_buffer a) (is_fixed code a) (low_fixed code a l))))
  calm_or_flip t (Reads_index e) = inl (index_of_unwritten t (λ a l. ap (λ z. writes_by z a) e))
  calm_or_flip t (Moves v target e) = inl (index_of_unwritten t (λ a l. ap (λ z. writes_by z a) e))
  calm_or_flip t (Saves_reg r v l s) = inl (index_of_unwritten t (λ a b. ap (λ z. writes_by z a) s.effect ∙ low_writes run code o.based (index_of (run t).mem) r v a l (omega arith)))
  calm_or_flip t (Flips t0 m e s) = inr (record { t0 = t0; m = m; climbing = e; flips = s })

  pub flip_phase : (t : ℕ) → flip run t ≡ true → Flip_phase t
  flip_phase t f = elim (calm_or_flip t (doing t)) [
    | inl c ↦ absurd (let bad : true ≡ false = sym f ∙ c in cc)
    | inr p ↦ p
  ]

  -- INDEX does change in a flip
  pub flip_is : (t : ℕ) → Flips_at run code o.based t → flip run t ≡ true
  flip_is t s = ap (λ (z : State). not (nat_eq (index_of (run t).mem) (index_of z.mem))) (sym (o.based.steps t)) ∙ ap (λ z. not (nat_eq (index_of (run t).mem) z)) s.index ∙ other (index_of (run t).mem) (here t).fine.bit
    where
      other : (n : ℕ) → n < 2 → not (nat_eq n (cond (n == 0) 1 0)) ≡ true
      other n l = by_bit (bits n l)
        where
          bits : (n : ℕ) → n < 2 → (n ≡ 0) ⊎ (n ≡ 1)
          bits n l = grind arith

          by_bit : (n ≡ 0) ⊎ (n ≡ 1) → not (nat_eq n (cond (n == 0) 1 0)) ≡ true
          by_bit (inl q) = ap (λ z. not (nat_eq z (cond (z == 0) 1 0))) q
          by_bit (inr q) = ap (λ z. not (nat_eq z (cond (z == 0) 1 0))) q

  fixed : (t a : ℕ) → is_fixed code a ≡ true → flip run t ≡ false → writes run t a ≡ None
  fixed t a f c = unwritten t a f (λ t0 m e s. absurd (let y = flip_is t s in let bad : true ≡ false = sym y ∙ c in cc)) (doing t)

  reads_outside : (t a : ℕ) → reads run t a ≡ true → is_buffer a ≡ false
  reads_outside t a h = elim (doing t) [
    | Plain out ↦ o.reads_plain t a out h
    | Reads_index e ↦ index_apart a (sym (ap (λ z. reads_by z a) e) ∙ h)
    | Moves v target e ↦ absurd (let q : false ≡ true = sym (ap (λ z. reads_by z a) e) ∙ h in cc)
    | Saves_reg r v l s ↦ absurd (let q : false ≡ true = sym (ap (λ z. reads_by z a) s.effect) ∙ h in cc)
    | Flips t0 m e s ↦ absurd (let q : false ≡ true = sym (ap (λ z. reads_by z a) s.effect) ∙ h in cc)
  ]

  saves : (t : ℕ) → saves_by (effect_at (run t)) ≡ true → saves_reg (run t) (o.line t).rs2 ≡ true
  saves t h = elim (doing t) [
    | Plain out ↦ absurd (
        let b = saved_byte (effect_at (run t)) h in
        let n = o.writes_plain t b.0 out (or_left (is_buffer b.0) (is_fixed code b.0) b.1) in
        let bad : true ≡ false = sym b.2 ∙ ap (λ z. is_some z) n in cc)
    | Reads_index e ↦ absurd (let q : false ≡ true = sym (ap saves_by e) ∙ h in cc)
    | Moves v target e ↦ absurd (let q : false ≡ true = sym (ap saves_by e) ∙ h in cc)
    | Saves_reg r v l s ↦ ap (λ z. saves_reg (run t) z) (sym (ap rs2_of (o.decodes t)) ∙ s.source) ∙ s.saves
    | Flips t0 m e s ↦ absurd (let q : false ≡ true = sym (ap saves_by s.effect) ∙ h in cc)
  ]

  flips_store : (t : ℕ) → flip run t ≡ true → stores_word (effect_at (run t)) 0 ≡ true
  flips_store t f = let p = flip_phase t f in ap (λ z. stores_word z 0) p.flips.effect

  pub after_flip : (t : ℕ) (p : Flip_phase t) → Returning run (suc t) p.t0 p.m
  after_flip t p = returning run code o.based t p.t0 p.m (here t).fine p.climbing

  some_same : (a b : Line) → Some a ≡ Some b → a ≡ b
  some_same a b h = cc

  returns : (t : ℕ) → flip run t ≡ true → o.line (suc t) ≡ return_line
  returns t f = let p = flip_phase t f in some_same (o.line (suc t)) return_line (sym (o.decodes (suc t)) ∙ return_line_at run code o.based (suc t) p.t0 p.m (here (suc t)).fine (after_flip t p))

  even : (t : ℕ) → flip run t ≡ true → (run (suc t)).cpu.x 3 % 2 ≡ 0
  even t f = let p = flip_phase t f in link_even run code o.based (suc t) p.t0 p.m (after_flip t p)

  -- what is needed is used now, or needed next
  now_or_next : (t i : ℕ) → Needed run t i → (uses (run t) i ≡ true) ⊎ Needed run (suc t) i
  now_or_next t i (inr two) = inr (inr two)
  now_or_next t i (inl n) = elim (order_of t n.time n.later) [
    | inl e ↦ inl (subst (λ z. uses (run z) i ≡ true) (sym e) n.used)
    | inr l ↦ inr (inl (record { time = n.time; later = l; used = n.used; unset = λ u a b. n.unset u (omega arith) b }))
  ]
    where
      order_of : (t u : ℕ) → t ≤ u → (t ≡ u) ⊎ (suc t ≤ u)
      order_of t u l = grind arith

  return_uses : (t i : ℕ) → line_at (run t) ≡ Some return_line → uses (run t) i ≡ true → (i ≡ 3) ⊎ (i ≡ 0)
  return_uses t i l h = by_parts (i == 3) (i == 0) refl refl (sym (ap (λ z. i == rs1_of z || (i == rs2_of z && not (saves_by (effect_at (run t))))) l) ∙ h)
    where
      by_parts : (a b : Bool) → (i == 3) ≡ a → (i == 0) ≡ b → (a || (b && not (saves_by (effect_at (run t))))) ≡ true → (i ≡ 3) ⊎ (i ≡ 0)
      by_parts true b p q h = inl (equal_of i 3 p)
      by_parts false true p q h = inr (equal_of i 0 q)
      by_parts false false p q h = absurd (cc)

  resumed : (t i : ℕ) (p : Flip_phase t) → Needed run (suc (suc t)) i → (i ≤ p.m) × (i ≢ 3) × (i ≢ 4)
  resumed t i p n = let q : suc (suc t) ≡ p.t0 + p.m + 8 = (let e = p.climbing.time in omega arith) in o.needs p.t0 p.m i p.climbing.cut (subst (λ z. Needed run z i) q n)

  -- the place of the ladder that stores a register
  place_of : (m i : ℕ) → 4 ≤ m → m ≤ 31 → 0 < i → i ≢ 4 → (i ≤ m) ⊎ (i ≡ 3) → (q : ℕ) × (31 ≤ q + m) × (q < 30) × (ladder_reg q ≡ i)
  place_of m i a b pos n4 h = elim (sides i pos n4) [
    | inl e ↦ (27, omega arith, omega arith, sym e)
    | inr (inl e) ↦ (28, omega arith, omega arith, sym e)
    | inr (inr (inl e)) ↦ (29, omega arith, omega arith, sym e)
    | inr (inr (inr l)) ↦ (let le : i ≤ m = upper h l in (31 - i, omega arith, omega arith, high le l))
  ]
    where
      sides : (i : ℕ) → 0 < i → i ≢ 4 → (i ≡ 1) ⊎ ((i ≡ 2) ⊎ ((i ≡ 3) ⊎ (5 ≤ i)))
      sides i a b = grind arith

      upper : (i ≤ m) ⊎ (i ≡ 3) → 5 ≤ i → i ≤ m
      upper (inl l) g = l
      upper (inr e) g = absurd (omega arith)

      high : i ≤ m → 5 ≤ i → ladder_reg (31 - i) ≡ i
      high le l = ap (λ z. cond z (31 - (31 - i)) (31 - i - 26)) (lt_true (31 - i) 27 (omega arith)) ∙ (let q : 31 - (31 - i) ≡ i = omega arith in q)

  stored : (t i : ℕ) (p : Flip_phase t) → 0 < i → i ≢ 4 → (i ≤ p.m) ⊎ (i ≡ 3) → saved run t i ≡ true
  stored t i p pos n4 h = let q = place_of p.m i p.climbing.cut.above p.climbing.cut.below pos n4 h in ap (λ z. saved run t z) (sym q.3) ∙ p.climbing.done q.0 q.1 (let l = q.2 in omega arith) q.2

  filled : (t i : ℕ) → flip run t ≡ true → Needed run (suc t) i → 0 < i → saved run t i ≡ true
  filled t i f n pos =
      let p = flip_phase t f in
      elim (now_or_next (suc t) i n) [
        | inl now ↦ elim (return_uses (suc t) i (return_line_at run code o.based (suc t) p.t0 p.m (here (suc t)).fine (after_flip t p)) now) [
          | inl three ↦ stored t i p pos (let ne : i ≢ 4 = omega arith in ne) (inr three)
          | inr zero_is ↦ absurd (omega arith)
        ]
        | inr next ↦ (let r = resumed t i p next in stored t i p pos r.2 (inl r.0))
      ]

  begins_flip : (t : ℕ) → start (flip run) (suc t) ≡ suc t → flip run t ≡ true
  begins_flip t b = elim (truth (flip run t)) [
    | inl f ↦ f
    | inr f ↦ absurd (let e = start-calm (flip run) t f in let l = start_le (flip run) t in omega arith)
  ]

  own : (s i : ℕ) → start (flip run) s ≡ s → Needed run (resume s) i → (i ≢ 3) × (i ≢ 4) × (i < 32)
  own zero i b n = o.needs_first i n
  own (suc t) i b n = let p = flip_phase t (begins_flip t b) in let r = resumed t i p n in (r.1, r.2, let a = r.0 in let z = p.climbing.cut.below in omega arith)

  -- no write after read: what the runtime does is read or written by none
  is_none : (x : Option ℕ) → (x ≡ None) ⊎ (is_some x ≡ true)
  is_none None = inl refl
  is_none (Some v) = inr refl

  runtime_writes : (t a : ℕ) → flip run t ≡ false → is_buffer a ≡ false → Doing t → (is_runtime (run t).cpu.pc ≡ false) ⊎ (writes run t a ≡ None)
  runtime_writes t a c out (Plain p) = inl p
  runtime_writes t a c out (Reads_index e) = inr (ap (λ z. writes_by z a) e)
  runtime_writes t a c out (Moves v target e) = inr (ap (λ z. writes_by z a) e)
  runtime_writes t a c out (Saves_reg r v l s) = inr (ap (λ z. writes_by z a) s.effect ∙ elim (sides_of a out) [
    | inl low ↦ low_writes run code o.based (index_of (run t).mem) r v a l low
    | inr high ↦ high_writes run code o.based (index_of (run t).mem) r v a l high
  ])
    where
      sides_of : (a : ℕ) → is_buffer a ≡ false → (a < 128) ⊎ (384 ≤ a)
      sides_of a h = grind (arith, nat_tests)
  runtime_writes t a c out (Flips t0 m e s) = absurd (let y = flip_is t s in let bad : true ≡ false = sym y ∙ c in cc)

  -- outside the runtime, or it reads INDEX alone
  runtime_reads : (t a : ℕ) → reads run t a ≡ true → Doing t → (is_runtime (run t).cpu.pc ≡ false) ⊎ (is_fixed code a ≡ true)
  runtime_reads t a h (Plain p) = inl p
  runtime_reads t a h (Reads_index e) = inr (index_fixed a (sym (ap (λ z. reads_by z a) e) ∙ h))
    where
      index_fixed : (a : ℕ) → reads_by (Loads 0 4 Zero) a ≡ true → is_fixed code a ≡ true
      index_fixed a h = grind (arith, nat_tests)
  runtime_reads t a h (Moves v target e) = absurd (let q : false ≡ true = sym (ap (λ z. reads_by z a) e) ∙ h in cc)
  runtime_reads t a h (Saves_reg r v l s) = absurd (let q : false ≡ true = sym (ap (λ z. reads_by z a) s.effect) ∙ h in cc)
  runtime_reads t a h (Flips t0 m e s) = absurd (let q : false ≡ true = sym (ap (λ z. reads_by z a) s.effect) ∙ h in cc)

  no_war : NoWar (flip run) (writes run) (reads run)
  no_war t u a l same calm r w =
      let out = reads_outside t a r in
      elim (runtime_reads t a r (doing t)) [
        | inr f ↦ fixed u a f calm
        | inl here_out ↦ elim (runtime_writes u a calm out (doing u)) [
          | inr n ↦ n
          | inl there_out ↦ o.no_war t u a l same here_out there_out r w
        ]
      ]

  pub sound : IsSound run code
  sound = record {
    steps = o.based.steps;
    no_war = no_war;
    reads_outside = reads_outside;
    fixed = fixed;
    code_kept = code_kept;
    fetches = o.fetches;
    line = o.line;
    decodes = o.decodes;
    no_fault = o.no_fault;
    saves = saves;
    flips = flips_store;
    filled = filled;
    returns = returns;
    index = λ t. (here t).fine.bit;
    own = own;
    words = o.words;
    zero_reg = o.zero_reg;
    even = even;
    recovery = o.based.recovery;
    long = (let l = o.based.long in omega arith);
    begins = o.begins;
    even_first = o.even_first;
  }
