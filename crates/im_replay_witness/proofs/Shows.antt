-- The program stores the selector as the law of output asks.
use Rattle.std.proofs.Common.{◌≡◌, ℕ, zero, suc, ◌+◌, ◌*◌, ◌^◌, ◌<◌, ◌≤◌, ◌⊎◌, inl, inr, true, false, cond, Some, None, refl, sym, ap, ◌∙◌, arith}
use Rattle.std.specs.Prelude.{◌==◌, ◌||◌, min}
use Rattle.std.proofs.lemmas.Bool.Decides.{nat_tests}
use Rattle.im_mem.specs.Memory.{little}
use Rattle.im_mem.proofs.Words.{little-alike}
use Rattle.im_rv.specs.declared.effect.Effect.{Effect}
use Rattle.im_rv.specs.declared.effect.Effect.TheVariants.{Stores}
use Rattle.im_rv.specs.Steps.{sum_of}
use Rattle.im_rv.specs.Effects.{writes_by, effect}
use Rattle.im_device.specs.Run.{index_of}
use Rattle.im_replay_path.specs.Sections.{start}
use Rattle.im_replay_path.proofs.Times.{order, start_le, start_past}
use Rattle.im_ckpt.specs.Runs.{State, IsRun, flip, writes}
use Rattle.im_ckpt.specs.Buffers.{is_buffer, is_fixed}
use Rattle.im_ckpt.specs.Laws.{IsIntact}
use Rattle.im_ckpt.proofs.Phases.{none_kept, mem_next, low_writes, high_writes, flip_low}
use Rattle.im_replay.specs.Owed.{IsOwed}
use Rattle.im_replay.specs.Output.{output_size, Extends, ShowsSafely}
use Rattle.im_replay.proofs.Owing.{doing, Plain, Reads_index, Moves, Saves_reg, Flips, flip_is}
use Rattle.im_replay.proofs.Shows.{size_by}
use Rattle.im_replay_witness.specs.Writer.{own}
use Rattle.im_replay_witness.proofs.Writer.{WriterImage, time_of, stored_apart, at, outside, effect_now}

sides : (a : ℕ) → is_buffer a ≡ false → (a < 128) ⊎ (384 ≤ a)
sides a h = grind (arith, nat_tests)

pub low_out : (a : ℕ) → a < 40 → is_buffer a ≡ false
low_out a l = grind (arith, nat_tests)

low_fixed : (a : ℕ) → a < 4 → (is_buffer a || is_fixed 5076 a) ≡ true
low_fixed a l = grind (arith, nat_tests)

pub high_out : (i : ℕ) → is_buffer (4194304 + i) ≡ false
high_out i = grind (arith, nat_tests)

split : (a b n : ℕ) → ((a < b) ⊎ (b + n ≤ a)) ⊎ ((b ≤ a) × (a < b + n))
split a b n = elim (order a b) [ inl l ↦ inl (inl l) | inr l ↦ elim (order a (b + n)) [ inl m ↦ inr (l, m) | inr m ↦ inl (inr m) ] ]

module _ (run : ℕ → State) (steps : IsRun run) (image : WriterImage (run 0).mem) (first_place : (run 0).cpu.pc ≡ 5044) (first_zero : (run 0).cpu.x 0 ≡ 0) (first_words : (i : ℕ) → (run 0).cpu.x i < 2 ^ 32) (o : IsOwed run 5076) where
  -- what is written beside INDEX and the buffers, and when
  pub data Where (t a : ℕ) : Type 0 where
    Nowhere : writes run t a ≡ None → Where t a
    Byte : t ≡ 2 → 4194304 ≤ a → Where t a
    Length : t ≡ 3 → 32 ≤ a → a < 36 → Where t a
    Selector : t ≡ 17 → a ≡ 36 → flip run 15 ≡ true → Where t a

  quiet_by : (t k a : ℕ) (e : Effect) → IsIntact run 5076 t → k < 8 → (run t).cpu.pc ≡ 5044 + 4 * k → effect (run t).cpu (own k) ≡ e → writes_by e a ≡ None → writes run t a ≡ None
  quiet_by t k a e h l p f n = ap (λ z. writes_by z a) (effect_now run steps image first_place first_zero first_words t k e h l p f) ∙ n

  own_where : (t k a : ℕ) → IsIntact run 5076 t → (run t).cpu.pc ≡ 5044 + 4 * k → k < 8 → ((k < 7) → t ≡ time_of k) → (k ≡ 2 → (run t).cpu.x 6 ≡ 4194304) → (k ≡ 5 → flip run 15 ≡ true) → Where t a
  own_where t zero a h e l now base past = Nowhere (quiet_by t 0 a _ h (omega arith) e refl refl)
  own_where t (suc zero) a h e l now base past = Nowhere (quiet_by t 1 a _ h (omega arith) e refl refl)
  own_where t (suc (suc zero)) a h e l now base past = elim (split a 4194304 1) [
    | inl s ↦ Nowhere (quiet_by t 2 a (Stores 4194304 1 ((run t).cpu.x 5)) h (omega arith) e (ap (λ z. Stores (sum_of z 0) 1 ((run t).cpu.x 5)) (base refl)) (stored_apart 4194304 1 ((run t).cpu.x 5) a s))
    | inr s ↦ Byte (now (omega arith)) s.0
  ]
  own_where t (suc (suc (suc zero))) a h e l now base past = elim (split a 32 4) [
    | inl s ↦ Nowhere (quiet_by t 3 a (Stores 32 4 ((run t).cpu.x 5)) h (omega arith) e (ap (λ z. Stores (sum_of z 32) 4 ((run t).cpu.x 5)) h.zero_reg) (stored_apart 32 4 ((run t).cpu.x 5) a s))
    | inr s ↦ Length (now (omega arith)) s.0 s.1
  ]
  own_where t (suc (suc (suc (suc zero)))) a h e l now base past = Nowhere (quiet_by t 4 a _ h (omega arith) e refl refl)
  own_where t (suc (suc (suc (suc (suc zero))))) a h e l now base past = elim (split a 36 1) [
    | inl s ↦ Nowhere (quiet_by t 5 a (Stores 36 1 ((run t).cpu.x 5)) h (omega arith) e (ap (λ z. Stores (sum_of z 36) 1 ((run t).cpu.x 5)) h.zero_reg) (stored_apart 36 1 ((run t).cpu.x 5) a s))
    | inr s ↦ Selector (now (omega arith)) (let x = s.0 in let y = s.1 in omega arith) (past refl)
  ]
  own_where t (suc (suc (suc (suc (suc (suc zero)))))) a h e l now base past = Nowhere (quiet_by t 6 a _ h (omega arith) e refl refl)
  own_where t (suc (suc (suc (suc (suc (suc (suc k))))))) a h e l now base past = Nowhere (quiet_by t (suc (suc (suc (suc (suc (suc (suc k))))))) a _ h l e refl refl)

  pub where_at : (t a : ℕ) → 4 ≤ a → is_buffer a ≡ false → Where t a
  where_at t a low out = elim (doing run 5076 o t) [
    | Plain p ↦ (
        let h = at run steps image first_place first_zero first_words t in
        let x = outside run steps image first_place first_zero first_words t p h.spot in
        own_where t x.k a h.fine x.place x.small x.now x.base x.past)
    | Reads_index e ↦ Nowhere (ap (λ z. writes_by z a) e)
    | Moves v target e ↦ Nowhere (ap (λ z. writes_by z a) e)
    | Saves_reg r v l s ↦ Nowhere (ap (λ z. writes_by z a) s.effect ∙ elim (sides a out) [
      | inl x ↦ low_writes run 5076 o.based (index_of (run t).mem) r v a l x
      | inr x ↦ high_writes run 5076 o.based (index_of (run t).mem) r v a l x
    ])
    | Flips t0 m e s ↦ Nowhere (ap (λ z. writes_by z a) s.effect ∙ flip_low run 5076 o.based (cond (index_of (run t).mem == 0) 1 0) a low)
  ]

  pub kept_at : (t a : ℕ) → writes run t a ≡ None → (run (suc t)).mem a ≡ (run t).mem a
  kept_at t a n = mem_next run 5076 o.based t a ∙ none_kept (writes run t a) ((run t).mem a) n

  -- the selector and the first length, until the selector is stored
  still : (t a : ℕ) → t ≤ 17 → (a ≡ 36) ⊎ ((12 ≤ a) × (a < 16)) → (run t).mem a ≡ (run 0).mem a
  still zero a l s = refl
  still (suc t) a l s =
      let low : 4 ≤ a = at_least s in
      let below : a < 40 = at_most s in
      elim (where_at t a low (low_out a below)) [
        | Nowhere n ↦ kept_at t a n ∙ still t a (omega arith) s
        | Byte q x ↦ absurd (omega arith)
        | Length q x y ↦ absurd (neither s x y)
        | Selector q x f ↦ absurd (omega arith)
      ]
    where
      at_least : {a : ℕ} → (a ≡ 36) ⊎ ((12 ≤ a) × (a < 16)) → 4 ≤ a
      at_least (inl q) = omega arith
      at_least (inr q) = let x = q.0 in omega arith

      at_most : {a : ℕ} → (a ≡ 36) ⊎ ((12 ≤ a) × (a < 16)) → a < 40
      at_most (inl q) = omega arith
      at_most (inr q) = let x = q.1 in omega arith

      neither : {a : ℕ} → (a ≡ 36) ⊎ ((12 ≤ a) × (a < 16)) → 32 ≤ a → a < 36 → ⊥
      neither (inl q) x y = absurd (omega arith)
      neither (inr q) x y = let z = q.1 in absurd (omega arith)

  selector_zero : (t : ℕ) → t ≤ 17 → (run t).mem 36 ≡ 0
  selector_zero t l = still t 36 l (inl refl) ∙ image.selector

  pub nothing_shown : (t : ℕ) → t ≤ 17 → output_size (run t).mem ≡ 0
  nothing_shown t l =
      let m = (run t).mem in
      ap (λ z. min (cond (z == 0) (little m 12 4) (little m 32 4)) 1048576) (selector_zero t l)
      ∙ ap (λ z. min z 1048576) (little-alike m (run 0).mem 4 12 (λ i x y. still t i l (inr (x, y))) ∙ image.length0)

  -- nothing is written behind it
  quiet : (t a : ℕ) → 18 ≤ t → 4 ≤ a → is_buffer a ≡ false → (run (suc t)).mem a ≡ (run t).mem a
  quiet t a late low out = elim (where_at t a low out) [
    | Nowhere n ↦ kept_at t a n
    | Byte q x ↦ absurd (omega arith)
    | Length q x y ↦ absurd (omega arith)
    | Selector q x f ↦ absurd (omega arith)
  ]

  grows : (t : ℕ) → Extends (run t).mem (run (suc t)).mem
  grows t = elim (order t 18) [
    | inl early ↦ (let e = nothing_shown t (omega arith) in record { size = omega arith; bytes = λ i l. absurd (omega arith) })
    | inr late ↦ (
        let m = (run t).mem in
        let n = (run (suc t)).mem in
        let same : (a : ℕ) → 4 ≤ a → a < 40 → m a ≡ n a = λ a l h. sym (quiet t a late l (low_out a h)) in
        let size : output_size m ≡ output_size n = size_by m n (same 36 (omega arith) (omega arith)) (λ z. little-alike m n 4 12 (λ a l h. same a (omega arith) (omega arith))) (λ z. little-alike m n 4 32 (λ a l h. same a (omega arith) (omega arith))) in
        record { size = omega arith; bytes = λ i l. quiet t (4194304 + i) late (omega arith) (high_out i) })
  ]

  -- INDEX is written by flips alone
  index_unwritten : (t a w : ℕ) → a < 4 → flip run t ≡ false → writes run t a ≡ Some w → ⊥
  index_unwritten t a w l f h = elim (doing run 5076 o t) [
    | Plain p ↦ (let n = o.writes_plain t a p (low_fixed a l) in let bad : Some w ≡ None = sym h ∙ n in cc)
    | Reads_index e ↦ (let bad : Some w ≡ None = sym h ∙ ap (λ z. writes_by z a) e in cc)
    | Moves v target e ↦ (let bad : Some w ≡ None = sym h ∙ ap (λ z. writes_by z a) e in cc)
    | Saves_reg r v m s ↦ (let bad : Some w ≡ None = sym h ∙ ap (λ z. writes_by z a) s.effect ∙ low_writes run 5076 o.based (index_of (run t).mem) r v a m (omega arith) in cc)
    | Flips t0 m e s ↦ (let bad : true ≡ false = sym (flip_is run 5076 o t s) ∙ f in cc)
  ]

  selects : (t v : ℕ) → writes run t 36 ≡ Some v → (t ≡ 17) × (flip run 15 ≡ true)
  selects t v h = elim (where_at t 36 (omega arith) refl) [
    | Nowhere n ↦ absurd (let bad : Some v ≡ None = sym h ∙ n in cc)
    | Byte q x ↦ absurd (omega arith)
    | Length q x y ↦ absurd (omega arith)
    | Selector q x f ↦ (q, f)
  ]

  other_section : (t u : ℕ) → t ≡ 17 → u ≤ 3 → flip run 15 ≡ true → start (flip run) t ≡ start (flip run) u → ⊥
  other_section t u q l f same =
      let a = start_past (flip run) 15 t f (omega arith) in
      let b = start_le (flip run) u in
      absurd (omega arith)

  one_store : (t u a v w : ℕ) → start (flip run) t ≡ start (flip run) u → flip run t ≡ false → flip run u ≡ false → writes run t 36 ≡ Some v → is_buffer a ≡ false → writes run u a ≡ Some w → (u ≡ t) × (a ≡ 36)
  one_store t u a v w same ft fu h out k = elim (order a 4) [
    | inl low ↦ absurd (index_unwritten u a w low fu k)
    | inr high ↦ (
        let s = selects t v h in
        let q = s.0 in
        elim (where_at u a high out) [
          | Nowhere n ↦ absurd (let bad : Some w ≡ None = sym k ∙ n in cc)
          | Byte p x ↦ absurd (other_section t u q (omega arith) s.1 same)
          | Length p x y ↦ absurd (other_section t u q (omega arith) s.1 same)
          | Selector p x f ↦ (omega arith, x)
        ])
  ]

  first_length : (t a v : ℕ) → 12 ≤ a → a < 16 → writes run t a ≡ Some v → ⊥
  first_length t a v l h w = elim (where_at t a (omega arith) (low_out a (omega arith))) [
    | Nowhere n ↦ (let bad : Some v ≡ None = sym w ∙ n in cc)
    | Byte q x ↦ absurd (omega arith)
    | Length q x y ↦ absurd (omega arith)
    | Selector q x f ↦ absurd (omega arith)
  ]

  second_length : (t a v : ℕ) → 32 ≤ a → a < 36 → writes run t a ≡ Some v → (run (start (flip run) t)).mem 36 ≡ 0
  second_length t a v l h w = elim (where_at t a (omega arith) (low_out a (omega arith))) [
    | Nowhere n ↦ absurd (let bad : Some v ≡ None = sym w ∙ n in cc)
    | Byte q x ↦ absurd (omega arith)
    | Length q x y ↦ (let z = start_le (flip run) t in selector_zero (start (flip run) t) (omega arith))
    | Selector q x f ↦ absurd (omega arith)
  ]

  pub shows : ShowsSafely run
  shows = record {
    grows = grows;
    one_store = one_store;
    first_length = λ t a v f l h w. absurd (first_length t a v l h w);
    second_length = λ t a v f l h w. second_length t a v l h w;
  }
