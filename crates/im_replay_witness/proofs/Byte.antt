-- What the program writes: x5 is 1, and with it go the byte, the length and the selector.
use Rattle.std.proofs.Common.{◌≡◌, ◌≢◌, ℕ, zero, suc, ◌+◌, ◌*◌, ◌/◌, ◌%◌, ◌^◌, ◌<◌, ◌≤◌, ◌⊎◌, inl, inr, true, false, cond, [], ◌∷◌, refl, sym, ap, ◌∙◌, subst, arith}
use Rattle.std.specs.Prelude.{◌==◌, min, unwrap_or}
use Rattle.im_mem.specs.Memory.{little, bytes_from}
use Rattle.im_image.specs.declared.form.Form.TheVariants.{TwoLengths}
use Rattle.im_device.specs.Shows.{output_of}
use Rattle.im_rv.specs.declared.effect.Effect.TheVariants.{Stores}
use Rattle.im_rv.specs.Steps.{Cpu, sum_of}
use Rattle.im_rv.specs.Effects.{writes_by, effect}
use Rattle.im_ckpt.specs.Runs.{State, IsRun, writes}
use Rattle.im_ckpt.specs.Laws.{IsIntact}
use Rattle.im_ckpt.proofs.Phases.{mem_next}
use Rattle.im_ckpt.proofs.Checkpoints.{checkpoint_law}
use Rattle.im_replay.specs.Owed.{IsOwed}
use Rattle.im_replay_witness.specs.Writer.{own}
use Rattle.im_replay_witness.proofs.Writer.{WriterImage, time_of, based, at, own_at, effect_now, puts_next, store_cpu, cut_here, Call, Spot, Own, Entry, Rung, Exit, Over}
use Rattle.im_replay_witness.proofs.Shows.{high_out, low_out, where_at, kept_at, Nowhere, Byte, Length, Selector}

one_word : (a b c d : ℕ) → a ≡ 1 → b ≡ 0 → c ≡ 0 → d ≡ 0 → a + 256 * (b + 256 * (c + 256 * (d + 256 * 0))) ≡ 1
one_word a b c d p q r s = omega arith

module _ (run : ℕ → State) (steps : IsRun run) (image : WriterImage (run 0).mem) (first_place : (run 0).cpu.pc ≡ 5044) (first_zero : (run 0).cpu.x 0 ≡ 0) (first_words : (i : ℕ) → (run 0).cpu.x i < 2 ^ 32) (o : IsOwed run 5076) where
  abbrev Here : ℕ → Type 0
  Here t = Spot run steps image first_place first_zero first_words t

  abbrev Cut_at : ℕ → Type 0
  Cut_at t0 = Call run steps image first_place first_zero first_words t0

  call_is : (t0 : ℕ) → Cut_at t0 → (t0 ≡ 4) ⊎ (t0 ≡ 18)
  call_is t0 c = elim c.which [ inl q ↦ inl (c.now ∙ ap time_of q) | inr q ↦ inr (c.now ∙ ap time_of q) ]

  own_early : (t k : ℕ) → t ≤ 4 → t ≡ time_of k → (run t).cpu.pc ≡ 5044 + 4 * k → (run t).cpu.pc ≡ 5044 + 4 * t
  own_early t zero l now e = e ∙ ap (λ z. 5044 + 4 * z) (sym now)
  own_early t (suc zero) l now e = e ∙ ap (λ z. 5044 + 4 * z) (sym now)
  own_early t (suc (suc zero)) l now e = e ∙ ap (λ z. 5044 + 4 * z) (sym now)
  own_early t (suc (suc (suc zero))) l now e = e ∙ ap (λ z. 5044 + 4 * z) (sym now)
  own_early t (suc (suc (suc (suc zero)))) l now e = e ∙ ap (λ z. 5044 + 4 * z) (sym now)
  own_early t (suc (suc (suc (suc (suc zero))))) l now e = absurd (omega arith)
  own_early t (suc (suc (suc (suc (suc (suc k)))))) l now e = absurd (omega arith)

  -- the first five instructions
  early : (t : ℕ) → t ≤ 4 → Here t → (run t).cpu.pc ≡ 5044 + 4 * t
  early t l (Own k small now e base past) = own_early t k l now e
  early t l (Entry t0 k c x) = elim (call_is t0 c) [ inl q ↦ absurd (let a = x.time in omega arith) | inr q ↦ absurd (let a = x.time in omega arith) ]
  early t l (Rung t0 p c x) = elim (call_is t0 c) [ inl q ↦ absurd (let a = x.time in let b = x.from in omega arith) | inr q ↦ absurd (let a = x.time in let b = x.from in omega arith) ]
  early t l (Exit t0 c x past) = elim (call_is t0 c) [ inl q ↦ absurd (let a = x.time in omega arith) | inr q ↦ absurd (let a = x.time in omega arith) ]
  early t l (Over late e) = absurd (omega arith)

  own_late : (k : ℕ) → 17 ≡ time_of k → (run 17).cpu.pc ≡ 5044 + 4 * k → (run 17).cpu.pc ≡ 5064
  own_late zero now e = absurd (omega arith)
  own_late (suc zero) now e = absurd (omega arith)
  own_late (suc (suc zero)) now e = absurd (omega arith)
  own_late (suc (suc (suc zero))) now e = absurd (omega arith)
  own_late (suc (suc (suc (suc zero)))) now e = absurd (omega arith)
  own_late (suc (suc (suc (suc (suc zero))))) now e = e
  own_late (suc (suc (suc (suc (suc (suc k)))))) now e = absurd (omega arith)

  -- and the one behind the first cut
  late : Here 17 → (run 17).cpu.pc ≡ 5064
  late (Own k small now e base past) = own_late k now e
  late (Entry t0 k c x) = elim (call_is t0 c) [ inl q ↦ absurd (let a = x.time in let b = x.small in omega arith) | inr q ↦ absurd (let a = x.time in omega arith) ]
  late (Rung t0 p c x) = elim (call_is t0 c) [ inl q ↦ absurd (let a = x.time in let b = x.to in omega arith) | inr q ↦ absurd (let a = x.time in let b = x.from in omega arith) ]
  late (Exit t0 c x past) = elim (call_is t0 c) [ inl q ↦ absurd (let a = x.time in omega arith) | inr q ↦ absurd (let a = x.time in omega arith) ]
  late (Over l e) = absurd (omega arith)

  abbrev fine : (t : ℕ) → IsIntact run 5076 t
  fine t = (at run steps image first_place first_zero first_words t).fine

  place : (t : ℕ) → t ≤ 4 → (run t).cpu.pc ≡ 5044 + 4 * t
  place t l = early t l (at run steps image first_place first_zero first_words t).spot

  abbrev line : (t k : ℕ) → k < 8 → (run t).cpu.pc ≡ 5044 + 4 * k → Rattle.im_ckpt.specs.Runs.line_at (run t) ≡ Rattle.std.proofs.Common.Some (own k)
  line t k l e = own_at run steps image first_place first_zero first_words t k (fine t) l e

  -- x5 and x6 on the way
  five_1 : (run 1).cpu.x 5 ≡ 1
  five_1 = ap (λ (s : State). s.cpu.x 5) (puts_next run steps image first_place first_zero first_words 0 (own 0) _ _ (line 0 0 (omega arith) (place 0 (omega arith))) refl) ∙ ap (λ z. sum_of z 1) first_zero

  five_2 : (run 2).cpu.x 5 ≡ 1
  five_2 = ap (λ (s : State). s.cpu.x 5) (puts_next run steps image first_place first_zero first_words 1 (own 1) _ _ (line 1 1 (omega arith) (place 1 (omega arith))) refl) ∙ five_1

  six_2 : (run 2).cpu.x 6 ≡ 4194304
  six_2 = ap (λ (s : State). s.cpu.x 6) (puts_next run steps image first_place first_zero first_words 1 (own 1) _ _ (line 1 1 (omega arith) (place 1 (omega arith))) refl)

  stores_2 : effect (run 2).cpu (own 2) ≡ Stores 4194304 1 ((run 2).cpu.x 5)
  stores_2 = ap (λ z. Stores (sum_of z 0) 1 ((run 2).cpu.x 5)) six_2

  stores_3 : effect (run 3).cpu (own 3) ≡ Stores 32 4 ((run 3).cpu.x 5)
  stores_3 = ap (λ z. Stores (sum_of z 32) 4 ((run 3).cpu.x 5)) (fine 3).zero_reg

  stores_17 : effect (run 17).cpu (own 5) ≡ Stores 36 1 ((run 17).cpu.x 5)
  stores_17 = ap (λ z. Stores (sum_of z 36) 1 ((run 17).cpu.x 5)) (fine 17).zero_reg

  five_3 : (run 3).cpu.x 5 ≡ 1
  five_3 = ap (λ (c : Cpu). c.x 5) (store_cpu run steps image first_place first_zero first_words 2 (own 2) 4194304 1 ((run 2).cpu.x 5) (line 2 2 (omega arith) (place 2 (omega arith))) stores_2 refl) ∙ five_2

  five_4 : (run 4).cpu.x 5 ≡ 1
  five_4 = ap (λ (c : Cpu). c.x 5) (store_cpu run steps image first_place first_zero first_words 3 (own 3) 32 4 ((run 3).cpu.x 5) (line 3 3 (omega arith) (place 3 (omega arith))) stores_3 refl) ∙ five_3

  five_5 : (run 5).cpu.x 5 ≡ 1
  five_5 = ap (λ (s : State). s.cpu.x 5) (puts_next run steps image first_place first_zero first_words 4 (own 4) _ _ (line 4 4 (omega arith) (place 4 (omega arith))) refl) ∙ five_4

  -- the checkpoint changes x4 alone
  five_17 : (run 17).cpu.x 5 ≡ 1
  five_17 =
      let c : Cut_at 4 = cut_here run steps image first_place first_zero first_words 4 4 4294966608 (fine 4) (inl refl) refl (place 4 (omega arith)) (omega arith) refl refl in
      (checkpoint_law run 5076 4 5 (based run steps image first_place first_zero first_words) c.cut c.fine).regs 5 (omega arith) ∙ five_5

  -- ---- memory

  next_byte : (t k a n v b : ℕ) → k < 8 → (run t).cpu.pc ≡ 5044 + 4 * k → effect (run t).cpu (own k) ≡ Stores a n v → (run (suc t)).mem b ≡ unwrap_or (writes_by (Stores a n v) b) ((run t).mem b)
  next_byte t k a n v b l e f = mem_next run 5076 (based run steps image first_place first_zero first_words) t b ∙ ap (λ z. unwrap_or z ((run t).mem b)) (ap (λ z. writes_by z b) (effect_now run steps image first_place first_zero first_words t k (Stores a n v) (fine t) l e f))

  byte_3 : (run 3).mem 4194304 ≡ 1
  byte_3 = next_byte 2 2 4194304 1 ((run 2).cpu.x 5) 4194304 (omega arith) (place 2 (omega arith)) stores_2 ∙ ap (λ z. z % 256) five_2

  length_4 : little (run 4).mem 32 4 ≡ 1
  length_4 =
      let v = (run 3).cpu.x 5 in
      let b = λ (i : ℕ). next_byte 3 3 32 4 v i (omega arith) (place 3 (omega arith)) stores_3 in
      one_word ((run 4).mem 32) ((run 4).mem 33) ((run 4).mem 34) ((run 4).mem 35)
      (b 32 ∙ ap (λ z. z % 256) five_3)
      (b 33 ∙ ap (λ z. z / 256 % 256) five_3)
      (b 34 ∙ ap (λ z. z / 256 / 256 % 256) five_3)
      (b 35 ∙ ap (λ z. z / 256 / 256 / 256 % 256) five_3)

  selector_18 : (run 18).mem 36 ≡ 1
  selector_18 = next_byte 17 5 36 1 ((run 17).cpu.x 5) 36 (omega arith) (late (at run steps image first_place first_zero first_words 17).spot) stores_17 ∙ ap (λ z. z % 256) five_17

  hold_byte : (j : ℕ) → (run (j + 3)).mem 4194304 ≡ (run 3).mem 4194304
  hold_byte zero = refl
  hold_byte (suc j) =
      ap (λ z. (run z).mem 4194304) (let q : suc j + 3 ≡ suc (j + 3) = omega arith in q)
      ∙ elim (where_at run steps image first_place first_zero first_words o (j + 3) 4194304 (omega arith) (high_out 0)) [
        | Nowhere n ↦ kept_at run steps image first_place first_zero first_words o (j + 3) 4194304 n
        | Byte q x ↦ absurd (omega arith)
        | Length q x y ↦ absurd (omega arith)
        | Selector q x f ↦ absurd (omega arith)
      ]
      ∙ hold_byte j

  hold_length : (j i : ℕ) → 32 ≤ i → i < 36 → (run (j + 4)).mem i ≡ (run 4).mem i
  hold_length zero i a b = refl
  hold_length (suc j) i a b =
      ap (λ z. (run z).mem i) (let q : suc j + 4 ≡ suc (j + 4) = omega arith in q)
      ∙ elim (where_at run steps image first_place first_zero first_words o (j + 4) i (omega arith) (low_out i (omega arith))) [
        | Nowhere n ↦ kept_at run steps image first_place first_zero first_words o (j + 4) i n
        | Byte q x ↦ absurd (omega arith)
        | Length q x y ↦ absurd (omega arith)
        | Selector q x f ↦ absurd (omega arith)
      ]
      ∙ hold_length j i a b

  length_18 : little (run 18).mem 32 4 ≡ 1
  length_18 = Rattle.im_mem.proofs.Words.little-alike (run 18).mem (run 4).mem 4 32 (λ i a b. hold_length 14 i a b) ∙ length_4

  pub shows_byte : output_of TwoLengths (run 18).mem ≡ 1 ∷ []
  shows_byte =
      let m = (run 18).mem in
      ap (λ z. bytes_from m 4194304 (min (cond (z == 0) (little m 12 4) (little m 32 4)) 1048576)) selector_18
      ∙ ap (λ z. bytes_from m 4194304 (min z 1048576)) length_18
      ∙ ap (λ z. z ∷ []) (hold_byte 15 ∙ byte_3)
