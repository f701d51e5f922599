-- Slots of the two register buffers, and the stores into them.
use Rattle.std.proofs.Common.{◌≡◌, ◌≢◌, ℕ, zero, suc, ◌+◌, ◌*◌, ◌%◌, ◌<◌, ◌≤◌, ◌⊎◌, inl, inr, Bool, true, false, cond, None, refl, sym, ap, ◌∙◌, arith}
use Rattle.std.specs.Prelude.{◌==◌, ◌&&◌, ◌||◌, not, nat_lt}
use Rattle.std.proofs.lemmas.Bool.Decides.{nat_tests}
use Rattle.im_num.specs.Bytes.{bytes_of}
use Rattle.im_mem.specs.Memory.{is_place}
use Rattle.im_mem.proofs.Words.{length-bytes_of}
use Rattle.im_rv.specs.declared.effect.Effect.{Effect}
use Rattle.im_rv.specs.declared.effect.Effect.TheVariants.{Puts, Goes, Loads, Stores, Stops}
use Rattle.im_rv.specs.Effects.{rs2_of, stores_word, patch, writes_by}
use Rattle.im_rv.proofs.Decoding.{truth}
use Rattle.im_rv.proofs.Locality.{patch_below, patch_above}
use Rattle.im_rv.proofs.Tearing.{word_store}
use Rattle.im_device.specs.Run.{index_of}
use Rattle.im_ckpt.specs.Runs.{State, line_at, effect_at, sets, flip}
use Rattle.im_ckpt.specs.Buffers.{buffer, idle, is_buffer, slot, saves_by, saves_reg, saved}

-- ---- stores

-- a word's bytes are outside a word beside it
pub word_outside : (a v k : ℕ) → (k < a) ⊎ (a + 4 ≤ k) → (place : is_place a 4 ≡ true) → writes_by (Stores a 4 v) k ≡ None
word_outside a v k h place = ap (λ z. cond z (patch a (bytes_of 4 v) k) None) place ∙ elim h [
  | inl l ↦ patch_below a (bytes_of 4 v) k l
  | inr l ↦ patch_above a (bytes_of 4 v) k (omega (arith, length-bytes_of 4 v))
]

place_sizes : (a n : ℕ) → is_place a n ≡ true → (n ≡ 1) ⊎ (((n ≡ 2) × (a % 2 ≡ 0)) ⊎ ((n ≡ 4) × (a % 4 ≡ 0)))
place_sizes a n h = grind (arith, nat_tests)

-- an aligned place outside the buffers keeps clear of them
clear : (a n k : ℕ) → is_place a n ≡ true → is_buffer a ≡ false → is_buffer k ≡ true → (k < a) ⊎ (a + n ≤ k)
clear a n k p out inside =
    let low : 128 ≤ k = grind (arith, nat_tests) in
    let high : k < 384 = grind (arith, nat_tests) in
    let side : (a < 128) ⊎ (384 ≤ a) = grind (arith, nat_tests) in
    elim (place_sizes a n p) [
      | inl e ↦ elim side [ inl l ↦ inr (omega arith) | inr l ↦ inl (omega arith) ]
      | inr (inl e) ↦ elim side [ inl l ↦ (let p = e.0 in let q = e.1 in inr (omega arith)) | inr l ↦ inl (omega arith) ]
      | inr (inr e) ↦ elim side [ inl l ↦ (let p = e.0 in let q = e.1 in inr (omega arith)) | inr l ↦ inl (omega arith) ]
    ]

-- what is no store into a buffer writes no byte of one
pub no_save : (e : Effect) (k : ℕ) → saves_by e ≡ false → is_buffer k ≡ true → writes_by e k ≡ None
no_save (Puts v target) k s b = refl
no_save (Goes target) k s b = refl
no_save (Loads a n extension) k s b = refl
no_save (Stores a n v) k s b = elim (truth (is_place a n)) [
  | inl p ↦ ap (λ z. cond z (patch a (bytes_of n v) k) None) p ∙ (
      let out : is_buffer a ≡ false = sym (ap (λ z. z && is_buffer a) p) ∙ s in
      elim (clear a n k p out b) [
        | inl l ↦ patch_below a (bytes_of n v) k l
        | inr l ↦ patch_above a (bytes_of n v) k (omega (arith, length-bytes_of n v))
      ])
  | inr p ↦ ap (λ z. cond z (patch a (bytes_of n v) k) None) p
]
no_save Stops k s b = refl

-- the two buffers
pub idle_other : (i j : ℕ) → i < 2 → j < 2 → i ≢ j → buffer j ≡ idle i
idle_other i j a b ne = by_zero (i == 0) (j == 0) refl refl
  where
    by_zero : (b d : Bool) → (i == 0) ≡ b → (j == 0) ≡ d → buffer j ≡ idle i
    by_zero true true p q = absurd (ne (grind (arith, nat_tests)))
    by_zero true false p q = ap (λ z. cond z 128 256) q ∙ sym (ap (λ z. cond z 256 128) p)
    by_zero false true p q = ap (λ z. cond z 128 256) q ∙ sym (ap (λ z. cond z 256 128) p)
    by_zero false false p q = absurd (ne (grind (arith, nat_tests)))

pub buffer_inside : (j a : ℕ) → buffer j ≤ a → a < buffer j + 128 → is_buffer a ≡ true
buffer_inside j a l r = by_zero (j == 0) l r
  where
    by_zero : (b : Bool) → cond b 128 256 ≤ a → a < cond b 128 256 + 128 → is_buffer a ≡ true
    by_zero true l r = grind (arith, nat_tests)
    by_zero false l r = grind (arith, nat_tests)

-- a byte of the live buffer is none of a slot of the idle one
pub apart : (j i a : ℕ) → i < 32 → buffer j ≤ a → a < buffer j + 128 → (a < idle j + slot i) ⊎ (idle j + slot i + 4 ≤ a)
apart j i a small l r = by_zero (j == 0) (i == 3) l r
  where
    by_zero : (b d : Bool) → cond b 128 256 ≤ a → a < cond b 128 256 + 128 → (a < cond b 256 128 + cond d 0 (4 * i)) ⊎ (cond b 256 128 + cond d 0 (4 * i) + 4 ≤ a)
    by_zero true true l r = inl (omega arith)
    by_zero true false l r = inl (omega arith)
    by_zero false true l r = inr (omega arith)
    by_zero false false l r = inr (omega arith)

-- two registers have slots of their own
pub slots_apart : (b i j : ℕ) → 0 < i → 0 < j → i ≢ j → (b + slot i + 4 ≤ b + slot j) ⊎ (b + slot j + 4 ≤ b + slot i)
slots_apart b i j p q ne = by_three (i == 3) (j == 3) refl refl
  where
    by_three : (c d : Bool) → (i == 3) ≡ c → (j == 3) ≡ d → (b + cond c 0 (4 * i) + 4 ≤ b + cond d 0 (4 * j)) ⊎ (b + cond d 0 (4 * j) + 4 ≤ b + cond c 0 (4 * i))
    by_three true true x y = absurd (ne (grind (arith, nat_tests)))
    by_three true false x y = inl (omega arith)
    by_three false true x y = inr (omega arith)
    by_three false false x y = either (grind arith)
      where
        either : (i < j) ⊎ (j < i) → (b + 4 * i + 4 ≤ b + 4 * j) ⊎ (b + 4 * j + 4 ≤ b + 4 * i)
        either (inl l) = inl (omega arith)
        either (inr l) = inr (omega arith)

-- slots of the idle buffer lie in a buffer
pub slot_inside : (index i : ℕ) → i < 32 → is_buffer (idle index + slot i) ≡ true
slot_inside index i l = by_index (index == 0) (i == 3)
  where
    by_index : (b d : Bool) → is_buffer (cond b 256 128 + cond d 0 (4 * i)) ≡ true
    by_index true true = refl
    by_index true false = grind (arith, nat_tests)
    by_index false true = refl
    by_index false false = grind (arith, nat_tests)

and_left : (b d : Bool) → (b && d) ≡ true → b ≡ true
and_left true d h = refl
and_left false d h = absurd (cc)

and_right : (b d : Bool) → (b && d) ≡ true → d ≡ true
and_right true d h = h
and_right false d h = absurd (cc)

-- what saves_reg says
pub record Saves (s : State) (i : ℕ) : Type 0 where
  pub above : 0 < i
  pub below : i < 32
  pub source : i ≡ rs2_of (line_at s)
  pub value : ℕ
  pub effect : effect_at s ≡ Stores (idle (index_of s.mem) + slot i) 4 value
  pub place : is_place (idle (index_of s.mem) + slot i) 4 ≡ true

pub saves_of : (s : State) (i : ℕ) → saves_reg s i ≡ true → Saves s i
saves_of s i h =
    let first = nat_lt 0 i in
    let second = nat_lt i 32 in
    let third = i == rs2_of (line_at s) in
    let fourth = stores_word (effect_at s) (idle (index_of s.mem) + slot i) in
    let h3 = and_right (first && second && third) fourth h in
    let h2 = and_left (first && second && third) fourth h in
    let e = and_right (first && second) third h2 in
    let h1 = and_left (first && second) third h2 in
    let b = and_right first second h1 in
    let a = and_left first second h1 in
    let w = word_store (effect_at s) (idle (index_of s.mem) + slot i) h3 in
    record { above = lt_of 0 i a; below = lt_of i 32 b; source = equal_of i (rs2_of (line_at s)) e; value = w.0; effect = w.1; place = w.2 }
  where
    lt_of : (i j : ℕ) → nat_lt i j ≡ true → i < j
    lt_of i j h = grind (arith, nat_tests)

    equal_of : (i j : ℕ) → (i == j) ≡ true → i ≡ j
    equal_of i j h = grind (arith, nat_tests)

-- a register that is saved is saved by a store into a buffer
pub saves_if : (s : State) (i : ℕ) → saves_reg s i ≡ true → saves_by (effect_at s) ≡ true
saves_if s i h = let v = saves_of s i h in
    ap saves_by v.effect ∙ ap (λ b. b && is_buffer (idle (index_of s.mem) + slot i)) v.place ∙ slot_inside (index_of s.mem) i v.below

-- ---- what a section has saved

pub saved-calm : (run : ℕ → State) (t i : ℕ) → flip run t ≡ false → saved run (suc t) i ≡ (saves_reg (run t) i || (not (sets (run t) i) && saved run t i))
saved-calm run t i h = ap (λ b. cond b false (saves_reg (run t) i || (not (sets (run t) i) && saved run t i))) h

pub saved-flip : (run : ℕ → State) (t i : ℕ) → flip run t ≡ true → saved run (suc t) i ≡ false
saved-flip run t i h = ap (λ b. cond b false (saves_reg (run t) i || (not (sets (run t) i) && saved run t i))) h

pub or_cases : (a b c : Bool) → (a || (not b && c)) ≡ true → (a ≡ true) ⊎ ((b ≡ false) × (c ≡ true))
or_cases true b c h = inl refl
or_cases false true c h = absurd (cc)
or_cases false false c h = inr (refl, h)

-- a register that was saved has a number of its own
pub saved_named : (run : ℕ → State) (t i : ℕ) → saved run t i ≡ true → (0 < i) × (i < 32)
saved_named run zero i h = absurd (cc)
saved_named run (suc t) i h = elim (truth (flip run t)) [
  | inl f ↦ absurd (let q = saved-flip run t i f in let bad : true ≡ false = sym h ∙ q in cc)
  | inr f ↦ elim (or_cases (saves_reg (run t) i) (sets (run t) i) (saved run t i) (sym (saved-calm run t i f) ∙ h)) [
    | inl s ↦ (let v = saves_of (run t) i s in (v.above, v.below))
    | inr s ↦ saved_named run t i s.1
  ]
]
