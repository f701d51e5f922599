-- A store in order, of which statics and stack hold what lies there, changes bytes that may change.
use Rattle.std.proofs.Common.{◌≡◌, ◌≢◌, ℕ, zero, suc, ◌+◌, ◌<◌, ◌≤◌, ◌⊎◌, inl, inr, Bool, true, false, cond, List, [], ◌∷◌, Option, Some, None, refl, sym, ap, ◌∙◌, subst, arith}
use Rattle.std.specs.Prelude.{◌-◌, ◌==◌, ◌&&◌, ◌||◌, nat_le, nat_lt, slice_get}
use Rattle.std.specs.Option.{option_map}
use Rattle.std.proofs.lemmas.Bool.{leb-true, and_parts, or_right}
use Rattle.std.proofs.lemmas.Bool.Decides.{nat_tests}
use Rattle.im_mem.specs.Memory.{Mem, little, is_place}
use Rattle.im_rv_reach.specs.Touches.{Stored, is_system}
use Rattle.im_rv_reach.specs.Seen.{in_buffer}
use Rattle.im_rv_reach.specs.Plain.{IsApart, IsDue}
use Rattle.im_rv_reach.specs.Orderly.{Free, Low, Select, Wrong, is_free, is_low, place_of}
use Rattle.im_rtlib_laws.proofs.Sections.{place_sizes}
use Rattle.im_replay_path.proofs.Times.{order}
use Rattle.im_image.specs.Contents.{ImageValue, ObjectValue}
use Rattle.im_ckpt.specs.Buffers.{is_buffer}
use Rattle.im_store.specs.Objects.{Named, Shape, shape_of}
use Rattle.im_store.specs.Statics.{StaticObject}
use Rattle.im_block.specs.declared.unit.Unit.{Unit as Code}
use Rattle.im_block.specs.Meaning.{Setting, statics_of}
use Rattle.im_select_relation.specs.Linking.{Linking}
use Rattle.im_select_addresses.specs.Named.{AreNamed}
use Rattle.im_keeps_writes.specs.Writes.{is_word, is_in, is_stack, is_output, may_change}
use Rattle.im_keeps_writes.proofs.Held.{InStatic, IsHeld}
use Rattle.im_keeps_writes.proofs.Stored.{IsInOrder}

-- ---- one of five

second : (v w x y z : Bool) → w ≡ true → (v || w || x || y || z) ≡ true
second true w x y z h = refl
second false w x y z h = ap (λ b. b || x || y || z) h

third : (v w x y z : Bool) → x ≡ true → (v || w || x || y || z) ≡ true
third true w x y z h = refl
third false true x y z h = refl
third false false x y z h = ap (λ b. b || y || z) h

fourth : (v w x y z : Bool) → y ≡ true → (v || w || x || y || z) ≡ true
fourth true w x y z h = refl
fourth false true x y z h = refl
fourth false false true y z h = refl
fourth false false false y z h = ap (λ b. b || z) h

fifth : (v w x y z : Bool) → z ≡ true → (v || w || x || y || z) ≡ true
fifth true w x y z h = refl
fifth false true x y z h = refl
fifth false false true y z h = refl
fifth false false false true z h = refl
fifth false false false false z h = h

-- ---- statics by the image's objects

inside : (o : ObjectValue) (a at size : ℕ) → o.at ≡ at → o.size ≡ size → at ≤ a → a < at + size → (nat_le o.at a && nat_lt a (o.at + o.size)) ≡ true
inside o a at size e f low high = grind (arith, nat_tests)

in_objects : (p : Linking) (k : ℕ) (ss : List StaticObject) (os : List ObjectValue) → AreNamed p k ss os → (n : ℕ) (s : StaticObject) (a : ℕ) → slice_get ss n ≡ Some s → p.at (Named (k + n)) ≤ a → a < p.at (Named (k + n)) + s.size → is_in os a ≡ true
in_objects p k [] os named n s a e low high = absurd (let bad : None ≡ Some s = e in cc)
in_objects p k (t ∷ ss) [] named n s a e low high = absurd named
in_objects p k (t ∷ ss) (o ∷ os) named zero s a e low high =
    let one : t ≡ s = cc in
    let place : p.at (Named (k + 0)) ≡ p.at (Named k) = (let q : k + 0 ≡ k = omega arith in ap (λ j. p.at (Named j)) q) in
    ap (λ z. z || is_in os a) (inside o a (p.at (Named (k + 0))) s.size (named.0.at ∙ sym place) (named.0.size ∙ ap (λ (z : StaticObject). z.size) one) low high)
in_objects p k (t ∷ ss) (o ∷ os) named (suc n) s a e low high =
    let q : k + suc n ≡ suc k + n = omega arith in
    or_right (nat_le o.at a && nat_lt a (o.at + o.size)) (is_in os a)
    (in_objects p (suc k) ss os named.1 n s a e (subst (λ j. p.at (Named j) ≤ a) q low) (subst (λ j. a < p.at (Named j) + s.size) q high))

record HasSize (o : Option StaticObject) (size : ℕ) : Type 0 where
  object : StaticObject
  is : o ≡ Some object
  same : object.size ≡ size

sized : (o : Option StaticObject) (sh : Shape) → option_map {T = StaticObject} (λ s. shape_of s.size s.cells) o ≡ Some sh → HasSize o sh.size
sized None sh e = absurd cc
sized (Some s) sh e = let one : shape_of s.size s.cells ≡ sh = cc in record { object = s; is = refl; same = ap (λ (z : Shape). z.size) one }

static_in : (p : Linking) (u : Code) (os : List ObjectValue) (b n a : ℕ) → AreNamed p 0 (statics_of u) os → InStatic p u b n → b ≤ a → a < b + n → is_in os a ≡ true
static_in p u os b n a named h low high =
    let s = sized (slice_get (statics_of u) h.number) h.shape h.is_static in
    let from = h.low in
    let to = h.high in
    let size = s.same in
    let q : h.number ≡ 0 + h.number = omega arith in
    in_objects p 0 (statics_of u) os named h.number s.object a s.is
    (subst (λ j. p.at (Named j) ≤ a) q (omega arith))
    (subst (λ j. a < p.at (Named j) + s.object.size) q (omega arith))

-- ---- by the place

low_word : (a : ℕ) → a ≤ 36 → (a < 16) ⊎ (24 ≤ a) → (a < 28) ⊎ (32 ≤ a) → is_word a ≡ true
low_word a h (inl low) limit = grind (arith, nat_tests)
low_word a h (inr above) (inl low) = grind (arith, nat_tests)
low_word a h (inr above) (inr high) = grind (arith, nat_tests)

-- what is apart from the settings is no byte of them
beside_word : (b n a word : ℕ) → IsApart b n word → b ≤ a → a < b + n → (a < word) ⊎ (word + 4 ≤ a)
beside_word b n a word (inl below) low high = inl (omega arith)
beside_word b n a word (inr above) low high = inr (omega arith)

beside_both : (a : ℕ) → (a < 16) ⊎ (20 ≤ a) → (a < 20) ⊎ (24 ≤ a) → (a < 16) ⊎ (24 ≤ a)
beside_both a (inl low) other = inl low
beside_both a (inr above) (inr high) = inr high
beside_both a (inr above) (inl low) = absurd (omega arith)

-- it isn't there
wrong : (b n : ℕ) → is_free b n ≡ false → is_low b n ≡ false → (b == 36 && n == 1) ≡ false → place_of b n ≡ Wrong
wrong b n x y z =
    ap (λ t. cond t Free (cond (is_low b n) Low (cond (b == 36 && n == 1) Select Wrong))) x
    ∙ ap (λ t. cond t Low (cond (b == 36 && n == 1) Select Wrong)) y
    ∙ ap (λ t. cond t Select Wrong) z

wrong_low : (b n a : ℕ) → b ≤ a → a < b + n → 36 < a → b < 1048576 → place_of b n ≡ Wrong
wrong_low b n a low high more less = wrong b n (grind (arith, nat_tests)) (grind (arith, nat_tests)) (grind (arith, nat_tests))

wrong_between : (b n : ℕ) → 1048576 ≤ b → 3145728 < b + n → b < 4194304 → place_of b n ≡ Wrong
wrong_between b n low over less = wrong b n (grind (arith, nat_tests)) (grind (arith, nat_tests)) (grind (arith, nat_tests))

data_own : (b : ℕ) → 1048576 ≤ b → b < 3145728 → is_system b ≡ false
data_own b low high = grind (arith, nat_tests)

buffer_sides : (b : ℕ) → in_buffer b ≡ true → (128 ≤ b) × (b < 384)
buffer_sides b h = (grind (arith, nat_tests), grind (arith, nat_tests))

buffer_byte : (a : ℕ) → 128 ≤ a → a < 384 → is_buffer a ≡ true
buffer_byte a low high = grind (arith, nat_tests)

-- an aligned store that begins in a buffer ends in one
in_buffers : (b n a : ℕ) → is_place b n ≡ true → in_buffer b ≡ true → b ≤ a → a < b + n → is_buffer a ≡ true
in_buffers b n a place inside low high =
    let s = buffer_sides b inside in
    let from = s.0 in
    let to = s.1 in
    elim (place_sizes b n place) [
      | inl q ↦ buffer_byte a (omega arith) (omega arith)
      | inr (inl q) ↦ (let x = q.0 in let y = q.1 in buffer_byte a (omega arith) (omega arith))
      | inr (inr q) ↦ (let x = q.0 in let y = q.1 in buffer_byte a (omega arith) (omega arith))
    ]

pub small_place : (b n : ℕ) → is_place b n ≡ true → n ≤ 4
small_place b n place = elim (place_sizes b n place) [
  | inl q ↦ omega arith
  | inr (inl q) ↦ (let x = q.0 in omega arith)
  | inr (inr q) ↦ (let x = q.0 in omega arith)
]

output_byte : (image : ImageValue) (a : ℕ) → 4194304 ≤ a → a < 4194304 + image.out_cap → is_output image a ≡ true
output_byte image a low high = within (4194304 + image.out_cap) low high
  where
    within : (end : ℕ) → 4194304 ≤ a → a < end → (nat_le 4194304 a && nat_lt a end) ≡ true
    within end more less = grind (arith, nat_tests)

stack_byte : (image : ImageValue) (a : ℕ) → 3145728 - image.stack ≤ a → a < 3145728 → is_stack image a ≡ true
stack_byte image a low high = grind (arith, nat_tests)

module _ (image : ImageValue) (p : Linking) (u : Code) (g : Setting) (named : AreNamed p 0 (statics_of u) image.objects) (stack : g.stack ≡ image.stack) (m k : Mem) (capacity : little m 16 4 ≡ image.out_cap) where
  held_may : (b n a : ℕ) → b ≤ a → a < b + n → IsHeld p u g b n → may_change image a ≡ true
  held_may b n a low high (inl h) = third (is_word a) (is_buffer a) (is_in image.objects a) (is_stack image a) (is_output image a) (static_in p u image.objects b n a named h low high)
  held_may b n a low high (inr h) =
      let from = h.0 in
      let to = h.1 in
      fourth (is_word a) (is_buffer a) (is_in image.objects a) (is_stack image a) (is_output image a) (stack_byte image a (omega (arith, from, stack, low)) (omega arith))

  data_may : (b n a : ℕ) → b ≤ a → a < b + n → 1048576 ≤ b → place_of b n ≢ Wrong → IsDue m k b n → (is_system b ≡ false → IsHeld p u g b n) → may_change image a ≡ true
  data_may b n a low high beyond fine due own = elim (order 3145728 (b + n)) [
    | inr less ↦ held_may b n a low high (own (data_own b beyond (omega arith)))
    | inl over ↦ elim (order b 4194304) [
      | inl less ↦ absurd (fine (wrong_between b n beyond over less))
      | inr out ↦ (
          let next = due.appends (omega arith) in
          let one = next.one in
          let room = next.room in
          let behind = next.next in
          fifth (is_word a) (is_buffer a) (is_in image.objects a) (is_stack image a) (is_output image a) (output_byte image a (omega arith) (omega arith)))
    ]
  ]

  high_may : (b n a : ℕ) → is_place b n ≡ true → b ≤ a → a < b + n → 36 < a → IsInOrder (Stored b n) → IsDue m k b n → (is_system b ≡ false → IsHeld p u g b n) → may_change image a ≡ true
  high_may b n a place low high more (inl zero_) due own = absurd (let few = small_place b n place in omega arith)
  high_may b n a place low high more (inr (inl q)) due own = second (is_word a) (is_buffer a) (is_in image.objects a) (is_stack image a) (is_output image a) (in_buffers b n a place q low high)
  high_may b n a place low high more (inr (inr fine)) due own = elim (order b 1048576) [
    | inl less ↦ absurd (fine (wrong_low b n a low high more less))
    | inr beyond ↦ data_may b n a low high beyond fine due own
  ]

  pub may : (b n a : ℕ) → is_place b n ≡ true → b ≤ a → a < b + n → IsInOrder (Stored b n) → IsDue m k b n → (is_system b ≡ false → IsHeld p u g b n) → may_change image a ≡ true
  may b n a place low high order_ due own = elim (order 36 a) [
    | inr word ↦ (
        let settings = beside_both a (beside_word b n a 16 due.capacity low high) (beside_word b n a 20 due.input low high) in
        ap (λ z. z || is_buffer a || is_in image.objects a || is_stack image a || is_output image a) (low_word a word settings (beside_word b n a 28 due.limit low high)))
    | inl more ↦ high_may b n a place low high more order_ due own
  ]
