-- What a torn store leaves.
use Rattle.std.proofs.Common.{◌≡◌, ℕ, ◌+◌, ◌/◌, ◌%◌, ◌<◌, ◌≤◌, ◌⊎◌, inl, inr, Bool, true, false, cond, Some, None, List, [], ◌∷◌, refl, sym, ap, ◌∙◌, subst, arith}
use Rattle.std.specs.Prelude.{◌==◌, ◌&&◌, unwrap_or}
use Rattle.std.proofs.lemmas.Bool.Decides.{nat_tests}
use Rattle.std.proofs.Math.Path.{fun_ext}
use Rattle.im_num.specs.Bytes.{bytes_of}
use Rattle.im_mem.specs.Memory.{Mem, little, written, is_place}
use Rattle.im_mem.proofs.Words.{written-above, written-small, length-bytes_of}
use Rattle.im_rv.specs.declared.effect.Effect.{Effect}
use Rattle.im_rv.specs.declared.effect.Effect.TheVariants.{Puts, Goes, Loads, Stores, Stops}
use Rattle.im_rv.proofs.Decoding.{truth}
use Rattle.im_rv.specs.Torn.{masked, torn_by}
use Rattle.im_rv.specs.Effects.{patch, writes_by, stores_word}
use Rattle.im_rv.proofs.Locality.{written-patch}

pub masked-below : (mask : ℕ) (m : Mem) (a : ℕ) (bs : List ℕ) (k : ℕ) → k < a → masked mask m a bs k ≡ m k
masked-below mask m a [] k l = refl
masked-below mask m a (b ∷ bs) k l =
    let ne : (k == a) ≡ false = grind (arith, nat_tests) in
    masked-below (mask / 2) (λ i. cond (i == a && mask % 2 == 1) b (m i)) (a + 1) bs k (omega arith) ∙ ap (λ z. cond (z && mask % 2 == 1) b (m k)) ne

-- each byte is the old one or the one that the whole store writes
pub masked_either : (mask : ℕ) (m : Mem) (a : ℕ) (bs : List ℕ) (k : ℕ) → (masked mask m a bs k ≡ m k) ⊎ (masked mask m a bs k ≡ unwrap_or (patch a bs k) (m k))
masked_either mask m a [] k = inl refl
masked_either mask m a (b ∷ bs) k =
    let n : Mem = λ i. cond (i == a && mask % 2 == 1) b (m i) in
    elim (truth (k == a)) [
      | inl t ↦ (let e : k ≡ a = grind (arith, nat_tests) in
          let same : masked (mask / 2) n (a + 1) bs k ≡ cond (mask % 2 == 1) b (m k) = masked-below (mask / 2) n (a + 1) bs k (omega arith) ∙ ap (λ z. cond (z && mask % 2 == 1) b (m k)) t in
          elim (truth (mask % 2 == 1)) [
            | inl o ↦ inr (same ∙ ap (λ z. cond z b (m k)) o ∙ sym (ap (λ z. unwrap_or (cond z (Some b) (patch (a + 1) bs k)) (m k)) t))
            | inr o ↦ inl (same ∙ ap (λ z. cond z b (m k)) o)
          ])
      | inr f ↦ (
          let same : n k ≡ m k = ap (λ z. cond (z && mask % 2 == 1) b (m k)) f in
          elim (masked_either (mask / 2) n (a + 1) bs k) [
            | inl e ↦ inl (e ∙ same)
            | inr e ↦ inr (e ∙ ap (λ z. unwrap_or (patch (a + 1) bs k) z) same ∙ sym (ap (λ z. unwrap_or (cond z (Some b) (patch (a + 1) bs k)) (m k)) f))
          ])
    ]

pub torn_either : (mask : ℕ) (m : Mem) (e : Effect) (k : ℕ) → (torn_by mask m e k ≡ m k) ⊎ (torn_by mask m e k ≡ unwrap_or (writes_by e k) (m k))
torn_either mask m (Puts v target) k = inl refl
torn_either mask m (Goes target) k = inl refl
torn_either mask m (Loads a n extension) k = inl refl
torn_either mask m (Stores a n v) k = by_place (is_place a n)
  where
    by_place : (b : Bool) → (cond b (masked mask m a (bytes_of n v)) m k ≡ m k) ⊎ (cond b (masked mask m a (bytes_of n v)) m k ≡ unwrap_or (cond b (patch a (bytes_of n v) k) None) (m k))
    by_place true = masked_either mask m a (bytes_of n v) k
    by_place false = inl refl
torn_either mask m Stops k = inl refl

-- bytes stay bytes
pub writes_small : (m : Mem) (e : Effect) → ((a : ℕ) → m a < 256) → (k : ℕ) → unwrap_or (writes_by e k) (m k) < 256
writes_small m (Puts v target) h k = h k
writes_small m (Goes target) h k = h k
writes_small m (Loads a n extension) h k = h k
writes_small m (Stores a n v) h k = by_place (is_place a n)
  where
    by_place : (b : Bool) → unwrap_or (cond b (patch a (bytes_of n v) k) None) (m k) < 256
    by_place true = subst (λ z. z < 256) (written-patch m a (bytes_of n v) k) (written-small m a n v h k)
    by_place false = h k
writes_small m Stops h k = h k

pub torn_small : (mask : ℕ) (m : Mem) (e : Effect) → ((a : ℕ) → m a < 256) → (k : ℕ) → torn_by mask m e k < 256
torn_small mask m e h k = elim (torn_either mask m e k) [
  | inl q ↦ subst (λ z. z < 256) (sym q) (h k)
  | inr q ↦ subst (λ z. z < 256) (sym q) (writes_small m e h k)
]

-- a word's store is one
pub word_store : (e : Effect) (b : ℕ) → stores_word e b ≡ true → (v : ℕ) × (e ≡ Stores b 4 v) × (is_place b 4 ≡ true)
word_store (Puts v target) b h = absurd (cc)
word_store (Goes target) b h = absurd (cc)
word_store (Loads a n extension) b h = absurd (cc)
word_store (Stores a n v) b h =
    let ea : a ≡ b = grind (arith, nat_tests) in
    let en : n ≡ 4 = grind (arith, nat_tests) in
    let p : is_place a n ≡ true = grind (arith, nat_tests) in
    (v, ap (λ z. Stores z n v) ea ∙ ap (λ z. Stores b z v) en, sym (ap (λ z. is_place z 4) ea) ∙ sym (ap (λ z. is_place a z) en) ∙ p)
word_store Stops b h = absurd (cc)

four_ways : (k : ℕ) → (k ≡ 0) ⊎ ((k ≡ 1) ⊎ ((k ≡ 2) ⊎ ((k ≡ 3) ⊎ (4 ≤ k))))
four_ways k = grind arith

-- beside its lowest byte, a small number that is stored at 0 over a small number changes nothing
high_same : (m : Mem) (v : ℕ) → little (written m 0 (bytes_of 4 v)) 0 4 < 2 → little m 0 4 < 2 → (k : ℕ) → (k ≡ 0) ⊎ (written m 0 (bytes_of 4 v) k ≡ m k)
high_same m v l s k = elim (four_ways k) [
  | inl e ↦ inl e
  | inr (inl e) ↦ inr (subst (λ z. written m 0 (bytes_of 4 v) z ≡ m z) (sym e) (let q : v / 256 % 256 ≡ m 1 = omega arith in q))
  | inr (inr (inl e)) ↦ inr (subst (λ z. written m 0 (bytes_of 4 v) z ≡ m z) (sym e) (let q : v / 256 / 256 % 256 ≡ m 2 = omega arith in q))
  | inr (inr (inr (inl e))) ↦ inr (subst (λ z. written m 0 (bytes_of 4 v) z ≡ m z) (sym e) (let q : v / 256 / 256 / 256 % 256 ≡ m 3 = omega arith in q))
  | inr (inr (inr (inr l))) ↦ inr (written-above m 0 k (bytes_of 4 v) (omega (arith, length-bytes_of 4 v)))
]

-- a torn flip is the flip or nothing
pub torn_flip : (mask : ℕ) (m : Mem) (v : ℕ) → little (written m 0 (bytes_of 4 v)) 0 4 < 2 → little m 0 4 < 2 → (masked mask m 0 (bytes_of 4 v) ≡ m) ⊎ (masked mask m 0 (bytes_of 4 v) ≡ written m 0 (bytes_of 4 v))
torn_flip mask m v l s = elim (truth (mask % 2 == 1)) [
  | inl o ↦ inr (fun_ext (λ k. elim (high_same m v l s k) [
    | inl e ↦ subst (λ z. masked mask m 0 (bytes_of 4 v) z ≡ written m 0 (bytes_of 4 v) z) (sym e) (lowest ∙ ap (λ z. cond z (v % 256) (m 0)) o ∙ sym whole)
    | inr e ↦ elim (masked_either mask m 0 (bytes_of 4 v) k) [
      | inl q ↦ q ∙ sym e
      | inr q ↦ q ∙ sym (written-patch m 0 (bytes_of 4 v) k)
    ]
  ]))
  | inr o ↦ inl (fun_ext (λ k. elim (high_same m v l s k) [
    | inl e ↦ subst (λ z. masked mask m 0 (bytes_of 4 v) z ≡ m z) (sym e) (lowest ∙ ap (λ z. cond z (v % 256) (m 0)) o)
    | inr e ↦ elim (masked_either mask m 0 (bytes_of 4 v) k) [
      | inl q ↦ q
      | inr q ↦ q ∙ sym (written-patch m 0 (bytes_of 4 v) k) ∙ e
    ]
  ]))
]
  where
    lowest : masked mask m 0 (bytes_of 4 v) 0 ≡ cond (mask % 2 == 1) (v % 256) (m 0)
    lowest = masked-below (mask / 2) (λ i. cond (i == 0 && mask % 2 == 1) (v % 256) (m i)) 1 (bytes_of 3 (v / 256)) 0 (omega arith)

    whole : written m 0 (bytes_of 4 v) 0 ≡ v % 256
    whole = refl
