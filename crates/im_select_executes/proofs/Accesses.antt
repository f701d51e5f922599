-- Where a step reads and writes, and what it touches then.
use Rattle.std.proofs.Common.{◌≡◌, ◌≢◌, ℕ, ◌+◌, ◌<◌, ◌≤◌, inl, inr, true, false, cond, List, [], ◌∷◌, length, is_some, Option, Some, None, refl, sym, ap, ◌∙◌, arith}
use Rattle.std.specs.Prelude.{◌==◌, ◌&&◌, nat_le, nat_lt}
use Rattle.std.proofs.lemmas.Bool.{and_parts}
use Rattle.std.proofs.lemmas.Bool.Decides.{nat_tests}
use Rattle.im_num.specs.Bytes.{bytes_of}
use Rattle.im_mem.specs.Memory.{Mem, is_place, loaded, stored}
use Rattle.im_mem.proofs.Words.{length-bytes_of}
use Rattle.im_rv.specs.declared.step.Went.TheVariants.{On, Faulted}
use Rattle.im_rv.specs.declared.effect.Extension.{Extension}
use Rattle.im_rv.specs.declared.effect.Effect.{Effect}
use Rattle.im_rv.specs.declared.effect.Effect.TheVariants.{Puts, Goes, Loads, Stores, Stops}
use Rattle.im_rv.specs.Steps.{Cpu, sum_of, effected, faulted}
use Rattle.im_rv.specs.Decode.{Line, decode}
use Rattle.im_rv.specs.Runs.{decoded, fetched, step_of}
use Rattle.im_rv.specs.Effects.{decoded_word, effect_by, effect_of, patch, writes_by, reads_by}
use Rattle.im_rv.proofs.Locality.{patch_below, patch_above}
use Rattle.im_replay_path.proofs.Times.{truth, order}

-- a store over a byte
pub record StoresAt (e : Effect) (a : ℕ) : Type 0 where
  pub b : ℕ
  pub n : ℕ
  pub v : ℕ
  pub is : e ≡ Stores b n v
  pub ok : is_place b n ≡ true
  pub low : b ≤ a
  pub high : a < b + n

pub stores_at : (e : Effect) (a w : ℕ) → writes_by e a ≡ Some w → StoresAt e a
stores_at (Puts v target) a w k = absurd (let bad : None ≡ Some w = k in cc)
stores_at (Goes target) a w k = absurd (let bad : None ≡ Some w = k in cc)
stores_at (Loads b n x) a w k = absurd (let bad : None ≡ Some w = k in cc)
stores_at Stops a w k = absurd (let bad : None ≡ Some w = k in cc)
stores_at (Stores b n v) a w k = elim (truth (is_place b n)) [
  | inr q ↦ absurd (let bad : None ≡ Some w = sym (ap (λ z. cond z (patch b (bytes_of n v) a) None) q) ∙ k in cc)
  | inl ok ↦ (
      let p : patch b (bytes_of n v) a ≡ Some w = sym (ap (λ z. cond z (patch b (bytes_of n v) a) None) ok) ∙ k in
      elim (order a b) [
        | inl below ↦ absurd (let bad : None ≡ Some w = sym (patch_below b (bytes_of n v) a below) ∙ p in cc)
        | inr low ↦ elim (order a (b + n)) [
          | inr above ↦ absurd (let bad : None ≡ Some w = sym (patch_above b (bytes_of n v) a (omega (arith, length-bytes_of n v))) ∙ p in cc)
          | inl high ↦ record { b = b; n = n; v = v; is = refl; ok = ok; low = low; high = high }
        ]
      ])
]

-- a load of a byte
pub record LoadsAt (e : Effect) (a : ℕ) : Type 0 where
  pub b : ℕ
  pub n : ℕ
  pub x : Extension
  pub is : e ≡ Loads b n x
  pub ok : is_place b n ≡ true
  pub low : b ≤ a
  pub high : a < b + n

le_of : (a b : ℕ) → nat_le a b ≡ true → a ≤ b
le_of a b h = grind (arith, nat_tests)

lt_of : (a b : ℕ) → nat_lt a b ≡ true → a < b
lt_of a b h = grind (arith, nat_tests)

pub loads_at : (e : Effect) (a : ℕ) → reads_by e a ≡ true → LoadsAt e a
loads_at (Puts v target) a k = absurd (let bad : false ≡ true = k in cc)
loads_at (Goes target) a k = absurd (let bad : false ≡ true = k in cc)
loads_at (Stores b n v) a k = absurd (let bad : false ≡ true = k in cc)
loads_at Stops a k = absurd (let bad : false ≡ true = k in cc)
loads_at (Loads b n x) a k =
    let two = and_parts (is_place b n && nat_le b a) (nat_lt a (b + n)) k in
    let one = and_parts (is_place b n) (nat_le b a) two.0 in
    record { b = b; n = n; x = x; is = refl; ok = one.0; low = le_of b a one.1; high = lt_of a (b + n) two.1 }

-- a store that doesn't fault is at a place, and writes each of its bytes
patched : (b : ℕ) (bs : List ℕ) (a : ℕ) → b ≤ a → a < b + length bs → is_some (patch b bs a) ≡ true
patched b [] a low high = absurd (omega arith)
patched b (v ∷ bs) a low high = elim (truth (a == b)) [
  | inl q ↦ ap (λ z. is_some (cond z (Some v) (patch (b + 1) bs a))) q
  | inr q ↦ (
      let ne : a ≢ b = grind (arith, nat_tests) in
      ap (λ z. is_some (cond z (Some v) (patch (b + 1) bs a))) q ∙ patched (b + 1) bs a (omega arith) (omega arith))
]

placed_effect : (c : Cpu) (m : Mem) (rd : ℕ) (e : Effect) (b n v : ℕ) → e ≡ Stores b n v → ((at : ℕ) → (effected c m rd e).went ≢ Faulted at) → is_place b n ≡ true
placed_effect c m rd e b n v h calm = elim (truth (is_place b n)) [
  | inl ok ↦ ok
  | inr q ↦ absurd (calm c.pc (ap (λ z. (effected c m rd z).went) h ∙ ap (λ z. (cond z (record { went = On; cpu = record { pc = sum_of c.pc 4; x = c.x }; mem = stored m b n v }) (faulted c m)).went) q))
]

placed_line : (c : Cpu) (m : Mem) (o : Option Line) (b n v : ℕ) → effect_by c o ≡ Stores b n v → ((at : ℕ) → (decoded c m o).went ≢ Faulted at) → is_place b n ≡ true
placed_line c m None b n v h calm = absurd (let bad : Stops ≡ Stores b n v = h in cc)
placed_line c m (Some l) b n v h calm = placed_effect c m l.rd (effect_by c (Some l)) b n v h calm

placed_word : (c : Cpu) (m : Mem) (o : Option ℕ) (b n v : ℕ) → effect_by c (decoded_word o) ≡ Stores b n v → ((at : ℕ) → (fetched c m o).went ≢ Faulted at) → is_place b n ≡ true
placed_word c m None b n v h calm = absurd (let bad : Stops ≡ Stores b n v = h in cc)
placed_word c m (Some w) b n v h calm = placed_line c m (decode w) b n v h calm

pub placed : (c : Cpu) (m : Mem) (b n v : ℕ) → effect_of c m ≡ Stores b n v → ((at : ℕ) → (step_of c m).went ≢ Faulted at) → is_place b n ≡ true
placed c m b n v h calm = placed_word c m (loaded m c.pc 4) b n v h calm

pub written_some : (b n v a : ℕ) → is_place b n ≡ true → b ≤ a → a < b + n → is_some (writes_by (Stores b n v) a) ≡ true
written_some b n v a ok low high =
    ap (λ z. is_some (cond z (patch b (bytes_of n v) a) None)) ok ∙ patched b (bytes_of n v) a low (omega (arith, length-bytes_of n v))
