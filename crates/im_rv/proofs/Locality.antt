-- A step depends on the registers that it uses, the word that it fetches and the bytes that it reads.
use Rattle.std.proofs.Common.{◌≡◌, ◌≢◌, ℕ, ◌+◌, ◌<◌, ◌≤◌, inl, inr, Bool, true, false, cond, Option, Some, None, List, [], ◌∷◌, length, refl, sym, ap, ◌∙◌, subst, arith}
use Rattle.std.specs.Prelude.{◌==◌, ◌&&◌, nat_le, nat_lt, unwrap_or}
use Rattle.std.proofs.lemmas.Bool.Decides.{nat_tests}
use Rattle.im_num.specs.Bytes.{bytes_of}
use Rattle.im_mem.specs.Memory.{Mem, little, loaded, written, is_place}
use Rattle.im_mem.proofs.Words.{little-alike}
use Rattle.im_rv.specs.declared.step.Went.TheVariants.{On, Faulted}
use Rattle.im_rv.specs.declared.effect.Extension.{Extension}
use Rattle.im_rv.specs.declared.effect.Effect.{Effect}
use Rattle.im_rv.specs.declared.effect.Effect.TheVariants.{Puts, Goes, Loads, Stores, Stops}
use Rattle.im_rv.specs.Steps.{Cpu, Stepped, sum_of, with_reg, loads, effected, faulted, extended}
use Rattle.im_rv.specs.Decode.{Line}
use Rattle.im_rv.specs.Runs.{decoded, fetched, step_of}
use Rattle.im_rv.proofs.Decoding.{truth}
use Rattle.im_rv.specs.Effects.{decoded_word, fetched_line, effect, patch, writes_by, reads_by, sets_by}

-- the instruction at the pc is the same where its word is
pub line_same : (c d : Cpu) (m n : Mem) → c.pc ≡ d.pc → little m d.pc 4 ≡ little n d.pc 4 → fetched_line c m ≡ fetched_line d n
line_same c d m n e h = ap (λ p. decoded_word (loaded m p 4)) e ∙ ap (λ v. decoded_word (cond (is_place d.pc 4) (Some v) None)) h

pub decoded_line : (c : Cpu) (m : Mem) (o : Option ℕ) → fetched c m o ≡ decoded c m (decoded_word o)
decoded_line c m None = refl
decoded_line c m (Some w) = refl

-- a step does what the effect of its instruction says
pub step_effected : (c : Cpu) (m : Mem) (l : Line) → fetched_line c m ≡ Some l → step_of c m ≡ effected c m l.rd (effect c l)
step_effected c m l h = decoded_line c m (loaded m c.pc 4) ∙ ap (decoded c m) h

-- ---- bytes

pub patch_below : (a : ℕ) (bs : List ℕ) (k : ℕ) → k < a → patch a bs k ≡ None
patch_below a [] k l = refl
patch_below a (b ∷ bs) k l = let ne : (k == a) ≡ false = grind (arith, nat_tests) in ap (λ z. cond z (Some b) (patch (a + 1) bs k)) ne ∙ patch_below (a + 1) bs k (omega arith)

pub patch_above : (a : ℕ) (bs : List ℕ) (k : ℕ) → a + length bs ≤ k → patch a bs k ≡ None
patch_above a [] k l = refl
patch_above a (b ∷ bs) k l = let ne : (k == a) ≡ false = grind (arith, nat_tests) in ap (λ z. cond z (Some b) (patch (a + 1) bs k)) ne ∙ patch_above (a + 1) bs k (omega arith)

one_patch : (a b d k : ℕ) (bs : List ℕ) → unwrap_or (patch (a + 1) bs k) (cond (k == a) b d) ≡ unwrap_or (cond (k == a) (Some b) (patch (a + 1) bs k)) d
one_patch a b d k bs = elim (truth (k == a)) [
  | inl t ↦ (let e : k ≡ a = grind (arith, nat_tests) in
      ap (λ z. unwrap_or z (cond (k == a) b d)) (patch_below (a + 1) bs k (omega arith)) ∙ ap (λ z. cond z b d) t ∙ sym (ap (λ z. unwrap_or (cond z (Some b) (patch (a + 1) bs k)) d) t))
  | inr f ↦ ap (λ z. unwrap_or (patch (a + 1) bs k) (cond z b d)) f ∙ sym (ap (λ z. unwrap_or (cond z (Some b) (patch (a + 1) bs k)) d) f)
]

pub written-patch : (n : Mem) (a : ℕ) (bs : List ℕ) (k : ℕ) → written n a bs k ≡ unwrap_or (patch a bs k) (n k)
written-patch n a [] k = refl
written-patch n a (b ∷ bs) k = written-patch (λ i. cond (i == a) b (n i)) (a + 1) bs k ∙ one_patch a b (n k) k bs

-- ---- one effect, on two machines

pub record Same (c d : Cpu) (m : Mem) (rd : ℕ) (e : Effect) (s t : Stepped) : Type 0 where
  pub went : s.went ≡ t.went
  pub place : s.cpu.pc ≡ t.cpu.pc
  pub set : (i : ℕ) → sets_by e rd i ≡ true → s.cpu.x i ≡ t.cpu.x i
  pub kept : (i : ℕ) → sets_by e rd i ≡ false → s.cpu.x i ≡ c.x i
  pub kept_there : (i : ℕ) → sets_by e rd i ≡ false → t.cpu.x i ≡ d.x i
  pub mem : (k : ℕ) → s.mem k ≡ unwrap_or (writes_by e k) (m k)

set_same : (x y : ℕ → ℕ) (rd v i : ℕ) → (i == rd && nat_lt 0 rd) ≡ true → with_reg x rd v i ≡ with_reg y rd v i
set_same x y rd v i h = ap (λ b. cond b v (x i)) h ∙ sym (ap (λ b. cond b v (y i)) h)

kept_same : (x : ℕ → ℕ) (rd v i : ℕ) → (i == rd && nat_lt 0 rd) ≡ false → with_reg x rd v i ≡ x i
kept_same x rd v i h = ap (λ b. cond b v (x i)) h

loads_same : (c d : Cpu) (m n : Mem) (rd a size : ℕ) (extension : Extension) (o : Option ℕ) → c.pc ≡ d.pc → ((at : ℕ) → (loads d n rd size extension o).went ≢ Faulted at) → Same c d m rd (Loads a size extension) (loads c m rd size extension o) (loads d n rd size extension o)
loads_same c d m n rd a size extension None al ok = absurd (ok d.pc refl)
loads_same c d m n rd a size extension (Some v) al ok = record {
  went = refl;
  place = ap (λ p. sum_of p 4) al;
  set = λ i h. set_same c.x d.x rd (extended size extension v) i h;
  kept = λ i h. kept_same c.x rd (extended size extension v) i h;
  kept_there = λ i h. kept_same d.x rd (extended size extension v) i h;
  mem = λ k. refl;
}

-- a store that is made where b
abbrev pub saved_at : Bool → Cpu → Mem → ℕ → List ℕ → Stepped
saved_at b c m a bs = cond b (record { went = On; cpu = record { pc = sum_of c.pc 4; x = c.x }; mem = cond b (written m a bs) m }) (faulted c m)

pub record Same_store (c d : Cpu) (m : Mem) (w : ℕ → Option ℕ) (s t : Stepped) : Type 0 where
  pub went : s.went ≡ t.went
  pub place : s.cpu.pc ≡ t.cpu.pc
  pub kept : (i : ℕ) → s.cpu.x i ≡ c.x i
  pub kept_there : (i : ℕ) → t.cpu.x i ≡ d.x i
  pub mem : (k : ℕ) → s.mem k ≡ unwrap_or (w k) (m k)

saved_same : (c d : Cpu) (m n : Mem) (a : ℕ) (bs cs : List ℕ) (b : Bool) → c.pc ≡ d.pc → Same_store c d m (λ k. cond b (patch a bs k) None) (saved_at b c m a bs) (saved_at b d n a cs)
saved_same c d m n a bs cs true al = record { went = refl; place = ap (λ p. sum_of p 4) al; kept = λ i. refl; kept_there = λ i. refl; mem = λ k. written-patch m a bs k }
saved_same c d m n a bs cs false al = record { went = ap (λ p. Faulted p) al; place = al; kept = λ i. refl; kept_there = λ i. refl; mem = λ k. refl }

-- stores of different values differ in memory alone
pub stores_same : (c d : Cpu) (m n : Mem) (rd a size v w : ℕ) → c.pc ≡ d.pc → Same_store c d m (λ k. writes_by (Stores a size v) k) (effected c m rd (Stores a size v)) (effected d n rd (Stores a size w))
stores_same c d m n rd a size v w al = saved_same c d m n a (bytes_of size v) (bytes_of size w) (is_place a size) al

loaded_same : (m n : Mem) (a size : ℕ) → ((k : ℕ) → (is_place a size && nat_le a k && nat_lt k (a + size)) ≡ true → m k ≡ n k) → loaded m a size ≡ loaded n a size
loaded_same m n a size h = elim (truth (is_place a size)) [
  | inl p ↦ ap (λ b. cond b (Some (little m a size)) None) p ∙ ap Some (little-alike m n size a (λ i l u. h i (let q : nat_le a i ≡ true = grind (arith, nat_tests) in let r : nat_lt i (a + size) ≡ true = grind (arith, nat_tests) in ap (λ b. b && nat_le a i && nat_lt i (a + size)) p ∙ ap (λ b. b && nat_lt i (a + size)) q ∙ r))) ∙ sym (ap (λ b. cond b (Some (little n a size)) None) p)
  | inr p ↦ ap (λ b. cond b (Some (little m a size)) None) p ∙ sym (ap (λ b. cond b (Some (little n a size)) None) p)
]

pub effect_same : (c d : Cpu) (m n : Mem) (rd : ℕ) (e : Effect) → c.pc ≡ d.pc → ((k : ℕ) → reads_by e k ≡ true → m k ≡ n k) → ((at : ℕ) → (effected d n rd e).went ≢ Faulted at) → Same c d m rd e (effected c m rd e) (effected d n rd e)
effect_same c d m n rd (Puts v target) al h ok = record { went = refl; place = refl; set = λ i h. set_same c.x d.x rd v i h; kept = λ i h. kept_same c.x rd v i h; kept_there = λ i h. kept_same d.x rd v i h; mem = λ k. refl }
effect_same c d m n rd (Goes target) al h ok = record { went = refl; place = refl; set = λ i h. absurd (cc); kept = λ i h. refl; kept_there = λ i h. refl; mem = λ k. refl }
effect_same c d m n rd (Loads a size extension) al h ok =
    let same : loaded m a size ≡ loaded n a size = loaded_same m n a size h in
    subst (λ o. Same c d m rd (Loads a size extension) (loads c m rd size extension o) (loads d n rd size extension (loaded n a size))) (sym same) (loads_same c d m n rd a size extension (loaded n a size) al ok)
effect_same c d m n rd (Stores a size v) al h ok =
    let r = stores_same c d m n rd a size v v al in
    record { went = r.went; place = r.place; set = λ i h. absurd (cc); kept = λ i h. r.kept i; kept_there = λ i h. r.kept_there i; mem = r.mem }
effect_same c d m n rd Stops al h ok = record { went = refl; place = al; set = λ i h. absurd (cc); kept = λ i h. refl; kept_there = λ i h. refl; mem = λ k. refl }
