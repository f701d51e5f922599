-- Straight runs of loads.
use Rattle.std.proofs.Common.{◌≡◌, ◌≤◌, ◌≢◌, ℕ, suc, ◌+◌, ◌*◌, ◌%◌, ◌^◌, ◌<◌, ◌⊎◌, inl, inr, Bool, true, false, cond, Some, List, [], ◌∷◌, ◌++◌, refl, sym, ap, ◌∙◌, subst, arith}
use Rattle.std.specs.Prelude.{◌==◌, ◌&&◌, nat_lt, pos}
use Rattle.std.proofs.lemmas.Bool.Decides.{nat_tests}
use Rattle.im_mem.specs.Memory.{Mem, little, is_place, Stands}
use Rattle.im_rv.specs.declared.instr.Op.TheVariants.{Lw}
use Rattle.im_rv.specs.declared.effect.Effect.TheVariants.{Loads}
use Rattle.im_rv.specs.declared.effect.Extension.TheVariants.{Zero}
use Rattle.im_rv.specs.declared.step.Went.TheVariants.{On}
use Rattle.im_rv.specs.Steps.{Cpu, sum_of, with_reg, word}
use Rattle.im_rv.specs.Decode.{decode}
use Rattle.im_rv.specs.Runs.{step_of}
use Rattle.im_rv.specs.Encode.{encoded}
use Rattle.im_rv.specs.Fits.{fits}
use Rattle.im_rv.specs.Lines.{instruction}
use Rattle.im_rv.proofs.Encoding.{decode-encoded}
use Rattle.im_rv.proofs.Straight.{loads_step, same_reg, other_reg}
use Rattle.im_ckpt.specs.Recovery.{load_line}

load_fits : (rd at : ℕ) → rd < 32 → at < 2048 → fits Lw rd 0 0 (pos at) ≡ true
load_fits rd at l h = grind (arith, nat_tests)

small_word : (n : ℕ) → n < 2 ^ 32 → word (pos n) ≡ n
small_word n l = omega arith

load_back : (rd at : ℕ) → rd < 32 → at < 2048 → decode (encoded (load_line rd at)) ≡ Some (load_line rd at)
load_back rd at l h = subst (λ z. decode (encoded (instruction Lw rd 0 0 z)) ≡ Some (instruction Lw rd 0 0 z)) (small_word at (omega arith)) (decode-encoded Lw rd 0 0 (pos at) (load_fits rd at l h))

word_place : (a : ℕ) → a % 4 ≡ 0 → a + 4 ≤ 5242880 → is_place a 4 ≡ true
word_place a h l = grind (arith, nat_tests)

-- what has to hold of the numbers of a load at pc
pub record Reaches (pc rd at : ℕ) : Type 0 where
  pub aligned : pc % 4 ≡ 0
  pub low : pc < 8192
  pub register : rd < 32
  pub even : at % 4 ≡ 0
  pub near : at < 2048

pub load_step : (m : Mem) (pc rd at : ℕ) (x : ℕ → ℕ) → little m pc 4 ≡ encoded (load_line rd at) → Reaches pc rd at → x 0 ≡ 0 → step_of (record { pc = pc; x = x }) m ≡ record { went = On; cpu = record { pc = pc + 4; x = with_reg x rd (little m at 4) }; mem = m }
load_step m pc rd at x h f x0 =
    let a = f.aligned in
    let b = f.low in
    let d = f.near in
    let q : sum_of 0 at ≡ at = omega arith in
    let next : sum_of pc 4 ≡ pc + 4 = omega arith in
    loads_step (record { pc = pc; x = x }) m (encoded (load_line rd at)) (load_line rd at) at 4 Zero
    (record { word = h; here = word_place pc a (omega arith); line = load_back rd at f.register d })
    (ap (λ z. Loads (sum_of z at) 4 Zero) x0 ∙ ap (λ z. Loads z 4 Zero) q)
    (word_place at f.even (omega arith))
    ∙ ap (λ p. record { went = On; cpu = record { pc = p; x = with_reg x rd (little m at 4) }; mem = m }) next

-- ---- one after another

abbrev pub load_words : ℕ → List ℕ → List ℕ
load_words base [] = []
load_words base (i ∷ is) = encoded (load_line i (base + 4 * i)) ∷ load_words base is

-- each is the number of a register, and none is x0
abbrev pub are_loadable : List ℕ → Bool
are_loadable [] = true
are_loadable (i ∷ is) = (nat_lt 0 i && nat_lt i 32) && are_loadable is

abbrev pub filled : Mem → ℕ → List ℕ → (ℕ → ℕ) → ℕ → ℕ
filled m base [] x = x
filled m base (i ∷ is) x = filled m base is (with_reg x i (little m (base + 4 * i) 4))

abbrev pub past : ℕ → List ℕ → ℕ
past pc [] = pc
past pc (i ∷ is) = past (pc + 4) is

abbrev pub after : List ℕ → ℕ → ℕ
after [] n = n
after (i ∷ is) n = suc (after is n)

past_more : (pc : ℕ) (is : List ℕ) → pc ≤ past pc is
past_more pc [] = omega arith
past_more pc (i ∷ is) = let h = past_more (pc + 4) is in omega arith

-- what holds so many steps before the end of a walk that leaves memory as it is holds a step earlier too
abbrev pub Backward : Mem → (ℕ → Cpu → Type 0) → Type 0
Backward m P = (k : ℕ) (c d : Cpu) → step_of c m ≡ record { went = On; cpu = d; mem = m } → P k d → P (suc k) c

-- a run of loads, one a step
pub walk : (m : Mem) (P : ℕ → Cpu → Type 0) → Backward m P → (base : ℕ) → base % 4 ≡ 0 → base ≤ 256 → (is tail : List ℕ) (pc : ℕ) (x : ℕ → ℕ) → Stands m pc (load_words base is ++ tail) → pc % 4 ≡ 0 → past pc is ≤ 8192 → are_loadable is ≡ true → x 0 ≡ 0 → (n : ℕ) → P n (record { pc = past pc is; x = filled m base is x }) → P (after is n) (record { pc = pc; x = x })
walk m P back base even near [] tail pc x st aligned low named x0 n h = h
walk m P back base even near (i ∷ is) tail pc x st aligned low named x0 n h =
    let y : ℕ → ℕ = with_reg x i (little m (base + 4 * i) 4) in
    let more = past_more (pc + 4) is in
    let above : 0 < i = first_above i is named in
    let below : i < 32 = first_below i is named in
    let zero_kept : y 0 ≡ 0 = (let ne : 0 ≢ i = omega arith in other_reg x i (little m (base + 4 * i) 4) 0 ne ∙ x0) in
    back (after is n) (record { pc = pc; x = x }) (record { pc = pc + 4; x = y })
    (load_step m pc i (base + 4 * i) x st.0 (record { aligned = aligned; low = omega arith; register = below; even = omega arith; near = omega arith }) x0)
    (walk m P back base even near is tail (pc + 4) y st.1 (omega arith) low (others i is named) zero_kept n h)
  where
    first_above : (i : ℕ) (is : List ℕ) → are_loadable (i ∷ is) ≡ true → 0 < i
    first_above i is h = grind (arith, nat_tests)

    first_below : (i : ℕ) (is : List ℕ) → are_loadable (i ∷ is) ≡ true → i < 32
    first_below i is h = grind (arith, nat_tests)

    others : (i : ℕ) (is : List ℕ) → are_loadable (i ∷ is) ≡ true → are_loadable is ≡ true
    others i is h = grind (arith, nat_tests)

pub rest_stands : (m : Mem) (base : ℕ) (is tail : List ℕ) (pc : ℕ) → Stands m pc (load_words base is ++ tail) → Stands m (past pc is) tail
rest_stands m base [] tail pc st = st
rest_stands m base (i ∷ is) tail pc st = rest_stands m base is tail (pc + 4) st.1

abbrev pub has : ℕ → List ℕ → Bool
has k [] = false
has k (i ∷ is) = cond (k == i) true (has k is)

two_ways : (k i : ℕ) → (k ≡ i) ⊎ (k ≢ i)
two_ways k i = grind arith

-- a register that is loaded later, or that holds its word already, holds its word at the end
pub filled_kept : (m : Mem) (base : ℕ) (is : List ℕ) (x : ℕ → ℕ) (k : ℕ) → 0 < k → x k ≡ little m (base + 4 * k) 4 → filled m base is x k ≡ little m (base + 4 * k) 4
filled_kept m base [] x k p h = h
filled_kept m base (i ∷ is) x k p h = filled_kept m base is _ k p (elim (two_ways k i) [
  | inl e ↦ subst (λ j. with_reg x j (little m (base + 4 * j) 4) k ≡ little m (base + 4 * k) 4) e (same_reg x k (little m (base + 4 * k) 4) p)
  | inr ne ↦ other_reg x i (little m (base + 4 * i) 4) k ne ∙ h
])

pub filled_in : (m : Mem) (base : ℕ) (is : List ℕ) (x : ℕ → ℕ) (k : ℕ) → 0 < k → has k is ≡ true → filled m base is x k ≡ little m (base + 4 * k) 4
filled_in m base [] x k p h = absurd cc
filled_in m base (i ∷ is) x k p h = elim (two_ways k i) [
  | inl e ↦ filled_kept m base is _ k p (subst (λ j. with_reg x j (little m (base + 4 * j) 4) k ≡ little m (base + 4 * k) 4) e (same_reg x k (little m (base + 4 * k) 4) p))
  | inr ne ↦ filled_in m base is _ k p (let t : has k (i ∷ is) ≡ has k is = grind (arith, nat_tests) in sym t ∙ h)
]

pub filled_other : (m : Mem) (base : ℕ) (is : List ℕ) (x : ℕ → ℕ) (k : ℕ) → has k is ≡ false → filled m base is x k ≡ x k
filled_other m base [] x k h = refl
filled_other m base (i ∷ is) x k h = elim (two_ways k i) [
  | inl e ↦ absurd (let t : has k (i ∷ is) ≡ true = grind (arith, nat_tests) in let bad : true ≡ false = sym t ∙ h in cc)
  | inr ne ↦ filled_other m base is _ k (let t : has k (i ∷ is) ≡ has k is = grind (arith, nat_tests) in sym t ∙ h) ∙ other_reg x i (little m (base + 4 * i) 4) k ne
]
