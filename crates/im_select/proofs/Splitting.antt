-- A word in its upper 20 and its lower 12 bits.
use Rattle.std.proofs.Common.{◌≡◌, ◌<◌, ◌≤◌, ◌⊎◌, inl, inr, ℕ, ◌+◌, ◌/◌, ◌%◌, ◌^◌, Bool, true, false, refl, sym, ap, ◌∙◌, arith}
use Rattle.std.specs.Prelude.{◌==◌, nat_lt, if◌then◌else◌}
use Rattle.std.proofs.lemmas.Bool.Decides.{nat_tests}
use Rattle.im_rv_reach.specs.Instructions.{Splits}
use Rattle.im_select.specs.Emitted.{high_of, low_of}

pub low_cases : (n : ℕ) → ((n % 4096 < 2048) × (low_of n ≡ n % 4096)) ⊎ ((2048 ≤ n % 4096) × (low_of n ≡ n % 4096 + 4294963200))
unfolding low_of
low_cases n = by (nat_lt (n % 4096) 2048) refl
  where
    by : (b : Bool) → nat_lt (n % 4096) 2048 ≡ b → ((n % 4096 < 2048) × (low_of n ≡ n % 4096)) ⊎ ((2048 ≤ n % 4096) × (low_of n ≡ n % 4096 + 4294963200))
    by true e = inl (grind (arith, nat_tests), ap (λ b. if b then n % 4096 else n % 4096 + 4294963200) e)
    by false e = inr (grind (arith, nat_tests), ap (λ b. if b then n % 4096 else n % 4096 + 4294963200) e)

pub high_is : (n : ℕ) → high_of n ≡ (n + 2048) / 4096 % 1048576
unfolding high_of
high_is n = refl

pub splits : (n : ℕ) → n < 2 ^ 32 → Splits (high_of n) (low_of n) n
splits n small = elim (low_cases n) [ inl c ↦ (let h = high_is n in let e = c.1 in let l = c.0 in omega arith) | inr c ↦ (let h = high_is n in let e = c.1 in let l = c.0 in omega arith) ]

pub low_whole : (n : ℕ) → n < 2 ^ 32 → high_of n ≡ 0 → low_of n ≡ n
low_whole n small z = elim (low_cases n) [ inl c ↦ (let h = high_is n in let e = c.1 in let l = c.0 in omega arith) | inr c ↦ (let h = high_is n in let e = c.1 in let l = c.0 in omega arith) ]

-- a multiple of 4096 has no lower part
pub low_none : (n : ℕ) → n % 4096 ≡ 0 → (low_of n == 0) ≡ true
low_none n e = elim (low_cases n) [ inl c ↦ (let l = c.0 in let q : low_of n ≡ 0 = c.1 ∙ e in grind (arith, nat_tests)) | inr c ↦ (let l = c.0 in absurd (omega arith)) ]

pub low_some : (n : ℕ) → (n % 4096 ≡ 0 → ⊥) → (low_of n == 0) ≡ false
low_some n e = elim (low_cases n) [
  | inl c ↦ (let q = c.1 in let r : low_of n ≡ 0 → ⊥ = (λ z. e (sym q ∙ z)) in grind (arith, nat_tests))
  | inr c ↦ (let q = c.1 in let r : low_of n ≡ 0 → ⊥ = (λ z. omega arith) in grind (arith, nat_tests))
]
