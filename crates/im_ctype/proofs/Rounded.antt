-- The least multiple.
use Rattle.std.proofs.Common.{◌≡◌, ℕ, zero, suc, ◌+◌, ◌-◌, ◌*◌, ◌/◌, ◌%◌, ◌<◌, ◌≤◌, ◌⊎◌, inl, inr, refl, sym, ap, ◌∙◌, subst, arith}
use Rattle.std.proofs.Math.Nat.{lt_of_mul-lt-mul_right, mod-add-div', mod-eq_of_lt, mod-lt, mod_self, mul-le-mul_right}
use Rattle.im_ctype.specs.Layout.{round_up}
use Rattle.im_ctype.proofs.Places.{multiple-mod, mod-multiple}

no_more : (n a : ℕ) → 0 < a → n % a ≡ 0 → round_up n a ≡ n
no_more n a h e =
    let z : a - 0 ≡ a = omega arith in
    let last : n + 0 ≡ n = omega arith in
    ap (λ r. n + (a - r) % a) e ∙ ap (λ x. n + x % a) z ∙ ap (λ x. n + x) (mod_self a) ∙ last

next_one : (n a : ℕ) → 0 < a → 0 < n % a → round_up n a ≡ (n / a + 1) * a
next_one n a h g =
    let b : n % a < a = mod-lt n h in
    let c : a - n % a < a = omega (arith, b, g) in
    let d = mod-add-div' n a in
    let f : n / a * a + a ≡ (n / a + 1) * a = grind arith in
    ap (λ x. n + x) (mod-eq_of_lt c) ∙ omega (arith, b, d, f)

zero_or_more : (n : ℕ) → (n ≡ 0) ⊎ (0 < n)
zero_or_more zero = inl refl
zero_or_more (suc n) = inr (omega arith)

pub rounded-multiple : (n a : ℕ) → 0 < a → round_up n a % a ≡ 0
rounded-multiple n a h = elim (zero_or_more (n % a)) [
  | inl e ↦ ap (λ x. x % a) (no_more n a h e) ∙ e
  | inr g ↦ ap (λ x. x % a) (next_one n a h g) ∙ multiple-mod a ((n / a + 1) * a) (n / a + 1, refl)
]

above : (q k a r : ℕ) → q * a + r ≤ k * a → 0 < r → q + 1 ≤ k
above q k a r h g =
    let l : q * a < k * a = omega (arith, h, g) in
    let m = lt_of_mul-lt-mul_right a l in
    omega (arith, m)

pub rounded-least : (n a m : ℕ) → 0 < a → n ≤ m → m % a ≡ 0 → round_up n a ≤ m
rounded-least n a m h le e = elim (zero_or_more (n % a)) [
  | inl z ↦ subst (λ x. x ≤ m) (sym (no_more n a h z)) le
  | inr g ↦
      let k = mod-multiple a m e in
      let d = mod-add-div' n a in
      let up : n / a * a + n % a ≤ k.0 * a = omega (arith, d, k.1) in
      let l = mul-le-mul_right a (above (n / a) k.0 a (n % a) up g) in
      subst (λ x. x ≤ m) (sym (next_one n a h g)) (omega (arith, l, k.1))
]
