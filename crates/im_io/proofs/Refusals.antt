-- Whether a call is refused, by its causes.
use Rattle.std.proofs.Common.{◌≡◌, ◌↔◌, Bool, true, false, IsTrue, inl, inr, refl}
use Rattle.std.specs.Prelude.{◌⊎◌}

pub not_so : {A : Type 0} (b : Bool) → IsTrue b ↔ A → b ≡ false → A → ⊥
not_so b h is_false a = let yes : b ≡ true = h.1 a in absurd cc

pub by_first : {A B : Type 0} → A → (true ≡ true) ↔ (A ⊎ B)
by_first a = (λ _. inl a, λ _. refl)

pub by_second : {A B : Type 0} → B → (true ≡ true) ↔ (A ⊎ B)
by_second b = (λ _. inr b, λ _. refl)

one_of : {A B : Type 0} → (A → ⊥) → (B → ⊥) → A ⊎ B → ⊥
one_of no_a no_b (inl a) = no_a a
one_of no_a no_b (inr b) = no_b b

not_true : false ≡ true → ⊥
not_true e = absurd cc

pub by_neither : {A B : Type 0} → (A → ⊥) → (B → ⊥) → (false ≡ true) ↔ (A ⊎ B)
by_neither no_a no_b = (λ e. absurd (not_true e), λ cause. absurd (one_of no_a no_b cause))
