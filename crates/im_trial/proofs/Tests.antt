-- What a test on a byte says.
use Rattle.std.proofs.Common.{◌≡◌, ℕ, ◌==◌, Bool, true, false, refl, arith, if◌then◌else◌}
use Rattle.std.proofs.lemmas.Bool.Decides.{nat_tests}

pub same_of : (a b : ℕ) → (a == b) ≡ true → a ≡ b
same_of a b h = grind (arith, nat_tests)

pub other : {T : Type 0} (b : Bool) (x y : T) → (b ≡ true → ⊥) → (if b then x else y) ≡ y
other true x y h = absurd (h refl)
other false x y h = refl
