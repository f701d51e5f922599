-- Marks over lists that are the same.
use Rattle.std.proofs.Common.{◌≡◌, ℕ, Bool, List, subst}
use Rattle.std.specs.Prelude.{Vec}
use Rattle.std.specs.declared.alloc.Global.{Global}
use Rattle.im_block.specs.declared.code.Block.{Block}
use Rattle.im_alloc_intervals.specs.Marks.{Adds, Flags}
use Rattle.im_alloc_intervals.specs.Tables.{IsSetIn, IsPassedIn, IsLivingOf, IsCrossingOf, IsEnteringOf}
use Rattle.im_alloc_intervals.proofs.Adding.{Table}

pub set_as : (b b' : List Block) (p p' : List ℕ) (x x' y : Table) → b ≡ b' → p ≡ p' → x ≡ x' → Adds (IsSetIn b p) x y → Adds (IsSetIn b' p') x' y
set_as b b' p p' x x' y e f g a =
    subst (λ (z : Table). Adds (IsSetIn b' p') z y) g
    (subst (λ (z : List ℕ). Adds (IsSetIn b' z) x y) f (subst (λ (z : List Block). Adds (IsSetIn z p) x y) e a))

pub passed_as : (b b' : List Block) (x x' y y' : List Bool) → b ≡ b' → x ≡ x' → y ≡ y' → Flags (IsPassedIn b) x y → Flags (IsPassedIn b') x' y'
passed_as b b' x x' y y' e g h a =
    subst (λ (z : List Bool). Flags (IsPassedIn b') x' z) h
    (subst (λ (z : List Bool). Flags (IsPassedIn b') z y) g (subst (λ (z : List Block). Flags (IsPassedIn z) x y) e a))

pub living_as : (s s' : List (Vec ℕ Global)) (b b' : List Block) (p p' : List ℕ) (x x' y y' : Table) → s ≡ s' → b ≡ b' → p ≡ p' → x ≡ x' → y ≡ y' → Adds (IsLivingOf s b p) x y → Adds (IsLivingOf s' b' p') x' y'
living_as s s' b b' p p' x x' y y' d e f g h a =
    subst (λ (z : Table). Adds (IsLivingOf s' b' p') x' z) h
    (subst (λ (z : Table). Adds (IsLivingOf s' b' p') z y) g
    (subst (λ (z : List ℕ). Adds (IsLivingOf s' b' z) x y) f
    (subst (λ (z : List Block). Adds (IsLivingOf s' z p) x y) e (subst (λ (z : List (Vec ℕ Global)). Adds (IsLivingOf z b p) x y) d a))))

pub crossing_as : (s s' : List (Vec ℕ Global)) (b b' : List Block) (x x' y y' : List Bool) → s ≡ s' → b ≡ b' → x ≡ x' → y ≡ y' → Flags (IsCrossingOf s b) x y → Flags (IsCrossingOf s' b') x' y'
crossing_as s s' b b' x x' y y' d e g h a =
    subst (λ (z : List Bool). Flags (IsCrossingOf s' b') x' z) h
    (subst (λ (z : List Bool). Flags (IsCrossingOf s' b') z y) g
    (subst (λ (z : List Block). Flags (IsCrossingOf s' z) x y) e (subst (λ (z : List (Vec ℕ Global)). Flags (IsCrossingOf z b) x y) d a)))

pub entering_as : (s s' : List (Vec ℕ Global)) (entry : ℕ) (x x' y : List Bool) → s ≡ s' → x ≡ x' → Flags (IsEnteringOf s entry) x y → Flags (IsEnteringOf s' entry) x' y
entering_as s s' entry x x' y d g a =
    subst (λ (z : List Bool). Flags (IsEnteringOf s' entry) z y) g (subst (λ (z : List (Vec ℕ Global)). Flags (IsEnteringOf z entry) x y) d a)
