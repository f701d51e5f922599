-- What places and lines give: objects named directly, or none.
use Rattle.std.proofs.Common.{◌≡◌, ◌<◌, ◌⊎◌, ℕ, Bool, List, [], ◌∷◌, refl, ap, subst, ⊎_elim}
use Rattle.im_num.specs.declared.kind.Kind.{Kind}
use Rattle.im_block.specs.declared.code.Place.{Place}
use Rattle.im_block.specs.declared.code.Place.TheVariants.{Static, Local}
use Rattle.im_block.specs.declared.code.Line.{Line}
use Rattle.im_block.specs.declared.code.Line.TheVariants.{Copy, Move, Address, Read, Call}
use Rattle.im_alias.specs.PointsAt.{PointsAt, addressed, loaded}
use Rattle.im_alias.specs.Scan.{IsReached, given_of}

pub given_nothing : (p : PointsAt) (sets : ℕ → List ℕ) (line : Line) →
    ((to from : ℕ) → line ≡ Copy to from → ⊥) →
    ((to size : ℕ) (back : Bool) (pointer by : ℕ) → line ≡ Move to size back pointer by → ⊥) →
    ((to : ℕ) (place : Place) → line ≡ Address to place → ⊥) →
    ((to : ℕ) (place : Place) (kind : Kind) (access : ℕ) → line ≡ Read to place kind access → ⊥) →
    ((to callee first count : ℕ) → line ≡ Call to callee first count → ⊥) →
    given_of p sets line ≡ []
given_nothing p sets (Copy to from) a b c d e = absurd (a to from refl)
given_nothing p sets (Move to size back pointer by) a b c d e = absurd (b to size back pointer by refl)
given_nothing p sets (Address to place) a b c d e = absurd (c to place refl)
given_nothing p sets (Read to place kind access) a b c d e = absurd (d to place kind access refl)
given_nothing p sets (Call to callee first count) a b c d e = absurd (e to callee first count refl)
given_nothing p sets line a b c d e = refl

-- a place that names its object, at some offset
abbrev pub IsDirect : ℕ → Place → Type 0
IsDirect object place = ((offset : ℕ) × (place ≡ Static object offset)) ⊎ ((offset : ℕ) × (place ≡ Local object offset))

pub addressed_directly : (sets : ℕ → List ℕ) (object : ℕ) (place : Place) → IsDirect object place → addressed sets place ≡ object ∷ []
addressed_directly sets object place h = ⊎_elim (λ w. ap (addressed sets) w.1) (λ w. ap (addressed sets) w.1) h

pub loaded_directly : (p : PointsAt) (sets : ℕ → List ℕ) (object : ℕ) (place : Place) → IsDirect object place → loaded p sets place ≡ p.object object
loaded_directly p sets object place h = ⊎_elim (λ w. ap (loaded p sets) w.1) (λ w. ap (loaded p sets) w.1) h

pub reached_directly : (bound : ℕ) (sets : ℕ → List ℕ) (object : ℕ) (place : Place) → IsDirect object place → IsReached bound sets place → object < bound
reached_directly bound sets object place h there = ⊎_elim (λ w. subst (IsReached bound sets) w.1 there) (λ w. subst (IsReached bound sets) w.1 there) h
