-- What a write at a place that is named, and an exit that returns, make of the table.
use Rattle.std.proofs.Common.{◌≡◌, ℕ, ◌<◌, List, Bool, Some, sym, subst, ⊎_elim, ◌⊎◌}
use Rattle.im_block.specs.declared.code.Place.{Place}
use Rattle.im_block.specs.declared.code.Place.TheVariants.{Static, Local}
use Rattle.im_block.specs.declared.code.Exit.{Exit}
use Rattle.im_block.specs.declared.code.Exit.TheVariants.{Return}
use Rattle.im_block.specs.Wellformed.{ExitWithin}
use Rattle.im_block_laws.specs.PointsTo.{Sub, PlaceHas}
use Rattle.im_alias.specs.PointsAt.{sets_at, ExitFits}
use Rattle.im_alias.specs.declared.table.Owner.TheVariants.{Object, Returned}
use Rattle.im_alias.specs.declared.table.Table.{Table}
use Rattle.im_alias.specs.Sets.{Flowed, Grows}
use Rattle.im_alias.proofs.Arms.{write_object}

pub write_named : (sets : ℕ → List ℕ) (from object : ℕ) (set : List ℕ) (place : Place) (a b : Table) (c : Bool) → ((x : ℕ) × (place ≡ Static object x)) ⊎ ((x : ℕ) × (place ≡ Local object x)) → sets from ≡ set → Grows (Object object) set a b c → Flowed (λ p. (n : ℕ) → PlaceHas (sets_at p sets) 0 place n → Sub (sets from) (p.object n)) a b c
write_named sets from object set place a b c is e g =
    let h : Flowed (λ p. (n : ℕ) → object ≡ n → Sub (sets from) (p.object n)) a b c = write_object sets from object set a b c e g in
    ⊎_elim
    (λ (s : (x : ℕ) × (place ≡ Static object x)). subst (λ (q : Place). Flowed (λ p. (n : ℕ) → PlaceHas (sets_at p sets) 0 q n → Sub (sets from) (p.object n)) a b c) (sym s.1) h)
    (λ (s : (x : ℕ) × (place ≡ Local object x)). subst (λ (q : Place). Flowed (λ p. (n : ℕ) → PlaceHas (sets_at p sets) 0 q n → Sub (sets from) (p.object n)) a b c) (sym s.1) h)
    is

pub returned_within : (n from : ℕ) (exit : Exit) → exit ≡ Return (Some from) → ExitWithin n exit → from < n
returned_within n from exit is h = subst (ExitWithin n) is h

pub exit_returns : (sets : ℕ → List ℕ) (i from : ℕ) (set : List ℕ) (exit : Exit) (a b : Table) (c : Bool) → exit ≡ Return (Some from) → sets from ≡ set → Grows (Returned i) set a b c → Flowed (λ p. ExitFits p sets i exit) a b c
exit_returns sets i from set exit a b c is e g =
    subst (λ (x : Exit). Flowed (λ p. ExitFits p sets i x) a b c) (sym is) (subst (λ l. Flowed (λ p. Sub l (p.result i)) a b c) (sym e) g)
