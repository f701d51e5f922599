-- Which registers live: those of the function, and parameters in the entry block alone.
use Rattle.std.proofs.Common.{◌≡◌, ℕ, ◌+◌, ◌<◌, ◌≤◌, ◌⊎◌, inl, inr, ⊎_elim, Bool, true, false, List, [], ◌∷◌, Some, None, refl, ap, ◌∙◌, arith}
use Rattle.std.specs.Prelude.{◌==◌, ◌&&◌, ◌||◌, nat_lt, nat_le, not, All}
use Rattle.std.proofs.lemmas.Bool.Decides.{nat_tests}
use Rattle.std.proofs.lemmas.List.Elements.{All-head, All-tail}
use Rattle.im_block.specs.declared.code.Place.{Place}
use Rattle.im_block.specs.declared.code.Place.TheVariants.{Static, Local, Through}
use Rattle.im_block.specs.declared.code.Line.{Line}
use Rattle.im_block.specs.declared.code.Line.TheVariants.{Put, PutNull, Copy, Convert, Unary, Not, Compute, Compare, Move, Distance, Address, Read, Write, Reload, Spill, Cut, Call, Serve}
use Rattle.im_block.specs.declared.code.Exit.{Exit}
use Rattle.im_block.specs.declared.code.Exit.TheVariants.{Jump, Turn, Branch, Return}
use Rattle.im_block.specs.Paths.{IsEdge}
use Rattle.im_block.specs.Wellformed.{PlaceWithin, LineWithin, ExitWithin}
use Rattle.im_alloc_placed.specs.Operands.{PlaceFrom}
use Rattle.im_alloc_placed.specs.Placeable.{LineFrom, ExitFrom}
use Rattle.im_alloc_relation.specs.Live.{place_uses, uses, sets, exit_lives, lives}

pub both_true : (a b : Bool) → (a && b) ≡ true → (a ≡ true) × (b ≡ true)
both_true true b h = (refl, h)
both_true false b h = absurd cc

pub both_are : (a b : Bool) → a ≡ true → b ≡ true → (a && b) ≡ true
both_are a b e f = ap (λ z. z && b) e ∙ f

pub or_cases : (a b : Bool) → (a || b) ≡ true → (a ≡ true) ⊎ (b ≡ true)
or_cases true b h = inl refl
or_cases false b h = inr h

pub or_left : (a b : Bool) → a ≡ true → (a || b) ≡ true
or_left a b e = ap (λ z. z || b) e

pub or_right : (a b : Bool) → b ≡ true → (a || b) ≡ true
or_right true b e = refl
or_right false b e = e

pub same_of : (a b : ℕ) → (a == b) ≡ true → a ≡ b
same_of a b h = grind (arith, nat_tests)

pub less_of : (a b : ℕ) → nat_lt a b ≡ true → a < b
less_of a b h = grind (arith, nat_tests)

pub less_is : (a b : ℕ) → a < b → nat_lt a b ≡ true
less_is a b h = grind (arith, nat_tests)

pub most_of : (a b : ℕ) → nat_le a b ≡ true → a ≤ b
most_of a b h = grind (arith, nat_tests)

pub most_is : (a b : ℕ) → a ≤ b → nat_le a b ≡ true
most_is a b h = grind (arith, nat_tests)

-- one register that is used, or one of two
one_below : (n v from : ℕ) → from < n → (v == from) ≡ true → v < n
one_below n v from lt u = let e : v ≡ from = same_of v from u in omega arith

two_below : (n v left right : ℕ) → left < n → right < n → (v == left || v == right) ≡ true → v < n
two_below n v left right a b u =
    ⊎_elim (λ (k : (v == left) ≡ true). one_below n v left a k) (λ (k : (v == right) ≡ true). one_below n v right b k) (or_cases (v == left) (v == right) u)

one_above : (p v from : ℕ) → p ≤ from → (v == from) ≡ true → p ≤ v
one_above p v from le u = let e : v ≡ from = same_of v from u in omega arith

two_above : (p v left right : ℕ) → p ≤ left → p ≤ right → (v == left || v == right) ≡ true → p ≤ v
two_above p v left right a b u =
    ⊎_elim (λ (k : (v == left) ≡ true). one_above p v left a k) (λ (k : (v == right) ≡ true). one_above p v right b k) (or_cases (v == left) (v == right) u)

place_below : (n v : ℕ) (place : Place) → PlaceWithin n place → place_uses place v ≡ true → v < n
place_below n v (Static object offset) w u = absurd cc
place_below n v (Local object offset) w u = absurd cc
place_below n v (Through pointer offset) w u = one_below n v pointer w u

place_above : (p v : ℕ) (place : Place) → PlaceFrom p place → place_uses place v ≡ true → p ≤ v
place_above p v (Static object offset) w u = absurd cc
place_above p v (Local object offset) w u = absurd cc
place_above p v (Through pointer offset) w u = one_above p v pointer w u

arguments_are : (v first count : ℕ) → (nat_le first v && nat_lt v (first + count)) ≡ true → (first ≤ v) × (v < first + count)
arguments_are v first count u =
    let d = both_true (nat_le first v) (nat_lt v (first + count)) u in
    (most_of first v d.0, less_of v (first + count) d.1)

uses_below : (n v : ℕ) (line : Line) → LineWithin n line → uses line v ≡ true → v < n
uses_below n v (Put to z) w u = absurd cc
uses_below n v (PutNull to) w u = absurd cc
uses_below n v (Copy to from) w u = one_below n v from w.1 u
uses_below n v (Convert to kind from) w u = one_below n v from w.1 u
uses_below n v (Unary to op kind from) w u = one_below n v from w.1 u
uses_below n v (Not to from) w u = one_below n v from w.1 u
uses_below n v (Compute to op kind left right) w u = two_below n v left right w.1 w.2 u
uses_below n v (Compare to op kind left right) w u = two_below n v left right w.1 w.2 u
uses_below n v (Move to size back pointer by) w u = two_below n v pointer by w.1 w.2 u
uses_below n v (Distance to size left right) w u = two_below n v left right w.1 w.2 u
uses_below n v (Address to place) w u = place_below n v place w.1 u
uses_below n v (Read to place kind access) w u = place_below n v place w.1 u
uses_below n v (Write place kind from access) w u =
    ⊎_elim (λ (k : place_uses place v ≡ true). place_below n v place w.0 k) (λ (k : (v == from) ≡ true). one_below n v from w.1 k) (or_cases (place_uses place v) (v == from) u)
uses_below n v (Reload to slot access) w u = absurd cc
uses_below n v (Spill slot from access) w u = one_below n v from w u
uses_below n v (Cut cause) w u = absurd cc
uses_below n v (Call to i first count) w u = let a = (arguments_are v first count u).1 in let b = w.1 in omega arith
uses_below n v (Serve to service None) w u = absurd cc
uses_below n v (Serve to service (Some from)) w u = one_below n v from w.1 u

uses_above : (p v : ℕ) (line : Line) → LineFrom p line → uses line v ≡ true → p ≤ v
uses_above p v (Put to z) w u = absurd cc
uses_above p v (PutNull to) w u = absurd cc
uses_above p v (Copy to from) w u = one_above p v from w.1 u
uses_above p v (Convert to kind from) w u = one_above p v from w.1 u
uses_above p v (Unary to op kind from) w u = one_above p v from w.1 u
uses_above p v (Not to from) w u = one_above p v from w.1 u
uses_above p v (Compute to op kind left right) w u = two_above p v left right w.1 w.2 u
uses_above p v (Compare to op kind left right) w u = two_above p v left right w.1 w.2 u
uses_above p v (Move to size back pointer by) w u = two_above p v pointer by w.1 w.2 u
uses_above p v (Distance to size left right) w u = two_above p v left right w.1 w.2 u
uses_above p v (Address to place) w u = place_above p v place w.1 u
uses_above p v (Read to place kind access) w u = place_above p v place w.1 u
uses_above p v (Write place kind from access) w u =
    ⊎_elim (λ (k : place_uses place v ≡ true). place_above p v place w.0 k) (λ (k : (v == from) ≡ true). one_above p v from w.1 k) (or_cases (place_uses place v) (v == from) u)
uses_above p v (Reload to slot access) w u = absurd cc
uses_above p v (Spill slot from access) w u = one_above p v from w u
uses_above p v (Cut cause) w u = absurd cc
uses_above p v (Call to i first count) w u = let a = (arguments_are v first count u).0 in let b = w.1 in omega arith
uses_above p v (Serve to service None) w u = absurd cc
uses_above p v (Serve to service (Some from)) w u = one_above p v from w.1 u

-- behind a line lives what is used, and what lives behind it and isn't set
left_of : (a b c : Bool) → (a || (not b && c)) ≡ true → (a ≡ true) ⊎ (c ≡ true)
left_of a b c h =
    ⊎_elim (λ (k : a ≡ true). inl k) (λ (k : (not b && c) ≡ true). inr (both_true (not b) c k).1) (or_cases a (not b && c) h)

exit_below : (n : ℕ) (live : ℕ → ℕ → Bool) (exit : Exit) → ((c v : ℕ) → live c v ≡ true → v < n) → ExitWithin n exit → (v : ℕ) → exit_lives live exit v ≡ true → v < n
exit_below n live (Jump b) all w v u = all b v u
exit_below n live (Turn b) all w v u = all b v u
exit_below n live (Branch on a b) all w v u =
    ⊎_elim
    (λ (k : (v == on || live a v) ≡ true). ⊎_elim (λ (e : (v == on) ≡ true). one_below n v on w e) (λ (e : live a v ≡ true). all a v e) (or_cases (v == on) (live a v) k))
    (λ (k : live b v ≡ true). all b v k)
    (or_cases (v == on || live a v) (live b v) u)
exit_below n live (Return None) all w v u = absurd cc
exit_below n live (Return (Some r)) all w v u = one_below n v r w u

pub lives_below : (n : ℕ) (live : ℕ → ℕ → Bool) (lines : List Line) (exit : Exit) → ((c v : ℕ) → live c v ≡ true → v < n) → All (LineWithin n) lines → ExitWithin n exit → (v : ℕ) → lives live lines exit v ≡ true → v < n
lives_below n live [] exit all w we v u = exit_below n live exit all we v u
lives_below n live (line ∷ lines) exit all w we v u =
    ⊎_elim
    (λ (k : uses line v ≡ true). uses_below n v line (All-head (LineWithin n) line lines w) k)
    (λ (k : lives live lines exit v ≡ true). lives_below n live lines exit all (All-tail (LineWithin n) line lines w) we v k)
    (left_of (uses line v) (sets line v) (lives live lines exit v) u)

-- on each edge, what lives is from p on
abbrev pub EdgesFrom : ℕ → (ℕ → ℕ → Bool) → Exit → Type 0
EdgesFrom p live exit = (c : ℕ) → IsEdge exit c → (v : ℕ) → live c v ≡ true → p ≤ v

exit_above : (p : ℕ) (live : ℕ → ℕ → Bool) (exit : Exit) → EdgesFrom p live exit → ExitFrom p exit → (v : ℕ) → exit_lives live exit v ≡ true → p ≤ v
exit_above p live (Jump b) all w v u = all b refl v u
exit_above p live (Turn b) all w v u = all b refl v u
exit_above p live (Branch on a b) all w v u =
    ⊎_elim
    (λ (k : (v == on || live a v) ≡ true). ⊎_elim (λ (e : (v == on) ≡ true). one_above p v on w e) (λ (e : live a v ≡ true). all a (inl refl) v e) (or_cases (v == on) (live a v) k))
    (λ (k : live b v ≡ true). all b (inr refl) v k)
    (or_cases (v == on || live a v) (live b v) u)
exit_above p live (Return None) all w v u = absurd cc
exit_above p live (Return (Some r)) all w v u = one_above p v r w u

pub lives_above : (p : ℕ) (live : ℕ → ℕ → Bool) (lines : List Line) (exit : Exit) → EdgesFrom p live exit → All (LineFrom p) lines → ExitFrom p exit → (v : ℕ) → lives live lines exit v ≡ true → p ≤ v
lives_above p live [] exit all w we v u = exit_above p live exit all we v u
lives_above p live (line ∷ lines) exit all w we v u =
    ⊎_elim
    (λ (k : uses line v ≡ true). uses_above p v line (All-head (LineFrom p) line lines w) k)
    (λ (k : lives live lines exit v ≡ true). lives_above p live lines exit all (All-tail (LineFrom p) line lines w) we v k)
    (left_of (uses line v) (sets line v) (lives live lines exit v) u)
