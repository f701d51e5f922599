-- The test of spans decides which write covers which read, both ways.
use Rattle.std.proofs.Common.{◌≡◌, ℕ, ◌+◌, Option, Some, None, refl, ap, ◌∙◌}
use Rattle.std.specs.Prelude.{◌==◌, nat_le, ◌&&◌, Bool, true, false}
use Rattle.std.proofs.lemmas.Bool.{eqb-true, eq-eqb, leb-true, le-leb}
use Rattle.im_block.specs.Tagged.{Reach, ToSlot, Exactly, Among, Covers}
use Rattle.im_dep.specs.Spans.{span_of_reach, holds_span}

and_first : (x y : Bool) → (x && y) ≡ true → x ≡ true
and_first true y e = refl
and_first false y e = e

and_second : (x y : Bool) → (x && y) ≡ true → y ≡ true
and_second true y e = e
and_second false y e = cc

all : (x y z : Bool) → x ≡ true → y ≡ true → z ≡ true → (x && (y && z)) ≡ true
all x y z p q r = ap (λ t. t && (y && z)) p ∙ ap (λ t. t && z) q ∙ r

pub covers_yes : (a : Option Reach) (m : ℕ) (b : Option Reach) (n : ℕ) → holds_span (span_of_reach a m) (span_of_reach b n) ≡ true → Covers a m b n
covers_yes None m b n e = cc
covers_yes (Some (Among os)) m b n e = cc
covers_yes (Some (ToSlot a)) m None n e = cc
covers_yes (Some (ToSlot a)) m (Some (ToSlot b)) n e = (eqb-true a b (and_first (a == b) (nat_le 0 0 && nat_le n m) e), leb-true n m (and_second (nat_le 0 0) (nat_le n m) (and_second (a == b) (nat_le 0 0 && nat_le n m) e)))
covers_yes (Some (ToSlot a)) m (Some (Exactly p j)) n e = cc
covers_yes (Some (ToSlot a)) m (Some (Among ps)) n e = cc
covers_yes (Some (Exactly o i)) m None n e = cc
covers_yes (Some (Exactly o i)) m (Some (ToSlot b)) n e = cc
covers_yes (Some (Exactly o i)) m (Some (Exactly p j)) n e =
    let rest = and_second (o == p) (nat_le i j && nat_le (j + n) (i + m)) e in
    (eqb-true o p (and_first (o == p) (nat_le i j && nat_le (j + n) (i + m)) e), leb-true i j (and_first (nat_le i j) (nat_le (j + n) (i + m)) rest), leb-true (j + n) (i + m) (and_second (nat_le i j) (nat_le (j + n) (i + m)) rest))
covers_yes (Some (Exactly o i)) m (Some (Among ps)) n e = cc

pub covers_so : (a : Option Reach) (m : ℕ) (b : Option Reach) (n : ℕ) → Covers a m b n → holds_span (span_of_reach a m) (span_of_reach b n) ≡ true
covers_so None m b n h = absurd h
covers_so (Some (Among os)) m b n h = absurd h
covers_so (Some (ToSlot a)) m None n h = absurd h
covers_so (Some (ToSlot a)) m (Some (ToSlot b)) n h = all (a == b) (nat_le 0 0) (nat_le n m) (eq-eqb a b h.0) refl (le-leb n m h.1)
covers_so (Some (ToSlot a)) m (Some (Exactly p j)) n h = absurd h
covers_so (Some (ToSlot a)) m (Some (Among ps)) n h = absurd h
covers_so (Some (Exactly o i)) m None n h = absurd h
covers_so (Some (Exactly o i)) m (Some (ToSlot b)) n h = absurd h
covers_so (Some (Exactly o i)) m (Some (Exactly p j)) n h = all (o == p) (nat_le i j) (nat_le (j + n) (i + m)) (eq-eqb o p h.0) (le-leb i j h.1) (le-leb (j + n) (i + m) h.2)
covers_so (Some (Exactly o i)) m (Some (Among ps)) n h = absurd h
