-- What tables make of sets, joined: start, one step after another, and the same by another condition.
use Rattle.std.proofs.Common.{◌≡◌, ℕ, zero, suc, ◌<◌, List, [], ◌∷◌, Bool, true, false, refl, ◌∙◌, subst, inl, inr, ⊎_elim, ◌⊎◌, arith}
use Rattle.std.specs.Prelude.{◌||◌}
use Rattle.im_block.specs.Sections.{Has}
use Rattle.im_alias.specs.PointsAt.{PointsAt}
use Rattle.im_alias.specs.Least.{Below}
use Rattle.im_alias.specs.declared.table.Table.{Table}
use Rattle.im_alias.specs.Ascending.{IsWithin}
use Rattle.im_alias.specs.Sets.{points, room, SameShape, IsBounded, Flowed}

pub below_same : (p : PointsAt) → Below p p
below_same p = record { register = λ i r n h. h; object = λ m n h. h; result = λ i n h. h }

pub below_then : (p q r : PointsAt) → Below p q → Below q r → Below p r
below_then p q r a b = record {
  register = λ i k n h. b.register i k n (a.register i k n h);
  object = λ m n h. b.object m n (a.object m n h);
  result = λ i n h. b.result i n (a.result i n h);
}

pub shape_same : (t : Table) → SameShape t t
shape_same t = record { objects = refl; returned = refl; registers = refl; widths = λ i. refl }

pub shape_then : (a b c : Table) → SameShape a b → SameShape b c → SameShape a c
shape_then a b c p q = record {
  objects = q.objects ∙ p.objects;
  returned = q.returned ∙ p.returned;
  registers = q.registers ∙ p.registers;
  widths = λ i. q.widths i ∙ p.widths i;
}

pub bounded_below : (bound : ℕ) (p q : PointsAt) → IsBounded bound q → Below p q → IsBounded bound p
bounded_below bound p q h b = record {
  register = λ i r n k. h.register i r n (b.register i r n k);
  object = λ m n k. h.object m n (b.object m n k);
  result = λ i n k. h.result i n (b.result i n k);
}

-- all objects below a bound
abbrev pub upto : ℕ → List ℕ
upto zero = []
upto (suc k) = k ∷ upto k

pub within_upto : (bound : ℕ) → IsWithin bound (upto bound)
within_upto zero n h = absurd h
within_upto (suc k) n h = ⊎_elim (λ e. omega arith) (λ t. omega (arith, within_upto k n t)) h

upper_split : (n k : ℕ) → n < suc k → (k ≡ n) ⊎ (n < k)
upper_split n k h = grind arith

pub upto_has : (bound n : ℕ) → n < bound → Has (upto bound) n
upto_has zero n h = absurd (omega arith)
upto_has (suc k) n h = ⊎_elim (λ e. inl e) (λ l. inr (upto_has k n l)) (upper_split n k h)

abbrev pub full : ℕ → PointsAt
full bound = record { register = λ i r. upto bound; object = λ n. upto bound; result = λ i. upto bound }

pub below_full : (bound : ℕ) (p : PointsAt) → IsBounded bound p → Below p (full bound)
below_full bound p h = record {
  register = λ i r n k. upto_has bound n (h.register i r n k);
  object = λ m n k. upto_has bound n (h.object m n k);
  result = λ i n k. upto_has bound n (h.result i n k);
}

pub full_below : (bound : ℕ) (p : PointsAt) → Below p (full bound) → IsBounded bound p
full_below bound p h = record {
  register = λ i r n k. within_upto bound n (h.register i r n k);
  object = λ m n k. within_upto bound n (h.object m n k);
  result = λ i n k. within_upto bound n (h.result i n k);
}

pub flowed_start : (P : PointsAt → Type 0) (t : Table) → P (points t) → Flowed P t t false
flowed_start P t h = record {
  shape = shape_same t;
  kept = below_same (points t);
  same = λ e. (refl, h, λ bound. refl);
  less = λ bound e b. cc;
  upper = λ q b k. b;
}

pub flowed_as : (P Q : PointsAt → Type 0) (a b : Table) (c : Bool) → ((p : PointsAt) → P p → Q p) → ((p : PointsAt) → Q p → P p) → Flowed P a b c → Flowed Q a b c
flowed_as P Q a b c to from f = record {
  shape = f.shape;
  kept = f.kept;
  same = λ e. let s = f.same e in (s.0, to (points a) s.1, s.2);
  less = f.less;
  upper = λ q h k. f.upper q h (from q k);
}

pub bounded_after : (P : PointsAt → Type 0) (a b : Table) (c : Bool) (bound : ℕ) → Flowed P a b c → IsBounded bound (points a) → P (full bound) → IsBounded bound (points b)
bounded_after P a b c bound f h k = full_below bound (points b) (f.upper (full bound) (below_full bound (points a) h) k)

module _ (P Q : PointsAt → Type 0) (a b d : Table) where
  less_then : (c e : Bool) → Flowed P a b c → Flowed Q b d e → (bound : ℕ) → (c || e) ≡ true → IsBounded bound (points d) → room bound d < room bound a
  less_then true true f g bound is h =
      let one = f.less bound refl (bounded_below bound (points b) (points d) h g.kept) in
      let two = g.less bound refl h in
      omega arith
  less_then true false f g bound is h =
      let one = f.less bound refl (bounded_below bound (points b) (points d) h g.kept) in
      let two = (g.same refl).2 bound in
      omega arith
  less_then false true f g bound is h =
      let one = (f.same refl).2 bound in
      let two = g.less bound refl h in
      omega arith
  less_then false false f g bound is h = cc

  same_then : (c e : Bool) → Flowed P a b c → Flowed Q b d e → (c || e) ≡ false → (points d ≡ points a) × (P (points a) × Q (points a)) × ((bound : ℕ) → room bound d ≡ room bound a)
  same_then true e f g is = cc
  same_then false true f g is = cc
  same_then false false f g is =
      let s = f.same refl in
      let t = g.same refl in
      (t.0 ∙ s.0, (s.1, subst Q s.0 t.1), λ bound. t.2 bound ∙ s.2 bound)

  pub flowed_then : (c e : Bool) → Flowed P a b c → Flowed Q b d e → Flowed (λ p. P p × Q p) a d (c || e)
  flowed_then c e f g = record {
    shape = shape_then a b d f.shape g.shape;
    kept = below_then (points a) (points b) (points d) f.kept g.kept;
    same = same_then c e f g;
    less = less_then c e f g;
    upper = λ q h k. g.upper q (f.upper q h k.0) k.1;
  }
