-- What is held once one object changed.
use Rattle.std.proofs.Common.{◌≡◌, ℕ, zero, suc, ◌-◌, ◌≤◌, ◌==◌, ◌&&◌, List, [], ◌∷◌, Bool, true, false, refl, sym, ap, ◌∙◌, subst, arith}
use Rattle.std.specs.Prelude.{Option, Some, None, nat_le, if◌then◌else◌, slice_get, set}
use Rattle.std.proofs.lemmas.Bool.{eq-eqb, eqb-true, eqb-false, leb-true}
use Rattle.im_store.specs.Objects as o
use Rattle.im_store.specs.Objects.{Name, Named, Slot, Link, Object, Shape, Store, same_name, same_object}
use Rattle.im_store.proofs.Same.{same_object-is}
use Rattle.im_eval_store.specs.declared.value.ObjectName.{ObjectName}
use Rattle.im_eval_store.specs.declared.memory.Live.{Live}
use Rattle.im_eval_store.specs.declared.memory.Activation.{Activation}
use Rattle.im_eval_store.specs.declared.memory.Position.{Position}
use Rattle.im_eval_store.specs.Living.{live_named, live_in, activation_at, live_at, IsLiveAs, LivesAs, Ascends, IsHeld}
use Rattle.im_eval_store.specs.Changes.{IsAt, IsRevised}
use Rattle.im_eval_store.specs.Shown.{object_of}
use Rattle.im_eval_store.proofs.Finding.{if-true, if-false, by-test, found-of, standing}

-- lists in which one element changed

pub got-same : {A : Type 0} (xs : List A) (i : ℕ) (x y : A) → slice_get xs i ≡ Some x → slice_get (set xs i y) i ≡ Some y
got-same [] i x y e = absurd (cc)
got-same (z ∷ zs) zero x y e = refl
got-same (z ∷ zs) (suc i) x y e = got-same zs i x y e

pub got-other : {A : Type 0} (xs : List A) (i k : ℕ) (y : A) → (k ≡ i → ⊥) → slice_get (set xs i y) k ≡ slice_get xs k
got-other [] i k y d = refl
got-other (z ∷ zs) zero zero y d = absurd (d refl)
got-other (z ∷ zs) zero (suc k) y d = refl
got-other (z ∷ zs) (suc i) zero y d = refl
got-other (z ∷ zs) (suc i) (suc k) y d = got-other zs i k y (λ e. d (ap suc e))

pub ascends-set : (from last : ℕ) (all : List Activation) (l : ℕ) (a b : Activation) → b.number ≡ a.number → slice_get all l ≡ Some a → Ascends from last all → Ascends from last (set all l b)
ascends-set from last [] l a b n e h = absurd (cc)
ascends-set from last (c ∷ cs) zero a b n e h =
    let same : c ≡ a = cc in
    let m : c.number ≡ b.number = ap (λ (x : Activation). x.number) same ∙ sym n in
    (subst (λ k. from ≤ k) m h.0, subst (λ k. Ascends (suc k) last cs) m h.1)
ascends-set from last (c ∷ cs) (suc l) a b n e h = (h.0, ascends-set (suc c.number) last cs l a b n e h.1)

pub other-activation : (all : List Activation) (l number : ℕ) (a b : Activation) → b.number ≡ a.number → slice_get all l ≡ Some a → (a.number == number) ≡ false → activation_at (set all l b) number ≡ activation_at all number
other-activation [] l number a b n e d = refl
other-activation (c ∷ cs) zero number a b n e d =
    let same : c ≡ a = cc in
    let left : (b.number == number) ≡ false = ap (λ k. k == number) n ∙ d in
    let right : (c.number == number) ≡ false = ap (λ (x : Activation). x.number == number) same ∙ d in
    if-false (b.number == number) (Some b) (activation_at cs number) left
    ∙ sym (if-false (c.number == number) (Some c) (activation_at cs number) right)
other-activation (c ∷ cs) (suc l) number a b n e d =
    ap (λ r. if c.number == number then Some c else r) (other-activation cs l number a b n e d)

-- the same object lives, with the same values
pub lives-again : (r r' : Option Live) (shape shape' : Option Shape) (values values' : ℕ → o.Value) → r' ≡ r → shape' ≡ shape → ((i : ℕ) → values' i ≡ values i) → LivesAs r shape values → LivesAs r' shape' values'
lives-again r r' shape shape' values values' e f g h =
    subst (λ x. LivesAs x shape' values') (sym e) (subst (λ y. LivesAs r y values') (sym f) (again r shape h))
  where
    again : (r : Option Live) (shape : Option Shape) → LivesAs r shape values → LivesAs r shape values'
    again None None k = tt
    again None (Some y) k = k
    again (Some x) None k = k
    again (Some x) (Some y) k = record { size = k.size; cells = k.cells; have = λ i kind c. g i ∙ k.have i kind c }

module _ (last : ℕ) (all : List Activation) (p : ObjectName) (at : Position) (a b : Activation) (x y : Live) (h : Ascends 0 last all) (s : IsAt all p at a x) (r : IsRevised a b (set a.objects.items at.index y)) where
  abbrev after : List Activation
  after = set all at.level b

  pub after-ordered : Ascends 0 last after
  after-ordered = ascends-set 0 last all at.level a b r.number s.activation h

  pub after-at : IsAt after p at b y
  after-at = record {
    activation = got-same all at.level a b s.activation;
    number = r.number ∙ s.number;
    depth = r.depth ∙ s.depth;
    first = subst (λ k. k ≤ p.number) (sym r.first) s.first;
    object = ap (λ xs. slice_get xs at.index) r.objects ∙ got-same a.objects.items at.index x y s.object;
    index = s.index ∙ ap (λ k. p.number - k) (sym r.first);
  }

  named-other : (name : Name) → (same_name name (Named p.number) ≡ true → ⊥) → live_named b.first b.objects.items name ≡ live_named a.first a.objects.items name
  named-other (Slot m) d = refl
  named-other Link d = refl
  named-other (Named m) d =
      ap (λ k. if nat_le k m then slice_get b.objects.items (m - k) else None) r.first
      ∙ ap (λ xs. if nat_le a.first m then slice_get xs (m - a.first) else None) r.objects
      ∙ by-test (nat_le a.first m)
      (λ t.
      let l = leb-true a.first m t in
      let f = s.first in
      let i = s.index in
      if-true (nat_le a.first m) (slice_get (set a.objects.items at.index y) (m - a.first)) None t
      ∙ by-test (m - a.first == at.index)
      (λ u. absurd (d (eq-eqb m p.number (let v = eqb-true (m - a.first) at.index u in omega arith))))
      (λ u. got-other a.objects.items at.index (m - a.first) y (eqb-false (m - a.first) at.index u))
      ∙ sym (if-true (nat_le a.first m) (slice_get a.objects.items (m - a.first)) None t))
      (λ t. if-false (nat_le a.first m) _ None t ∙ sym (if-false (nat_le a.first m) _ None t))

  live-other : (q : Object) → (same_object q (object_of p) ≡ true → ⊥) → live_at after q ≡ live_at all q
  live-other q d =
      by-test (a.number == q.activation)
      (λ t.
      let n = eqb-true a.number q.activation t in
      ap (λ w. live_in w q) (found-of last after at.level q.activation b after-ordered (after-at.activation) (r.number ∙ n))
      ∙ ap (λ k. if k == q.depth then live_named b.first b.objects.items q.name else None) r.depth
      ∙ by-test (a.depth == q.depth)
      (λ u.
      let m = eqb-true a.depth q.depth u in
      ap (λ w. if a.depth == q.depth then w else None)
      (named-other q.name (λ v. d (all-true (q.activation == p.activation) (q.depth == p.depth) (same_name q.name (Named p.number)) (eq-eqb q.activation p.activation (sym n ∙ s.number)) (eq-eqb q.depth p.depth (sym m ∙ s.depth)) v))))
      (λ u. if-false (a.depth == q.depth) _ None u ∙ sym (if-false (a.depth == q.depth) _ None u))
      ∙ sym (ap (λ w. live_in w q) (found-of last all at.level q.activation a h s.activation n)))
      (λ t. ap (λ w. live_in w q) (other-activation all at.level q.activation a b r.number s.activation t))
    where
      all-true : (c d e : Bool) → c ≡ true → d ≡ true → e ≡ true → (c && d && e) ≡ true
      all-true true true true f g k = refl
      all-true false d e f g k = absurd (cc)
      all-true true false e f g k = absurd (cc)
      all-true true true false f g k = absurd (cc)

  -- a store in which no other object changed
  module _ (store new : Store) (held : IsHeld all last store) (shapes : (q : Object) → new.shape q ≡ store.shape q) (others : (q : Object) → same_object q (object_of p) ≡ false → (i : ℕ) → new.values q i ≡ store.values q i)
      (own : (shape : Shape) → store.shape (object_of p) ≡ Some shape → IsLiveAs x shape (store.values (object_of p)) → IsLiveAs y shape (new.values (object_of p))) where
    changed : LivesAs (live_at after (object_of p)) (new.shape (object_of p)) (new.values (object_of p))
    changed =
        let old = subst (λ w. LivesAs w (store.shape (object_of p)) (store.values (object_of p))) (standing last all p at a x h s) (held.objects (object_of p)) in
        subst (λ w. LivesAs w (new.shape (object_of p)) (new.values (object_of p))) (sym (standing last after p at b y after-ordered after-at))
        (subst (λ w. LivesAs (Some y) w (new.values (object_of p))) (sym (shapes (object_of p))) (own-at (store.shape (object_of p)) refl old))
      where
        own-at : (w : Option Shape) → store.shape (object_of p) ≡ w → LivesAs (Some x) w (store.values (object_of p)) → LivesAs (Some y) w (new.values (object_of p))
        own-at None e k = k
        own-at (Some shape) e k = own shape e k

    pub revised : IsHeld after last new
    revised = record {
      ordered = after-ordered;
      objects = λ q.
          by-test (same_object q (object_of p))
          (λ t. subst (λ z. LivesAs (live_at after z) (new.shape z) (new.values z)) (sym (same_object-is q (object_of p) t)) changed)
          (λ t. lives-again (live_at all q) (live_at after q) (store.shape q) (new.shape q) (store.values q) (new.values q)
          (live-other q (λ u. absurd (let both : true ≡ false = sym u ∙ t in cc))) (shapes q) (others q t) (held.objects q));
    }
