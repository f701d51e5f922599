-- Reading and storing in the cells of what is held.
use Rattle.std.proofs.Common.{◌≡◌, ℕ, zero, suc, ◌<◌, ◌==◌, ◌&&◌, List, [], ◌∷◌, Bool, true, false, get_or, length, refl, sym, ap, ◌∙◌, subst, arith}
use Rattle.std.specs.Prelude.{Option, Some, None, nat_lt, if◌then◌else◌}
use Rattle.std.proofs.lemmas.Bool.{eqb-true, lt-ltb}
use Rattle.im_num.specs.declared.kind.Kind.{Kind}
use Rattle.im_store.specs.Objects as o
use Rattle.im_store.specs.Objects.{Object, Shape, Store, same_object}
use Rattle.im_store.specs.declared.undefined.Undefined.TheVariants.{NoSuchCell}
use Rattle.im_store.specs.Checks.{Bad}
use Rattle.im_store.specs.Access.{is_of_kind, has_cell, stands, taken, read_cell, with_value}
use Rattle.im_store.proofs.Same.{same_kind-is, same_object-is, same_object-self}
use Rattle.im_eval_store.specs.declared.value.ObjectName.{ObjectName}
use Rattle.im_eval_store.specs.declared.value.Value.{Value}
use Rattle.im_eval_store.specs.declared.value.Value.TheVariants.{Unset}
use Rattle.im_eval_store.specs.declared.memory.Live.{Live}
use Rattle.im_eval_store.specs.declared.memory.Activation.{Activation}
use Rattle.im_eval_store.specs.declared.memory.Position.{Position}
use Rattle.im_eval_store.specs.Living.{IsLiveAs, LivesAs, IsHeld, live_at}
use Rattle.im_eval_store.specs.Changes.{IsAt, with_cell, with_values}
use Rattle.im_eval_store.specs.Shown.{object_of, shown}
use Rattle.im_eval_store.proofs.Finding.{if-true, if-false, by-test, held-some, held-none}
use Rattle.im_eval_store.proofs.Revised.{lives-again}

pub in-range : (xs : List (Option Kind)) (i : ℕ) (k : Kind) → get_or xs i None ≡ Some k → i < length xs
in-range [] i k e = absurd (cc)
in-range (x ∷ xs) zero k e = omega arith
in-range (x ∷ xs) (suc i) k e = let r = in-range xs i k e in omega arith

-- whether a cell stands, by the object that is held
pub stands-at : (last : ℕ) (all : List Activation) (store : Store) (p : ObjectName) (at : Position) (a : Activation) (x : Live) (offset : ℕ) (kind : Kind) → IsHeld all last store → IsAt all p at a x
    → stands store (object_of p) offset kind ≡ is_of_kind kind (get_or x.plan.now.kinds.items offset None)
stands-at last all store p at a x offset kind h s =
    let it = held-some last all store p at a x h s in
    ap (has_cell offset kind) it.1 ∙ ap (is_of_kind kind) (it.2.cells offset)

pub stands-none : (last : ℕ) (all : List Activation) (store : Store) (p : Object) (offset : ℕ) (kind : Kind) → IsHeld all last store → live_at all p ≡ None → stands store p offset kind ≡ false
stands-none last all store p offset kind h e = ap (has_cell offset kind) (held-none last all store p h e)

of-kind : (kind : Kind) (r : Option Kind) → is_of_kind kind r ≡ true → r ≡ Some kind
of-kind kind None e = absurd (cc)
of-kind kind (Some k) e = ap Some (same_kind-is k kind e)

pub read-at : (last : ℕ) (all : List Activation) (store : Store) (p : ObjectName) (at : Position) (a : Activation) (x : Live) (offset : ℕ) (kind : Kind) → IsHeld all last store → IsAt all p at a x
    → is_of_kind kind (get_or x.plan.now.kinds.items offset None) ≡ true → read_cell store (object_of p) offset kind ≡ taken store (shown (get_or x.values.items offset Unset))
read-at last all store p at a x offset kind h s e =
    let it = held-some last all store p at a x h s in
    let cell : it.0.cells offset ≡ Some kind = it.2.cells offset ∙ of-kind kind (get_or x.plan.now.kinds.items offset None) e in
    if-true (stands store (object_of p) offset kind) (taken store (store.values (object_of p) offset)) (Bad NoSuchCell) (stands-at last all store p at a x offset kind h s ∙ e)
    ∙ ap (taken store) (it.2.have offset kind cell)

pub read-none : (last : ℕ) (all : List Activation) (store : Store) (p : ObjectName) (at : Position) (a : Activation) (x : Live) (offset : ℕ) (kind : Kind) → IsHeld all last store → IsAt all p at a x
    → is_of_kind kind (get_or x.plan.now.kinds.items offset None) ≡ false → read_cell store (object_of p) offset kind ≡ Bad NoSuchCell
read-none last all store p at a x offset kind h s e =
    if-false (stands store (object_of p) offset kind) (taken store (store.values (object_of p) offset)) (Bad NoSuchCell) (stands-at last all store p at a x offset kind h s ∙ e)

-- an object that doesn't live may have any values
pub unheld : (last : ℕ) (all : List Activation) (store : Store) (p : Object) (values : ℕ → o.Value) → IsHeld all last store → live_at all p ≡ None → IsHeld all last (with_values p values store)
unheld last all store p values h none = record {
  ordered = h.ordered;
  objects = λ q.
      by-test (same_object q p)
      (λ t.
      let e = same_object-is q p t in
      subst (λ r. LivesAs r (store.shape q) ((with_values p values store).values q)) (sym (ap (live_at all) e ∙ none))
      (subst (λ w. LivesAs None w ((with_values p values store).values q)) (sym (held-none last all store q h (ap (live_at all) e ∙ none))) tt))
      (λ t.
      lives-again (live_at all q) (live_at all q) (store.shape q) (store.shape q) (store.values q) ((with_values p values store).values q) refl refl
      (λ i. if-false (same_object q p) (values i) (store.values q i) t) (h.objects q));
}

module _ (x y : Live) (p : Object) (plan : y.plan ≡ x.plan) (shape : Shape) (values : Object → ℕ → o.Value) (was : IsLiveAs x shape (values p)) where
  size-same : shape.size ≡ y.plan.now.size
  size-same = was.size ∙ ap (λ b. b.now.size) (sym plan)

  cells-same : (i : ℕ) → shape.cells i ≡ get_or y.plan.now.kinds.items i None
  cells-same i = was.cells i ∙ ap (λ b. get_or b.now.kinds.items i None) (sym plan)

  -- a value is stored in one cell
  pub stored : (offset : ℕ) (v : Value) → length x.values.items ≡ length x.plan.now.kinds.items → ((i : ℕ) → get_or y.values.items i Unset ≡ with_cell x.values.items offset v i)
      → IsLiveAs y shape (with_value values p offset (shown v) p)
  stored offset v full new = record {
    size = size-same;
    cells = cells-same;
    have = λ i kind e.
        by-test (i == offset)
        (λ t.
        let lt = in-range x.plan.now.kinds.items i kind (sym (was.cells i) ∙ e) in
        let at : i ≡ offset = eqb-true i offset t in
        let within : nat_lt offset (length x.values.items) ≡ true = lt-ltb offset (length x.values.items) (omega arith) in
        let both : (i == offset && nat_lt offset (length x.values.items)) ≡ true = both-of (i == offset) (nat_lt offset (length x.values.items)) t within in
        if-true (same_object p p && i == offset) (shown v) (values p i) (both-of (same_object p p) (i == offset) (same_object-self p) t)
        ∙ sym (ap shown (new i ∙ if-true (i == offset && nat_lt offset (length x.values.items)) v (get_or x.values.items i Unset) both)))
        (λ t.
        if-false (same_object p p && i == offset) (shown v) (values p i) (second-false (same_object p p) (i == offset) t)
        ∙ was.have i kind e
        ∙ sym (ap shown (new i ∙ if-false (i == offset && nat_lt offset (length x.values.items)) v (get_or x.values.items i Unset) (first-false (i == offset) (nat_lt offset (length x.values.items)) t))));
  }
    where
      both-of : (b d : Bool) → b ≡ true → d ≡ true → (b && d) ≡ true
      both-of true true f g = refl
      both-of true false f g = absurd (cc)
      both-of false d f g = absurd (cc)

      first-false : (b d : Bool) → b ≡ false → (b && d) ≡ false
      first-false false d f = refl
      first-false true d f = absurd (cc)

      second-false : (b d : Bool) → d ≡ false → (b && d) ≡ false
      second-false true d f = f
      second-false false d f = refl

  -- all cells have other values
  pub revalued : (new : ℕ → o.Value) → ((i : ℕ) (kind : Kind) → shape.cells i ≡ Some kind → new i ≡ shown (get_or y.values.items i Unset))
      → IsLiveAs y shape (λ i. if same_object p p then new i else values p i)
  revalued new h = record {
    size = size-same;
    cells = cells-same;
    have = λ i kind e. if-true (same_object p p) (new i) (values p i) (same_object-self p) ∙ h i kind e;
  }
