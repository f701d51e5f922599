-- Activations that begin.
use Rattle.std.proofs.Common.{◌≡◌, ℕ, zero, suc, ◌-◌, ◌<◌, ◌==◌, List, [], ◌∷◌, true, false, refl, sym, ap, ◌∙◌}
use Rattle.std.specs.Prelude.{Option, Some, None, slice_get, nat_le, if◌then◌else◌}
use Rattle.std.proofs.lemmas.Bool.{eq-eqb, eqb-true}
use Rattle.im_store.specs.Objects as o
use Rattle.im_store.specs.Objects.{Name, Named, Slot, Link, Object, Shape, Store, begins}
use Rattle.im_block.specs.declared.unit.Function.{Function}
use Rattle.im_block.specs.declared.unit.Object.{Object as Declared}
use Rattle.im_block.specs.Meaning.{shape_at, shapes_of}
use Rattle.im_eval_store.specs.declared.memory.Activation.{Activation}
use Rattle.im_eval_store.specs.declared.plan.Plan.{Plan}
use Rattle.im_eval_store.specs.Changes.{IsBegun}
use Rattle.im_eval_store.specs.Living.{live_named, live_in, LivesAs}
use Rattle.im_eval_store.proofs.Finding.{if-true, if-false, by-test}
use Rattle.im_eval_store.proofs.Revised.{lives-again}
use Rattle.im_eval_machine.specs.Fresh.{AreFresh}
use Rattle.im_eval_machine.specs.Settings.{ArePlans}
use Rattle.im_eval_machine.proofs.Entering.{all-live}
use Rattle.im_block_run.specs.Laid.{object_shapes}
use Rattle.im_block_run.specs.Shown.{plain, plain_shape}

shape-got : (objects : List Declared) (k : ℕ) → slice_get (object_shapes objects) k ≡ shape_at (slice_get objects k)
shape-got [] k = refl
shape-got (x ∷ objects) zero = refl
shape-got (x ∷ objects) (suc k) = shape-got objects k

pub plain-none : (name : Name) → plain_shape name None ≡ None
plain-none (Named n) = refl
plain-none (Slot n) = refl
plain-none Link = refl

flip : (m n : ℕ) → (m == n) ≡ false → (n == m) ≡ false
flip m n e =
    by-test (n == m)
    (λ t. absurd (let both : true ≡ false = sym (eq-eqb m n (sym (eqb-true n m t))) ∙ e in cc))
    (λ t. t)

module _ (a : Activation) (f : Function) (plans : List Plan) (store : Store) (first : a.first ≡ f.first_object) (are : ArePlans (object_shapes f.objects.items) plans) (fresh : AreFresh plans (λ k i. o.Unset) a.objects.items) where
  abbrev new : Store
  new = plain (begins store a.number a.depth (shapes_of f))

  named-lives : (n : ℕ) → LivesAs (live_named a.first a.objects.items (Named n)) (shapes_of f (Named n)) (λ i. o.Unset)
  named-lives n =
      let k = n - a.first in
      let same : shapes_of f (Named n) ≡ (if nat_le a.first n then shape_at (slice_get f.objects.items (n - a.first)) else None) =
      ap (λ m. if nat_le m n then shape_at (slice_get f.objects.items (n - m)) else None) (sym first) in
      by-test (nat_le a.first n)
      (λ t.
      lives-again (slice_get a.objects.items k) (live_named a.first a.objects.items (Named n)) (slice_get (object_shapes f.objects.items) k) (shapes_of f (Named n)) (λ i. o.Unset) (λ i. o.Unset)
      (if-true (nat_le a.first n) (slice_get a.objects.items k) None t)
      (same ∙ if-true (nat_le a.first n) (shape_at (slice_get f.objects.items k)) None t ∙ sym (shape-got f.objects.items k))
      (λ i. refl)
      (all-live (object_shapes f.objects.items) plans (λ k i. o.Unset) a.objects.items k (λ i. o.Unset) are fresh (λ i. refl)))
      (λ t.
      lives-again None (live_named a.first a.objects.items (Named n)) None (shapes_of f (Named n)) (λ i. o.Unset) (λ i. o.Unset)
      (if-false (nat_le a.first n) (slice_get a.objects.items k) None t)
      (same ∙ if-false (nat_le a.first n) (shape_at (slice_get f.objects.items k)) None t)
      (λ i. refl) tt)

  name-lives : (name : Name) → LivesAs (live_named a.first a.objects.items name) (plain_shape name (shapes_of f name)) (λ i. o.Unset)
  name-lives (Named n) = named-lives n
  name-lives (Slot n) = tt
  name-lives Link = tt

  own-lives : (q : Object) → q.activation ≡ a.number → LivesAs (live_in (Some a) q) (new.shape q) (new.values q)
  own-lives q e =
      let here = eq-eqb q.activation a.number e in
      let inner : Option Shape = if q.depth == a.depth then shapes_of f q.name else None in
      let shape-is : new.shape q ≡ plain_shape q.name inner = ap (plain_shape q.name) (if-true (q.activation == a.number) inner (store.shape q) here) in
      let unset = λ (i : ℕ). if-true (q.activation == a.number) o.Unset (store.values q i) here in
      by-test (q.depth == a.depth)
      (λ t.
      lives-again (live_named a.first a.objects.items q.name) (live_in (Some a) q) (plain_shape q.name (shapes_of f q.name)) (new.shape q) (λ i. o.Unset) (new.values q)
      (if-true (a.depth == q.depth) (live_named a.first a.objects.items q.name) None (eq-eqb a.depth q.depth (sym (eqb-true q.depth a.depth t))))
      (shape-is ∙ ap (plain_shape q.name) (if-true (q.depth == a.depth) (shapes_of f q.name) None t))
      unset
      (name-lives q.name))
      (λ t.
      lives-again None (live_in (Some a) q) None (new.shape q) (new.values q) (new.values q)
      (if-false (a.depth == q.depth) (live_named a.first a.objects.items q.name) None (flip q.depth a.depth t))
      (shape-is ∙ ap (plain_shape q.name) (if-false (q.depth == a.depth) (shapes_of f q.name) None t) ∙ plain-none q.name)
      (λ i. refl) tt)

  pub has-begun : (last : ℕ) → last < a.number → IsBegun a last (plain store) new
  has-begun last lt = record {
    later = lt;
    before = λ q away. (
      ap (plain_shape q.name) (if-false (q.activation == a.number) (if q.depth == a.depth then shapes_of f q.name else None) (store.shape q) away),
      λ i. if-false (q.activation == a.number) o.Unset (store.values q i) away,
    );
    own = own-lives;
  }
