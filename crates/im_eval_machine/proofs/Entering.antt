-- The objects of an activation that begins.
use Rattle.std.proofs.Common.{◌≡◌, ℕ, zero, suc, ◌+◌, ◌-◌, ◌<◌, ◌≤◌, ◌==◌, ◌&&◌, List, [], ◌∷◌, Bool, true, false, length, get_or, refl, sym, ap, ◌∙◌, subst, arith}
use Rattle.std.specs.Prelude.{Option, Some, None, slice_get, nat_le, if◌then◌else◌}
use Rattle.std.proofs.lemmas.Bool.{eq-eqb, eqb-true, leb-true}
use Rattle.im_store.specs.Objects as o
use Rattle.im_store.specs.Objects.{Name, Named, Slot, Link, Object, Shape, Store, same_object, values_with, begins}
use Rattle.im_store.proofs.Same.{same_object-is, same_object-self}
use Rattle.im_eval_store.specs.declared.memory.Activation.{Activation}
use Rattle.im_eval_store.specs.declared.memory.Live.{Live}
use Rattle.im_eval_store.specs.declared.plan.Plan.{Plan}
use Rattle.im_eval_store.specs.Changes.{IsBegun}
use Rattle.im_eval_store.specs.Living.{live_named, live_in, IsLiveAs, LivesAs}
use Rattle.im_eval_store.proofs.Finding.{if-true, if-false, by-test}
use Rattle.im_typed.specs.Program.{Func, LocalObject}
use Rattle.im_typed.specs.Programs.{shape_in, shapes_of, with_arguments, with_objects}
use Rattle.im_eval_machine.specs.Fresh.{argument_at, IsFresh, AreFresh}
use Rattle.im_eval_machine.specs.Settings.{IsPlanOf, ArePlans, local_shapes}
use Rattle.im_eval_machine.proofs.Rows.{got-past}

-- the object of each plan
pub planned : (shapes : List Shape) (plans : List Plan) (k : ℕ) (plan : Plan) → ArePlans shapes plans → slice_get plans k ≡ Some plan → (shape : Shape) × (slice_get shapes k ≡ Some shape) × IsPlanOf shape plan
planned [] [] k plan are e = absurd (cc)
planned [] (p ∷ plans) k plan are e = absurd are
planned (s ∷ shapes) [] k plan are e = absurd are
planned (s ∷ shapes) (p ∷ plans) zero plan are e = let same : p ≡ plan = cc in (s, refl, subst (IsPlanOf s) same are.0)
planned (s ∷ shapes) (p ∷ plans) (suc k) plan are e = planned shapes plans k plan are.1 e

pub as-many : (shapes : List Shape) (plans : List Plan) → ArePlans shapes plans → length plans ≡ length shapes
as-many [] [] are = refl
as-many [] (p ∷ plans) are = absurd are
as-many (s ∷ shapes) [] are = absurd are
as-many (s ∷ shapes) (p ∷ plans) are = let h = as-many shapes plans are.1 in omega arith

by-option : {X : Type 0} {P : Type 0} (r : Option X) → (r ≡ None → P) → ((x : X) → r ≡ Some x → P) → P
by-option None h k = h refl
by-option (Some x) h k = k x refl

none-past : {X : Type 0} (xs : List X) (k : ℕ) → slice_get xs k ≡ None → length xs ≤ k
none-past [] k e = omega arith
none-past (x ∷ xs) zero e = absurd (cc)
none-past (x ∷ xs) (suc k) e = let h = none-past xs k e in omega arith

pub fresh-lives : (shape : Shape) (plan : Plan) (values w : ℕ → o.Value) (x : Live) → IsPlanOf shape plan → IsFresh plan values x → ((i : ℕ) → w i ≡ values i) → IsLiveAs x shape w
fresh-lives shape plan values w x is new same = record {
  size = is.size ∙ ap (λ (p : Plan). p.size) (sym new.plan_is);
  cells = λ i. is.cells i ∙ ap (λ (p : Plan). get_or p.kinds.items i None) (sym new.plan_is);
  have = λ i kind e. same i ∙ sym (new.have i kind (sym (is.cells i) ∙ e));
}

pub all-live : (shapes : List Shape) (plans : List Plan) (values : ℕ → ℕ → o.Value) (xs : List Live) (k : ℕ) (w : ℕ → o.Value) → ArePlans shapes plans → AreFresh plans values xs → ((i : ℕ) → w i ≡ values k i)
    → LivesAs (slice_get xs k) (slice_get shapes k) w
all-live shapes plans values xs k w are fresh same =
    by-option (slice_get xs k)
    (λ none.
    let many = as-many shapes plans are in
    let count = fresh.count in
    let far = none-past xs k none in
    let gone : slice_get shapes k ≡ None = got-past shapes k (omega arith) in
    subst (λ r. LivesAs r (slice_get shapes k) w) (sym none) (subst (λ t. LivesAs None t w) (sym gone) tt))
    (λ x some.
    let p = fresh.each k x some in
    let s = planned shapes plans k p.0 are p.1 in
    subst (λ r. LivesAs r (slice_get shapes k) w) (sym some)
    (subst (λ t. LivesAs (Some x) t w) (sym s.1) (fresh-lives s.0 p.0 (values k) w x s.2 p.2 same)))

-- the parameters hold the arguments

abbrev parameter : ℕ → ℕ → ℕ → Object
parameter activation depth n = record { activation = activation; depth = depth; name = Named n }

abbrev number_in : Name → ℕ
number_in (Named n) = n
number_in (Slot n) = 0
number_in Link = 0

other-parameter : (a d m n : ℕ) → m < n → same_object (parameter a d m) (parameter a d n) ≡ false
other-parameter a d m n lt =
    by-test (same_object (parameter a d m) (parameter a d n))
    (λ t.
    let e : m ≡ n = ap (λ (q : Object). number_in q.name) (same_object-is (parameter a d m) (parameter a d n) t) in
    absurd (omega arith))
    (λ t. t)

later-parameter : (a d m n : ℕ) → n < m → same_object (parameter a d m) (parameter a d n) ≡ false
later-parameter a d m n lt =
    by-test (same_object (parameter a d m) (parameter a d n))
    (λ t.
    let e : m ≡ n = ap (λ (q : Object). number_in q.name) (same_object-is (parameter a d m) (parameter a d n) t) in
    absurd (omega arith))
    (λ t. t)

no-and : (b c : Bool) → b ≡ false → (b && c) ≡ false
no-and false c e = refl
no-and true c e = absurd (cc)

yes-and : (b c : Bool) → b ≡ true → (b && c) ≡ c
yes-and true c e = refl
yes-and false c e = absurd (cc)

module _ (a d : ℕ) (base : Object → ℕ → o.Value) where
  before-arguments : (m first : ℕ) (vs : List o.Value) (i : ℕ) → m < first → with_arguments a d first vs base (parameter a d m) i ≡ base (parameter a d m) i
  before-arguments m first [] i lt = refl
  before-arguments m first (v ∷ vs) i lt =
      if-false (same_object (parameter a d m) (parameter a d first) && i == 0) v (with_arguments a d (suc first) vs base (parameter a d m) i)
      (no-and (same_object (parameter a d m) (parameter a d first)) (i == 0) (other-parameter a d m first lt))
      ∙ before-arguments m (suc first) vs i (omega arith)

  pub argument-given : (k first : ℕ) (vs : List o.Value) (m i : ℕ) → m ≡ first + k → base (parameter a d m) i ≡ o.Unset → with_arguments a d first vs base (parameter a d m) i ≡ argument_at (slice_get vs k) i
  argument-given k first [] m i e unset = unset
  argument-given zero first (v ∷ vs) m i e unset =
      let same : m ≡ first = omega arith in
      let here : same_object (parameter a d m) (parameter a d first) ≡ true = subst (λ n. same_object (parameter a d m) (parameter a d n) ≡ true) same (same_object-self (parameter a d m)) in
      ap (λ (b : Bool). if b then v else with_arguments a d (suc first) vs base (parameter a d m) i) (yes-and (same_object (parameter a d m) (parameter a d first)) (i == 0) here)
      ∙ ap (λ w. if i == 0 then v else w) (before-arguments m (suc first) vs i (omega arith) ∙ unset)
  argument-given (suc k) first (v ∷ vs) m i e unset =
      if-false (same_object (parameter a d m) (parameter a d first) && i == 0) v (with_arguments a d (suc first) vs base (parameter a d m) i)
      (no-and (same_object (parameter a d m) (parameter a d first)) (i == 0) (later-parameter a d m first (omega arith)))
      ∙ argument-given k (suc first) vs m i (omega arith) unset

  -- and nothing else changes
  pub argument-elsewhere : (q : Object) (first : ℕ) (vs : List o.Value) (i : ℕ) → (q.activation == a) ≡ false → with_arguments a d first vs base q i ≡ base q i
  argument-elsewhere q first [] i away = refl
  argument-elsewhere q first (v ∷ vs) i away =
      if-false (same_object q (parameter a d first) && i == 0) v (with_arguments a d (suc first) vs base q i)
      (no-and (same_object q (parameter a d first)) (i == 0) (not-there q first away))
      ∙ argument-elsewhere q (suc first) vs i away
    where
      not-there : (q : Object) (n : ℕ) → (q.activation == a) ≡ false → same_object q (parameter a d n) ≡ false
      not-there q n away =
          no-and (q.activation == a && q.depth == d) (o.same_name q.name (Named n)) (no-and (q.activation == a) (q.depth == d) away)

shape-got : (objects : List LocalObject) (k : ℕ) → slice_get (local_shapes objects) k ≡ shape_in (slice_get objects k)
shape-got [] k = refl
shape-got (x ∷ objects) zero = refl
shape-got (x ∷ objects) (suc k) = shape-got objects k

module _ (a : Activation) (f : Func) (plans : List Plan) (args : List o.Value) (store : Store) where
  abbrev new : Store
  new = with_objects a.number a.depth a.first f args store

  abbrev base : Object → ℕ → o.Value
  base = values_with store.values a.number

  module _ (are : ArePlans (local_shapes f.objects) plans) (fresh : AreFresh plans (λ k. argument_at (slice_get args k)) a.objects.items) where
    named-lives : (n : ℕ) → LivesAs (live_named a.first a.objects.items (Named n)) (shapes_of a.first f.objects (Named n)) (λ i. new.values (parameter a.number a.depth n) i)
    named-lives n =
        by-test (nat_le a.first n)
        (λ t.
        let le = leb-true a.first n t in
        let k = n - a.first in
        let unset : (i : ℕ) → base (parameter a.number a.depth n) i ≡ o.Unset = λ i. if-true (a.number == a.number) o.Unset (store.values (parameter a.number a.depth n) i) (eq-eqb a.number a.number refl) in
        let given = λ (i : ℕ). argument-given a.number a.depth base k a.first args n i (omega arith) (unset i) in
        let one = all-live (local_shapes f.objects) plans (λ k. argument_at (slice_get args k)) a.objects.items k (λ i. new.values (parameter a.number a.depth n) i) are fresh given in
        subst (λ r. LivesAs r (shapes_of a.first f.objects (Named n)) (λ i. new.values (parameter a.number a.depth n) i)) (sym (if-true (nat_le a.first n) (slice_get a.objects.items k) None t))
        (subst (λ r. LivesAs (slice_get a.objects.items k) r (λ i. new.values (parameter a.number a.depth n) i)) (sym (if-true (nat_le a.first n) (shape_in (slice_get f.objects k)) None t ∙ sym (shape-got f.objects k))) one))
        (λ t.
        subst (λ r. LivesAs r (shapes_of a.first f.objects (Named n)) (λ i. new.values (parameter a.number a.depth n) i)) (sym (if-false (nat_le a.first n) (slice_get a.objects.items (n - a.first)) None t))
        (subst (λ r. LivesAs None r (λ i. new.values (parameter a.number a.depth n) i)) (sym (if-false (nat_le a.first n) (shape_in (slice_get f.objects (n - a.first))) None t)) tt))

    name-lives : (name : Name) → LivesAs (live_named a.first a.objects.items name) (shapes_of a.first f.objects name) (λ i. new.values (record { activation = a.number; depth = a.depth; name = name }) i)
    name-lives (Named n) = named-lives n
    name-lives (Slot n) = tt
    name-lives Link = tt

    own-lives : (q : Object) → q.activation ≡ a.number → LivesAs (live_in (Some a) q) (new.shape q) (λ i. new.values q i)
    own-lives q e =
        let shape-is = if-true (q.activation == a.number) (if q.depth == a.depth then shapes_of a.first f.objects q.name else None) (store.shape q) (eq-eqb q.activation a.number e) in
        by-test (q.depth == a.depth)
        (λ t.
        let deep = eqb-true q.depth a.depth t in
        let whole : q ≡ record { activation = a.number; depth = a.depth; name = q.name } = ap (λ n. let r : Object = record { activation = n; depth = q.depth; name = q.name } in r) e ∙ ap (λ n. let r : Object = record { activation = a.number; depth = n; name = q.name } in r) deep in
        subst (λ r. LivesAs r (new.shape q) (λ i. new.values q i)) (sym (if-true (a.depth == q.depth) (live_named a.first a.objects.items q.name) None (eq-eqb a.depth q.depth (sym deep))))
        (subst (λ r. LivesAs (live_named a.first a.objects.items q.name) r (λ i. new.values q i)) (sym (shape-is ∙ if-true (q.depth == a.depth) (shapes_of a.first f.objects q.name) None t))
        (subst (λ (p : Object). LivesAs (live_named a.first a.objects.items q.name) (shapes_of a.first f.objects q.name) (λ i. new.values p i)) (sym whole) (name-lives q.name))))
        (λ t.
        subst (λ r. LivesAs r (new.shape q) (λ i. new.values q i)) (sym (if-false (a.depth == q.depth) (live_named a.first a.objects.items q.name) None (flip q.depth a.depth t)))
        (subst (λ r. LivesAs None r (λ i. new.values q i)) (sym (shape-is ∙ if-false (q.depth == a.depth) (shapes_of a.first f.objects q.name) None t)) tt))
      where
        flip : (m n : ℕ) → (m == n) ≡ false → (n == m) ≡ false
        flip m n e =
            by-test (n == m)
            (λ t. absurd (let both : true ≡ false = sym (eq-eqb m n (sym (eqb-true n m t))) ∙ e in cc))
            (λ t. t)

    pub has-begun : (last : ℕ) → last < a.number → IsBegun a last store new
    has-begun last lt = record {
      later = lt;
      before = λ q away. (
        if-false (q.activation == a.number) (if q.depth == a.depth then shapes_of a.first f.objects q.name else None) (store.shape q) away,
        λ i. argument-elsewhere a.number a.depth base q a.first args i away ∙ if-false (q.activation == a.number) o.Unset (store.values q i) away,
      );
      own = own-lives;
    }
