-- Looking up activations and objects by their names.
use Rattle.std.proofs.Common.{◌≡◌, ℕ, zero, suc, ◌-◌, ◌<◌, ◌≤◌, ◌==◌, List, [], ◌∷◌, Bool, true, false, get_or, refl, sym, ap, ◌∙◌, subst, arith}
use Rattle.std.specs.Prelude.{Option, Some, None, nat_le, is_some, if◌then◌else◌, slice_get}
use Rattle.std.proofs.lemmas.Bool.{eq-eqb, eqb-true, le-leb}
use Rattle.std.proofs.lemmas.Bool.Decides.{eqb_tells}
use Rattle.std.proofs.Common.{inl, inr}
use Rattle.im_store.specs.Objects as o
use Rattle.im_store.specs.Objects.{Named, Object, Shape, Store, lives, is_there}
use Rattle.im_eval_store.specs.declared.value.ObjectName.{ObjectName}
use Rattle.im_eval_store.specs.declared.memory.Live.{Live}
use Rattle.im_eval_store.specs.declared.memory.Activation.{Activation}
use Rattle.im_eval_store.specs.declared.memory.Position.{Position}
use Rattle.im_eval_store.specs.Living.{live_named, live_in, activation_at, live_at, IsLiveAs, LivesAs, Ascends, IsHeld}
use Rattle.im_eval_store.specs.Changes.{IsAt, StandsAt}
use Rattle.im_eval_store.specs.Shown.{object_of}

pub differs : (m n : ℕ) → m < n → (m == n) ≡ false
differs m n lt =
    elim (eqb_tells m n) [ inl h ↦ absurd (let e : m ≡ n = h.1 in omega arith) | inr h ↦ h.0 ]

pub if-true : {A : Type 0} (c : Bool) (a b : A) → c ≡ true → (if c then a else b) ≡ a
if-true true a b e = refl
if-true false a b e = absurd (cc)

pub if-false : {A : Type 0} (c : Bool) (a b : A) → c ≡ false → (if c then a else b) ≡ b
if-false true a b e = absurd (cc)
if-false false a b e = refl

-- the cases of a test, with what each tells
pub by-test : {P : Type 0} (c : Bool) → (c ≡ true → P) → (c ≡ false → P) → P
by-test true h k = h refl
by-test false h k = k refl

-- the activation at a level is the one of its number
pub at_least : (from last : ℕ) (all : List Activation) (l : ℕ) (a : Activation) → Ascends from last all → slice_get all l ≡ Some a → from ≤ a.number
at_least from last [] l a h e = absurd (cc)
at_least from last (b ∷ bs) zero a h e = let same : b ≡ a = cc in subst (λ (x : Activation). from ≤ x.number) same h.0
at_least from last (b ∷ bs) (suc l) a h e =
    let r = at_least (suc b.number) last bs l a h.1 e in
    let k = h.0 in
    omega arith

pub found : (from last : ℕ) (all : List Activation) (l : ℕ) (a : Activation) → Ascends from last all → slice_get all l ≡ Some a → activation_at all a.number ≡ Some a
found from last [] l a h e = absurd (cc)
found from last (b ∷ bs) zero a h e =
    let same : b ≡ a = cc in
    if-true (b.number == a.number) (Some b) (activation_at bs a.number) (eq-eqb b.number a.number (ap (λ (x : Activation). x.number) same)) ∙ e
found from last (b ∷ bs) (suc l) a h e =
    let r = at_least (suc b.number) last bs l a h.1 e in
    if-false (b.number == a.number) (Some b) (activation_at bs a.number) (differs b.number a.number (omega arith)) ∙ found (suc b.number) last bs l a h.1 e

pub found-of : (last : ℕ) (all : List Activation) (l number : ℕ) (a : Activation) → Ascends 0 last all → slice_get all l ≡ Some a → a.number ≡ number → activation_at all number ≡ Some a
found-of last all l number a h e n = ap (activation_at all) (sym n) ∙ found 0 last all l a h e

-- an object that is held at a position is the one of its name
pub standing : (last : ℕ) (all : List Activation) (p : ObjectName) (at : Position) (a : Activation) (x : Live) → Ascends 0 last all → IsAt all p at a x → live_at all (object_of p) ≡ Some x
standing last all p at a x h s =
    ap (λ r. live_in r (object_of p)) (found-of last all at.level p.activation a h s.activation s.number)
    ∙ if-true (a.depth == p.depth) (live_named a.first a.objects.items (Named p.number)) None (eq-eqb a.depth p.depth s.depth)
    ∙ if-true (nat_le a.first p.number) (slice_get a.objects.items (p.number - a.first)) None (le-leb a.first p.number s.first)
    ∙ ap (slice_get a.objects.items) (sym s.index)
    ∙ s.object

-- what lives all an object that is held
pub lives-some : (x : Live) (r : Option Shape) (values : ℕ → o.Value) → LivesAs (Some x) r values → (shape : Shape) × (r ≡ Some shape) × IsLiveAs x shape values
lives-some x None values h = absurd h
lives-some x (Some shape) values h = (shape, refl, h)

pub lives-none : (r : Option Shape) (values : ℕ → o.Value) → LivesAs None r values → r ≡ None
lives-none None values h = refl
lives-none (Some shape) values h = absurd h

pub held-some : (last : ℕ) (all : List Activation) (store : Store) (p : ObjectName) (at : Position) (a : Activation) (x : Live) → IsHeld all last store → IsAt all p at a x
    → (shape : Shape) × (store.shape (object_of p) ≡ Some shape) × IsLiveAs x shape (store.values (object_of p))
held-some last all store p at a x h s =
    lives-some x (store.shape (object_of p)) (store.values (object_of p))
    (subst (λ r. LivesAs r (store.shape (object_of p)) (store.values (object_of p))) (standing last all p at a x h.ordered s) (h.objects (object_of p)))

pub held-none : (last : ℕ) (all : List Activation) (store : Store) (p : Object) → IsHeld all last store → live_at all p ≡ None → store.shape p ≡ None
held-none last all store p h e =
    lives-none (store.shape p) (store.values p) (subst (λ r. LivesAs r (store.shape p) (store.values p)) e (h.objects p))

pub found-number : (all : List Activation) (number : ℕ) (a : Activation) → activation_at all number ≡ Some a → a.number ≡ number
found-number [] number a e = absurd (cc)
found-number (b ∷ bs) number a e =
    by-test (b.number == number)
    (λ t.
    let same : Some b ≡ Some a = sym (if-true (b.number == number) (Some b) (activation_at bs number) t) ∙ e in
    let it : b ≡ a = cc in
    ap (λ (x : Activation). x.number) (sym it) ∙ eqb-true b.number number t)
    (λ t. found-number bs number a (sym (if-false (b.number == number) (Some b) (activation_at bs number) t) ∙ e))

-- whether an object lives, by where it is held
pub lives-at : (last : ℕ) (all : List Activation) (store : Store) (p : ObjectName) (r : Option Position) → IsHeld all last store → StandsAt all p r → is_some r ≡ lives store (object_of p)
lives-at last all store p None h s = ap is_there (sym (held-none last all store (object_of p) h s))
lives-at last all store p (Some at) h s = ap is_there (sym (held-some last all store p at s.0 s.1 h s.2).1)

-- what is read at a position is what stands there
pub read-same : {A : Type 0} (xs : List A) (i : ℕ) (a r : A) → slice_get xs i ≡ Some a → r ≡ get_or xs i r → a ≡ r
read-same [] i a r e f = absurd (cc)
read-same (y ∷ ys) zero a r e f = let s : y ≡ a = cc in sym s ∙ sym f
read-same (y ∷ ys) (suc i) a r e f = read-same ys i a r e f

pub at-read : (all : List Activation) (p : ObjectName) (at : Position) (a b : Activation) (x y : Live) → IsAt all p at a x → b ≡ get_or all at.level b → y ≡ get_or b.objects.items at.index y → IsAt all p at b y
at-read all p at a b x y s e f =
    let t = subst (λ (z : Activation). IsAt all p at z x) (read-same all at.level a b s.activation e) s in
    subst (λ (z : Live). IsAt all p at b z) (read-same b.objects.items at.index x y t.object f) t
