-- Calls of well-typed functions.
use Rattle.std.proofs.Common.{◌≡◌, inl, inr, ℕ, zero, suc, ◌+◌, ◌-◌, ◌<◌, ◌≤◌, ◌==◌, List, [], ◌∷◌, Bool, true, false, ◌&&◌, take, refl, sym, ap, ◌∙◌, subst, arith}
use Rattle.std.specs.Prelude.{Option, Some, None, pos, nat_le, if◌then◌else◌, slice_get}
use Rattle.std.specs.Option.{option_map}
use Rattle.std.proofs.lemmas.Int.{ints}
use Rattle.std.proofs.lemmas.Bool.{eqb-true, eq-eqb}
use Rattle.std.proofs.lemmas.Bool.Decides.{eqb_tells, leb_tells}
use Rattle.im_num.specs.declared.kind.Kind.{Kind}
use Rattle.im_num.specs.declared.kind.Kind.TheVariants.{I32}
use Rattle.im_num.specs.Kinds.{IsOfKind}
use Rattle.im_store.specs.Objects.{Name, Named, Slot, Link, Object, static, Value, Number, Null, Pointer, Unset, Shape, shape_of as object_shape, kind_at, Store, same_object, ends}
use Rattle.im_store.specs.Statics.{StaticObject}
use Rattle.im_store.proofs.Same.{same_object-is, both-true}
use Rattle.im_typed.specs.Program.{Scalar, LocalObject, Func}
use Rattle.im_typed.specs.Runs.{World}
use Rattle.im_typed.specs.Values.{Values, cells_of}
use Rattle.im_typed.specs.Meaning.{Flow, Next, Broke, Continued, Returned}
use Rattle.im_typed.specs.Programs.{shape_in, shapes_of, with_arguments, with_objects, leaving, call_result}
use Rattle.im_typed.specs.Typing.{Each, IsObject}
use Rattle.im_typed.specs.Sound.{IsInside, IsValue, IsCellValue, IsSound, IsSoundWorld, Fits, FitsResult, FlowFits, ArgumentsFit}

-- tests of numbers, and what a choice is

pub differs : (m n : ℕ) → m < n → (m == n) ≡ false
differs m n lt =
    elim (eqb_tells m n) [ inl h ↦ absurd (let e : m ≡ n = h.1 in omega arith) | inr h ↦ h.0 ]

pub if-true : {A : Type 0} (c : Bool) (a b : A) → c ≡ true → (if c then a else b) ≡ a
if-true true a b e = refl
if-true false a b e = absurd (cc)

pub if-false : {A : Type 0} (c : Bool) (a b : A) → c ≡ false → (if c then a else b) ≡ b
if-false true a b e = absurd (cc)
if-false false a b e = refl

pub if-some : {A : Type 0} (c : Bool) (r : Option A) (a : A) → (if c then r else None) ≡ Some a → (c ≡ true) × (r ≡ Some a)
if-some true r a e = (refl, e)
if-some false r a e = absurd (cc)

pub if-none : {A : Type 0} (c : Bool) (r : Option A) (a : A) → (if c then None else r) ≡ Some a → (c ≡ false) × (r ≡ Some a)
if-none true r a e = absurd (cc)
if-none false r a e = (refl, e)

-- the cases of a test, with what each tells
pub by-test : {P : Type 0} (c : Bool) → (c ≡ true → P) → (c ≡ false → P) → P
by-test true h k = h refl
by-test false h k = k refl

pub each-at : {A : Type 0} (P : A → Type 0) (xs : List A) (n : ℕ) (x : A) → Each P xs → slice_get xs n ≡ Some x → P x
each-at P [] n x h e = absurd (cc)
each-at P (y ∷ ys) zero x h e = let same : y ≡ x = cc in subst P same h.0
each-at P (y ∷ ys) (suc n) x h e = each-at P ys n x h.1 e

taken-at : {A : Type 0} (n : ℕ) (xs : List A) (i : ℕ) (x : A) → slice_get (take n xs) i ≡ Some x → slice_get xs i ≡ Some x
taken-at zero xs i x e = absurd (cc)
taken-at (suc n) [] i x e = absurd (cc)
taken-at (suc n) (y ∷ ys) zero x e = e
taken-at (suc n) (y ∷ ys) (suc i) x e = taken-at n ys i x e

pub same-some : {A : Type 0} (a b : A) → Some a ≡ Some b → a ≡ b
same-some a b e = cc

-- the shape of an object of a function
in-shape : (r : Option LocalObject) (s : Shape) → shape_in r ≡ Some s → (o : LocalObject) × (r ≡ Some o) × (object_shape o.size o.cells ≡ s)
in-shape None s e = absurd (cc)
in-shape (Some o) s e = (o, refl, cc)

named-shape : (first : ℕ) (objects : List LocalObject) (name : Name) (s : Shape) → shapes_of first objects name ≡ Some s → (n : ℕ) × (o : LocalObject) × (slice_get objects n ≡ Some o) × (object_shape o.size o.cells ≡ s)
named-shape first objects (Named number) s e =
    let t = if-some (nat_le first number) (shape_in (slice_get objects (number - first))) s e in
    let o = in-shape (slice_get objects (number - first)) s t.1 in
    (number - first, o.0, o.1, o.2)
named-shape first objects (Slot number) s e = absurd (cc)
named-shape first objects Link s e = absurd (cc)

own-shape : (first : ℕ) (objects : List LocalObject) (n : ℕ) (o : LocalObject) → slice_get objects n ≡ Some o → shapes_of first objects (Named (first + n)) ≡ Some (object_shape o.size o.cells)
own-shape first objects n o e =
    let le : nat_le first (first + n) ≡ true = elim (leb_tells first (first + n)) [ inl h ↦ h.0 | inr h ↦ absurd (let lt = h.1 in omega arith) ] in
    let back : first + n - first ≡ n = omega arith in
    if-true (nat_le first (first + n)) (shape_in (slice_get objects (first + n - first))) None le
    ∙ ap (λ m. shape_in (slice_get objects m)) back ∙ ap shape_in e

-- an activation begins

module _ (statics : List StaticObject) (f : Func) (args : List Value) (w : World) (depth first : ℕ) (sane : IsSoundWorld statics w) where
  abbrev a : ℕ
  a = suc w.activations

  abbrev after : Store
  after = with_objects a depth first f args w.store

  abbrev object : ℕ → Object
  object n = record { activation = a; depth = depth; name = Named n }

  pub old-shape : (o : Object) → (o.activation == a) ≡ false → after.shape o ≡ w.store.shape o
  old-shape o e = if-false (o.activation == a) _ (w.store.shape o) e

  pub new-shape : (n : ℕ) (o : LocalObject) → slice_get f.objects n ≡ Some o → after.shape (object (first + n)) ≡ Some (object_shape o.size o.cells)
  new-shape n o e =
      if-true (a == a) _ (w.store.shape (object (first + n))) (eq-eqb a a refl)
      ∙ if-true (depth == depth) _ None (eq-eqb depth depth refl) ∙ own-shape first f.objects n o e

  -- who lives is one of these objects, or lived before
  new-or-old : {P : Type 0} (o : Object) (s : Shape) → after.shape o ≡ Some s
      → (o.activation ≡ a → (n : ℕ) (x : LocalObject) → slice_get f.objects n ≡ Some x → object_shape x.size x.cells ≡ s → P)
      → ((o.activation == a) ≡ false → w.store.shape o ≡ Some s → P) → P
  new-or-old o s e h k =
      by-test (o.activation == a)
      (λ t.
      let inner = sym (if-true (o.activation == a) (if o.depth == depth then shapes_of first f.objects o.name else None) (w.store.shape o) t) ∙ e in
      let found = if-some (o.depth == depth) (shapes_of first f.objects o.name) s inner in
      let x = named-shape first f.objects o.name s found.1 in
      h (eqb-true o.activation a t) x.0 x.1 x.2 x.3)
      (λ t. k t (sym (old-shape o t) ∙ e))

  value-begun : (kind : Kind) (v : Value) → IsValue w.activations w.store kind v → IsValue a after kind v
  value-begun kind (Number z) h = h
  value-begun kind Null h = h
  value-begun kind (Pointer o offset) h =
      let le = h.1 in
      let lt : o.activation < a = omega arith in
      let le' : o.activation ≤ a = omega arith in
      (h.0, le', h.2, subst (λ s. IsInside s o.activation offset) (sym (old-shape o (differs o.activation a lt))) h.3)
  value-begun kind Unset h = h

  cell-begun : (activation : ℕ) (kind : Kind) (v : Value) → IsCellValue w.activations w.store activation kind v → IsCellValue a after activation kind v
  cell-begun activation kind (Number z) h = value-begun kind (Number z) h
  cell-begun activation kind Null h = value-begun kind Null h
  cell-begun activation kind (Pointer o offset) h = value-begun kind (Pointer o offset) h
  cell-begun activation kind Unset h = h

  cell-of_value : (activation : ℕ) (kind : Kind) (v : Value) → IsValue a after kind v → IsCellValue a after activation kind v
  cell-of_value activation kind (Number z) h = h
  cell-of_value activation kind Null h = h
  cell-of_value activation kind (Pointer o offset) h = h
  cell-of_value activation kind Unset h = absurd h

  -- a value is right for each cell that may stand there
  abbrev Good : Object → ℕ → Value → Type 0
  Good p i v =
      (s : Shape) (kind : Kind) → after.shape p ≡ Some s → s.cells i ≡ Some kind → IsCellValue a after p.activation kind v

  old-good : (p : Object) (i : ℕ) (c : Bool) → (p.activation == a) ≡ c → Good p i (if c then Unset else w.store.values p i)
  old-good p i true e = λ s kind ls cs.
      let same = eqb-true p.activation a e in
      let later : 0 < p.activation = omega arith in
      later
  old-good p i false e = λ s kind ls cs.
      cell-begun p.activation kind (w.store.values p i) (sane.store.cells p s i kind (sym (old-shape p e) ∙ ls) cs)

  argument-good : (n : ℕ) (o : LocalObject) (v : Value) (kind : Kind) → after.shape (object n) ≡ Some (object_shape o.size o.cells) → o.cells ≡ cells_of (Scalar kind) → IsValue w.activations w.store kind v
      → (p : Object) (i : ℕ) (rest : Value) → Good p i rest → (c : Bool) → (same_object p (object n) && i == 0) ≡ c → Good p i (if c then v else rest)
  argument-good n o v kind shape cells h p i rest good true e = λ s k ls cs.
      let b = both-true (same_object p (object n)) (i == 0) e in
      let po : p ≡ object n = same_object-is p (object n) b.0 in
      let io : i ≡ 0 = eqb-true i 0 b.1 in
      let st : s ≡ object_shape o.size o.cells = same-some s (object_shape o.size o.cells) (sym ls ∙ ap after.shape po ∙ shape) in
      let ks : Some k ≡ Some kind = sym cs ∙ ap (λ (x : Shape). x.cells i) st ∙ ap (kind_at o.cells) io ∙ ap (λ x. kind_at x 0) cells in
      let kk : k ≡ kind = same-some k kind ks in
      cell-of_value p.activation k v (subst (λ x. IsValue a after x v) (sym kk) (value-begun kind v h))
  argument-good n o v kind shape cells h p i rest good false e = good

  arguments-good : (n : ℕ) (os : List LocalObject) (vs : List Value) (values : Object → ℕ → Value) → ArgumentsFit os w vs
      → ((i : ℕ) (o : LocalObject) → slice_get os i ≡ Some o → after.shape (object (n + i)) ≡ Some (object_shape o.size o.cells))
      → ((p : Object) (i : ℕ) → Good p i (values p i)) → (p : Object) (i : ℕ) → Good p i (with_arguments a depth n vs values p i)
  arguments-good n [] [] values fit shapes good p i = good p i
  arguments-good n [] (v ∷ vs) values fit shapes good p i = absurd fit
  arguments-good n (o ∷ os) [] values fit shapes good p i = absurd fit
  arguments-good n (o ∷ os) (v ∷ vs) values fit shapes good p i =
      let zero_in : n + 0 ≡ n = omega arith in
      let here : after.shape (object n) ≡ Some (object_shape o.size o.cells) = ap (λ m. after.shape (object m)) (sym zero_in) ∙ shapes 0 o refl in
      argument-good n o v fit.0.0 here fit.0.1 fit.0.2 p i (with_arguments a depth (suc n) vs values p i)
      (arguments-good (suc n) os vs values fit.1
      (λ j x e. let next : suc n + j ≡ n + suc j = omega arith in ap (λ m. after.shape (object m)) next ∙ shapes (suc j) x e) good p i)
      (same_object p (object n) && i == 0) refl

  pub begun-sound : Each {A = LocalObject} (λ o. IsObject o.size o.cells) f.objects → ArgumentsFit (take f.params f.objects) w args → IsSound statics a after
  begun-sound objects fit = record {
    began = λ o s e. new-or-old o s e (λ t n x g h. omega arith) (λ t g. let le = sane.store.began o s g in omega arith);
    small = λ o s e. new-or-old o s e
        (λ t n x g h. let few = (each-at (λ (o : LocalObject). IsObject o.size o.cells) f.objects n x objects g).0 in subst (λ (y : Shape). y.size ≤ 1048576) h few)
        (λ t g. sane.store.small o s g);
    cells = λ o s i kind ls cs.
        arguments-good first (take f.params f.objects) args _ fit
        (λ j x e. new-shape j x (taken-at f.params f.objects j x e))
        (λ p j. old-good p j (p.activation == a) refl) o i s kind ls cs;
    live = λ n s e. old-shape (static n) (differs 0 a (omega arith)) ∙ sane.store.live n s e;
    only = λ o s e z. new-or-old o s e (λ t n x g h. absurd (omega arith)) (λ t g. sane.store.only o s g z);
  }

-- an activation ends

module _ (statics : List StaticObject) (t : World) (a : ℕ) (sane : IsSoundWorld statics t) (later : 0 < a) where
  abbrev left : Store
  left = ends t.store a

  inside-ended : (shape : Option Shape) (activation offset : ℕ) → IsInside shape activation offset → (c : Bool) → (activation == a) ≡ c → IsInside (if c then None else shape) activation offset
  inside-ended shape activation offset h false e = h
  inside-ended shape zero offset h true e = absurd (let same : 0 ≡ a = eqb-true 0 a e in omega arith)
  inside-ended shape (suc activation) offset h true e = tt

  value-ended : (kind : Kind) (v : Value) → IsValue t.activations t.store kind v → IsValue t.activations left kind v
  value-ended kind (Number z) h = h
  value-ended kind Null h = h
  value-ended kind (Pointer o offset) h =
      (h.0, h.1, h.2, inside-ended (t.store.shape o) o.activation offset h.3 (o.activation == a) refl)
  value-ended kind Unset h = h

  cell-ended : (activation : ℕ) (kind : Kind) (v : Value) → IsCellValue t.activations t.store activation kind v → IsCellValue t.activations left activation kind v
  cell-ended activation kind (Number z) h = h
  cell-ended activation kind Null h = h
  cell-ended activation kind (Pointer o offset) h = value-ended kind (Pointer o offset) h
  cell-ended activation kind Unset h = h

  stays : (o : Object) (s : Shape) → left.shape o ≡ Some s → t.store.shape o ≡ Some s
  stays o s e = (if-none (o.activation == a) (t.store.shape o) s e).1

  pub ended-sound : IsSound statics t.activations left
  ended-sound = record {
    began = λ o s e. sane.store.began o s (stays o s e);
    small = λ o s e. sane.store.small o s (stays o s e);
    cells = λ o s i kind ls cs. cell-ended o.activation kind (t.store.values o i) (sane.store.cells o s i kind (stays o s ls) cs);
    live = λ n s e. if-false (0 == a) None (t.store.shape (static n)) (differs 0 a later) ∙ sane.store.live n s e;
    only = λ o s e z. sane.store.only o s (stays o s e) z;
  }

  result-ended : (result : Option Kind) (depth : ℕ) (vs : Values) → FitsResult result t vs → Fits (option_map Scalar result) (leaving a depth t) vs
  result-ended None depth vs h = h
  result-ended (Some kind) depth [] h = absurd h
  result-ended (Some kind) depth (v ∷ vs) h = (value-ended kind v h.0, h.1)

pub zero-of_kind : IsOfKind I32 (pos 0)
zero-of_kind = record { low = omega (arith, ints); high = omega (arith, ints) }

none-fits : (result : Option Kind) (w : World) → Fits (option_map Scalar result) w []
none-fits None w = refl
none-fits (Some kind) w = tt

-- what a call gives fits the function's result, since main's is an int
pub given-fits : (statics : List StaticObject) (t : World) (a : ℕ) (sane : IsSoundWorld statics t) (later : 0 < a) (result : Option Kind) (depth : ℕ) (is_main : Bool) (flow : Flow) → (is_main ≡ true → result ≡ Some I32) → FlowFits result t flow → Fits (option_map Scalar result) (leaving a depth t) (call_result is_main flow)
given-fits statics t a sane later result depth is_main (Returned vs) m h = result-ended statics t a sane later result depth vs h
given-fits statics t a sane later result depth true Next m h = subst (λ r. Fits (option_map Scalar r) (leaving a depth t) (Number (pos 0) ∷ [])) (sym (m refl)) ((tt, zero-of_kind), refl)
given-fits statics t a sane later result depth true Broke m h = subst (λ r. Fits (option_map Scalar r) (leaving a depth t) (Number (pos 0) ∷ [])) (sym (m refl)) ((tt, zero-of_kind), refl)
given-fits statics t a sane later result depth true Continued m h = subst (λ r. Fits (option_map Scalar r) (leaving a depth t) (Number (pos 0) ∷ [])) (sym (m refl)) ((tt, zero-of_kind), refl)
given-fits statics t a sane later result depth false Next m h = none-fits result (leaving a depth t)
given-fits statics t a sane later result depth false Broke m h = none-fits result (leaving a depth t)
given-fits statics t a sane later result depth false Continued m h = none-fits result (leaving a depth t)
