-- Lowered code is well formed.
use Rattle.std.proofs.Common.{◌≡◌, ℕ, zero, suc, ◌+◌, ◌%◌, ◌<◌, ◌≤◌, List, [], ◌∷◌, length, map, take, refl, sym, ap, ◌∙◌, subst, arith}
use Rattle.std.specs.Prelude.{Option, Some, None, All, slice_get, sum_by}
use Rattle.std.proofs.lemmas.List.{length-map}
use Rattle.std.proofs.lemmas.List.Sums.{sum_by-cons}
use Rattle.std.proofs.lemmas.List.Elements.{All-nil, All-cons, All-head, All-tail, All-weaker}
use Rattle.im_num.specs.declared.kind.Kind.{Kind}
use Rattle.im_num.specs.declared.kind.Kind.TheVariants.{Ptr}
use Rattle.im_num.specs.Kinds.{kind_size}
use Rattle.im_ctype.specs.declared.cell.Cell.{Cell}
use Rattle.im_store.specs.Statics.{StaticObject}
use Rattle.im_typed.specs.Program as q
use Rattle.im_typed.specs.Limits.{IsWithinLimits}
use Rattle.im_typed.specs.Typing.{Each, IsInteger, AreLaidOut, IsObject, HasPlace, IsFirstValue, AreFirstValues, IsTypedStatic, IsTypedFunc, IsMain, IsWellTyped}
use Rattle.im_typed.proofs.SoundCalls.{each-at}
use Rattle.im_typed.proofs.SoundExprs.{there}
use Rattle.im_block.specs.declared.code.Line.{Line}
use Rattle.im_block.specs.declared.code.Line.TheVariants.{Call}
use Rattle.im_block.specs.declared.code.Block.{Block}
use Rattle.im_block.specs.declared.unit.Object.{Object}
use Rattle.im_block.specs.declared.unit.Constant.{Constant}
use Rattle.im_block.specs.declared.unit.Constant.TheVariants.{Number, Null, Inside}
use Rattle.im_block.specs.declared.unit.Static.{Static as StaticOf}
use Rattle.im_block.specs.declared.unit.Function.{Function}
use Rattle.im_block.specs.declared.unit.Unit.{Unit as Code}
use Rattle.im_block.specs.Meaning.{static_of, constant, statics_of}
use Rattle.im_block.specs.Shape.{AllOrdered, sum_of}
use Rattle.im_block.specs.Wellformed.{HasCells, HasBytes, Suits, IsStatic, LineWithin, ExitWithin, ExitThere, Takes, LineThere, IsBlock, IsFunction, objects_below, IsWellFormed}
use Rattle.im_lower_relation.specs.Lowered.{AreObjects, IsLowered, HasParameters, CallsRightly, IsSized, AreSized}

-- lists

all-by : {A : Type 0} (P : A → Type 0) (xs : List A) → ((i : ℕ) (x : A) → slice_get xs i ≡ Some x → P x) → All P xs
all-by P [] h = All-nil P
all-by P (x ∷ xs) h = All-cons P x xs (h 0 x refl) (all-by P xs (λ i y e. h (suc i) y e))

all-at : {A : Type 0} (P : A → Type 0) (xs : List A) (i : ℕ) (x : A) → All P xs → slice_get xs i ≡ Some x → P x
all-at P [] i x h e = absurd (cc)
all-at P (y ∷ ys) zero x h e = let same : y ≡ x = cc in subst P same (All-head P y ys h)
all-at P (y ∷ ys) (suc i) x h e = all-at P ys i x (All-tail P y ys h) e

below : {A : Type 0} (xs : List A) (i : ℕ) (x : A) → slice_get xs i ≡ Some x → i < length xs
below [] i x e = absurd (cc)
below (y ∷ ys) zero x e = omega arith
below (y ∷ ys) (suc i) x e = let lt = below ys i x e in omega arith

some-same : {A : Type 0} (a b : A) → Some a ≡ Some b → a ≡ b
some-same a b e = cc

mapped-at : {A B : Type 0} (f : A → B) (xs : List A) (i : ℕ) (x : A) → slice_get xs i ≡ Some x → slice_get (map f xs) i ≡ Some (f x)
mapped-at f [] i x e = absurd (cc)
mapped-at f (y ∷ ys) zero x e = let same : y ≡ x = cc in ap (λ z. Some (f z)) same
mapped-at f (y ∷ ys) (suc i) x e = mapped-at f ys i x e

-- cells that are laid out

laid-from : (from size : ℕ) (cells : List Cell) (i : ℕ) (c : Cell) → AreLaidOut from size cells → slice_get cells i ≡ Some c → from ≤ c.offset
laid-from from size [] i c h e = absurd (cc)
laid-from from size (x ∷ xs) zero c h e = let same : x ≡ c = cc in subst (λ (y : Cell). from ≤ y.offset) same h.0
laid-from from size (x ∷ xs) (suc i) c h e = let le = laid-from (x.offset + kind_size x.kind) size xs i c h.2 e in let first = h.0 in omega arith

laid-end : (from size : ℕ) (cells : List Cell) → AreLaidOut from size cells → from ≤ size
laid-end from size [] h = h
laid-end from size (x ∷ xs) h = let le = laid-end (x.offset + kind_size x.kind) size xs h.2 in let first = h.0 in omega arith

laid-inside : (from size : ℕ) (cells : List Cell) (i : ℕ) (c : Cell) → AreLaidOut from size cells → slice_get cells i ≡ Some c → c.offset + kind_size c.kind ≤ size
laid-inside from size [] i c h e = absurd (cc)
laid-inside from size (x ∷ xs) zero c h e = let same : x ≡ c = cc in subst (λ (y : Cell). y.offset + kind_size y.kind ≤ size) same (laid-end (x.offset + kind_size x.kind) size xs h.2)
laid-inside from size (x ∷ xs) (suc i) c h e = laid-inside (x.offset + kind_size x.kind) size xs i c h.2 e

laid-even : (from size : ℕ) (cells : List Cell) (i : ℕ) (c : Cell) → AreLaidOut from size cells → slice_get cells i ≡ Some c → c.offset % kind_size c.kind ≡ 0
laid-even from size [] i c h e = absurd (cc)
laid-even from size (x ∷ xs) zero c h e = let same : x ≡ c = cc in subst (λ (y : Cell). y.offset % kind_size y.kind ≡ 0) same h.1
laid-even from size (x ∷ xs) (suc i) c h e = laid-even (x.offset + kind_size x.kind) size xs i c h.2 e

laid-apart : (from size : ℕ) (cells : List Cell) (i j : ℕ) (c d : Cell) → AreLaidOut from size cells → slice_get cells i ≡ Some c → slice_get cells j ≡ Some d → i < j → c.offset + kind_size c.kind ≤ d.offset
laid-apart from size [] i j c d h e k lt = absurd (cc)
laid-apart from size (x ∷ xs) i zero c d h e k lt = absurd (omega arith)
laid-apart from size (x ∷ xs) zero (suc j) c d h e k lt =
    let same : x ≡ c = cc in subst (λ (y : Cell). y.offset + kind_size y.kind ≤ d.offset) same (laid-from (x.offset + kind_size x.kind) size xs j d h.2 k)
laid-apart from size (x ∷ xs) (suc i) (suc j) c d h e k lt = laid-apart (x.offset + kind_size x.kind) size xs i j c d h.2 e k (omega arith)

has-cells : (o : Object) → IsObject o.size o.cells.items → HasCells o
has-cells o h = record {
  inside = λ i c e. laid-inside 0 o.size o.cells.items i c h.1 e;
  even = λ i c e. laid-even 0 o.size o.cells.items i c h.1 e;
  apart = λ i j c d e k lt. laid-apart 0 o.size o.cells.items i j c d h.1 e k lt;
}

-- statics

not-pointer : (kind : Kind) → IsInteger kind → kind ≡ Ptr → ⊥
not-pointer kind h e = subst IsInteger e h

has-bytes : (statics : List StaticOf) (n offset : ℕ) → HasPlace (slice_get (map {A = StaticOf} static_of statics) n) offset → HasBytes (slice_get statics n) offset
has-bytes [] n offset h = h
has-bytes (s ∷ ss) zero offset h = h
has-bytes (s ∷ ss) (suc n) offset h = has-bytes ss n offset h

suits : (statics : List StaticOf) (kind : Kind) (v : Constant) → IsFirstValue (map {A = StaticOf} static_of statics) kind (constant v) → Suits statics kind v
suits statics kind (Number z) h = (not-pointer kind h.0, h.1)
suits statics kind Null h = h
suits statics kind (Inside object offset) h = (h.0, has-bytes statics object offset h.3)

values-suit : (statics : List StaticOf) (cells : List Cell) (values : List Constant) (i : ℕ) (c : Cell) (v : Constant) → AreFirstValues (map {A = StaticOf} static_of statics) cells (map constant values) → slice_get cells i ≡ Some c → slice_get values i ≡ Some v → Suits statics c.kind v
values-suit statics [] values i c v h e k = absurd (cc)
values-suit statics (x ∷ xs) [] i c v h e k = absurd h
values-suit statics (x ∷ xs) (y ∷ ys) zero c v h e k =
    let one : x ≡ c = cc in let other : y ≡ v = cc in
    subst (λ (z : Cell). Suits statics z.kind v) one (subst (Suits statics x.kind) other (suits statics x.kind y h.0))
values-suit statics (x ∷ xs) (y ∷ ys) (suc i) c v h e k = values-suit statics xs ys i c v h.1 e k

values-many : (statics : List StaticObject) (cells : List Cell) (values : List Constant) → AreFirstValues statics cells (map constant values) → length values ≡ length cells
values-many statics [] [] h = refl
values-many statics [] (y ∷ ys) h = absurd h
values-many statics (x ∷ xs) [] h = absurd h
values-many statics (x ∷ xs) (y ∷ ys) h = ap suc (values-many statics xs ys h.1)

static-formed : (statics : List StaticOf) (s : StaticOf) → IsTypedStatic (map {A = StaticOf} static_of statics) (static_of s) → IsStatic statics s
static-formed statics s h = record {
  cells = has-cells s.object h.0;
  count = values-many (map {A = StaticOf} static_of statics) s.object.cells.items s.values.items h.1;
  values = λ i c v e k. values-suit statics s.object.cells.items s.values.items i c v h.1 e k;
}

-- the objects of functions, and their numbers

objects-formed : (xs : List q.LocalObject) (os : List Object) → AreObjects xs os → Each {A = q.LocalObject} (λ o. IsObject o.size o.cells) xs → All HasCells os
objects-formed [] [] h t = All-nil HasCells
objects-formed [] (o ∷ os) h t = absurd h
objects-formed (x ∷ xs) [] h t = absurd h
objects-formed (x ∷ xs) (o ∷ os) h t =
    All-cons HasCells o os (has-cells o (subst (λ n. IsObject n o.cells.items) (sym h.0) (subst (IsObject x.size) (sym h.1) t.0))) (objects-formed xs os h.2 t.1)

objects-many : (xs : List q.LocalObject) (os : List Object) → AreObjects xs os → length os ≡ length xs
objects-many [] [] h = refl
objects-many [] (o ∷ os) h = absurd h
objects-many (x ∷ xs) [] h = absurd h
objects-many (x ∷ xs) (o ∷ os) h = ap suc (objects-many xs os h.2)

sums-same : (fs : List q.Func) (cs : List Function) (k : ℕ) → length cs ≡ length fs → ((i : ℕ) (f : q.Func) (c : Function) → slice_get fs i ≡ Some f → slice_get cs i ≡ Some c → length c.objects.items ≡ length f.objects)
    → sum_by (λ (f : q.Func). length f.objects) (take k fs) ≡ sum_of (λ (c : Function). length c.objects.items) (take k cs)
sums-same fs cs zero many h = refl
sums-same [] [] (suc k) many h = refl
sums-same [] (c ∷ cs) (suc k) many h = absurd (cc)
sums-same (f ∷ fs) [] (suc k) many h = absurd (cc)
sums-same (f ∷ fs) (c ∷ cs) (suc k) many h =
    let rest : length cs ≡ length fs = cc in
    sum_by-cons (λ (x : q.Func). length x.objects) f (take k fs)
    ∙ ap (λ n. n + sum_by (λ (x : q.Func). length x.objects) (take k fs)) (sym (h 0 f c refl refl))
    ∙ ap (λ n. length c.objects.items + n) (sums-same fs cs k rest (λ i x y e l. h (suc i) x y e l))

-- lines

line-there : (g : q.Prog) (fs : List Function) → length fs ≡ length g.funcs → ((i : ℕ) (f : q.Func) (c : Function) → slice_get g.funcs i ≡ Some f → slice_get fs i ≡ Some c → c.parameters ≡ f.params) → (line : Line) → CallsRightly g line → LineThere fs line
line-there g fs many same (Call to n first count) h = by-found (slice_get g.funcs n) refl h
  where
    by-found : (r : Option q.Func) → slice_get g.funcs n ≡ r → HasParameters r count → Takes (slice_get fs n) count
    by-found None e h = absurd h
    by-found (Some f) e h =
        let lt : n < length fs = subst (λ m. n < m) (sym many) (below g.funcs n f e) in
        let c = there fs n lt in
        subst (λ r. Takes r count) (sym c.1) (same n f c.0 e c.1 ∙ h)
line-there g fs many same line h = tt

module _ (g : q.Prog) (u : Code) (typed : IsWellTyped g) (limits : IsWithinLimits g) (is : IsLowered g u) (sized : AreSized g u) where
  abbrev fs : List Function
  fs = u.functions.items

  -- the typed function of one that is there
  func-of : (i : ℕ) (c : Function) → slice_get fs i ≡ Some c → (f : q.Func) × (slice_get g.funcs i ≡ Some f)
  func-of i c e = there g.funcs i (subst (λ n. i < n) is.count (below fs i c e))

  many-parameters : (i : ℕ) (f : q.Func) (c : Function) → slice_get g.funcs i ≡ Some f → slice_get fs i ≡ Some c → c.parameters ≡ f.params
  many-parameters i f c e k = (is.functions i f c e k).parameters

  block-formed : (c : Function) (f : q.Func) → IsSized g f c → (j : ℕ) (b : Block) → slice_get c.blocks.items j ≡ Some b → IsBlock fs c b
  block-formed c f s j b e = record {
    lines_within = all-at (λ (x : Block). All (LineWithin c.register_count) x.lines.items) c.blocks.items j b s.lines_within e;
    exit_within = all-at (λ (x : Block). ExitWithin c.register_count x.exit) c.blocks.items j b s.exits_within e;
    lines_there = All-weaker (CallsRightly g) (LineThere fs) (line-there g fs is.count many-parameters) b.lines.items (all-at (λ (x : Block). All (CallsRightly g) x.lines.items) c.blocks.items j b (s.calls typed) e);
    exit_there = all-at (λ (x : Block). ExitThere (length c.blocks.items) x.exit) c.blocks.items j b s.exits_there e;
  }

  function-formed : (i : ℕ) (c : Function) → slice_get fs i ≡ Some c → IsFunction fs c
  function-formed i c e =
      let f = func-of i c e in
      let made = is.functions i f.0 c f.1 e in
      let s = sized.functions i f.0 c f.1 e in
      let t = each-at (IsTypedFunc g) g.funcs i f.0 typed.funcs f.1 in
      let few = each-at (λ (x : q.Func). x.params ≤ 8) g.funcs i f.0 limits.params f.1 in
      let same = made.parameters in
      let received = s.received in
      let first = made.first_parameter in
      record {
        parameters = omega arith;
        received = omega arith;
        entry = below c.blocks.items c.entry made.entry.block made.entry.there;
        objects = objects-formed f.0.objects c.objects.items made.objects t.1;
        blocks = all-by (IsBlock fs c) c.blocks.items (λ j b k. block-formed c f.0 s j b k);
      }

  numbered : (i : ℕ) (c : Function) → slice_get fs i ≡ Some c → c.first_object ≡ objects_below u i
  numbered i c e =
      let f = func-of i c e in
      let statics : length g.statics ≡ length u.statics.items = ap length (sym is.statics) ∙ length-map u.statics.items static_of in
      (is.functions i f.0 c f.1 e).first_object
      ∙ ap (λ n. n + sum_by (λ (x : q.Func). length x.objects) (take i g.funcs)) statics
      ∙ ap (λ n. length u.statics.items + n) (sums-same g.funcs fs i is.count (λ j x y k l. objects-many x.objects y.objects.items (is.functions j x y k l).objects))

  main-formed : (found : Option q.Func) → slice_get g.funcs g.main ≡ found → IsMain found → Takes (slice_get fs u.main) 0
  main-formed None e h = absurd h
  main-formed (Some f) e h =
      let lt : g.main < length fs = subst (λ n. g.main < n) (sym is.count) (below g.funcs g.main f e) in
      let c = there fs g.main lt in
      subst (λ r. Takes r 0) (sym (ap (slice_get fs) is.main ∙ c.1)) (many-parameters g.main f c.0 e c.1 ∙ h.0)

  static-at : (i : ℕ) (s : StaticOf) → slice_get u.statics.items i ≡ Some s → IsStatic u.statics.items s
  static-at i s e =
      let all : Each (IsTypedStatic (statics_of u)) (statics_of u) = subst (λ l. Each (IsTypedStatic l) l) (sym is.statics) typed.statics in
      static-formed u.statics.items s (each-at (IsTypedStatic (statics_of u)) (statics_of u) i (static_of s) all (mapped-at static_of u.statics.items i s e))

  pub formed : IsWellFormed u
  formed = record {
    statics = all-by (IsStatic u.statics.items) u.statics.items static-at;
    functions = all-by (IsFunction fs) fs function-formed;
    numbered = numbered;
    main = main-formed (slice_get g.funcs g.main) refl typed.main;
    accesses = sized.accesses;
  }

  pub all-ordered : AllOrdered u
  all-ordered = record { each = λ i c e. let f = func-of i c e in (sized.functions i f.0 c f.1 e).ordered }
