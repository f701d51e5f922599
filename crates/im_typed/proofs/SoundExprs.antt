-- Well-typed places and expressions, where calls and operators are right.
use Rattle.std.proofs.Common.{◌≡◌, ℕ, zero, suc, ◌<◌, List, [], ◌∷◌, Bool, true, false, length, take, drop, inl, inr, refl, sym, subst, arith}
use Rattle.std.specs.Prelude.{Option, Some, None, ℤ, pos, not, if◌then◌else◌, slice_get}
use Rattle.std.proofs.lemmas.Int.{ints}
use Rattle.im_num.specs.declared.kind.Kind.{Kind}
use Rattle.im_num.specs.declared.kind.Kind.TheVariants.{I8, U8, I16, U16, I32, U32, Ptr}
use Rattle.im_num.specs.Kinds.{IsOfKind, wrap}
use Rattle.im_num.proofs.Wrapping.{wrap-of_kind}
use Rattle.im_store.specs.im_ctype.declared.cell.Cell.{Cell}
use Rattle.im_store.specs.declared.operators.BinaryOp.{BinaryOp}
use Rattle.im_store.specs.declared.operators.BinaryOp.TheVariants.{ShiftLeft, ShiftRight}
use Rattle.im_store.specs.Numbers.{apply}
use Rattle.im_store.specs.Objects.{static, Value, Null, Store, shape_of as object_shape}
use Rattle.im_store.specs.Statics.{StaticObject}
use Rattle.im_store.specs.Pointers.{moved_by, bytes_moved, member_at, distance, compare_values, holds}
use Rattle.im_store.proofs.OfKind.{IsOperand, apply-of_kind, apply_one-of_kind}
use Rattle.im_serve.specs.declared.service.Service.{Service}
use Rattle.im_serve.specs.Services.{row}
use Rattle.im_serve.specs.Laws.{AreBytes, IsWord}
use Rattle.im_serve.proofs.Rows.{law_of}
use Rattle.im_typed.specs.declared.expression.Change.{Change}
use Rattle.im_typed.specs.declared.expression.Change.TheVariants.{Number as NumberBy, Move as PointerBy}
use Rattle.im_typed.specs.Program.{Access, Scalar, Struct, Place, Static, Local, Target, Member, Expr, Constant, NullPointer, Read, Address, Convert, Unary, Binary, Move, MoveBy, Distance, Compare, Not, And, Or, Choose, Comma, Discard, Assign, Update, Increment, Part, Call, Serve, no_argument, an_argument, Exprs, no_exprs, more_exprs, LocalObject, Func, Prog}
use Rattle.im_typed.specs.Runs.{World, State, Answer, Run, goes_on, checked}
use Rattle.im_typed.specs.Values.{Values, Operates, computes, used, number_of, number_in, cells_of, source_for, update, changed, changed_kind}
use Rattle.im_typed.specs.Meaning.{Around, Calls, local, place_of, value_of, is_read, stored, source_of, values_of, served}
use Rattle.im_typed.specs.Typing.{Each, IsInteger, IsGiven, IsRightShape, IsChange, IsStep, IsPart, TakesArgument, kinds_of, parameters, result_shape, shape_of, IsTypedPlace, IsTyped, AreArguments, IsPromotedShape, IsIntegerShape}
use Rattle.im_typed.specs.Sound.{IsValue, IsSoundWorld, IsHere, AreValues, Fits, ArgumentsFit, KeepsWorld, IsRight}
use Rattle.im_typed.proofs.Sounds.{keeps-trans, value-kept, here-kept, right-bind, right-give, right-weaker, right-checked, right-paid, right-either, right-used_values, right-value_in, right-scalar, right-number_in, right-integer}
use Rattle.im_typed.proofs.SoundCells.{inside-object, moved-value, member-value, distance-value, fits-of_values, right-read, right-write}

-- numbers

pub truth-of_kind : (b : Bool) → IsOfKind I32 (if b then pos 1 else pos 0)
truth-of_kind true = record { low = omega (arith, ints); high = omega (arith, ints) }
truth-of_kind false = record { low = omega (arith, ints); high = omega (arith, ints) }

-- a word is a kind of integers
word-integer : (kind : Kind) → IsWord kind → IsInteger kind
word-integer kind (inl e) = subst IsInteger (sym e) tt
word-integer kind (inr e) = subst IsInteger (sym e) tt

-- an argument of a service is an integer
given-integer : (p : Option Kind) (shape : Option Access) → ((kind : Kind) → p ≡ Some kind → IsWord kind) → IsGiven p shape → IsIntegerShape shape
given-integer None shape w h = absurd h
given-integer (Some kind) shape w h = subst IsIntegerShape (sym h) (word-integer kind (w kind refl))

pub given-kind : (p : Option Kind) (shape : Option Access) → ((kind : Kind) → p ≡ Some kind → IsWord kind) → IsGiven p shape → (kind : Kind) × (shape ≡ Some (Scalar kind)) × IsInteger kind
given-kind None shape w h = absurd h
given-kind (Some kind) shape w h = (kind, h, word-integer kind (w kind refl))

-- bytes of input
bytes-of : (bytes : List ℕ) → Each (λ b. b < 256) bytes → AreBytes bytes
bytes-of [] h = tt
bytes-of (b ∷ rest) h = (h.0, bytes-of rest h.1)

each-drop : (n : ℕ) (bytes : List ℕ) → Each (λ b. b < 256) bytes → Each (λ b. b < 256) (drop n bytes)
each-drop zero bytes h = h
each-drop (suc n) [] h = tt
each-drop (suc n) (b ∷ rest) h = each-drop n rest h.1

-- an element is there
pub there : {A : Type 0} (xs : List A) (n : ℕ) → n < length xs → (x : A) × (slice_get xs n ≡ Some x)
there [] n lt = absurd (omega arith)
there (x ∷ xs) zero lt = (x, refl)
there (x ∷ xs) (suc n) lt = let l : n < length xs = omega arith in there xs n l

-- a part of values has the kinds of that part
values-taken : (begun : ℕ) (store : Store) (n : ℕ) (cells : List Cell) (vs : Values) → AreValues begun store (kinds_of cells) vs → AreValues begun store (kinds_of (take n cells)) (take n vs)
values-taken begun store zero [] [] h = tt
values-taken begun store (suc n) [] [] h = tt
values-taken begun store n [] (v ∷ vs) h = absurd h
values-taken begun store n (c ∷ cs) [] h = absurd h
values-taken begun store zero (c ∷ cs) (v ∷ vs) h = tt
values-taken begun store (suc n) (c ∷ cs) (v ∷ vs) h = (h.0, values-taken begun store n cs vs h.1)

values-part : (begun : ℕ) (store : Store) (n from : ℕ) (cells : List Cell) (vs : Values) → AreValues begun store (kinds_of cells) vs → AreValues begun store (kinds_of (take n (drop from cells))) (take n (drop from vs))
values-part begun store n zero cells vs h = values-taken begun store n cells vs h
values-part begun store n (suc from) [] [] h = values-taken begun store n [] [] tt
values-part begun store n (suc from) [] (v ∷ vs) h = absurd h
values-part begun store n (suc from) (c ∷ cs) [] h = absurd h
values-part begun store n (suc from) (c ∷ cs) (v ∷ vs) h = values-part begun store n from cs vs h.1

part-fits : (statics : List StaticObject) (w : World) (from : ℕ) (x : Access) (shape : Option Access) (vs : Values) → IsPart from x shape → Fits shape w vs → Fits (Some x) w (take (length (cells_of x)) (drop from vs))
part-fits statics w from x None vs p h = absurd p
part-fits statics w from x (Some (Scalar kind)) vs p h = absurd p
part-fits statics w from x (Some (Struct count cells)) vs p h =
    fits-of_values statics w x (take (length (cells_of x)) (drop from vs))
    (subst (λ ks. AreValues w.activations w.store ks (take (length (cells_of x)) (drop from vs))) p.0
    (values-part w.activations w.store (length (cells_of x)) from cells vs h))

-- what an argument is
pub takes-kind : (shape : Option Access) (cells : List Cell) → TakesArgument shape cells → (kind : Kind) × (shape ≡ Some (Scalar kind)) × (cells ≡ cells_of (Scalar kind))
takes-kind None cells h = absurd h
takes-kind (Some (Scalar kind)) cells h = (kind, refl, h)
takes-kind (Some (Struct count parts)) cells h = absurd h

-- what is promoted is an integer
pub promoted-integer : (shape : Option Access) → IsPromotedShape shape → IsIntegerShape shape
promoted-integer None h = h
promoted-integer (Some (Scalar kind)) h = h.0
promoted-integer (Some (Struct count cells)) h = h

-- a change's operand is one for its step
step-of_change : (c : Change) (shape : Option Access) → IsChange c shape → IsStep c
step-of_change (NumberBy kind op at) shape h = (h.0, h.1)
step-of_change (PointerBy size back) shape h = h.0

-- by how much a change goes: an operand of its operator, or a number of elements
abbrev IsAmount : Change → ℤ → Type 0
IsAmount (NumberBy kind op at) z = IsOperand op at z
IsAmount (PointerBy size back) z = Unit {0}

one-of_kind : (kind : Kind) → IsInteger kind → IsOfKind kind (pos 1)
one-of_kind I8 h = record { low = omega (arith, ints); high = omega (arith, ints) }
one-of_kind U8 h = record { low = omega (arith, ints); high = omega (arith, ints) }
one-of_kind I16 h = record { low = omega (arith, ints); high = omega (arith, ints) }
one-of_kind U16 h = record { low = omega (arith, ints); high = omega (arith, ints) }
one-of_kind I32 h = record { low = omega (arith, ints); high = omega (arith, ints) }
one-of_kind U32 h = record { low = omega (arith, ints); high = omega (arith, ints) }
one-of_kind Ptr h = absurd h

one-operand : (op : BinaryOp) (kind : Kind) → IsInteger kind → IsOperand op kind (pos 1)
one-operand ShiftLeft kind h = tt
one-operand ShiftRight kind h = tt
one-operand _ kind h = one-of_kind kind h

one-amount : (c : Change) → IsStep c → IsAmount c (pos 1)
one-amount (NumberBy kind op at) h = one-operand op at h.1.0
one-amount (PointerBy size back) h = tt

-- what calls do is right
pub record RightCalls (g : Prog) (calls : Calls) : Type 0 where
  pub by : (k : ℕ) (args : List Value) (s : State) → IsSoundWorld g.statics s.world → ArgumentsFit (parameters (slice_get g.funcs k)) s.world args → IsRight g.statics s.world (Fits (result_shape (slice_get g.funcs k))) (calls k args s)

-- what operators do is right, on operands of their kinds
pub record RightOperates (g : Prog) (operates : Operates) : Type 0 where
  pub by : (op : BinaryOp) (kind : Kind) (x y : ℤ) (s : State) → IsSoundWorld g.statics s.world → IsOfKind kind x → IsOperand op kind y → IsRight g.statics s.world (λ w z. IsOfKind kind z) (operates op kind x y s)

pub right-computes : (g : Prog) → RightOperates g computes
right-computes g = record {
  by = λ op kind x y s sane hx hy. right-checked g.statics (λ w z. IsOfKind kind z) s (apply op kind x y) sane (λ z e. apply-of_kind op kind x y z hx hy e);
}

-- what surrounds a body is right
pub record RightAround (g : Prog) (c : Around) : Type 0 where
  pub calls : RightCalls g c.calls
  pub operates : RightOperates g c.operates

module _ (g : Prog) where
  abbrev statics : List StaticObject
  statics = g.statics

  -- values of one shape are values of the same
  pub at-shape : {shape other : Option Access} {w : World} {r : Answer Values} → shape ≡ other → IsRight g.statics w (Fits shape) r → IsRight g.statics w (Fits other) r
  at-shape {w = w} {r = r} e h = subst (λ x. IsRight g.statics w (Fits x) r) e h

  operand : (op : BinaryOp) (kind : Kind) (shape : Option Access) → IsRightShape op kind shape → {w : World} {r : Answer Values} → IsRight g.statics w (Fits shape) r → IsRight g.statics w (λ w y. IsOperand op kind y) (goes_on (goes_on r used) (λ v. checked (number_of v)))
  operand ShiftLeft kind shape c h = right-weaker g.statics (right-integer g.statics shape (promoted-integer shape c) h) (λ t z k. tt)
  operand ShiftRight kind shape c h = right-weaker g.statics (right-integer g.statics shape (promoted-integer shape c) h) (λ t z k. tt)
  operand _ kind shape c h = right-number_in g.statics kind (at-shape c h)

  changes-by : (c : Change) (shape : Option Access) → IsChange c shape → {w : World} {r : Answer Values} → IsRight g.statics w (Fits shape) r → IsRight g.statics w (λ w y. IsAmount c y) (goes_on (goes_on r used) (λ v. checked (number_of v)))
  changes-by (NumberBy kind op at) shape c h = operand op at shape c.2 h
  changes-by (PointerBy size back) shape c h = right-weaker g.statics (right-integer g.statics shape c.1 h) (λ t z k. tt)

  either-value : (w : World) (kind : Kind) (old : Bool) (before after : Value) → IsValue w.activations w.store kind before → IsValue w.activations w.store kind after → IsValue w.activations w.store kind (if old then before else after)
  either-value w kind true before after h k = h
  either-value w kind false before after h k = k

  right-stored : (x : Access) (at : Value) (read : Bool) (value : Run Values) (source : Run Value) (s : State) → IsRight g.statics s.world (Fits (Some x)) (value s) → IsRight g.statics s.world (λ w v. Unit {0}) (source s)
      → IsRight g.statics s.world (Fits (Some x)) (stored x at read value source s)
  right-stored (Scalar kind) at read value source s v h = v
  right-stored (Struct count cells) at false value source s v h = v
  right-stored (Struct count cells) at true value source s v h =
      right-bind g.statics h (λ from t sane kept _.
      right-bind g.statics (right-checked g.statics (λ w v. Unit {0}) t (source_for cells at from) sane (λ v e. tt)) (λ there u sane₁ kept₁ _.
      right-read g.statics (Struct count cells) there u sane₁))

  right-changed : (operates : Operates) → RightOperates g operates → (c : Change) (before : Value) (by : ℤ) (s : State) → IsStep c → IsSoundWorld g.statics s.world → IsAmount c by
      → IsRight g.statics s.world (λ w v. IsValue w.activations w.store (changed_kind c) v) (changed operates c before by s)
  right-changed operates h (NumberBy kind op at) before by s step sane amount =
      right-bind g.statics (right-checked g.statics (λ w a. Unit {0}) s (number_of before) sane (λ a e. tt)) (λ a t sane₁ kept₁ _.
      right-bind g.statics (h.by op at (wrap at a) by t sane₁ (wrap-of_kind at a) amount) (λ z u sane₂ kept₂ _.
      right-give g.statics u _ sane₂ (step.0, wrap-of_kind kind z)))
  right-changed operates h (PointerBy size back) before by s step sane amount =
      right-checked g.statics (λ w v. IsValue w.activations w.store Ptr v) s (moved_by s.world.store (bytes_moved size back by) before) sane
      (λ v e. moved-value g.statics s.world.activations s.world.store sane.store (bytes_moved size back by) before v e)

  right-update : (operates : Operates) → RightOperates g operates → (c : Change) (old : Bool) (amount : Run ℤ) (at : Value) (s : State) → IsStep c → IsSoundWorld g.statics s.world
      → ((t : State) → IsSoundWorld g.statics t.world → KeepsWorld s.world t.world → IsRight g.statics t.world (λ w y. IsAmount c y) (amount t))
      → IsRight g.statics s.world (Fits (Some (Scalar (changed_kind c)))) (update operates c old amount at s)
  right-update operates right c old amount at s step sane hyp =
      let kind = changed_kind c in
      right-bind g.statics (right-value_in g.statics kind (right-read g.statics (Scalar kind) at s sane)) (λ before t sane₁ kept₁ hb.
      right-bind g.statics (hyp t sane₁ kept₁) (λ by u sane₂ kept₂ amounts.
      right-bind g.statics (right-changed operates right c before by u step sane₂ amounts) (λ after x sane₃ kept₃ ha.
      right-bind g.statics (right-write g.statics (Scalar kind) at (after ∷ []) x sane₃ (ha, tt)) (λ _ y sane₄ kept₄ _.
      right-give g.statics y _ sane₄ (
        either-value y.world kind old before after
            (value-kept (keeps-trans t.world x.world y.world (keeps-trans t.world u.world x.world kept₂ kept₃) kept₄) kind before hb)
            (value-kept kept₄ kind after ha),
        refl,
      )))))

  -- a service

  right-served : (capacity : ℕ) (service : Service) (z : ℤ) (s : State) → IsSoundWorld g.statics s.world → IsRight g.statics s.world (Fits (Some (Scalar (row service).result))) (served capacity service z s)
  right-served capacity service z s sane =
      let law = law_of service in
      let taken = law.takes capacity z s.world.input s.world.output in
      record {
        by = (
          record { store = sane.store; input = subst (Each (λ b. b < 256)) (sym taken.1) (each-drop taken.0 s.world.input sane.input) },
          record { more = omega arith; depth = refl; same = λ o. refl },
          ((word-integer (row service).result law.result, law.value capacity z s.world.input s.world.output (bytes-of s.world.input sane.input)), refl),
        );
      }

  module _ (f : Func) (c : Around) (right : RightAround g c) where
    mutual
      pub right-place : (p : Place) (s : State) → IsTypedPlace g f p → IsSoundWorld g.statics s.world → IsHere f c s.world → IsRight g.statics s.world (λ w v. IsValue w.activations w.store Ptr v) (place_of c p s)
      right-place (Static n) s t sane here =
          let o = there g.statics n t in
          right-give g.statics s _ sane
          (inside-object g.statics s.world.activations s.world.store sane.store (static n) 0 (object_shape o.0.size o.0.cells) (sane.store.live n o.0 o.1) (omega arith))
      right-place (Local n) s t sane here =
          let o = there f.objects n t in
          right-give g.statics s _ sane
          (inside-object g.statics s.world.activations s.world.store sane.store (local c n) 0 (object_shape o.0.size o.0.cells) (here.live n o.0 o.1) (omega arith))
      right-place (Target e) s t sane here = right-value_in g.statics Ptr (at-shape t.1 (right-value e s t.0 sane here))
      right-place (Member a offset) s t sane here =
          right-bind g.statics (right-place a s t.0 sane here) (λ at u sane₁ kept h.
          right-checked g.statics (λ w v. IsValue w.activations w.store Ptr v) u (member_at u.world.store offset at) sane₁
          (λ v e. member-value g.statics u.world.activations u.world.store sane₁.store offset at v e))

      pub right-value : (e : Expr) (s : State) → IsTyped g f e → IsSoundWorld g.statics s.world → IsHere f c s.world → IsRight g.statics s.world (Fits (shape_of g e)) (value_of c e s)
      right-value (Constant kind z) s t sane here = right-give g.statics s _ sane (t, refl)
      right-value (NullPointer kind) s t sane here = right-give g.statics s _ sane (t, refl)
      right-value (Read x a) s t sane here =
          right-bind g.statics (right-place a s t.1 sane here) (λ at u sane₁ kept h. right-read g.statics x at u sane₁)
      right-value (Address a) s t sane here =
          right-bind g.statics (right-place a s t sane here) (λ at u sane₁ kept h. right-give g.statics u _ sane₁ (h, refl))
      right-value (Convert kind e) s t sane here =
          right-bind g.statics (right-integer g.statics (shape_of g e) t.2 (right-value e s t.1 sane here)) (λ z u sane₁ kept h.
          right-give g.statics u _ sane₁ ((t.0, wrap-of_kind kind z), refl))
      right-value (Unary op kind e) s t sane here =
          right-bind g.statics (right-number_in g.statics kind (at-shape t.2 (right-value e s t.1 sane here))) (λ z u sane₁ kept h.
          right-give g.statics u _ sane₁ ((t.0.0, apply_one-of_kind op kind z), refl))
      right-value (Binary op kind a b) s t sane here =
          right-bind g.statics (right-number_in g.statics kind (at-shape t.3 (right-value a s t.1 sane here))) (λ x u sane₁ kept hx.
          right-bind g.statics (operand op kind (shape_of g b) t.4 (right-value b u t.2 sane₁ (here-kept kept here))) (λ y v sane₂ kept₂ hy.
          right-bind g.statics (right.operates.by op kind x y v sane₂ hx hy) (λ z w sane₃ kept₃ h.
          right-give g.statics w _ sane₃ ((t.0.0, h), refl))))
      right-value (Move size back a b) s t sane here =
          right-bind g.statics (right-value_in g.statics Ptr (at-shape t.3 (right-value a s t.1 sane here))) (λ p u sane₁ kept hp.
          right-bind g.statics (right-integer g.statics (shape_of g b) t.4 (right-value b u t.2 sane₁ (here-kept kept here))) (λ n v sane₂ kept₂ hn.
          right-bind g.statics
          (right-checked g.statics (λ w x. IsValue w.activations w.store Ptr x) v (moved_by v.world.store (bytes_moved size back n) p) sane₂
          (λ x e. moved-value g.statics v.world.activations v.world.store sane₂.store (bytes_moved size back n) p x e)) (λ at w sane₃ kept₃ h.
          right-give g.statics w _ sane₃ (h, refl))))
      right-value (MoveBy size a b) s t sane here =
          right-bind g.statics (right-integer g.statics (shape_of g a) t.3 (right-value a s t.1 sane here)) (λ n u sane₁ kept hn.
          right-bind g.statics (right-value_in g.statics Ptr (at-shape t.4 (right-value b u t.2 sane₁ (here-kept kept here)))) (λ p v sane₂ kept₂ hp.
          right-bind g.statics
          (right-checked g.statics (λ w x. IsValue w.activations w.store Ptr x) v (moved_by v.world.store (bytes_moved size false n) p) sane₂
          (λ x e. moved-value g.statics v.world.activations v.world.store sane₂.store (bytes_moved size false n) p x e)) (λ at w sane₃ kept₃ h.
          right-give g.statics w _ sane₃ (h, refl))))
      right-value (Distance size a b) s t sane here =
          right-bind g.statics (right-value_in g.statics Ptr (at-shape t.3 (right-value a s t.1 sane here))) (λ p u sane₁ kept hp.
          right-bind g.statics (right-value_in g.statics Ptr (at-shape t.4 (right-value b u t.2 sane₁ (here-kept kept here)))) (λ q v sane₂ kept₂ hq.
          right-bind g.statics
          (right-checked g.statics (λ w z. IsOfKind I32 z) v (distance size p q) sane₂
          (λ z e. distance-value v.world.activations v.world.store size Ptr Ptr p q z t.0.0 (value-kept kept₂ Ptr p hp) hq e)) (λ z w sane₃ kept₃ h.
          right-give g.statics w _ sane₃ ((tt, h), refl))))
      right-value (Compare op kind a b) s t sane here =
          right-bind g.statics (right-value_in g.statics kind (at-shape t.2 (right-value a s t.0 sane here))) (λ x u sane₁ kept hx.
          right-bind g.statics (right-value_in g.statics kind (at-shape t.3 (right-value b u t.1 sane₁ (here-kept kept here)))) (λ y v sane₂ kept₂ hy.
          right-bind g.statics (right-checked g.statics (λ w answer. Unit {0}) v (compare_values op x y) sane₂ (λ answer e. tt)) (λ answer w sane₃ kept₃ h.
          right-give g.statics w _ sane₃ ((tt, truth-of_kind answer), refl))))
      right-value (Not a) s t sane here =
          right-bind g.statics (right-scalar g.statics (shape_of g a) t.1 (right-value a s t.0 sane here)) (λ x u sane₁ kept h.
          right-give g.statics u _ sane₁ ((tt, truth-of_kind (not (holds x))), refl))
      right-value (And a b) s t sane here =
          right-bind g.statics (right-scalar g.statics (shape_of g a) t.2 (right-value a s t.0 sane here)) (λ x u sane₁ kept h.
          right-either g.statics u (holds x) _ _
          (right-bind g.statics (right-scalar g.statics (shape_of g b) t.3 (right-value b u t.1 sane₁ (here-kept kept here))) (λ y v sane₂ kept₂ h₂.
          right-give g.statics v _ sane₂ ((tt, truth-of_kind (holds y)), refl)))
          (right-give g.statics u _ sane₁ ((tt, truth-of_kind false), refl)))
      right-value (Or a b) s t sane here =
          right-bind g.statics (right-scalar g.statics (shape_of g a) t.2 (right-value a s t.0 sane here)) (λ x u sane₁ kept h.
          right-either g.statics u (holds x) _ _
          (right-give g.statics u _ sane₁ ((tt, truth-of_kind true), refl))
          (right-bind g.statics (right-scalar g.statics (shape_of g b) t.3 (right-value b u t.1 sane₁ (here-kept kept here))) (λ y v sane₂ kept₂ h₂.
          right-give g.statics v _ sane₂ ((tt, truth-of_kind (holds y)), refl))))
      right-value (Choose q a b) s t sane here =
          right-bind g.statics (right-scalar g.statics (shape_of g q) t.3 (right-value q s t.0 sane here)) (λ x u sane₁ kept h.
          right-either g.statics u (holds x) _ _
          (right-value a u t.1 sane₁ (here-kept kept here))
          (at-shape (sym t.4) (right-value b u t.2 sane₁ (here-kept kept here))))
      right-value (Comma a b) s t sane here =
          right-bind g.statics (right-value a s t.0 sane here) (λ _ u sane₁ kept h. right-value b u t.1 sane₁ (here-kept kept here))
      right-value (Discard a) s t sane here =
          right-bind g.statics (right-value a s t sane here) (λ _ u sane₁ kept h. right-give g.statics u _ sane₁ refl)
      right-value (Assign x a e) s t sane here =
          right-bind g.statics (right-place a s t.1 sane here) (λ at u sane₁ kept h.
          right-bind g.statics (right-stored x at (is_read e) (value_of c e) (source_of c e) u
          (at-shape t.3 (right-value e u t.2 sane₁ (here-kept kept here))) (right-source e u t.2 sane₁ (here-kept kept here))) (λ vs v sane₂ kept₂ hv.
          right-bind g.statics (right-used_values g.statics x v vs sane₂ hv) (λ _ w sane₃ kept₃ hw. right-write g.statics x at vs w sane₃ hw)))
      right-value (Update a change e) s t sane here =
          right-bind g.statics (right-place a s t.0 sane here) (λ at u sane₁ kept h.
          right-update c.operates right.operates change false (number_in (value_of c e)) at u (step-of_change change (shape_of g e) t.2) sane₁
          (λ v sane₂ kept₂. changes-by change (shape_of g e) t.2 (right-value e v t.1 sane₂ (here-kept kept₂ (here-kept kept here)))))
      right-value (Increment a change old) s t sane here =
          right-bind g.statics (right-place a s t.0 sane here) (λ at u sane₁ kept h.
          right-update c.operates right.operates change old _ at u t.1 sane₁ (λ v sane₂ kept₂. right-give g.statics v (pos 1) sane₂ (one-amount change t.1)))
      right-value (Part from x e) s t sane here =
          right-bind g.statics (right-value e s t.1 sane here) (λ vs u sane₁ kept h.
          right-give g.statics u _ sane₁ (part-fits g.statics u.world from x (shape_of g e) vs t.2 h))
      right-value (Call n es) s t sane here =
          right-bind g.statics (right-values es (parameters (slice_get g.funcs n)) s t.1 sane here) (λ vs u sane₁ kept h. right.calls.by n vs u sane₁ h)
      right-value (Serve service no_argument) s t sane here =
          right-paid g.statics (Fits (Some (Scalar (row service).result))) s.world s.fuel _ (λ left.
          right-served c.capacity service (pos 0) (record { world = s.world; fuel = left }) sane)
      right-value (Serve service (an_argument e)) s t sane here =
          right-bind g.statics
          (right-integer g.statics (shape_of g e) (given-integer (row service).parameter (shape_of g e) (law_of service).parameter t.1) (right-value e s t.0 sane here))
          (λ z u sane₁ kept h.
          right-paid g.statics (Fits (Some (Scalar (row service).result))) u.world u.fuel _ (λ left.
          right-served c.capacity service z (record { world = u.world; fuel = left }) sane₁))

      pub right-source : (e : Expr) (s : State) → IsTyped g f e → IsSoundWorld g.statics s.world → IsHere f c s.world → IsRight g.statics s.world (λ w v. Unit {0}) (source_of c e s)
      right-source (Read x a) s t sane here = right-weaker g.statics (right-place a s t.1 sane here) (λ w v h. tt)
      right-source _ s t sane here = right-give g.statics s Null sane tt

      pub right-values : (es : Exprs) (os : List LocalObject) (s : State) → AreArguments g f os es → IsSoundWorld g.statics s.world → IsHere f c s.world → IsRight g.statics s.world (ArgumentsFit os) (values_of c es s)
      right-values no_exprs [] s t sane here = right-give g.statics s [] sane tt
      right-values no_exprs (o ∷ os) s t sane here = absurd t
      right-values (more_exprs e rest) [] s t sane here = absurd t
      right-values (more_exprs e rest) (o ∷ os) s t sane here =
          let k = takes-kind (shape_of g e) o.cells t.1 in
          right-bind g.statics (right-value_in g.statics k.0 (at-shape k.1 (right-value e s t.0 sane here))) (λ v u sane₁ kept hv.
          right-bind g.statics (right-values rest os u t.2 sane₁ (here-kept kept here)) (λ vs x sane₂ kept₂ hvs.
          right-give g.statics x (v ∷ vs) sane₂ ((k.0, k.2, value-kept kept₂ k.0 v hv), hvs)))
