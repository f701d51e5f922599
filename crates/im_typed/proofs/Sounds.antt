-- Answers of runs that keep a world sound, and the words of the meaning that say nothing of cells.
use Rattle.std.proofs.Common.{◌≡◌, ℕ, zero, suc, ◌≤◌, List, [], ◌∷◌, Bool, true, false, refl, sym, ◌∙◌, subst, arith}
use Rattle.std.specs.Prelude.{Option, Some, None, ℤ}
use Rattle.im_num.specs.declared.kind.Kind.{Kind}
use Rattle.im_num.specs.Kinds.{IsOfKind}
use Rattle.im_store.specs.declared.undefined.Undefined.{Undefined}
use Rattle.im_store.specs.Checks.{Checked, Fine, Bad, then_, unless}
use Rattle.im_store.specs.Objects.{Value, Number, Null, Pointer, Unset, Store, lives}
use Rattle.im_store.specs.Statics.{StaticObject}
use Rattle.im_store.specs.Access.{taken}
use Rattle.im_typed.specs.Program.{Access, Scalar, Struct, Func}
use Rattle.im_typed.specs.Runs.{World, State, Fails, Starves, Exhausts, Answer, Gives, Stops, Run, goes_on, pay, either, checked}
use Rattle.im_typed.specs.Values.{Values, used, number_of, cells_of}
use Rattle.im_typed.specs.Meaning.{Around}
use Rattle.im_typed.specs.Typing.{IsIntegerShape, IsScalarShape, kinds_of}
use Rattle.im_typed.specs.Sound.{IsInside, IsValue, IsSoundWorld, IsHere, AreValues, Fits, KeepsWorld, IsRightAt, IsRight}

-- what is kept

pub keeps-self : (w : World) → KeepsWorld w w
keeps-self w = record { more = omega arith; depth = refl; same = λ o. refl }

pub keeps-trans : (w t u : World) → KeepsWorld w t → KeepsWorld t u → KeepsWorld w u
keeps-trans w t u h g =
    let x = h.more in
    let y = g.more in
    record { more = omega arith; depth = g.depth ∙ h.depth; same = λ o. g.same o ∙ h.same o }

pub value-kept : {w t : World} → KeepsWorld w t → (kind : Kind) (v : Value) → IsValue w.activations w.store kind v → IsValue t.activations t.store kind v
value-kept k kind (Number z) h = h
value-kept k kind Null h = h
value-kept {w} {t} k kind (Pointer o offset) h =
    let x = k.more in
    let y = h.1 in
    let le : o.activation ≤ t.activations = omega arith in
    (h.0, le, h.2, subst (λ s. IsInside s o.activation offset) (sym (k.same o)) h.3)
value-kept k kind Unset h = h

pub values-kept : {w t : World} → KeepsWorld w t → (ks : List Kind) (vs : Values) → AreValues w.activations w.store ks vs → AreValues t.activations t.store ks vs
values-kept k [] [] h = tt
values-kept k [] (v ∷ vs) h = h
values-kept k (x ∷ xs) [] h = h
values-kept k (x ∷ xs) (v ∷ vs) h = (value-kept k x v h.0, values-kept k xs vs h.1)

pub fits-kept : {w t : World} → KeepsWorld w t → (shape : Option Access) (vs : Values) → Fits shape w vs → Fits shape t vs
fits-kept k None vs h = h
fits-kept k (Some (Scalar kind)) [] h = tt
fits-kept k (Some (Scalar kind)) (v ∷ vs) h = (value-kept k kind v h.0, h.1)
fits-kept k (Some (Struct count cells)) vs h = values-kept k (kinds_of cells) vs h

pub here-kept : {f : Func} {c : Around} {w t : World} → KeepsWorld w t → IsHere f c w → IsHere f c t
here-kept k h =
    let x = k.more in
    let y = h.began in
    record { later = h.later; began = omega arith; live = λ n o e. k.same _ ∙ h.live n o e }

-- what a check that gives something tells

pub then-fine : {A B : Type 0} (r : Checked A) (next : A → Checked B) (b : B) → then_ r next ≡ Fine b → (a : A) × (r ≡ Fine a) × (next a ≡ Fine b)
then-fine (Fine a) next b e = (a, refl, e)
then-fine (Bad why) next b e = absurd (cc)

pub unless-fine : {A : Type 0} (holds : Bool) (a b : A) (why : Undefined) → unless holds a why ≡ Fine b → (holds ≡ true) × (b ≡ a)
unless-fine true a b why e = (refl, cc)
unless-fine false a b why e = absurd (cc)

module _ (statics : List StaticObject) where
  abbrev pub Right : {A : Type 0} → World → (World → A → Type 0) → Answer A → Type 0
  Right w P r = IsRight statics w P r

  abbrev pub IsSane : World → Type 0
  IsSane w = IsSoundWorld statics w

  later-at : {A : Type 0} (w t : World) (P : World → A → Type 0) (r : Answer A) → KeepsWorld w t → IsRightAt statics t P r → IsRightAt statics w P r
  later-at w t P (Gives a u) k h = (h.0, keeps-trans w t u.world k h.1, h.2)
  later-at w t P (Stops (Fails why)) k h = tt
  later-at w t P (Stops (Starves output)) k h = tt
  later-at w t P (Stops (Exhausts output store)) k h = h

  bound-at : {A B : Type 0} (w : World) (P : World → A → Type 0) (Q : World → B → Type 0) (r : Answer A) (next : A → Run B) → IsRightAt statics w P r → ((a : A) (t : State) → IsSoundWorld statics t.world → KeepsWorld w t.world → P t.world a → IsRight statics t.world Q (next a t)) → IsRightAt statics w Q (goes_on r next)
  bound-at w P Q (Gives a t) next h k = later-at w t.world Q (next a t) h.1 (k a t h.0 h.1 h.2).by
  bound-at w P Q (Stops (Fails why)) next h k = tt
  bound-at w P Q (Stops (Starves output)) next h k = tt
  bound-at w P Q (Stops (Exhausts output store)) next h k = h

  -- one run, and then the next
  pub right-bind : {A B : Type 0} {w : World} {P : World → A → Type 0} {Q : World → B → Type 0} {r : Answer A} {next : A → Run B} → IsRight statics w P r → ((a : A) (t : State) → IsSoundWorld statics t.world → KeepsWorld w t.world → P t.world a → IsRight statics t.world Q (next a t)) → IsRight statics w Q (goes_on r next)
  right-bind {w = w} {P = P} {Q = Q} {r = r} {next = next} h k = record { by = bound-at w P Q r next h.by k }

  pub right-give : {A : Type 0} {P : World → A → Type 0} (s : State) (a : A) → IsSoundWorld statics s.world → P s.world a → IsRight statics s.world P (Gives a s)
  right-give s a h p = record { by = (h, keeps-self s.world, p) }

  pub right-fails : {A : Type 0} (w : World) (P : World → A → Type 0) (why : Undefined) → IsRight statics w P (Stops (Fails why))
  right-fails w P why = record { by = tt }

  weaker-at : {A : Type 0} (w : World) (P Q : World → A → Type 0) (r : Answer A) → IsRightAt statics w P r → ((t : World) (a : A) → P t a → Q t a) → IsRightAt statics w Q r
  weaker-at w P Q (Gives a u) h k = (h.0, h.1, k u.world a h.2)
  weaker-at w P Q (Stops (Fails why)) h k = tt
  weaker-at w P Q (Stops (Starves output)) h k = tt
  weaker-at w P Q (Stops (Exhausts output store)) h k = h

  pub right-weaker : {A : Type 0} {w : World} {P Q : World → A → Type 0} {r : Answer A} → IsRight statics w P r → ((t : World) (a : A) → P t a → Q t a) → IsRight statics w Q r
  right-weaker {w = w} {P = P} {Q = Q} {r = r} h k = record { by = weaker-at w P Q r h.by k }

  pub right-checked : {A : Type 0} (P : World → A → Type 0) (s : State) (r : Checked A) → IsSoundWorld statics s.world → ((a : A) → r ≡ Fine a → P s.world a) → IsRight statics s.world P (checked r s)
  right-checked P s (Fine a) h k = right-give s a h (k a refl)
  right-checked P s (Bad why) h k = right-fails s.world P why

  pub right-paid : {A : Type 0} (P : World → A → Type 0) (w : World) (fuel : ℕ) (m : Run A) → ((left : ℕ) → IsRight statics w P (m (record { world = w; fuel = left }))) → IsRight statics w P (pay fuel w m)
  right-paid P w zero m h = record { by = tt }
  right-paid P w (suc fuel) m h = h fuel

  pub right-either : {A : Type 0} {P : World → A → Type 0} (s : State) (c : Bool) (a b : Run A) → IsRight statics s.world P (a s) → IsRight statics s.world P (b s) → IsRight statics s.world P (either c a b s)
  right-either s true a b h k = h
  right-either s false a b h k = k

  -- values

  taken-same : (store : Store) (v a : Value) → taken store v ≡ Fine a → v ≡ a
  taken-same store (Number z) a e = cc
  taken-same store Null a e = cc
  taken-same store (Pointer o offset) a e = sym (unless-fine (lives store o) (Pointer o offset) a _ e).1
  taken-same store Unset a e = absurd (cc)

  -- a value that is used is one of its kind
  pub right-used : (kind : Kind) (s : State) (vs : Values) → IsSoundWorld statics s.world → Fits (Some (Scalar kind)) s.world vs → IsRight statics s.world (λ w v. IsValue w.activations w.store kind v) (used vs s)
  right-used kind s [] h k = right-fails s.world _ _
  right-used kind s (v ∷ vs) h k =
      right-checked (λ w v. IsValue w.activations w.store kind v) s (taken s.world.store v) h
      (λ a e. subst (λ x. IsValue s.world.activations s.world.store kind x) (taken-same s.world.store v a e) k.0)

  -- values that are used are there
  pub right-used_values : (x : Access) (s : State) (vs : Values) → IsSoundWorld statics s.world → Fits (Some x) s.world vs → IsRight statics s.world (λ w v. AreValues w.activations w.store (kinds_of (cells_of x)) vs) (used vs s)
  right-used_values x s [] h k = right-fails s.world _ _
  right-used_values (Scalar kind) s (v ∷ []) h k =
      right-checked (λ w a. AreValues w.activations w.store (kind ∷ []) (v ∷ [])) s (taken s.world.store v) h (λ a e. (k.0, tt))
  right-used_values (Scalar kind) s (v ∷ w ∷ vs) h k = absurd (let e = k.1 in cc)
  right-used_values (Struct count cells) s (v ∷ vs) h k =
      right-checked (λ w a. AreValues w.activations w.store (kinds_of cells) (v ∷ vs)) s (taken s.world.store v) h (λ a e. k)

  pub right-value_in : (kind : Kind) {w : World} {r : Answer Values} → IsRight statics w (Fits (Some (Scalar kind))) r → IsRight statics w (λ w v. IsValue w.activations w.store kind v) (goes_on r used)
  right-value_in kind h = right-bind h (λ vs t sane kept k. right-used kind t vs sane k)

  -- a scalar of whatever kind
  pub right-scalar : (shape : Option Access) → IsScalarShape shape → {w : World} {r : Answer Values} → IsRight statics w (Fits shape) r → IsRight statics w (λ w v. (kind : Kind) × IsValue w.activations w.store kind v) (goes_on r used)
  right-scalar None c h = absurd c
  right-scalar (Some (Scalar kind)) c h = right-weaker (right-value_in kind h) (λ t v k. (kind, k))
  right-scalar (Some (Struct count cells)) c h = absurd c

  number-of_kind : (w : World) (kind : Kind) (v : Value) (z : ℤ) → number_of v ≡ Fine z → IsValue w.activations w.store kind v → IsOfKind kind z
  number-of_kind w kind (Number y) z e h = let same : y ≡ z = cc in subst (IsOfKind kind) same h.1
  number-of_kind w kind Null z e h = absurd (cc)
  number-of_kind w kind (Pointer o offset) z e h = absurd (cc)
  number-of_kind w kind Unset z e h = absurd h

  pub right-number_in : (kind : Kind) {w : World} {r : Answer Values} → IsRight statics w (Fits (Some (Scalar kind))) r → IsRight statics w (λ w z. IsOfKind kind z) (goes_on (goes_on r used) (λ v. checked (number_of v)))
  right-number_in kind h =
      right-bind (right-value_in kind h) (λ v t sane kept k.
      right-checked (λ w z. IsOfKind kind z) t (number_of v) sane (λ z e. number-of_kind t.world kind v z e k))

  pub right-integer : (shape : Option Access) → IsIntegerShape shape → {w : World} {r : Answer Values} → IsRight statics w (Fits shape) r → IsRight statics w (λ w z. (kind : Kind) × (shape ≡ Some (Scalar kind)) × IsOfKind kind z) (goes_on (goes_on r used) (λ v. checked (number_of v)))
  right-integer None c h = absurd c
  right-integer (Some (Scalar kind)) c h = right-weaker (right-number_in kind h) (λ t z k. (kind, refl, k))
  right-integer (Some (Struct count cells)) c h = absurd c
