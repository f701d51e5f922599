-- Runs of whole well-typed programs.
use Rattle.std.proofs.Common.{◌≡◌, ℕ, zero, suc, ◌+◌, ◌<◌, ◌≤◌, ◌==◌, List, [], ◌∷◌, Bool, true, false, take, refl, sym, ap, ◌∙◌, subst, arith}
use Rattle.std.specs.Prelude.{Option, Some, None, nat_le, if◌then◌else◌, slice_get}
use Rattle.std.specs.Option.{option_map}
use Rattle.std.proofs.lemmas.Bool.{eqb-true, eq-eqb}
use Rattle.im_num.specs.declared.kind.Kind.{Kind}
use Rattle.im_num.specs.declared.kind.Kind.TheVariants.{I8, U8, I16, U16, I32, U32, Ptr}
use Rattle.im_num.specs.Kinds.{IsOfKind, kind_size}
use Rattle.im_store.specs.im_ctype.declared.cell.Cell.{Cell}
use Rattle.im_store.specs.declared.undefined.Undefined.TheVariants.{MissingResult}
use Rattle.im_store.specs.Objects.{Name, Named, Slot, Link, Object, static, Value, Number, Null, Pointer, Unset, Shape, shape_of as object_shape, kind_at, Store}
use Rattle.im_store.specs.Statics.{StaticObject, value_at, static_shapes, first_value, with_statics}
use Rattle.im_store.specs.Outcomes.{cell_shown, cells_shown, place_shown, variables_from}
use Rattle.im_typed.specs.Program.{Scalar, Func}
use Rattle.im_typed.specs.Runs.{World, State, Fails, Starves, Exhausts, Answer, Gives, Stops, goes_on, starve}
use Rattle.im_typed.specs.Values.{Values}
use Rattle.im_typed.specs.Meaning.{Around, Calls, Flow, does}
use Rattle.im_typed.specs.Programs.{Setting, first_object, entering, leaving, call_result, around, frame_of, body_of, enters, called, calls_of, start, run_of_main, status_of, outcome_of, meaning}
use Rattle.im_typed.specs.Typing.{Each, AreLaidOut, parameters, result_shape, IsStaticPlace, HasPlace, IsFirstValue, AreFirstValues, IsTypedStatic, IsTypedFunc, IsMain, IsWellTyped}
use Rattle.im_typed.specs.Sound.{IsInside, IsCellValue, IsSound, IsSoundWorld, IsHere, Fits, FlowFits, ArgumentsFit, IsRightAt, IsRight, IsShown, AreShown, ShowEach, EndsRight}
use Rattle.im_typed.proofs.Sounds.{right-fails, right-paid, right-either}
use Rattle.im_typed.proofs.SoundExprs.{RightCalls, RightAround, right-computes}
use Rattle.im_typed.proofs.SoundStmts.{right-does}
use Rattle.im_typed.proofs.SoundCalls.{differs, if-true, if-false, if-some, by-test, each-at, same-some, new-shape, begun-sound, ended-sound, given-fits, old-shape, zero-of_kind}

-- main's result is an int
main-result : (funcs : List Func) (main k : ℕ) (f : Func) → IsMain (slice_get funcs main) → slice_get funcs k ≡ Some f → (k == main) ≡ true → f.result ≡ Some I32
main-result funcs main k f m e t =
    let same : k ≡ main = eqb-true k main t in
    let here : IsMain (Some f) = subst IsMain (ap (slice_get funcs) (sym same) ∙ e) m in
    here.1

module _ (g : Setting) (typed : IsWellTyped g.prog) where
  abbrev statics : List StaticObject
  statics = g.prog.statics

  left-at : (k : ℕ) (f : Func) (s : State) (w : World) → (shape_same : (o : Object) → (o.activation == suc s.world.activations) ≡ false → w.store.shape o ≡ s.world.store.shape o)
      → w.activations ≡ suc s.world.activations → IsSoundWorld g.prog.statics s.world → ((k == g.prog.main) ≡ true → f.result ≡ Some I32) → (r : Answer Flow) → IsRightAt g.prog.statics w (FlowFits f.result) r
      → IsRightAt g.prog.statics s.world (Fits (option_map Scalar f.result)) (goes_on r (λ flow t. Gives (call_result (k == g.prog.main) flow) (record { world = leaving (suc s.world.activations) s.world.depth t.world; fuel = t.fuel })))
  left-at k f s w same now sane m (Gives flow t) h =
      let a = suc s.world.activations in
      let later : 0 < a = omega arith in
      let kept = h.1.more in (
        record { store = ended-sound g.prog.statics t.world a h.0 later; input = h.0.input },
        record {
          more = omega arith;
          depth = refl;
          same = λ o. by-test (o.activation == a)
              (λ e. if-true (o.activation == a) None (t.world.store.shape o) e ∙ sym (dead o (eqb-true o.activation a e) (s.world.store.shape o) refl))
              (λ e. if-false (o.activation == a) None (t.world.store.shape o) e ∙ h.1.same o ∙ same o e);
        },
        given-fits g.prog.statics t.world a h.0 later f.result s.world.depth (k == g.prog.main) flow m h.2,
      )
    where
      dead : (o : Object) → o.activation ≡ suc s.world.activations → (r : Option Shape) → s.world.store.shape o ≡ r → s.world.store.shape o ≡ None
      dead o e None h = h
      dead o e (Some x) h = absurd (let le = sane.store.began o x h in omega arith)
  left-at k f s w same now sane m (Stops (Fails why)) h = tt
  left-at k f s w same now sane m (Stops (Starves output)) h = tt
  left-at k f s w same now sane m (Stops (Exhausts output store)) h = h

  right-body : (calls : Calls) (n k : ℕ) (f : Func) (args : List Value) (s : State) → RightCalls g.prog calls → slice_get g.prog.funcs k ≡ Some f → IsSoundWorld g.prog.statics s.world → ArgumentsFit (take f.params f.objects) s.world args
      → IsRight g.prog.statics s.world (Fits (option_map Scalar f.result)) (body_of g calls n k f args s.world s)
  right-body calls n k f args s right e sane fit =
      let t = each-at (IsTypedFunc g.prog) g.prog.funcs k f typed.funcs e in
      let a = suc s.world.activations in
      let d = s.world.depth + frame_of g k in
      let first = first_object g.prog k in
      let w : World = entering a d first f args s.world in
      let c : Around = around g calls a d first in
      let begun : State = record { world = w; fuel = s.fuel } in
      let sound : IsSoundWorld g.prog.statics w = record { store = begun-sound g.prog.statics f args s.world d first sane t.1 fit; input = sane.input } in
      let here : IsHere f c w = record { later = omega arith; began = omega arith; live = λ i o h. new-shape g.prog.statics f args s.world d first sane i o h } in
      record {
        by = left-at k f s w (λ o h. old-shape g.prog.statics f args s.world d first sane o h) refl sane
            (λ h. main-result g.prog.funcs g.prog.main k f typed.main e h) (does c n f.body begun)
            (right-does g.prog f c (record { calls = right; operates = right-computes g.prog }) n f.body false false begun t.3 sound here).by;
      }

  right-enters : (calls : Calls) (n k : ℕ) (found : Option Func) (args : List Value) (s : State) → RightCalls g.prog calls → slice_get g.prog.funcs k ≡ found → IsSoundWorld g.prog.statics s.world → ArgumentsFit (parameters found) s.world args
      → IsRight g.prog.statics s.world (Fits (result_shape found)) (enters g calls n k found args s)
  right-enters calls n k None args s right e sane fit = right-fails g.prog.statics s.world _ MissingResult
  right-enters calls n k (Some f) args s right e sane fit =
      right-either g.prog.statics s (nat_le (s.world.depth + frame_of g k) g.stack) _ _
      (right-body calls n k f args s right e sane fit)
      (record { by = (s.world.activations, sane.store) })

  pub right-called : (calls : Calls) (n k : ℕ) (args : List Value) (s : State) → RightCalls g.prog calls → IsSoundWorld g.prog.statics s.world → ArgumentsFit (parameters (slice_get g.prog.funcs k)) s.world args
      → IsRight g.prog.statics s.world (Fits (result_shape (slice_get g.prog.funcs k))) (called g calls n k args s)
  right-called calls n k args s right sane fit = right-enters calls n k (slice_get g.prog.funcs k) args s right refl sane fit

  pub right-calls : (n : ℕ) → RightCalls g.prog (calls_of g n)
  right-calls zero = record {
    by = λ k args s sane fit. right-paid g.prog.statics _ s.world s.fuel starve (λ left. record { by = tt });
  }
  right-calls (suc n) = record {
    by = λ k args s sane fit.
        right-paid g.prog.statics _ s.world s.fuel (called g (calls_of g n) n k args) (λ left.
        right-called (calls_of g n) n k args (record { world = s.world; fuel = left }) (right-calls n) sane fit);
  }

  -- what surrounds each body is right
  pub right-around : (n activation depth first : ℕ) → RightAround g.prog (around g (calls_of g n) activation depth first)
  right-around n activation depth first = record { calls = right-calls n; operates = right-computes g.prog }

-- the store that a run starts with

module _ (statics : List StaticObject) (typed : Each (IsTypedStatic statics) statics) where
  abbrev begun : Store
  begun = with_statics statics

  static-shape : (found : Option StaticObject) (s : Shape) → option_map {T = StaticObject} (λ x. object_shape x.size x.cells) found ≡ Some s → (x : StaticObject) × (found ≡ Some x) × (object_shape x.size x.cells ≡ s)
  static-shape None s e = absurd (cc)
  static-shape (Some x) s e = (x, refl, cc)

  -- who lives is a static
  record Live (o : Object) (s : Shape) : Type 0 where
    pub number : ℕ
    pub object : StaticObject
    pub is : o ≡ static number
    pub found : slice_get statics number ≡ Some object
    pub shape : object_shape object.size object.cells ≡ s

  abbrev made : ℕ → ℕ → Name → Object
  made activation depth name = record { activation = activation; depth = depth; name = name }

  live-name : (name : Name) (o : Object) (s : Shape) → o.activation ≡ 0 → o.depth ≡ 0 → o.name ≡ name → static_shapes statics name ≡ Some s → Live o s
  live-name (Named n) o s a d e h =
      let x = static-shape (slice_get statics n) s h in
      record {
        number = n;
        object = x.0;
        is = ap (λ m. made m o.depth o.name) a ∙ ap (λ m. made 0 m o.name) d ∙ ap (λ m. made 0 0 m) e;
        found = x.1;
        shape = x.2;
      }
  live-name (Slot n) o s a d e h = absurd (cc)
  live-name Link o s a d e h = absurd (cc)

  live-is : (o : Object) (s : Shape) → begun.shape o ≡ Some s → Live o s
  live-is o s e =
      let a = if-some (o.activation == 0) (if o.depth == 0 then static_shapes statics o.name else None) s e in
      let d = if-some (o.depth == 0) (static_shapes statics o.name) s a.1 in
      live-name o.name o s (eqb-true o.activation 0 a.0) (eqb-true o.depth 0 d.0) refl d.1

  static-lives : (n : ℕ) (s : StaticObject) → slice_get statics n ≡ Some s → begun.shape (static n) ≡ Some (object_shape s.size s.cells)
  static-lives n s e = ap (option_map {T = StaticObject} (λ x. object_shape x.size x.cells)) e

  place-lives : (o : Object) (offset : ℕ) (found : Option StaticObject) (n : ℕ) → o ≡ static n → slice_get statics n ≡ found → HasPlace found offset → (offset ≤ 1048576) × IsInside (begun.shape o) o.activation offset
  place-lives o offset None n is e h = absurd h
  place-lives o offset (Some s) n is e h =
      let few = (each-at (IsTypedStatic statics) statics n s typed e).0.0 in
      let le : offset ≤ 1048576 = omega arith in
      (le, subst (λ r. IsInside r o.activation offset) (sym (ap begun.shape is ∙ static-lives n s e)) h)

  named-place : (name : Name) (o : Object) (offset : ℕ) → o.activation ≡ 0 → o.depth ≡ 0 → o.name ≡ name → IsStaticPlace statics name offset → (offset ≤ 1048576) × IsInside (begun.shape o) o.activation offset
  named-place (Named n) o offset a d e h =
      place-lives o offset (slice_get statics n) n (ap (λ m. made m o.depth o.name) a ∙ ap (λ m. made 0 m o.name) d ∙ ap (λ m. made 0 0 m) e) refl h
  named-place (Slot n) o offset a d e h = absurd h
  named-place Link o offset a d e h = absurd h

  first-cell : (activation : ℕ) (kind : Kind) (v : Value) → IsFirstValue statics kind v → IsCellValue 0 begun activation kind v
  first-cell activation kind (Number z) h = h
  first-cell activation kind Null h = h
  first-cell activation kind (Pointer o offset) h =
      let p = named-place o.name o offset h.1 h.2 refl h.3 in
      let z = h.1 in
      let le : o.activation ≤ 0 = omega arith in
      (h.0, le, p.0, p.1)
  first-cell activation kind Unset h = absurd h

  value-found : (cells : List Cell) (vs : List Value) (offset : ℕ) (kind : Kind) → AreFirstValues statics cells vs → kind_at cells offset ≡ Some kind → IsFirstValue statics kind (value_at cells vs offset)
  value-found [] vs offset kind h e = absurd (cc)
  value-found (c ∷ cs) [] offset kind h e = absurd h
  value-found (c ∷ cs) (v ∷ vs) offset kind h e =
      chosen (c.offset == offset) e (λ rest. value-found cs vs offset kind h.1 rest)
    where
      chosen : (b : Bool) → (if b then Some c.kind else kind_at cs offset) ≡ Some kind → (kind_at cs offset ≡ Some kind → IsFirstValue statics kind (value_at cs vs offset)) → IsFirstValue statics kind (if b then v else value_at cs vs offset)
      chosen true e rest = let same : c.kind ≡ kind = cc in subst (λ k. IsFirstValue statics k v) same h.0
      chosen false e rest = rest e

  start-cell : (o : Object) (s : Shape) (offset : ℕ) (kind : Kind) → Live o s → s.cells offset ≡ Some kind → IsCellValue 0 begun o.activation kind (begun.values o offset)
  start-cell o s offset kind l cs =
      let t = each-at (IsTypedStatic statics) statics l.number l.object typed l.found in
      let at : kind_at l.object.cells offset ≡ Some kind = ap (λ (x : Shape). x.cells offset) l.shape ∙ cs in
      let v : begun.values o offset ≡ value_at l.object.cells l.object.first offset = ap (λ x. begun.values x offset) l.is ∙ ap (λ r. first_value r offset) l.found in
      subst (IsCellValue 0 begun o.activation kind) (sym v)
      (first-cell o.activation kind _ (value-found l.object.cells l.object.first offset kind t.1 at))

  pub start-sound : IsSound statics 0 begun
  start-sound = record {
    began = λ o s e. let l = live-is o s e in let z : o.activation ≡ 0 = ap (λ (x : Object). x.activation) l.is in omega arith;
    small = λ o s e.
        let l = live-is o s e in
        let few = (each-at (IsTypedStatic statics) statics l.number l.object typed l.found).0.0 in
        subst (λ (x : Shape). x.size ≤ 1048576) l.shape few;
    cells = λ o s offset kind ls cs. start-cell o s offset kind (live-is o s ls) cs;
    live = static-lives;
    only = λ o s e z. let l = live-is o s e in (l.number, l.object, l.is, l.found);
  }

-- what an end shows

some-size : (kind : Kind) → 0 < kind_size kind
some-size I8 = omega arith
some-size U8 = omega arith
some-size I16 = omega arith
some-size U16 = omega arith
some-size I32 = omega arith
some-size U32 = omega arith
some-size Ptr = omega arith

each-with : {A : Type 0} (P Q R : A → Type 0) (xs : List A) → Each P xs → Each Q xs → ((x : A) → P x → Q x → R x) → Each R xs
each-with P Q R [] h g k = tt
each-with P Q R (x ∷ xs) h g k = (k x h.0 g.0, each-with P Q R xs h.1 g.1 k)

cells-from : (from size : ℕ) (cells : List Cell) → AreLaidOut from size cells → Each {A = Cell} (λ c. from ≤ c.offset) cells
cells-from from size [] h = tt
cells-from from size (c ∷ cs) h =
    let rest = cells-from (c.offset + kind_size c.kind) size cs h.2 in
    let le = h.0 in
    (le, each-with (λ (d : Cell). c.offset + kind_size c.kind ≤ d.offset) (λ (d : Cell). c.offset + kind_size c.kind ≤ d.offset) (λ (d : Cell). from ≤ d.offset) cs rest rest (λ d g _. omega arith))

-- each cell is found at its offset
cells-found : (from size : ℕ) (cells : List Cell) → AreLaidOut from size cells → Each {A = Cell} (λ c. kind_at cells c.offset ≡ Some c.kind) cells
cells-found from size [] h = tt
cells-found from size (c ∷ cs) h =
    let found = cells-found (c.offset + kind_size c.kind) size cs h.2 in
    let behind = cells-from (c.offset + kind_size c.kind) size cs h.2 in
    let some = some-size c.kind in (
      if-true (c.offset == c.offset) (Some c.kind) (kind_at cs c.offset) (eq-eqb c.offset c.offset refl),
      each-with (λ (d : Cell). kind_at cs d.offset ≡ Some d.kind) (λ (d : Cell). c.offset + kind_size c.kind ≤ d.offset) (λ (d : Cell). kind_at (c ∷ cs) d.offset ≡ Some d.kind) cs found behind
          (λ d e le. let lt : c.offset < d.offset = omega arith in if-false (c.offset == d.offset) (Some c.kind) (kind_at cs d.offset) (differs c.offset d.offset lt) ∙ e),
    )

module _ (statics : List StaticObject) (begun : ℕ) (store : Store) (sound : IsSound statics begun store) where
  inside-some : (r : Option Shape) (activation offset : ℕ) → activation ≡ 0 → IsInside r activation offset → (s : Shape) × (r ≡ Some s) × (offset ≤ s.size)
  inside-some (Some s) activation offset e h = (s, refl, h)
  inside-some None zero offset e h = absurd h
  inside-some None (suc activation) offset e h = absurd (omega arith)

  place-right : (kind : Kind) (o : Object) (offset : ℕ) → kind ≡ Ptr → IsInside (store.shape o) o.activation offset → IsShown statics kind (place_shown o offset)
  place-right kind o offset k h =
      by-test (o.activation == 0)
      (λ e.
      let z = eqb-true o.activation 0 e in
      let s = inside-some (store.shape o) o.activation offset z h in
      let l = sound.only o s.0 s.1 z in
      let same : s.0 ≡ object_shape l.1.size l.1.cells = same-some s.0 _ (sym s.1 ∙ ap store.shape l.2 ∙ sound.live l.0 l.1 l.3) in
      let le : offset ≤ l.1.size = subst (λ (x : Shape). offset ≤ x.size) same s.2 in
      let place : HasPlace (slice_get statics l.0) offset = subst (λ r. HasPlace r offset) (sym l.3) le in
      subst (λ x. IsShown statics kind (place_shown x offset)) (sym l.2) (k, place))
      (λ e. subst (IsShown statics kind) (sym (if-false (o.activation == 0) _ _ e)) k)

  cell-right : (kind : Kind) (v : Value) → IsCellValue begun store 0 kind v → IsShown statics kind (cell_shown v)
  cell-right kind (Number z) h = h
  cell-right kind Null h = h
  cell-right kind (Pointer o offset) h = place-right kind o offset h.0 h.3
  cell-right kind Unset h = absurd (omega arith)

  shown-cells : (n : ℕ) (s : StaticObject) (cells : List Cell) → slice_get statics n ≡ Some s → Each {A = Cell} (λ c. kind_at s.cells c.offset ≡ Some c.kind) cells → AreShown statics cells (cells_shown (store.values (static n)) cells)
  shown-cells n s [] e h = tt
  shown-cells n s (c ∷ cs) e h = (
    cell-right c.kind (store.values (static n) c.offset) (sound.cells (static n) (object_shape s.size s.cells) c.offset c.kind (sound.live n s e) h.0),
    shown-cells n s cs e h.1,
  )

  show-each : (n : ℕ) (ss : List StaticObject) → ((i : ℕ) (s : StaticObject) → slice_get ss i ≡ Some s → slice_get statics (n + i) ≡ Some s) → Each (IsTypedStatic statics) ss → ShowEach statics ss (variables_from n ss store)
  show-each n [] at t = tt
  show-each n (s ∷ ss) at t =
      let zero_in : n ≡ n + 0 = omega arith in (
        refl,
        shown-cells n s s.cells (ap (slice_get statics) zero_in ∙ at 0 s refl) (cells-found 0 s.size s.cells t.0.0.1),
        show-each (suc n) ss (λ i x e. let next : suc n + i ≡ n + suc i = omega arith in ap (slice_get statics) next ∙ at (suc i) x e) t.1,
      )

status-right : (w : World) (vs : Values) → Fits (Some (Scalar I32)) w vs → IsOfKind I32 (status_of vs)
status-right w (Number z ∷ vs) h = h.0.1
status-right w _ h = zero-of_kind

main-shape : (r : Option Func) → IsMain r → result_shape r ≡ Some (Scalar I32)
main-shape None h = absurd h
main-shape (Some f) h = ap (option_map Scalar) h.1

main-arguments : (r : Option Func) (w : World) → IsMain r → ArgumentsFit (parameters r) w []
main-arguments None w h = absurd h
main-arguments (Some f) w h = subst (λ n. ArgumentsFit (take n f.objects) w []) (sym h.0) tt

module _ (g : Setting) (typed : IsWellTyped g.prog) where
  ends-right : (w : World) (r : Answer Values) → IsRightAt g.prog.statics w (Fits (Some (Scalar I32))) r → EndsRight g.prog.statics (outcome_of g r)
  ends-right w (Gives vs t) h =
      (status-right t.world vs h.2, show-each g.prog.statics t.world.activations t.world.store h.0.store 0 g.prog.statics (λ i s e. let at : i ≡ 0 + i = omega arith in ap (slice_get g.prog.statics) (sym at) ∙ e) typed.statics)
  ends-right w (Stops (Fails why)) h = tt
  ends-right w (Stops (Starves output)) h = tt
  ends-right w (Stops (Exhausts output store)) h =
      (zero-of_kind, show-each g.prog.statics h.0 store h.1 0 g.prog.statics (λ i s e. let at : i ≡ 0 + i = omega arith in ap (slice_get g.prog.statics) (sym at) ∙ e) typed.statics)

  pub meaning-right : (input : List ℕ) (fuel : ℕ) → Each (λ byte. byte < 256) input → EndsRight g.prog.statics (meaning g input fuel)
  unfolding meaning
  meaning-right input fuel bytes =
      let s = start g input fuel in
      let main = slice_get g.prog.funcs g.prog.main in
      let sane : IsSoundWorld g.prog.statics s.world = record { store = start-sound g.prog.statics typed.statics; input = bytes } in
      let right = right-called g typed (calls_of g fuel) fuel g.prog.main [] s (right-calls g typed fuel) sane (main-arguments main s.world typed.main) in
      ends-right s.world (run_of_main g fuel input fuel)
      (subst (λ shape. IsRightAt g.prog.statics s.world (Fits shape) (run_of_main g fuel input fuel)) (main-shape main typed.main) right.by)
