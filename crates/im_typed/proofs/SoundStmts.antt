-- Well-typed statements, where calls are right.
use Rattle.std.proofs.Common.{◌≡◌, ℕ, zero, suc, ◌<◌, List, [], ◌∷◌, Bool, true, false, refl, sym, ap, ◌∙◌, subst, arith}
use Rattle.std.specs.Prelude.{Option, Some, None, if◌then◌else◌, slice_get}
use Rattle.std.specs.Option.{option_map}
use Rattle.std.proofs.lemmas.Int.{ints}
use Rattle.im_num.specs.declared.kind.Kind.{Kind}
use Rattle.im_num.specs.declared.kind.Kind.TheVariants.{I8, U8, I16, U16, I32, U32, Ptr}
use Rattle.im_store.specs.im_ctype.declared.cell.Cell.{Cell}
use Rattle.im_store.specs.Objects.{Object, Value, Pointer, Unset, Store, same_object}
use Rattle.im_store.specs.Statics.{StaticObject}
use Rattle.im_store.specs.Pointers.{holds}
use Rattle.im_store.proofs.Same.{same_object-is}
use Rattle.im_typed.specs.Program.{Access, Scalar, Expr, Piece, Stmt, Do, Forget, Initialise, Block, If, While, DoWhile, For, Switch, Break, Continue, Return, Stmts, no_stmts, more_stmts, Func, Prog}
use Rattle.im_typed.specs.Runs.{World, State, Run, with_fuel, starve}
use Rattle.im_typed.specs.Values.{Values}
use Rattle.im_typed.specs.Meaning.{Around, local, Flow, Next, Broke, Continued, Returned, after, after_turn, out_of_switch, turns, entered, forgotten, cleared, zero_or, kind_of_cell, is_among, given_offsets, change_store, initialise, returned, value_of, does, does_from}
use Rattle.im_typed.specs.Typing.{Each, IsScalarShape, shape_of, IsTyped, IsPieceOf, IsReturned, IsTypedStmt, AreTyped, cells_at}
use Rattle.im_typed.specs.Sound.{IsCellValue, IsSound, IsSoundWorld, IsHere, Fits, FitsResult, FlowFits, IsRight}
use Rattle.im_typed.proofs.Sounds.{here-kept, right-bind, right-give, right-paid, right-either, right-used_values, right-value_in, right-scalar, right-integer}
use Rattle.im_typed.proofs.SoundCells.{right-write}
use Rattle.im_typed.proofs.SoundExprs.{promoted-integer, RightAround, at-shape, right-value}

-- an object without values, and one that is cleared

zero-value : (begun : ℕ) (store : Store) (activation : ℕ) (kind : Kind) (v : Value) → IsCellValue begun store activation kind (zero_or (Some kind) v)
zero-value begun store activation I8 v = (tt, record { low = omega (arith, ints); high = omega (arith, ints) })
zero-value begun store activation U8 v = (tt, record { low = omega (arith, ints); high = omega (arith, ints) })
zero-value begun store activation I16 v = (tt, record { low = omega (arith, ints); high = omega (arith, ints) })
zero-value begun store activation U16 v = (tt, record { low = omega (arith, ints); high = omega (arith, ints) })
zero-value begun store activation I32 v = (tt, record { low = omega (arith, ints); high = omega (arith, ints) })
zero-value begun store activation U32 v = (tt, record { low = omega (arith, ints); high = omega (arith, ints) })
zero-value begun store activation Ptr v = refl

forgotten-cell : (begun : ℕ) (store : Store) (o p : Object) (kind : Kind) (v : Value) → 0 < o.activation → IsCellValue begun store p.activation kind v → (c : Bool) → same_object p o ≡ c → IsCellValue begun store p.activation kind (if c then Unset else v)
forgotten-cell begun store o p kind v later h true e = subst (λ x. 0 < x) (ap (λ (x : Object). x.activation) (sym (same_object-is p o e))) later
forgotten-cell begun store o p kind v later h false e = h

cleared-cell : (begun : ℕ) (store : Store) (activation : ℕ) (kind : Kind) (found : Option Kind) (v : Value) → found ≡ Some kind → IsCellValue begun store activation kind v → (c d : Bool) → IsCellValue begun store activation kind (if c then (if d then v else zero_or found v) else v)
cleared-cell begun store activation kind found v e h false d = h
cleared-cell begun store activation kind found v e h true true = h
cleared-cell begun store activation kind found v e h true false =
    subst (λ x. IsCellValue begun store activation kind (zero_or x v)) (sym e) (zero-value begun store activation kind v)

module _ (statics : List StaticObject) where
  forgotten-sound : (begun : ℕ) (store : Store) (o : Object) → 0 < o.activation → IsSound statics begun store → IsSound statics begun (forgotten o store)
  forgotten-sound begun store o later sound = record {
    began = sound.began;
    small = sound.small;
    cells = λ p s i k ls cs. forgotten-cell begun store o p k (store.values p i) later (sound.cells p s i k ls cs) (same_object p o) refl;
    live = sound.live;
    only = sound.only;
  }

  cleared-sound : (begun : ℕ) (store : Store) (given : List ℕ) (o : Object) → IsSound statics begun store → IsSound statics begun (cleared given o store)
  cleared-sound begun store given o sound = record {
    began = sound.began;
    small = sound.small;
    cells = λ p s i k ls cs.
        cleared-cell begun store p.activation k (kind_of_cell (store.shape p) i) (store.values p i) (ap (λ r. kind_of_cell r i) ls ∙ cs)
        (sound.cells p s i k ls cs) (same_object p o) (is_among i given);
    live = sound.live;
    only = sound.only;
  }

  right-change_store : (f : Store → Store) (s : State) → ((o : Object) → (f s.world.store).shape o ≡ s.world.store.shape o) → IsSound statics s.world.activations (f s.world.store) → IsSoundWorld statics s.world → IsRight statics s.world (λ w x. Unit {0}) (change_store f s)
  right-change_store f s same sound sane = record {
    by = (record { store = sound; input = sane.input }, record { more = omega arith; depth = refl; same = same }, tt);
  }

-- how statements end

flow-of_after : (statics : List StaticObject) (result : Option Kind) (flow : Flow) (next : Run Flow) (s : State) → IsSoundWorld statics s.world → FlowFits result s.world flow → IsRight statics s.world (FlowFits result) (next s) → IsRight statics s.world (FlowFits result) (after flow next s)
flow-of_after statics result Next next s sane h k = k
flow-of_after statics result Broke next s sane h k = right-give statics s Broke sane tt
flow-of_after statics result Continued next s sane h k = right-give statics s Continued sane tt
flow-of_after statics result (Returned vs) next s sane h k = right-give statics s (Returned vs) sane h

flow-of_turn : (statics : List StaticObject) (result : Option Kind) (flow : Flow) (next : Run Flow) (s : State) → IsSoundWorld statics s.world → FlowFits result s.world flow → IsRight statics s.world (FlowFits result) (next s) → IsRight statics s.world (FlowFits result) (after_turn flow next s)
flow-of_turn statics result Next next s sane h k = k
flow-of_turn statics result Broke next s sane h k = right-give statics s Next sane tt
flow-of_turn statics result Continued next s sane h k = k
flow-of_turn statics result (Returned vs) next s sane h k = right-give statics s (Returned vs) sane h

flow-of_switch : (result : Option Kind) (w : World) (flow : Flow) → FlowFits result w flow → FlowFits result w (out_of_switch flow)
flow-of_switch result w Next h = tt
flow-of_switch result w Broke h = tt
flow-of_switch result w Continued h = tt
flow-of_switch result w (Returned vs) h = h

-- what is returned is there
result-kind : (shape : Option Access) (result : Option Kind) → IsScalarShape shape → shape ≡ option_map Scalar result → (kind : Kind) × (result ≡ Some kind) × (shape ≡ Some (Scalar kind))
result-kind shape None h e = absurd (subst IsScalarShape e h)
result-kind shape (Some kind) h e = (kind, refl, e)

module _ (g : Prog) (f : Func) (c : Around) (right : RightAround g c) where
  -- a run that is right wherever the activation's objects live
  pub record RightRun {A : Type 0} (P : World → A → Type 0) (m : Run A) : Type 0 where
    pub by : (s : State) → IsSoundWorld g.statics s.world → IsHere f c s.world → IsRight g.statics s.world P (m s)

  right-turns : (n : ℕ) (shape : Option Access) (test step : Run Values) (body : Run Flow) (P : World → Values → Type 0) → IsScalarShape shape
      → RightRun (Fits shape) test → RightRun P step → RightRun (FlowFits f.result) body → RightRun (FlowFits f.result) (turns n test body step)
  right-turns zero shape test step body P scalar t p b = record {
    by = λ s sane here.
        right-bind g.statics (right-scalar g.statics shape scalar (t.by s sane here)) (λ v u sane₁ kept h.
        right-either g.statics u (holds v) (with_fuel starve) _
        (right-paid g.statics (FlowFits f.result) u.world u.fuel starve (λ left. record { by = tt }))
        (right-give g.statics u Next sane₁ tt));
  }
  right-turns (suc n) shape test step body P scalar t p b = record {
    by = λ s sane here.
        right-bind g.statics (right-scalar g.statics shape scalar (t.by s sane here)) (λ v u sane₁ kept h.
        right-either g.statics u (holds v) _ _
        (right-paid g.statics (FlowFits f.result) u.world u.fuel _ (λ left.
        let start : State = record { world = u.world; fuel = left } in
        right-bind g.statics (b.by start sane₁ (here-kept kept here)) (λ flow x sane₂ kept₂ hf.
        flow-of_turn g.statics f.result flow _ x sane₂ hf
        (right-bind g.statics (p.by x sane₂ (here-kept kept₂ (here-kept kept here))) (λ _ y sane₃ kept₃ _.
        (right-turns n shape test step body P scalar t p b).by y sane₃ (here-kept kept₃ (here-kept kept₂ (here-kept kept here))))))))
        (right-give g.statics u Next sane₁ tt));
  }

  value-run : (e : Expr) → IsTyped g f e → RightRun (Fits (shape_of g e)) (value_of c e)
  value-run e t = record { by = λ s sane here. right-value g f c right e s t sane here }

  right-initialise : (o : Object) (cells : List Cell) (ps : List Piece) (s : State) → Each (IsPieceOf g f cells) ps → IsSoundWorld g.statics s.world → IsHere f c s.world → IsRight g.statics s.world (λ w x. Unit {0}) (initialise c o ps s)
  right-initialise o cells [] s t sane here = right-give g.statics s tt sane tt
  right-initialise o cells (p ∷ ps) s t sane here =
      right-bind g.statics (at-shape g t.0.2 (right-value g f c right p.value s t.0.1 sane here)) (λ vs u sane₁ kept hv.
      right-bind g.statics (right-used_values g.statics p.access u vs sane₁ hv) (λ _ v sane₂ kept₂ hw.
      right-bind g.statics (right-write g.statics p.access (Pointer o p.offset) vs v sane₂ hw) (λ _ w sane₃ kept₃ _.
      right-initialise o cells ps w t.1 sane₃ (here-kept kept₃ (here-kept kept₂ (here-kept kept here))))))

  right-returned : (e : Option Expr) (s : State) → IsReturned g f e → IsSoundWorld g.statics s.world → IsHere f c s.world → IsRight g.statics s.world (FlowFits f.result) (returned c e s)
  right-returned None s t sane here =
      right-give g.statics s (Returned []) sane (subst (λ r. FitsResult r s.world []) (sym t) refl)
  right-returned (Some e) s t sane here =
      let k = result-kind (shape_of g e) f.result t.1 t.2 in
      right-bind g.statics (right-value_in g.statics k.0 (at-shape g k.2 (right-value g f c right e s t.0 sane here))) (λ v u sane₁ kept h.
      right-give g.statics u (Returned (v ∷ [])) sane₁ (subst (λ r. FitsResult r u.world (v ∷ [])) (sym k.1) (h, refl)))

  module _ (n : ℕ) where
    mutual
      pub right-does : (st : Stmt) (breaks continues : Bool) (s : State) → IsTypedStmt g f breaks continues st → IsSoundWorld g.statics s.world → IsHere f c s.world → IsRight g.statics s.world (FlowFits f.result) (does c n st s)
      right-does (Do e) breaks continues s t sane here =
          right-bind g.statics (right-value g f c right e s t sane here) (λ _ u sane₁ kept h. right-give g.statics u Next sane₁ tt)
      right-does (Forget x) breaks continues s t sane here =
          right-bind g.statics
          (right-change_store g.statics (forgotten (local c x)) s (λ o. refl) (forgotten-sound g.statics s.world.activations s.world.store (local c x) here.later sane.store) sane)
          (λ _ u sane₁ kept h. right-give g.statics u Next sane₁ tt)
      right-does (Initialise x count ps) breaks continues s t sane here =
          right-bind g.statics (right-initialise (local c x) (cells_at (slice_get f.objects x)) ps s t.2 sane here) (λ _ u sane₁ kept h.
          right-bind g.statics
          (right-change_store g.statics (cleared (given_offsets ps) (local c x)) u (λ o. refl) (cleared-sound g.statics u.world.activations u.world.store (given_offsets ps) (local c x) sane₁.store) sane₁)
          (λ _ v sane₂ kept₂ h₂. right-give g.statics v Next sane₂ tt))
      right-does (Block ss) breaks continues s t sane here = right-does_from 0 ss breaks continues s t sane here
      right-does (If q a b) breaks continues s t sane here =
          right-bind g.statics (right-scalar g.statics (shape_of g q) t.0.1 (right-value g f c right q s t.0.0 sane here)) (λ v u sane₁ kept h.
          right-either g.statics u (holds v) _ _
          (right-does a breaks continues u t.1 sane₁ (here-kept kept here))
          (right-does b breaks continues u t.2 sane₁ (here-kept kept here)))
      right-does (While q a) breaks continues s t sane here =
          (right-turns n (shape_of g q) (value_of c q) _ (does c n a) (λ w x. Unit {0}) t.0.1 (value-run q t.0.0)
          (record { by = λ u sane₁ here₁. right-give g.statics u [] sane₁ tt })
          (record { by = λ u sane₁ here₁. right-does a true true u t.1 sane₁ here₁ })).by s sane here
      right-does (DoWhile a q) breaks continues s t sane here =
          right-paid g.statics (FlowFits f.result) s.world s.fuel _ (λ left.
          let start : State = record { world = s.world; fuel = left } in
          right-bind g.statics (right-does a true true start t.0 sane here) (λ flow x sane₁ kept h.
          flow-of_turn g.statics f.result flow _ x sane₁ h
          ((right-turns n (shape_of g q) (value_of c q) _ (does c n a) (λ w x. Unit {0}) t.1.1 (value-run q t.1.0)
          (record { by = λ u sane₂ here₁. right-give g.statics u [] sane₂ tt })
          (record { by = λ u sane₂ here₁. right-does a true true u t.0 sane₂ here₁ })).by x sane₁ (here-kept kept here))))
      right-does (For a q step b) breaks continues s t sane here =
          right-bind g.statics (right-does a breaks continues s t.0 sane here) (λ flow x sane₁ kept h.
          flow-of_after g.statics f.result flow _ x sane₁ h
          ((right-turns n (shape_of g q) (value_of c q) (value_of c step) (does c n b) (Fits (shape_of g step)) t.1.1 (value-run q t.1.0)
          (value-run step t.2)
          (record { by = λ u sane₂ here₁. right-does b true true u t.3 sane₂ here₁ })).by x sane₁ (here-kept kept here)))
      right-does (Switch e ks otherwise ss) breaks continues s t sane here =
          right-bind g.statics (right-integer g.statics (shape_of g e) (promoted-integer (shape_of g e) t.1) (right-value g f c right e s t.0 sane here)) (λ z u sane₁ kept hz.
          right-bind g.statics (right-does_from (entered z ks otherwise) ss true continues u t.4 sane₁ (here-kept kept here)) (λ flow v sane₂ kept₂ h.
          right-give g.statics v (out_of_switch flow) sane₂ (flow-of_switch f.result v.world flow h)))
      right-does Break breaks continues s t sane here = right-give g.statics s Broke sane tt
      right-does Continue breaks continues s t sane here = right-give g.statics s Continued sane tt
      right-does (Return e) breaks continues s t sane here = right-returned e s t sane here

      right-does_from : (k : ℕ) (ss : Stmts) (breaks continues : Bool) (s : State) → AreTyped g f breaks continues ss → IsSoundWorld g.statics s.world → IsHere f c s.world → IsRight g.statics s.world (FlowFits f.result) (does_from c n k ss s)
      right-does_from k no_stmts breaks continues s t sane here = right-give g.statics s Next sane tt
      right-does_from (suc k) (more_stmts st rest) breaks continues s t sane here = right-does_from k rest breaks continues s t.1 sane here
      right-does_from zero (more_stmts st rest) breaks continues s t sane here =
          right-bind g.statics (right-does st breaks continues s t.0 sane here) (λ flow x sane₁ kept h.
          flow-of_after g.statics f.result flow _ x sane₁ h (right-does_from 0 rest breaks continues x t.1 sane₁ (here-kept kept here)))
