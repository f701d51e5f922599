-- What holds all along the run of a body, and what is known of the calls in it.
use Rattle.std.proofs.Common.{◌≡◌, ℕ, suc, ◌+◌, ◌-◌, ◌<◌, ◌≤◌, List, [], ◌∷◌, length, ◌∙◌, arith}
use Rattle.std.specs.Prelude.{Option, Some, slice_get}
use Rattle.im_ctype.specs.declared.cell.Cell.{Cell}
use Rattle.im_store.specs.Objects.{Value, Store}
use Rattle.im_store.specs.Statics.{StaticObject}
use Rattle.im_num.specs.declared.kind.Kind.TheVariants.{Ptr}
use Rattle.im_typed.specs.Program.{Access, Struct, Place, Expr, Read, Exprs, LocalObject, Func, Prog}
use Rattle.im_typed.specs.Runs.{World, Answer}
use Rattle.im_typed.specs.Runs as typed
use Rattle.im_typed.specs.Values.{source_for}
use Rattle.im_typed.specs.Meaning.{Around, Calls, place_of, value_of, is_read, stored, source_of, values_of}
use Rattle.im_typed.specs.Typing.{AreLaidOut, parameters, shape_of, IsTypedPlace, IsTyped, AreArguments}
use Rattle.im_typed.specs.Sound.{IsValue, IsSoundWorld, IsHere, KeepsWorld, Fits, ArgumentsFit}
use Rattle.im_typed.proofs.Sounds.{here-kept, right-bind, right-checked}
use Rattle.im_typed.proofs.SoundCells.{right-read}
use Rattle.im_typed.proofs.SoundExprs.{RightAround, at-shape, right-place, right-value, right-values}
use Rattle.im_typed.proofs.Related.{rel-bind, rel-checked}
use Rattle.im_typed.proofs.Parts.{RelatedOperates, rel-read_at}
use Rattle.im_typed.proofs.Induction.{RelatedCalls, rel-place, rel-value, rel-values}
use Rattle.im_block.specs.declared.code.Line.TheVariants.{Call}
use Rattle.im_block.specs.declared.unit.Registers.TheVariants.{Virtual}
use Rattle.im_block.specs.declared.unit.Function.{Function}
use Rattle.im_block.specs.declared.unit.Unit.{Unit as Code}
use Rattle.im_block.specs.Meaning.{Setting}
use Rattle.im_lower_relation.specs.Codes.{Point, before, all_objects}
use Rattle.im_lower_relation.specs.Agrees.{Agrees, Home, Mark, at, Does, Came}
use Rattle.im_lower_relation.proofs.Steps.{Right, Known}
use Rattle.im_lower_relation.proofs.Uses.{Took}
use Rattle.im_lower_relation.proofs.Cells.{AtOnce}

-- arguments stand side by side, from a register on
abbrev pub HasArguments : (ℕ → Value) → ℕ → List Value → Type 0
HasArguments registers first [] = Unit {0}
HasArguments registers first (v ∷ vs) = (registers first ≡ v) × HasArguments registers (suc first) vs

-- a state of block code stands for one of the typed run, in which the body of an activation is at work
pub record Ready (p : Prog) (f : Func) (c : Around) (bound : ℕ) (s : typed.State) (store : Store) : Type 0 where
  pub sane : IsSoundWorld p.statics s.world
  pub here : IsHere f c s.world
  pub depth : s.world.depth ≡ c.depth
  pub fuel : s.fuel ≤ bound
  pub agrees : Agrees s.world.store store
  pub statics : (n : ℕ) (o : StaticObject) → slice_get p.statics n ≡ Some o → AreLaidOut 0 o.size o.cells
  pub laid : (n : ℕ) (o : LocalObject) → slice_get f.objects n ≡ Some o → AreLaidOut 0 o.size o.cells
  pub numbered : (n : ℕ) (o : LocalObject) → slice_get f.objects n ≡ Some o → slice_get (all_objects p.funcs) (c.first + n - length p.statics) ≡ Some o

-- what a call line does
pub record CallsDo (u : Code) (g : Setting) (p : Prog) (calls : Calls) (bound : ℕ) : Type 0 where
  pub by : (i count : ℕ) (vs : List Value) (s : typed.State) (home : Home) (fn : Function) (n : Mark) (next : Point) (registers : ℕ → Value) (store : Store) (to first : ℕ)
      → to < first → slice_get u.functions.items home.function ≡ Some fn → fn.registers ≡ Virtual → length vs ≡ count → HasArguments registers first vs
      → ArgumentsFit (parameters (slice_get p.funcs i)) s.world vs → IsSoundWorld p.statics s.world → Agrees s.world.store store → s.world.depth ≡ home.active.depth → s.fuel ≤ bound
      → Does u g p home next (at home n (before (Call to i first count) next) registers store s) (Came registers to first) (calls i vs s)

-- calls and operators take no fuel back, and output only grows
pub record TameAround (c : Around) : Type 0 where
  pub calls : RelatedCalls 0 0 c.calls c.calls
  pub operates : RelatedOperates 0 0 c.operates c.operates

-- what is known of what surrounds a body; a binary operator gives its result at once
pub record Works (u : Code) (g : Setting) (p : Prog) (c : Around) (bound : ℕ) : Type 0 where
  pub right : RightAround p c
  pub tame : TameAround c
  pub capacity : c.capacity ≡ g.capacity
  pub calls : CallsDo u g p c.calls bound
  pub operates : AtOnce c.operates

module _ (p : Prog) (f : Func) (c : Around) (bound : ℕ) where
  pub ready-later : {s t : typed.State} {store after : Store} → Ready p f c bound s store → IsSoundWorld p.statics t.world → KeepsWorld s.world t.world → t.fuel ≤ s.fuel → Agrees t.world.store after → Ready p f c bound t after
  ready-later {s} {t} {store} {after} r sane keeps spent agrees =
      let few = r.fuel in
      record { sane = sane; here = here-kept keeps r.here; depth = keeps.depth ∙ r.depth; fuel = omega arith; agrees = agrees; statics = r.statics; laid = r.laid; numbered = r.numbered }

  pub ready-known : {A : Type 0} {P : World → A → Type 0} {s t : typed.State} {store after : Store} {a : A} → Ready p f c bound s store → Known p.statics s P a t → Agrees t.world.store after → Ready p f c bound t after
  ready-known r known agrees = ready-later r known.sane known.keeps known.spent agrees

  pub ready-took : {kind : _} {s t : typed.State} {store after : Store} {base registers : ℕ → Value} {to free : ℕ} {v : Value} → Ready p f c bound s store → Took p.statics s kind base to free v t registers after → Ready p f c bound t after
  ready-took r took = ready-later r took.sane took.keeps took.spent took.agrees

  module _ (inside : RightAround p c) (tame : TameAround c) where
    pub right-of : {store : Store} (e : Expr) (s : typed.State) → IsTyped p f e → Ready p f c bound s store → Right p.statics s (Fits (shape_of p e)) (value_of c e s)
    right-of e s t r = record {
      right = right-value p f c inside e s t r.sane r.here;
      spends = (rel-value 0 0 c.activation c.depth c.first c.capacity c.calls c.calls c.operates c.operates tame.calls tame.operates e).tame.by s;
    }

    pub right-at : {store : Store} (e : Expr) (s : typed.State) {shape : Option Access} → shape_of p e ≡ shape → IsTyped p f e → Ready p f c bound s store → Right p.statics s (Fits shape) (value_of c e s)
    right-at e s same t r = let h = right-of e s t r in record { right = at-shape p same h.right; spends = h.spends }

    pub right-arguments : {store : Store} (es : Exprs) (os : List LocalObject) (s : typed.State) → AreArguments p f os es → Ready p f c bound s store → Right p.statics s (ArgumentsFit os) (values_of c es s)
    right-arguments es os s t r = record {
      right = right-values p f c inside es os s t r.sane r.here;
      spends = (rel-values 0 0 c.activation c.depth c.first c.capacity c.calls c.calls c.operates c.operates tame.calls tame.operates es).tame.by s;
    }

    pub right-placed : {store : Store} (a : Place) (s : typed.State) → IsTypedPlace p f a → Ready p f c bound s store → Right p.statics s (λ w v. IsValue w.activations w.store Ptr v) (place_of c a s)
    right-placed a s t r = record {
      right = right-place p f c inside a s t r.sane r.here;
      spends = (rel-place 0 0 c.activation c.depth c.first c.capacity c.calls c.calls c.operates c.operates tame.calls tame.operates a).tame.by s;
    }

    -- what a struct's assignment stores
    pub right-stored : {store : Store} (count : ℕ) (cells : List Cell) (at : Value) (e : Expr) (s : typed.State) → shape_of p e ≡ Some (Struct count cells) → IsTyped p f e → Ready p f c bound s store
        → Right p.statics s (Fits (Some (Struct count cells))) (stored (Struct count cells) at (is_read e) (value_of c e) (source_of c e) s)
    right-stored count cells at (Read x a) s same t r = record {
      right = right-bind p.statics (right-place p f c inside a s t.1 r.sane r.here) (λ from u sane kept h.
          right-bind p.statics (right-checked p.statics (λ w v. Unit {0}) u (source_for cells at from) sane (λ v e. tt)) (λ there v sane₁ kept₁ _.
          right-read p.statics (Struct count cells) there v sane₁));
      spends = (rel-bind (rel-place 0 0 c.activation c.depth c.first c.capacity c.calls c.calls c.operates c.operates tame.calls tame.operates a)
          (λ from. rel-bind (rel-checked (source_for cells at from)) (λ there. rel-read_at (Struct count cells) there))).tame.by s;
    }
    right-stored count cells at e s same t r = right-at e s same t r
