-- Block code that does as the typed program: how its states stand for those of a typed run, and what a part of the code does.
use Rattle.std.specs.Prelude.{◌≡◌, ℕ, ◌<◌, ◌≤◌, pos, Option, None, List, [], ◌∷◌, ◌++◌, Some}
use Rattle.im_num.specs.declared.kind.Kind.{Kind}
use Rattle.im_ctype.specs.declared.cell.Cell.{Cell}
use Rattle.im_store.specs.Objects.{Object, Value, Number, Null, Pointer, Unset, Shape, Store}
use Rattle.im_store.specs.Outcomes.{Outcome, More, End, variables}
use Rattle.im_store.specs.Checks.{Fine}
use Rattle.im_store.specs.Access.{read_cells}
use Rattle.im_typed.specs.Program.{Access, Scalar, Struct, Prog}
use Rattle.im_typed.specs.Runs.{Fails, Starves, Exhausts, Answer, Gives, Stops}
use Rattle.im_typed.specs.Runs as typed
use Rattle.im_typed.specs.Values.{Values}
use Rattle.im_block.specs.declared.unit.Unit.{Unit as Code}
use Rattle.im_block.specs.Meaning.{Setting, Active, Event, Frame, State}
use Rattle.im_block.specs.Runs.{Over, exec}
use Rattle.im_lower_relation.specs.Codes.{Point}

-- a value of the typed store, and that of block code: what is uninitialised may be anything
abbrev pub Same : Value → Value → Type 0
Same (Number z) w = w ≡ Number z
Same Null w = w ≡ Null
Same (Pointer o offset) w = w ≡ Pointer o offset
Same Unset w = Unit {0}

-- who lives in the typed store lives in block code's with the same cells, which have the same values; cells lie within
-- their objects
pub record Agrees (store blocks : Store) : Type 0 where
  pub inside : (o : Object) (s : Shape) (i : ℕ) (kind : Kind) → store.shape o ≡ Some s → s.cells i ≡ Some kind → i ≤ s.size
  pub shapes : (o : Object) (s : Shape) → store.shape o ≡ Some s → blocks.shape o ≡ Some s
  pub values : (o : Object) (offset : ℕ) → Same (store.values o offset) (blocks.values o offset)

-- an activation of block code, but for where it is and what its registers have
pub record Home : Type 0 where
  pub function : ℕ
  pub active : Active
  pub callers : List Frame

-- which block it is in, and which register took the result of its last call
pub record Mark : Type 0 where
  pub block : ℕ
  pub waits : ℕ

abbrev pub moved : Mark → ℕ → Mark
moved n b = record { block = b; waits = n.waits }

-- the state of block code at a point, for a state of a typed run
abbrev pub at : Home → Mark → Point → (ℕ → Value) → Store → typed.State → State
at home n point registers store s =
    record {
      frame = record { function = home.function; spot = record { block = n.block; rest = point.rest; exit = point.exit }; active = home.active; registers = registers; to = n.waits };
      callers = home.callers;
      store = store;
      begun = s.world.activations;
      input = s.world.input;
      output = s.world.output;
      fuel = s.fuel;
    }

module _ (u : Code) (g : Setting) where
  -- some steps lead from one state to another
  pub record Reaches (s t : State) : Type 0 where
    pub events : List Event
    pub by : (k : ℕ) → (j : ℕ) × ((before : List Event) → exec u g j s before ≡ exec u g k t (before ++ events))

  -- some steps end the run
  pub record Finishes (s : State) (o : Outcome) : Type 0 where
    pub events : List Event
    pub steps : ℕ
    pub is : (before : List Event) → exec u g steps s before ≡ Over o (before ++ events)

  -- block code has come to a point, with this property of the value, the typed state, the registers and the store
  pub record Arrives {A : Type 0} (home : Home) (next : A → Point) (b : State) (P : A → typed.State → (ℕ → Value) → Store → Type 0) (a : A) (t : typed.State) : Type 0 where
    pub mark : Mark
    pub registers : ℕ → Value
    pub store : Store
    pub leads : Reaches b (at home mark (next a) registers store t)
    pub is : P a t registers store

  abbrev pub FollowsAt : {A : Type 0} → Prog → Home → (A → Point) → State → (A → typed.State → (ℕ → Value) → Store → Type 0) → Answer A → Type 0
  FollowsAt p home next b P (Gives a t) = Arrives home next b P a t
  FollowsAt p home next b P (Stops (Fails why)) = Unit {0}
  FollowsAt p home next b P (Stops (Starves output)) = Finishes b (More output)
  FollowsAt p home next b P (Stops (Exhausts output store)) = Finishes b (End 1 (pos 0) output (variables p.statics store))

  -- from a state block code does as a typed run answers; where it comes to depends on what that gives
  pub record Follows {A : Type 0} (p : Prog) (home : Home) (next : A → Point) (b : State) (P : A → typed.State → (ℕ → Value) → Store → Type 0) (answer : Answer A) : Type 0 where
    pub by : FollowsAt p home next b P answer

  -- it comes to one point
  abbrev pub Does : {A : Type 0} → Prog → Home → Point → State → (A → typed.State → (ℕ → Value) → Store → Type 0) → Answer A → Type 0
  Does p home next b P answer = Follows p home (λ _. next) b P answer

-- a register has the one value of an expression; of void and of a missing result nothing is asked
abbrev pub HasOne : Values → Value → Type 0
HasOne [] w = Unit {0}
HasOne (v ∷ vs) w = w ≡ v

-- a struct's value is the address of cells that have its values
abbrev pub HasCellsOf : List Cell → Values → Store → Value → Type 0
HasCellsOf cells vs store w = (o : Object) × (offset : ℕ) × (w ≡ Pointer o offset) × (read_cells store o offset cells ≡ Fine vs)

abbrev pub Holds : Option Access → Values → Store → Value → Type 0
Holds None vs store w = Unit {0}
Holds (Some (Scalar kind)) vs store w = HasOne vs w
Holds (Some (Struct count cells)) vs store w = HasCellsOf cells vs store w

-- behind an expression: the stores agree, the registers below free are as they were, but for the one that takes the value
pub record CameWith (H : Values → Store → Value → Type 0) (registers : ℕ → Value) (to free : ℕ) (vs : Values) (t : typed.State) (after : ℕ → Value) (store : Store) : Type 0 where
  pub agrees : Agrees t.world.store store
  pub kept : (q : ℕ) → q < free → (q ≡ to → ⊥) → after q ≡ registers q
  pub has : H vs t.world.store (after to)

abbrev pub Came : (ℕ → Value) → (to free : ℕ) → Values → typed.State → (ℕ → Value) → Store → Type 0
Came registers to free vs t after store = CameWith (λ ws s w. HasOne ws w) registers to free vs t after store

abbrev pub CameAs : Option Access → (ℕ → Value) → (to free : ℕ) → Values → typed.State → (ℕ → Value) → Store → Type 0
CameAs shape registers to free vs t after store = CameWith (Holds shape) registers to free vs t after store
