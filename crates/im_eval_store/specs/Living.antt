-- What the evaluator holds of the objects that live.
use Rattle.std.specs.Prelude.{◌≡◌, ◌≤◌, ℕ, suc, ◌-◌, ◌==◌, List, [], ◌∷◌, get_or, slice_get, Option, Some, None, nat_le, if◌then◌else◌}
use Rattle.im_num.specs.declared.kind.Kind.{Kind}
use Rattle.im_store.specs.Objects as o
use Rattle.im_store.specs.Objects.{Name, Named, Slot, Link, Object, Shape, Store}
use Rattle.im_eval_store.specs.declared.value.Value.TheVariants.{Unset}
use Rattle.im_eval_store.specs.declared.memory.Live.{Live}
use Rattle.im_eval_store.specs.declared.memory.Activation.{Activation}
use Rattle.im_eval_store.specs.declared.memory.Memory.{Memory}
use Rattle.im_eval_store.specs.Shown.{shown}

-- the object of that name among those of an activation, whose first one has that number
abbrev pub live_named : ℕ → List Live → Name → Option Live
live_named first objects (Named n) = if nat_le first n then slice_get objects (n - first) else None
live_named first objects (Slot n) = None
live_named first objects Link = None

abbrev pub live_in : Option Activation → Object → Option Live
live_in None p = None
live_in (Some a) p = if a.depth == p.depth then live_named a.first a.objects.items p.name else None

-- the activation of that number
abbrev pub activation_at : List Activation → ℕ → Option Activation
activation_at [] number = None
activation_at (a ∷ all) number = if a.number == number then Some a else activation_at all number

abbrev pub live_at : List Activation → Object → Option Live
live_at all p = live_in (activation_at all p.activation) p

-- an object that is held is of that shape, and each of its cells has that value
pub record IsLiveAs (x : Live) (shape : Shape) (values : ℕ → o.Value) : Type 0 where
  pub size : shape.size ≡ x.plan.now.size
  pub cells : (i : ℕ) → shape.cells i ≡ get_or x.plan.now.kinds.items i None
  pub have : (i : ℕ) (kind : Kind) → shape.cells i ≡ Some kind → values i ≡ shown (get_or x.values.items i Unset)

abbrev pub LivesAs : Option Live → Option Shape → (ℕ → o.Value) → Type 0
LivesAs None None values = Unit {0}
LivesAs None (Some shape) values = ⊥
LivesAs (Some x) None values = ⊥
LivesAs (Some x) (Some shape) values = IsLiveAs x shape values

-- each activation began behind those before it, the first one of at least the one number, and the last of at most the other
abbrev pub Ascends : ℕ → ℕ → List Activation → Type 0
Ascends from last [] = from ≤ suc last
Ascends from last (a ∷ all) = (from ≤ a.number) × Ascends (suc a.number) last all

-- the objects that live in a store, where the last activation so far has that number
pub record IsHeld (all : List Activation) (last : ℕ) (store : Store) : Type 0 where
  pub ordered : Ascends 0 last all
  pub objects : (p : Object) → LivesAs (live_at all p) (store.shape p) (store.values p)

abbrev pub Holds : Memory → ℕ → Store → Type 0
Holds m last store = IsHeld m.activations.items last store
