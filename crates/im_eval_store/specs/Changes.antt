-- What comes of looking up and storing in what lives.
use Rattle.std.specs.Prelude.{◌≡◌, ◌≤◌, ◌<◌, ℕ, ◌-◌, ◌==◌, ◌&&◌, Bool, true, false, List, [], ◌∷◌, get_or, slice_get, length, nat_lt, Option, Some, None, Result, Ok, Err, if◌then◌else◌}
use Rattle.im_store.specs.declared.undefined.Undefined.{Undefined}
use Rattle.im_store.specs.Checks.{Checked, Fine, Bad}
use Rattle.im_store.specs.Objects as o
use Rattle.im_store.specs.Objects.{Object, Shape, Store, same_object}
use Rattle.im_num.specs.declared.kind.Kind.{Kind}
use Rattle.im_eval_store.specs.declared.value.ObjectName.{ObjectName}
use Rattle.im_eval_store.specs.declared.value.Value.{Value}
use Rattle.im_eval_store.specs.declared.value.Value.TheVariants.{Unset}
use Rattle.im_eval_store.specs.declared.memory.Live.{Live}
use Rattle.im_eval_store.specs.declared.memory.Activation.{Activation}
use Rattle.im_eval_store.specs.declared.memory.Memory.{Memory}
use Rattle.im_eval_store.specs.declared.memory.Position.{Position}
use Rattle.im_eval_store.specs.Living.{Holds, LivesAs, live_at, live_in}
use Rattle.im_eval_store.specs.Shown.{object_of}

abbrev pub at_level : List Activation → Option ℕ → Option Activation
at_level all None = None
at_level all (Some level) = slice_get all level

-- an object that lives stands there
pub record IsAt (all : List Activation) (p : ObjectName) (at : Position) (a : Activation) (x : Live) : Type 0 where
  pub activation : slice_get all at.level ≡ Some a
  pub number : a.number ≡ p.activation
  pub depth : a.depth ≡ p.depth
  pub first : a.first ≤ p.number
  pub object : slice_get a.objects.items at.index ≡ Some x
  pub index : at.index ≡ p.number - a.first

abbrev pub IsWithin : List Activation → Position → Type 0
IsWithin all at = (a : Activation) × (slice_get all at.level ≡ Some a) × (at.index < length a.objects.items)

abbrev pub StandsAt : List Activation → ObjectName → Option Position → Type 0
StandsAt all p None = live_at all (object_of p) ≡ None
StandsAt all p (Some at) = (a : Activation) × (x : Live) × IsAt all p at a x

-- an activation in which one object changed
pub record IsRevised (old new : Activation) (changed : List Live) : Type 0 where
  pub number : new.number ≡ old.number
  pub depth : new.depth ≡ old.depth
  pub first : new.first ≡ old.first
  pub objects : new.objects.items ≡ changed

-- an activation has begun: its objects live, and all others live as before
pub record IsBegun (a : Activation) (last : ℕ) (store new : Store) : Type 0 where
  pub later : last < a.number
  pub before : (q : Object) → (q.activation == a.number) ≡ false
      → (new.shape q ≡ store.shape q) × ((i : ℕ) → new.values q i ≡ store.values q i)
  pub own : (q : Object) → q.activation ≡ a.number → LivesAs (live_in (Some a) q) (new.shape q) (new.values q)

-- what the cells have once one of them has a value, where there is such a cell
abbrev pub with_cell : List Value → ℕ → Value → ℕ → Value
with_cell values offset v i =
    if i == offset && nat_lt offset (length values) then v else get_or values i Unset

abbrev pub stands_in : ℕ → List ℕ → Bool
stands_in n [] = false
stands_in n (m ∷ ms) = if n == m then true else stands_in n ms

-- zero or null, where there is a cell
abbrev pub zero_or : Option Kind → o.Value → o.Value
zero_or None v = v
zero_or (Some kind) v = o.zero_of kind

-- what the cell at an offset has, once those that aren't given are zero or null
abbrev pub cleared : List ℕ → Option Kind → o.Value → ℕ → o.Value
cleared given kind v i = if stands_in i given then v else zero_or kind v

abbrev pub kind_in : Option Shape → ℕ → Option Kind
kind_in None i = None
kind_in (Some shape) i = shape.cells i

-- a store in which one object has other values
abbrev pub with_values : Object → (ℕ → o.Value) → Store → Store
with_values p values store =
    record store { values = λ (q : Object) i. if same_object q p then values i else store.values q i }

-- what is stored, or why nothing is
abbrev pub Stores : {A : Type 0} → Result A Undefined → Memory → ℕ → Checked Store → Type 0
Stores (Ok done) m last r = (after : Store) × (r ≡ Fine after) × Holds m last after
Stores (Err why) m last r = r ≡ Bad why

-- what a test gives, or its cause for giving nothing
abbrev pub Decides : Result Bool Undefined → Checked Bool → Type 0
Decides (Ok b) r = r ≡ Fine b
Decides (Err why) r = r ≡ Bad why
