-- What the interpreter's state shows of the meaning's states, and what its steps give of the meaning's steps.
use Rattle.std.specs.Prelude.{◌≡◌, ℕ, ℤ, List, [], ◌∷◌, Option, Some, None, Ok, Err, get_or, pos, reverse}
use Rattle.std.specs.Prelude.{Result as Either}
use Rattle.im_store.specs.Objects as o
use Rattle.im_store.specs.Objects.{Name, Named, Slot, Link, Shape, Store}
use Rattle.im_store.specs.Outcomes.{Undef, More}
use Rattle.im_block.specs.declared.code.Line.{Line}
use Rattle.im_block.specs.declared.unit.Unit.{Unit as Blocks}
use Rattle.im_block.specs.Meaning as m
use Rattle.im_block.specs.Meaning.{Event, Next, Goes, Stops, ended}
use Rattle.im_eval_store.specs.declared.value.Value.{Value}
use Rattle.im_eval_store.specs.declared.value.Value.TheVariants.{Unset}
use Rattle.im_eval_store.specs.Living.{Holds}
use Rattle.im_eval_store.specs.Shown.{shown}
use Rattle.im_block_run.specs.declared.code.Setting.{Setting}
use Rattle.im_block_run.specs.declared.state.Frame.{Frame}
use Rattle.im_block_run.specs.declared.state.State.{State}
use Rattle.im_block_run.specs.declared.stop.Stop.{Stop}
use Rattle.im_block_run.specs.declared.stop.Stop.TheVariants.{Undefined, MoreFuel, StackExhausted, Returned, Beyond, OutOfMemory}

-- the setting that plain data stand for
abbrev pub setting_of : Setting → m.Setting
setting_of g = record { frames = g.frames.now; stack = g.stack; capacity = g.capacity; input = g.input.now }

-- a store without the objects that compiled code alone has
abbrev pub plain_shape : Name → Option Shape → Option Shape
plain_shape (Named n) shape = shape
plain_shape (Slot n) shape = None
plain_shape Link shape = None

abbrev pub plain : Store → Store
plain store = record { shape = λ o. plain_shape o.name (store.shape o); values = store.values }

-- registers by their numbers; those behind the last one have no value
abbrev pub have : List Value → ℕ → o.Value
have registers r = shown (get_or registers r Unset)

pub record IsFrame (f : Frame) (s : m.Frame) : Type 0 where
  pub function : s.function ≡ f.function
  pub rest : s.spot.rest ≡ f.lines.now
  pub exit : s.spot.exit ≡ f.exit
  pub active : s.active ≡ record { number = f.number; depth = f.depth }
  pub registers : (r : ℕ) → s.registers r ≡ have f.registers.items r
  pub to : s.to ≡ f.to

abbrev pub AreFrames : List Frame → List m.Frame → Type 0
AreFrames [] [] = Unit {0}
AreFrames [] (s ∷ ss) = ⊥
AreFrames (f ∷ fs) [] = ⊥
AreFrames (f ∷ fs) (s ∷ ss) = IsFrame f s × AreFrames fs ss

-- what a state of the meaning has but for its store, by what it has at each register
pub record IsRunning (a : State) (s : m.State) : Type 0 where
  pub frame : IsFrame a.frame s.frame
  pub callers : AreFrames (reverse a.callers.items) s.callers
  pub input : s.input ≡ a.input.now
  pub output : s.output ≡ a.output.items
  pub fuel : s.fuel ≡ a.fuel

-- and by what each cell of an object has that lives
pub record IsState (a : State) (s : m.State) : Type 0 where
  pub running : IsRunning a s
  pub begun : s.begun ≡ a.begun
  pub held : Holds a.memory a.begun (plain s.store)

-- the next line is taken, or there is none
abbrev pub Takes : Option Line → Frame → m.Frame → Type 0
Takes None f s = (s.spot.rest ≡ []) × IsFrame f s
Takes (Some line) f s = (rest : List Line) × (s.spot.rest ≡ line ∷ rest) × IsFrame f (m.with_rest s rest)

-- an end of a run, at a state that is shown
abbrev pub EndsAt : Blocks → ℕ → ℤ → State → Next → Type 0
EndsAt u reason status a r = (s : m.State) × (events : List Event) × (r ≡ Stops (ended u reason status s) events) × IsState a s

-- the meaning stops for this cause. Nothing is said of what isn't served, and of want of memory
abbrev pub Halts : Blocks → Stop → State → Next → Type 0
Halts u (Undefined why) a r = (events : List Event) × (r ≡ Stops (Undef why) events)
Halts u MoreFuel a r = (events : List Event) × (r ≡ Stops (More a.output.items) events)
Halts u StackExhausted a r = EndsAt u 1 (pos 0) a r
Halts u (Returned n) a r = EndsAt u 0 n.value a r
Halts u Beyond a r = Unit {0}
Halts u OutOfMemory a r = Unit {0}

-- the meaning goes to a state that is shown
abbrev pub GoesTo : State → Next → Type 0
GoesTo a r = (s : m.State) × (events : List Event) × (r ≡ Goes s events) × IsState a s

-- a step of the meaning goes to a state that is shown, or stops
abbrev pub Follows : {R : Type 0} → Blocks → Either R Stop → State → Next → Type 0
Follows u (Ok done) a r = GoesTo a r
Follows u (Err why) a r = Halts u why a r
