-- What a call comes to. Private contracts alone speak of this.
use Rattle.std.specs.Prelude.{◌≡◌, ℕ, pos, List, Ok, Err}
use Rattle.std.specs.Prelude.{Result as Either}
use Rattle.im_store.specs.Objects.{Store}
use Rattle.im_store.specs.Outcomes.{Undef}
use Rattle.im_block.specs.declared.unit.Unit.{Unit as Blocks}
use Rattle.im_block.specs.Meaning as m
use Rattle.im_block.specs.Meaning.{Event, Next, Goes, Stops, ended, takes}
use Rattle.im_eval_store.specs.declared.memory.Memory.{Memory}
use Rattle.im_eval_store.specs.Living.{Holds}
use Rattle.im_block_run.specs.Shown.{Halts, IsFrame, IsState, plain}
use Rattle.im_block_run.specs.declared.state.Frame.{Frame}
use Rattle.im_block_run.specs.declared.state.State.{State}
use Rattle.im_block_run.specs.declared.stop.Stop.{Stop}
use Rattle.im_block_run.specs.declared.stop.Stop.TheVariants.{Undefined, MoreFuel, StackExhausted, Returned, Beyond, OutOfMemory}

-- a unit of fuel is taken from a state and the rest goes on, or none is left
abbrev pub Pays : {R : Type 0} → Blocks → Either R Stop → State → m.State → (ℕ → Next) → Type 0
Pays u (Ok done) a s go = (fuel : ℕ) × (takes s.fuel s.output go ≡ go fuel) × IsState a (record s { fuel = fuel })
Pays u (Err why) a s go = Halts u why a (takes s.fuel s.output go)

-- a frame has begun, and its objects live
pub record HasEntered (f : Frame) (memory : Memory) (callers : List m.Frame) (fuel : ℕ) (s : m.State) (r : Next) : Type 0 where
  pub frame : m.Frame
  pub store : Store
  pub events : List Event
  pub goes : r ≡ Goes (record { frame = frame; callers = callers; store = store; begun = f.number; input = s.input; output = s.output; fuel = fuel }) events
  pub is : IsFrame f frame
  pub held : Holds memory f.number (plain store)

-- nothing was entered: the frame had no room
pub record HasNoRoom (u : Blocks) (memory : Memory) (s : m.State) (r : Next) : Type 0 where
  pub events : List Event
  pub stops : r ≡ Stops (ended u 1 (pos 0) s) events
  pub held : Holds memory s.begun (plain s.store)

abbrev pub Enters : Blocks → Either Frame Stop → Memory → List m.Frame → ℕ → m.State → Next → Type 0
Enters u (Ok f) memory callers fuel s r = HasEntered f memory callers fuel s r
Enters u (Err (Undefined why)) memory callers fuel s r = (events : List Event) × (r ≡ Stops (Undef why) events)
Enters u (Err MoreFuel) memory callers fuel s r = ⊥
Enters u (Err StackExhausted) memory callers fuel s r = HasNoRoom u memory s r
Enters u (Err (Returned n)) memory callers fuel s r = ⊥
Enters u (Err Beyond) memory callers fuel s r = Unit {0}
Enters u (Err OutOfMemory) memory callers fuel s r = Unit {0}
