-- What a machine holds of the meaning's states, and what its steps give of the meaning's answers.
use Rattle.std.specs.Prelude.{◌≡◌, ◌≤◌, List, [], ◌∷◌, map, Ok, Err}
use Rattle.std.specs.Prelude.{Result as Either}
use Rattle.im_store.specs.Objects as o
use Rattle.im_store.specs.Objects.{Store}
use Rattle.im_eval_store.specs.declared.value.Value.{Value}
use Rattle.im_eval_store.specs.Living.{Holds}
use Rattle.im_eval_store.specs.Shown.{shown}
use Rattle.im_store.specs.declared.number.Number.{Number}
use Rattle.im_typed.specs.Runs.{State, Fails, Starves, Exhausts, Answer, Gives, Stops, Run}
use Rattle.im_eval_machine.specs.declared.found.Found.{Found}
use Rattle.im_eval_machine.specs.declared.found.Found.TheVariants.{Nothing, One, Cells}
use Rattle.im_eval_machine.specs.declared.machine.Machine.{Machine}
use Rattle.im_eval_machine.specs.declared.stopped.Stopped.{Stopped}
use Rattle.im_eval_machine.specs.declared.stopped.Stopped.TheVariants.{Undefined, MoreFuel, StackExhausted, OutOfMemory}

abbrev pub shown_all : List Value → List o.Value
shown_all vs = map {A = Value} shown vs

abbrev pub values : Found → List o.Value
values Nothing = []
values (One v) = shown v ∷ []
values (Cells vs) = shown_all vs.items

abbrev pub one : Value → List o.Value
one v = shown v ∷ []

abbrev pub number_shown : Number → List o.Value
number_shown n = o.Number n.value ∷ []

-- a step that gives nothing
abbrev pub nothing : {R : Type 0} → R → Unit {0}
nothing r = tt

-- a machine holds what a run works on; values of objects that are dead are in the state alone
pub record IsIn (m : Machine) (s : State) : Type 0 where
  pub held : Holds m.memory m.activations s.world.store
  pub activations : s.world.activations ≡ m.activations
  pub depth : s.world.depth ≡ m.depth
  pub input : s.world.input ≡ m.input.now
  pub output : s.world.output ≡ m.output.items
  pub fuel : s.fuel ≡ m.fuel

-- a run stopped for this cause. Want of memory is no part of the meaning
abbrev pub Halts : {A : Type 0} → Stopped → Machine → Answer A → Type 0
Halts (Undefined why) m r = r ≡ Stops (Fails why)
Halts MoreFuel m r = r ≡ Stops (Starves m.output.items)
Halts StackExhausted m r =
    (store : Store) × (r ≡ Stops (Exhausts m.output.items store)) × Holds m.memory m.activations store
Halts OutOfMemory m r = Unit {0}

-- a run gave what this shows and left a state that the machine is in, or stopped
abbrev pub Ends : {R A : Type 0} → (R → A) → Either R Stopped → Machine → Answer A → Type 0
Ends show (Ok v) m r = (s : State) × IsIn m s × (r ≡ Gives (show v) s)
Ends show (Err why) m r = Halts why m r

-- a step of a machine does what the run does, at each state that the machine was in
pub record IsStep {R A : Type 0} (show : R → A) (result : Either R Stopped) (old new : Machine) (run : Run A) : Type 0 where
  pub fuel : new.fuel ≤ old.fuel
  pub ends : (s : State) → IsIn old s → Ends show result new (run s)

-- a look at a machine: a run gave what this shows and left its state, or stopped for this cause
abbrev pub Finds : {R A : Type 0} → (R → A) → Either R Stopped → State → Answer A → Type 0
Finds show (Ok v) s r = r ≡ Gives (show v) s
Finds show (Err (Undefined why)) s r = r ≡ Stops (Fails why)
Finds show (Err MoreFuel) s r = ⊥
Finds show (Err StackExhausted) s r = ⊥
Finds show (Err OutOfMemory) s r = Unit {0}

-- a look finds what the run gives, at each state that the machine is in
abbrev pub IsLook : {R A : Type 0} → (R → A) → Either R Stopped → Machine → Run A → Type 0
IsLook show result m run = (s : State) → IsIn m s → Finds show result s (run s)
