-- What a look at what is next says of the run, by what it found. Private contracts alone speak of this.
use Rattle.std.specs.Prelude.{◌≡◌, ℕ, List, Option, Some, None, Ok, Err}
use Rattle.std.specs.Prelude.{Result as Either}
use Rattle.im_typed.specs.Runs.{State, Answer}
use Rattle.im_typed.specs.Values.{Values}
use Rattle.im_eval_store.specs.Shown.{shown}
use Rattle.im_eval_store.specs.declared.value.Value.{Value}
use Rattle.im_eval_machine.specs.declared.code.Code.{Code}
use Rattle.im_eval_machine.specs.declared.here.Here.{Here}
use Rattle.im_eval_machine.specs.declared.machine.Machine.{Machine}
use Rattle.im_eval_machine.specs.declared.stopped.Stopped.{Stopped}
use Rattle.im_eval_machine.specs.Shown.{Halts, one}
use Rattle.im_eval_tasks.specs.Stack.{Completion, Valued, Placed}
use Rattle.im_eval_tasks.specs.declared.tasks.Task.{Task}
use Rattle.im_eval_steps.specs.Going.{follows}

-- the tasks take what was found, in the same state, or the run has stopped; a look that was given up says nothing
abbrev pub LooksAhead : (Value → Completion) → Code → ℕ → Here → List Task → Either (Option Value) Stopped → Machine → State → Answer Values → Type 0
LooksAhead done code n h ts (Ok (Some v)) m s r = r ≡ follows code n h ts (done v) s
LooksAhead done code n h ts (Ok None) m s r = Unit {0}
LooksAhead done code n h ts (Err why) m s r = Halts why m r

abbrev pub valued : Value → Completion
valued v = Valued (one v)

abbrev pub placed : Value → Completion
placed v = Placed (shown v)
