-- How a run goes on behind a step: from a state that the machine is in, with what is next and the tasks behind it.
use Rattle.std.specs.Prelude.{◌≡◌, ℕ, List, [], ◌∷◌, Ok, Err}
use Rattle.std.specs.Prelude.{Result as Either}
use Rattle.im_ctype.specs.Table.{Table}
use Rattle.im_store.specs.Objects.{Value}
use Rattle.im_typed.specs.declared.expression.Change.{Change}
use Rattle.im_typed.specs.Program.{Scalar}
use Rattle.im_typed.specs.Runs.{State, Answer, Run, ◌>>=◌, checked}
use Rattle.im_typed.specs.Values.{Values, computes, scalar, number_of, changed, changed_kind, write_at}
use Rattle.im_eval_machine.specs.declared.here.Here.{Here}
use Rattle.im_eval_machine.specs.declared.code.Code.{Code}
use Rattle.im_eval_machine.specs.declared.machine.Machine.{Machine}
use Rattle.im_eval_machine.specs.declared.stopped.Stopped.{Stopped}
use Rattle.im_eval_machine.specs.Settings.{setting_of}
use Rattle.im_eval_machine.specs.Shown.{IsIn, Halts}
use Rattle.im_eval_tasks.specs.declared.steps.Next.{Next}
use Rattle.im_eval_tasks.specs.declared.steps.Now.{Now}
use Rattle.im_eval_tasks.specs.declared.tasks.Task.{Task}
use Rattle.im_eval_tasks.specs.Stack.{Completion, continues, leads, runs}

-- the types of code
abbrev pub types_of : Code → Table
types_of code = code.prog.now.types

-- what stands at a place is changed by the number that a value is, once its old value was read
abbrev pub changes_to : Change → Value → Value → Value → Run Values
changes_to by before at v =
    checked (number_of v) >>= (λ z. changed computes by before z >>= (λ w.
    write_at (Scalar (changed_kind by)) at (w ∷ []) >>= (λ _. scalar w)))

module _ (code : Code) (n : ℕ) where
  -- what follows from there on
  abbrev pub follows : Here → List Task → Completion → Run Values
  follows h ts done = continues (types_of code) (setting_of code) n h ts done

  -- a run goes on so from a state that the machine is in, or has stopped
  abbrev pub Goes : Here → List Task → Either Next Stopped → Machine → Answer Values → Type 0
  Goes h ts (Ok next) m r = (s : State) × IsIn m s × (r ≡ leads (types_of code) (setting_of code) n h ts next s)
  Goes h ts (Err why) m r = Halts why m r

  abbrev pub GoesNow : Here → List Task → Either Now Stopped → Machine → Answer Values → Type 0
  GoesNow h ts (Ok now) m r = (s : State) × IsIn m s × (r ≡ runs (types_of code) (setting_of code) n h ts now s)
  GoesNow h ts (Err why) m r = Halts why m r
