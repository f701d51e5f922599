-- The run of `main`, behind which nothing is to do.
use Rattle.std.proofs.Common.{◌≤◌, subst, sym, ℕ, List, [], Ok, arith}
use Rattle.std.specs.Prelude.{Result as Either}
use Rattle.im_typed.specs.Runs.{State, Answer, goes_on}
use Rattle.im_typed.specs.Values.{Values}
use Rattle.im_eval_machine.specs.declared.code.Code.{Code}
use Rattle.im_eval_machine.specs.declared.found.Found.{Found}
use Rattle.im_eval_machine.specs.declared.here.Here.{Here}
use Rattle.im_eval_machine.specs.declared.machine.Machine.{Machine}
use Rattle.im_eval_machine.specs.declared.stopped.Stopped.{Stopped}
use Rattle.im_eval_machine.specs.Settings.{setting_of}
use Rattle.im_eval_machine.specs.Shown.{Ends, Halts, IsIn, values}
use Rattle.im_eval_tasks.specs.Stack.{Valued, runs}
use Rattle.im_eval_tasks.specs.declared.steps.Now.{Now}
use Rattle.im_eval_tasks.specs.declared.tasks.Task.{Task}
use Rattle.im_eval_tasks.proofs.Binds.{given_back}
use Rattle.im_eval_steps.specs.Going.{GoesNow, follows, types_of}

-- what follows the call of `main`
abbrev pub behind_main : Code → ℕ → Here → Answer Values → Answer Values
behind_main code n here r = goes_on r (λ vs. follows code n here [] (Valued vs))

pub main-stops : (code : Code) (n : ℕ) (here : Here) (why : Stopped) (m : Machine) (r : Answer Values) → Halts why m (behind_main code n here r) → Halts why m r
main-stops code n here why m r h = subst (Halts why m) (given_back r) h

pub main-ends : (code : Code) (n : ℕ) (here now : Here) (ts : List Task) (first : Now) (m end : Machine) (r : Answer Values) (result : Either Found Stopped)
    → m.fuel ≤ n → GoesNow code n now ts (Ok first) m (behind_main code n here r)
    → ((t : State) → IsIn m t → t.fuel ≤ n → Ends values result end (runs (types_of code) (setting_of code) n now ts first t))
    → Ends values result end r
main-ends code n here now ts first m end r result le e f =
    let same = e.1.fuel in
    let fits : e.0.fuel ≤ n = omega arith in
    subst (Ends values result end) (given_back r) (subst (Ends values result end) (sym e.2) (f e.0 e.1 fits))
