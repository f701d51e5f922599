-- A step of the machine, and then what it leads to.
use Rattle.std.proofs.Common.{◌≡◌, ◌∙◌, ap, sym, ℕ, List, Ok, Err}
use Rattle.std.specs.Prelude.{Result as Either}
use Rattle.im_typed.specs.Runs.{State, Answer, Run, goes_on}
use Rattle.im_typed.specs.Values.{Values}
use Rattle.im_eval_machine.specs.declared.here.Here.{Here}
use Rattle.im_eval_machine.specs.declared.code.Code.{Code}
use Rattle.im_eval_machine.specs.declared.machine.Machine.{Machine}
use Rattle.im_eval_machine.specs.declared.stopped.Stopped.{Stopped}
use Rattle.im_eval_machine.specs.Settings.{setting_of}
use Rattle.im_eval_machine.specs.Shown.{IsIn, IsStep, Halts, Ends, Finds}
use Rattle.im_eval_machine.proofs.Steps.{halts-on, finds-halts, ends-as}
use Rattle.im_eval_tasks.specs.declared.steps.Next.{Next}
use Rattle.im_eval_tasks.specs.declared.tasks.Task.{Task}
use Rattle.im_eval_tasks.specs.Stack.{leads}
use Rattle.im_eval_steps.specs.Going.{Goes, types_of}

-- after a look that found nothing, the run has stopped
pub unfound : {R A B : Type 0} (show : R → A) (why : Stopped) (m : Machine) (s : State) (r : Answer A) (k : A → Run B) → Finds show (Err why) s r → Halts why m (goes_on r k)
unfound show why m s r k h = halts-on why m r k (finds-halts show why m s r h)

-- a step does what an equal run does
pub same-step : {R A : Type 0} (show : R → A) (old new : Machine) (run other : Run A) (result : Either R Stopped) → ((s : State) → run s ≡ other s) → IsStep show result old new run → IsStep show result old new other
same-step show old new run other result e h = record {
  fuel = h.fuel;
  ends = λ s i. ends-as show result new (run s) (other s) (e s) (h.ends s i);
}

module _ (code : Code) (n : ℕ) (h : Here) (ts : List Task) where
  -- a step that gave a value goes on with what is next
  pub went : {R A : Type 0} (show : R → A) (v : R) (next : Next) (m : Machine) (r : Answer A) (k : A → Run Values)
      → Ends show (Ok v) m r → ((t : State) → leads (types_of code) (setting_of code) n h ts next t ≡ k (show v) t)
      → Goes code n h ts (Ok next) m (goes_on r k)
  went show v next m r k e f = (e.0, e.1, ap (λ x. goes_on x k) e.2 ∙ sym (f e.0))

  -- and a look the same
  pub seen : {R A : Type 0} (show : R → A) (v : R) (next : Next) (m : Machine) (s : State) (r : Answer A) (k : A → Run Values)
      → IsIn m s → Finds show (Ok v) s r → leads (types_of code) (setting_of code) n h ts next s ≡ k (show v) s
      → Goes code n h ts (Ok next) m (goes_on r k)
  seen show v next m s r k i e f = (s, i, ap (λ x. goes_on x k) e ∙ sym f)
