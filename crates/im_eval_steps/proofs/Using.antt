-- A value is used, and then a step is done.
use Rattle.std.proofs.Common.{◌≡◌, sym, subst, ℕ, List, Ok}
use Rattle.im_typed.specs.Runs.{State, Gives, Run, goes_on}
use Rattle.im_typed.specs.Values.{Values, used}
use Rattle.im_eval_store.specs.Shown.{shown}
use Rattle.im_eval_store.specs.declared.value.Value.{Value as Held}
use Rattle.im_eval_machine.specs.Settings.{setting_of}
use Rattle.im_eval_machine.specs.Shown.{Finds, Halts, IsIn}
use Rattle.im_eval_machine.specs.declared.code.Code.{Code}
use Rattle.im_eval_machine.specs.declared.here.Here.{Here}
use Rattle.im_eval_machine.specs.declared.machine.Machine.{Machine}
use Rattle.im_eval_machine.specs.declared.stopped.Stopped.{Stopped}
use Rattle.im_eval_machine.proofs.Steps.{halts-on}
use Rattle.im_eval_tasks.specs.Stack.{leads}
use Rattle.im_eval_tasks.specs.declared.steps.Next.{Next}
use Rattle.im_eval_tasks.specs.declared.tasks.Task.{Task}
use Rattle.im_eval_steps.specs.Going.{Goes, types_of}
use Rattle.im_eval_steps.proofs.Going.{went}

-- the step stopped
pub then-stops : {A B : Type 0} (vs : Values) (v : Held) (s : State) (step : Run A) (k : A → Run B) (why : Stopped) (m : Machine)
    → Finds shown (Ok v) s (used vs s) → Halts why m (step s) → Halts why m (goes_on (goes_on (used vs s) (λ _. step)) k)
then-stops vs v s step k why m u h =
    subst (λ r. Halts why m (goes_on (goes_on r (λ _. step)) k)) (sym u) (halts-on why m (step s) k h)

-- the step gave a value, and what is next goes on with it
pub then-goes : {A : Type 0} (code : Code) (n : ℕ) (here : Here) (ts : List Task) (vs : Values) (v : Held) (s : State) (step : Run A) (k : A → Run Values)
    (given : A) (next : Next) (m : Machine)
    → Finds shown (Ok v) s (used vs s) → ((t : State) × IsIn m t × (step s ≡ Gives given t)) → ((t : State) → leads (types_of code) (setting_of code) n here ts next t ≡ k given t)
    → Goes code n here ts (Ok next) m (goes_on (goes_on (used vs s) (λ _. step)) k)
then-goes {A} code n here ts vs v s step k given next m u e f =
    subst (λ r. Goes code n here ts (Ok next) m (goes_on (goes_on r (λ _. step)) k)) (sym u)
    (went code n here ts {R = A} (λ a. a) given next m (step s) k e f)
