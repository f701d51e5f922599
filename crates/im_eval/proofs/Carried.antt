-- What the steps so far carried: the run began as it does, and goes on so.
use Rattle.std.proofs.Common.{◌≡◌, ◌≤◌, ℕ}
use Rattle.im_typed.specs.Runs.{State}
use Rattle.im_eval_machine.specs.declared.code.Code.{Code}
use Rattle.im_eval_machine.specs.Settings.{setting_of}
use Rattle.im_eval_machine.specs.Shown.{IsIn}
use Rattle.im_eval_tasks.specs.declared.steps.Now.{Now}
use Rattle.im_eval_tasks.specs.Stack.{pending, runs}
use Rattle.im_eval_steps.specs.Going.{types_of}
use Rattle.im_eval.specs.declared.run.Run.{Run}

pub record CarriedIn (code : Code) (begun : Run) (first : Now) (run : Run) (now : Now) : Type 0 where
  pub fuel : run.machine.fuel ≤ begun.machine.fuel
  pub same : (n : ℕ) (s : State) → IsIn begun.machine s → s.fuel ≤ n
      → (t : State) × IsIn run.machine t
      × (runs (types_of code) (setting_of code) n begun.here (pending begun.tasks.items) first s
      ≡ runs (types_of code) (setting_of code) n run.here (pending run.tasks.items) now t)
