-- A service does its work: the number that a value is.
use Rattle.std.proofs.Common.{◌≡◌, ap, refl, sym, subst, ℕ, ℤ, List, Ok}
use Rattle.im_serve.specs.declared.service.Service.{Service}
use Rattle.im_store.specs.Checks.{Fine}
use Rattle.im_store.specs.Objects as o
use Rattle.im_store.specs.declared.number.Number.{Number}
use Rattle.im_typed.specs.Meaning.{served}
use Rattle.im_typed.specs.Runs.{State, Run, goes_on, checked, with_fuel}
use Rattle.im_typed.specs.Values.{Values, number_of}
use Rattle.im_eval_store.specs.declared.value.Value.TheVariants as held
use Rattle.im_eval_machine.specs.Shown.{Ends, number_shown}
use Rattle.im_eval_machine.specs.Settings.{setting_of}
use Rattle.im_eval_machine.specs.declared.code.Code.{Code}
use Rattle.im_eval_machine.specs.declared.found.Found.TheVariants.{One}
use Rattle.im_eval_machine.specs.declared.here.Here.{Here}
use Rattle.im_eval_machine.specs.declared.machine.Machine.{Machine}
use Rattle.im_eval_tasks.specs.Stack.{Valued, operand_goes}
use Rattle.im_eval_tasks.specs.declared.steps.Next.TheVariants.{Just}
use Rattle.im_eval_tasks.specs.declared.steps.Now.TheVariants.{Value}
use Rattle.im_eval_tasks.specs.declared.tasks.Operand.TheVariants as operand
use Rattle.im_eval_tasks.specs.declared.tasks.Task.{Task}
use Rattle.im_eval_steps.specs.Going.{Goes, follows, types_of}
use Rattle.im_eval_steps.proofs.Going.{went}

module _ (service : Service) (code : Code) (n : ℕ) (here : Here) (ts : List Task) (s : State) (v : o.Value) (z : ℤ) (e : number_of v ≡ Fine z) where
  abbrev next : Values → Run Values
  next vs = follows code n here ts (Valued vs)

  abbrev puts : Run Values
  puts = with_fuel (served code.capacity service z)

  put-is : goes_on (puts s) next ≡ operand_goes (types_of code) (setting_of code) n here (operand.Serve service) (follows code n here ts) v s
  put-is = sym (ap (λ r. goes_on (goes_on (checked r s) (λ y. with_fuel (served code.capacity service y))) next) e)

  pub put-goes : (written : Number) (m : Machine) → Ends number_shown (Ok written) m (puts s)
      → Goes code n here ts (Ok (Just (Value (One (held.Number written))))) m (operand_goes (types_of code) (setting_of code) n here (operand.Serve service) (follows code n here ts) v s)
  put-goes written m h =
      subst (Goes code n here ts (Ok (Just (Value (One (held.Number written))))) m) put-is
      (went code n here ts number_shown written (Just (Value (One (held.Number written)))) m (puts s) next h (λ t. refl))
