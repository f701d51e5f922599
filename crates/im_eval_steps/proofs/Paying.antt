-- A call whose arguments are there takes a unit of fuel, and then its function is entered.
use Rattle.std.proofs.Common.{◌≡◌, ◌≤◌, ◌∙◌, ap, sym, subst, ℕ, List, [], ◌++◌}
use Rattle.std.proofs.lemmas.List.{append-nil}
use Rattle.std.specs.Prelude.{Result as Either}
use Rattle.im_typed.specs.Meaning.{values_of}
use Rattle.im_typed.specs.Programs.{called, calls_of}
use Rattle.im_typed.specs.Runs.{State, Run, Gives, goes_on, give, with_fuel}
use Rattle.im_typed.specs.Values.{Values}
use Rattle.im_eval_machine.specs.Settings.{setting_of}
use Rattle.im_eval_machine.specs.Shown.{Halts, shown_all}
use Rattle.im_eval_machine.specs.declared.code.Code.{Code}
use Rattle.im_eval_machine.specs.declared.here.Here.{Here}
use Rattle.im_eval_machine.specs.declared.machine.Machine.{Machine}
use Rattle.im_eval_machine.specs.declared.stopped.Stopped.{Stopped}
use Rattle.im_eval_machine.proofs.Steps.{charged}
use Rattle.im_eval_tasks.specs.Stack.{Valued, in_activation}
use Rattle.im_eval_tasks.specs.Tasks.{calls_on, exprs_in}
use Rattle.im_eval_tasks.specs.declared.steps.Next.{Next}
use Rattle.im_eval_tasks.specs.declared.tasks.Call.{Call}
use Rattle.im_eval_tasks.specs.declared.tasks.Task.{Task}
use Rattle.im_eval_tasks.proofs.Bounds.{call_enters}
use Rattle.im_eval_steps.specs.Going.{Goes, follows, types_of}
use Rattle.im_eval_machine.proofs.Steps.{halts-on}

module _ (code : Code) (n : ℕ) (here : Here) (ts : List Task) (call : Call) (s : State) (le : s.fuel ≤ n) (full : call.rest.now ≡ []) where
  abbrev next : Values → Run Values
  next vs = follows code n here ts (Valued vs)

  -- the function, with the arguments that are there
  abbrev calls : Run Values
  calls = called (setting_of code) (calls_of (setting_of code) n) n call.function (shown_all call.ready.items)

  call_is : calls_on (types_of code) (in_activation (types_of code) (setting_of code) n here) call s ≡ goes_on (with_fuel (give (tt {0})) s) (λ _. calls)
  call_is =
      let args = shown_all call.ready.items in
      ap (λ es. goes_on (values_of (in_activation (types_of code) (setting_of code) n here) (exprs_in (types_of code) es) s) (λ vs. calls_of (setting_of code) n call.function (args ++ vs))) full
      ∙ ap (λ vs. calls_of (setting_of code) n call.function vs s) (append-nil args)
      ∙ call_enters (setting_of code) n call.function args s le
      ∙ charged calls s

  pub unpaid : (why : Stopped) (m : Machine) → Halts why m (with_fuel (give (tt {0})) s)
      → Halts why m (goes_on (calls_on (types_of code) (in_activation (types_of code) (setting_of code) n here) call s) next)
  unpaid why m h =
      subst (λ r. Halts why m (goes_on r next)) (sym call_is)
      (halts-on why m (goes_on (with_fuel (give (tt {0})) s) (λ _. calls)) next (halts-on why m (with_fuel (give (tt {0})) s) (λ _. calls) h))

  pub paid_goes : (inside : Here) (result : Either Next Stopped) (m : Machine) (t : State) → with_fuel (give (tt {0})) s ≡ Gives (tt {0}) t
      → Goes code n inside ts result m (goes_on (calls t) next)
      → Goes code n inside ts result m (goes_on (calls_on (types_of code) (in_activation (types_of code) (setting_of code) n here) call s) next)
  paid_goes inside result m t e h =
      subst (λ r. Goes code n inside ts result m (goes_on r next)) (sym (call_is ∙ ap (λ r. goes_on r (λ _. calls)) e)) h
