-- A loop goes on with its test; its body is entered for a unit of fuel.
use Rattle.std.proofs.Common.{◌≡◌, ◌≤◌, ◌∙◌, ap, sym, subst, ℕ, List, Ok}
use denote.Bor.{Bor}
use Rattle.im_typed.specs.declared.statement.Stmt.{Stmt}
use Rattle.im_typed.specs.Meaning.{Around, Flow, does, value_of}
use Rattle.im_typed.specs.ProgramOf.{stmt_of}
use Rattle.im_typed.specs.Runs.{State, Run, goes_on, ◌>>=◌, give, with_fuel}
use Rattle.im_typed.specs.Values.{Values}
use Rattle.im_eval_machine.specs.declared.code.Code.{Code}
use Rattle.im_eval_machine.specs.declared.here.Here.{Here}
use Rattle.im_eval_machine.specs.declared.machine.Machine.{Machine}
use Rattle.im_eval_machine.specs.declared.stopped.Stopped.{Stopped}
use Rattle.im_eval_machine.specs.Settings.{setting_of}
use Rattle.im_eval_machine.specs.Shown.{Ends, Halts, nothing}
use Rattle.im_eval_machine.specs.Small.{small_stmt}
use Rattle.im_eval_machine.proofs.Steps.{charged, halts-on}
use Rattle.im_eval_tasks.specs.Stack.{Flowed, in_activation, leads, runs}
use Rattle.im_eval_tasks.specs.Tasks.{boxed_in, ends_turn, expr_in, uses}
use Rattle.im_eval_tasks.specs.declared.steps.Next.TheVariants.{Before}
use Rattle.im_eval_tasks.specs.declared.steps.Now.TheVariants.{Enter, Evaluate, Turn, Execute}
use Rattle.im_eval_tasks.specs.declared.tasks.Loop.{Loop}
use Rattle.im_eval_tasks.specs.declared.tasks.Rest.TheVariants.{Body}
use Rattle.im_eval_tasks.specs.declared.tasks.Task.{Task}
use Rattle.im_eval_tasks.specs.declared.tasks.Task.TheVariants.{Rest as RestTask, Use as UseTask}
use Rattle.im_eval_tasks.specs.declared.tasks.Use.TheVariants.{Turn as TurnUse}
use Rattle.im_eval_tasks.proofs.Binds.{assoc}
use Rattle.im_eval_tasks.proofs.Bounds.{turn_begins}
use Rattle.im_eval_steps.specs.Going.{Goes, follows, types_of}
use Rattle.im_eval_steps.proofs.Going.{went}

module _ (code : Code) (n : ℕ) (h : Here) (ts : List Task) (l : Loop) (s : State) where
  abbrev c : Around
  c = in_activation (types_of code) (setting_of code) n h

  abbrev then_ : Flow → Run Values
  then_ f = follows code n h ts (Flowed f)

  -- the next turn begins with the test
  pub turn_is : s.fuel ≤ n → runs (types_of code) (setting_of code) n h ts (Turn l) s ≡ leads (types_of code) (setting_of code) n h ts (Before (Evaluate l.test) (UseTask (TurnUse l))) s
  turn_is le =
      ap (λ r. goes_on r then_) (turn_begins (types_of code) (setting_of code) n h l s le)
      ∙ assoc (value_of c (expr_in (types_of code) l.test) s) (uses (types_of code) c n (TurnUse l)) then_

  abbrev body : Run Flow
  body = does c n (boxed_in (types_of code) l.body) >>= ends_turn (types_of code) c n l

  body_is : goes_on (goes_on (with_fuel (give (tt {0})) s) (λ _. body)) then_ ≡ runs (types_of code) (setting_of code) n h ts (Enter l) s
  body_is = ap (λ r. goes_on r then_) (sym (charged body s))

  pub not_paid : (why : Stopped) (m : Machine) → Halts why m (with_fuel (give (tt {0})) s) → Halts why m (runs (types_of code) (setting_of code) n h ts (Enter l) s)
  not_paid why m e = subst (Halts why m) body_is (halts-on why m _ then_ (halts-on why m (with_fuel (give (tt {0})) s) (λ _. body) e))

  pub paid_for : {R : Type 0} (done : R) (m : Machine) (b : Bor Stmt) → b.now ≡ l.body.now.value → Ends (nothing {R = R}) (Ok done) m (with_fuel (give (tt {0})) s)
      → Goes code n h ts (Ok (Before (Execute b) (RestTask (Body l)))) m (runs (types_of code) (setting_of code) n h ts (Enter l) s)
  paid_for {R} done m b same e =
      let next = Before (Execute b) (RestTask (Body l)) in
      subst (Goes code n h ts (Ok next) m) (sym (assoc (with_fuel (give (tt {0})) s) (λ _. body) then_) ∙ body_is)
      (went code n h ts (nothing {R = R}) done next m (with_fuel (give (tt {0})) s) (λ _ t. goes_on (body t) then_) e
      (λ t. ap (λ x. goes_on (does c n (small_stmt (stmt_of (types_of code) x)) t) (λ f u. goes_on (ends_turn (types_of code) c n l f u) then_)) same
      ∙ sym (assoc (does c n (boxed_in (types_of code) l.body) t) (ends_turn (types_of code) c n l) then_)))
