-- A function that is there is entered, and its body is next.
use Rattle.std.proofs.Common.{◌≡◌, ◌<◌, ◌≤◌, ◌∙◌, ap, sym, subst, ℕ, ◌==◌, List, length, map, get_or}
use Rattle.std.specs.Prelude.{Ok}
use denote.Bor.{Bor}
use Rattle.im_store.specs.declared.undefined.Undefined.TheVariants.{MissingResult}
use Rattle.im_store.specs.Objects as o
use Rattle.im_typed.specs.declared.program.Func.{Func}
use Rattle.im_typed.specs.declared.statement.Stmt.{Stmt}
use Rattle.im_typed.specs.Meaning.{does}
use Rattle.im_typed.specs.ProgramOf.{func_of, stmt_of}
use Rattle.im_typed.specs.Programs.{around, call_result, called, calls_of, enters, leaving}
use Rattle.im_typed.specs.Runs.{State, Fails, Stops, Run, goes_on, change}
use Rattle.im_typed.specs.Values.{Values}
use Rattle.im_eval_machine.specs.Activations.{Entered, entered, enters_function}
use Rattle.im_eval_machine.specs.Settings.{setting_of}
use Rattle.im_eval_machine.specs.Shown.{Ends, Halts}
use Rattle.im_eval_machine.specs.Small.{small_func, small_stmt}
use Rattle.im_eval_machine.specs.declared.code.Code.{Code}
use Rattle.im_eval_machine.specs.declared.here.Here.{Here}
use Rattle.im_eval_machine.specs.declared.machine.Machine.{Machine}
use Rattle.im_eval_machine.specs.declared.stopped.Stopped.{Stopped}
use Rattle.im_eval_machine.proofs.Rows.{got-mapped, got-past, length-mapped}
use Rattle.im_eval_tasks.specs.Stack.{Valued}
use Rattle.im_eval_tasks.specs.declared.steps.Next.TheVariants.{Before}
use Rattle.im_eval_tasks.specs.declared.steps.Now.TheVariants.{Execute}
use Rattle.im_eval_tasks.specs.declared.tasks.Caller.{Caller}
use Rattle.im_eval_tasks.specs.declared.tasks.Task.{Task}
use Rattle.im_eval_tasks.specs.declared.tasks.Task.TheVariants.{Leave}
use Rattle.im_eval_steps.specs.Going.{Goes, follows}
use Rattle.im_eval_steps.proofs.Calls.{body_then, called_is}
use Rattle.im_eval_machine.proofs.Steps.{halts-on}
use Rattle.im_eval_steps.proofs.Going.{went}

-- no function has that number
pub not_there : (code : Code) (n k : ℕ) (args : List o.Value) (s : State) (next : Values → Run Values) → length code.prog.now.funcs.items ≤ k
    → goes_on (called (setting_of code) (calls_of (setting_of code) n) n k args s) next ≡ Stops (Fails MissingResult)
not_there code n k args s next past =
    let types = code.prog.now.types in
    let funcs = code.prog.now.funcs.items in
    let count = length-mapped small_func (map (func_of types) funcs) ∙ length-mapped (func_of types) funcs in
    ap (λ f. goes_on (enters (setting_of code) (calls_of (setting_of code) n) n k f args s) next)
    (got-past (map small_func (map (func_of types) funcs)) k (subst (λ m. m ≤ k) (sym count) past))

module _ (code : Code) (n k : ℕ) (args : List o.Value) (here : Here) (ts : List Task) (f : Func) (s : State)
    (within : k < length code.prog.now.funcs.items) (same : f ≡ get_or code.prog.now.funcs.items k f) where
  abbrev next : Values → Run Values
  next vs = follows code n here ts (Valued vs)

  abbrev enters_body : Entered → Run Values
  enters_body = body_then (setting_of code) n k args s next (small_func (func_of code.prog.now.types f))

  enters_is : goes_on (called (setting_of code) (calls_of (setting_of code) n) n k args s) next ≡ goes_on (enters_function (setting_of code) k args s) enters_body
  enters_is =
      called_is (setting_of code) n k args s next (small_func (func_of code.prog.now.types f))
      (sym (got-mapped (func_of code.prog.now.types) small_func code.prog.now.funcs.items k f within same))

  pub not_entered : (why : Stopped) (m : Machine) → Halts why m (enters_function (setting_of code) k args s)
      → Halts why m (goes_on (called (setting_of code) (calls_of (setting_of code) n) n k args s) next)
  not_entered why m h = subst (Halts why m) (sym enters_is) (halts-on why m (enters_function (setting_of code) k args s) enters_body h)

  -- the body of the function, and the end of its activation
  abbrev ends_with : Here → ℕ → Stmt → Run Values
  ends_with inside depth body t =
      goes_on (does (around (setting_of code) (calls_of (setting_of code) n) inside.activation inside.depth inside.first) n (small_stmt (stmt_of code.prog.now.types body)) t)
      (λ flow u. goes_on (change (leaving inside.activation depth) u) (λ _. next (call_result (k == code.prog.now.main) flow)))

  pub is_entered : (inside : Here) (body : Bor Stmt) (depth : ℕ) (m : Machine) → body.now ≡ f.body → s.world.depth ≡ depth
      → Ends entered (Ok inside) m (enters_function (setting_of code) k args s)
      → let caller : Caller = record { function = k; here = here; depth = depth } in
      Goes code n inside ts (Ok (Before (Execute body) (Leave caller))) m (goes_on (called (setting_of code) (calls_of (setting_of code) n) n k args s) next)
  is_entered inside body depth m b d e =
      let caller : Caller = record { function = k; here = here; depth = depth } in
      let step = Before (Execute body) (Leave caller) in
      subst (Goes code n inside ts (Ok step) m) (sym enters_is)
      (went code n inside ts entered inside step m (enters_function (setting_of code) k args s) enters_body e
      (λ t. ap (λ x. ends_with inside depth x t) b ∙ ap (λ x. ends_with inside x f.body t) (sym d)))
