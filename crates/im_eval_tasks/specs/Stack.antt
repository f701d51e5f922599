-- What comes of all that is still to do, in each activation.
use Rattle.std.specs.Prelude.{◌≡◌, ◌==◌, ℕ, List, [], ◌∷◌, reverse, drop, Ok, Err, pos}
use Rattle.std.specs.Prelude.{Result as Either}
use Rattle.im_ctype.specs.Table.{Table}
use Rattle.im_store.specs.declared.undefined.Undefined as causes
use Rattle.im_store.specs.Objects as o
use Rattle.im_store.specs.Pointers.{member_at}
use Rattle.im_typed.specs.Runs.{State, Fails, Answer, Stops, Run, ◌>>=◌, give, change, with_fuel, checked, in_store}
use Rattle.im_typed.specs.Values.{Values, scalar, number_of, used, write_at, changed, changed_kind}
use Rattle.im_typed.specs.Meaning.{Around, Flow, Next as NextFlow, change_store, does, forgotten, local, served, place_of, value_of}
use Rattle.im_typed.specs.Program.{Scalar}
use Rattle.im_typed.specs.Programs.{Setting, around, call_result, calls_of, leaving}
use Rattle.im_eval_store.specs.Shown.{shown}
use Rattle.im_eval_tasks.specs.declared.steps.Now.{Now}
use Rattle.im_eval_tasks.specs.declared.steps.Now.TheVariants.{Evaluate, Locate, Arguments, Serve as ServeNow, Execute, Forget, Statements, Pieces, Turn, Enter, Value as ValueNow, At as AtNow, Ended as EndedNow}
use Rattle.im_eval_tasks.specs.declared.steps.Next.{Next}
use Rattle.im_eval_tasks.specs.declared.steps.Next.TheVariants.{Just, Before}
use Rattle.im_eval_machine.specs.declared.here.Here.{Here}
use Rattle.im_eval_tasks.specs.declared.tasks.Task.{Task}
use Rattle.im_eval_tasks.specs.declared.tasks.Operand.{Operand}
use Rattle.im_eval_tasks.specs.declared.tasks.Operand.TheVariants.{Last, Left, Choose, Serve, Change, Target, Argument}
use Rattle.im_eval_tasks.specs.declared.tasks.Task.TheVariants.{Operand as OperandTask, Whole, Use as UseTask, At, Member, Rest as RestTask, Leave}
use Rattle.im_eval_machine.specs.Shown.{values}
use Rattle.im_eval_tasks.specs.Found.{flow}
use Rattle.im_eval_tasks.specs.Tasks.{place_in, expr_in, stmt_in, lasts, lefts, chooses, serves, wholes, ats, calls_on, takes_argument, initialises, does_left, loops, enters_body, uses, goes_after}

-- the value of an expression, a place, or the way in which a statement ended
pub data Completion : Type 0 where
  Valued : Values → Completion
  Placed : o.Value → Completion
  Flowed : Flow → Completion

-- the tasks of a stack, the next one first
abbrev pub pending : List Task → List Task
pending ts = reverse ts

module _ (types : Table) (g : Setting) (n : ℕ) where
  -- an activation, whose calls are bounded by n, which is to be at least the fuel
  abbrev pub in_activation : Here → Around
  in_activation h = around g (calls_of g n) h.activation h.depth h.first

  -- an operator of which an operand's value comes, which is used; the pointer to a place is no such operator
  abbrev pub operates : Here → Operand → o.Value → Run Values
  operates h (Last l) v = lasts l v
  operates h (Left l b) v = lefts types (in_activation h) l b v
  operates h (Choose a b) v = chooses types (in_activation h) a b v
  operates h (Serve service) v = serves types (in_activation h) service v
  operates h (Change at by before) v =
      checked (number_of v) >>= (λ z. changed (in_activation h).operates by (shown before) z >>= (λ w.
      write_at (Scalar (changed_kind by)) (shown at) (w ∷ []) >>= (λ _. scalar w)))
  operates h (Argument call) v = takes_argument types (in_activation h) call v
  operates h Target v = scalar v

  -- where a task leaves off: `next` is what follows it. A task that waits for something else is passed over
  abbrev pub operand_goes : Here → Operand → (Completion → Run Values) → o.Value → Run Values
  operand_goes h Target next v = next (Placed v)
  operand_goes h (Last l) next v = operates h (Last l) v >>= (λ vs. next (Valued vs))
  operand_goes h (Left l b) next v = operates h (Left l b) v >>= (λ vs. next (Valued vs))
  operand_goes h (Choose a b) next v = operates h (Choose a b) v >>= (λ vs. next (Valued vs))
  operand_goes h (Serve service) next v = operates h (Serve service) v >>= (λ vs. next (Valued vs))
  operand_goes h (Change at by before) next v = operates h (Change at by before) v >>= (λ vs. next (Valued vs))
  operand_goes h (Argument call) next v = operates h (Argument call) v >>= (λ vs. next (Valued vs))

  abbrev pub value_goes : Here → Task → (Completion → Run Values) → Values → Run Values
  value_goes h (Whole w) next vs = wholes types (in_activation h) w vs >>= (λ ws. next (Valued ws))
  value_goes h (UseTask u) next vs = uses types (in_activation h) n u vs >>= (λ f. next (Flowed f))
  value_goes h (At a) next vs = next (Valued vs)
  value_goes h (Member d) next vs = next (Valued vs)
  value_goes h (RestTask r) next vs = next (Valued vs)
  value_goes h (Leave caller) next vs = change (leaving h.activation caller.depth) >>= (λ _. next (Valued vs))
  value_goes h (OperandTask x) next vs = used vs >>= operand_goes h x next

  abbrev pub place_goes : Here → Task → (Completion → Run Values) → o.Value → Run Values
  place_goes h (At a) next v = ats types (in_activation h) a v >>= (λ vs. next (Valued vs))
  place_goes h (Member d) next v = in_store (λ store. member_at store d v) >>= (λ w. next (Placed w))
  place_goes h (Leave caller) next v = change (leaving h.activation caller.depth) >>= (λ _. next (Placed v))
  place_goes h (OperandTask x) next v = next (Placed v)
  place_goes h (Whole w) next v = next (Placed v)
  place_goes h (UseTask u) next v = next (Placed v)
  place_goes h (RestTask r) next v = next (Placed v)

  abbrev pub flow_goes : Here → Task → (Completion → Run Values) → Flow → Run Values
  flow_goes h (RestTask r) next f = goes_after types (in_activation h) n r f >>= (λ k. next (Flowed k))
  flow_goes h (Leave caller) next f =
      change (leaving h.activation caller.depth) >>= (λ _. next (Valued (call_result (caller.function == g.prog.main) f)))
  flow_goes h (OperandTask x) next f = next (Flowed f)
  flow_goes h (Whole w) next f = next (Flowed f)
  flow_goes h (UseTask u) next f = next (Flowed f)
  flow_goes h (At a) next f = next (Flowed f)
  flow_goes h (Member d) next f = next (Flowed f)

  abbrev pub task_goes : Here → Task → (Completion → Run Values) → Completion → Run Values
  task_goes h t next (Valued vs) = value_goes h t next vs
  task_goes h t next (Placed v) = place_goes h t next v
  task_goes h t next (Flowed f) = flow_goes h t next f

  -- the activation in which the tasks behind one are done
  abbrev pub behind : Here → Task → Here
  behind h (Leave caller) = caller.here
  behind h (OperandTask x) = h
  behind h (Whole w) = h
  behind h (UseTask u) = h
  behind h (At a) = h
  behind h (Member d) = h
  behind h (RestTask r) = h

  -- the tasks from there on
  abbrev pub continues : Here → List Task → Completion → Run Values
  continues h [] (Valued vs) = give vs
  continues h [] (Placed v) = give []
  continues h [] (Flowed f) = give []
  continues h (t ∷ ts) done = task_goes h t (λ d. continues (behind h t) ts d) done

  -- a run, and the tasks behind it with what it gives
  abbrev pub then_valued : Here → List Task → Run Values → Run Values
  then_valued h ts m = m >>= (λ vs. continues h ts (Valued vs))

  abbrev pub then_placed : Here → List Task → Run o.Value → Run Values
  then_placed h ts m = m >>= (λ v. continues h ts (Placed v))

  abbrev pub then_flowed : Here → List Task → Run Flow → Run Values
  then_flowed h ts m = m >>= (λ f. continues h ts (Flowed f))

  -- what is done next, and then the tasks
  abbrev pub runs : Here → List Task → Now → Run Values
  runs h ts (Evaluate e) = then_valued h ts (value_of (in_activation h) (expr_in types e))
  runs h ts (Locate a) = then_placed h ts (place_of (in_activation h) (place_in types a))
  runs h ts (Arguments call) = then_valued h ts (calls_on types (in_activation h) call)
  runs h ts (ServeNow service) = then_valued h ts (with_fuel (served (in_activation h).capacity service (pos 0)))
  runs h ts (Execute s) = then_flowed h ts (does (in_activation h) n (stmt_in types s))
  runs h ts (Forget x) =
      then_flowed h ts (change_store (forgotten (local (in_activation h) x)) >>= (λ _. give NextFlow))
  runs h ts (Statements ss) = then_flowed h ts (does_left types (in_activation h) n ss)
  runs h ts (Pieces i) = then_flowed h ts (initialises types (in_activation h) i.local i.pieces.now.items (drop i.next i.pieces.now.items))
  runs h ts (Turn l) = then_flowed h ts (loops types (in_activation h) n l)
  runs h ts (Enter l) = then_flowed h ts (enters_body types (in_activation h) n l)
  runs h ts (ValueNow found) = continues h ts (Valued (values found))
  runs h ts (AtNow v) = continues h ts (Placed (shown v))
  runs h ts (EndedNow ended) = continues h ts (Flowed (flow ended))

  -- what is done next, with the task that is left behind it
  abbrev pub leads : Here → List Task → Next → Run Values
  leads h ts (Just now) = runs h ts now
  leads h ts (Before now t) = runs h (t ∷ ts) now

  -- what follows in a state, or why nothing does
  abbrev pub Leads : Here → List Task → Either Next causes.Undefined → State → Answer Values → Type 0
  Leads h ts (Ok next) s r = leads h ts next s ≡ r
  Leads h ts (Err why) s r = r ≡ Stops (Fails why)
