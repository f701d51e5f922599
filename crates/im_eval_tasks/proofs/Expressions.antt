-- A compound assignment is its place, and then its change; a pointer's move is its number of elements, and then the move.
use Rattle.std.proofs.Common.{◌≡◌, sym, ℕ, Bool, false}
use Rattle.std.specs.Prelude.{Box}
use denote.Bor.{Bor}
use Rattle.std.specs.declared.alloc.Global.{Global}
use Rattle.im_ctype.specs.Table.{Table}
use Rattle.im_store.specs.Pointers.{moved_by, bytes_moved}
use Rattle.im_store.specs.Objects as o
use Rattle.im_eval_store.specs.declared.value.Value.{Value as Held}
use Rattle.im_eval_store.specs.Shown.{shown}
use Rattle.im_typed.specs.declared.expression.Change.{Change}
use Rattle.im_typed.specs.declared.expression.Expr.{Expr}
use Rattle.im_typed.specs.Program as p
use Rattle.im_typed.specs.Runs.{State, Run, goes_on, ◌>>=◌, checked, in_store}
use Rattle.im_typed.specs.Values.{Values, scalar, used, number_of, number_in, update}
use Rattle.im_typed.specs.Meaning.{Around, value_of, place_of}
use Rattle.im_typed.specs.Programs.{Setting}
use Rattle.im_eval_machine.specs.declared.here.Here.{Here}
use Rattle.im_eval_tasks.specs.declared.tasks.Task.TheVariants as task
use Rattle.im_eval_tasks.specs.declared.tasks.At.TheVariants as at
use Rattle.im_eval_machine.specs.declared.operator.Last.TheVariants as last
use Rattle.im_eval_tasks.specs.declared.tasks.Operand.{Operand}
use Rattle.im_eval_tasks.specs.declared.tasks.Operand.TheVariants.{Last}
use Rattle.im_eval_tasks.specs.Tasks.{operand_in}
use Rattle.im_eval_tasks.specs.Stack.{Completion, Valued, in_activation, operand_goes, place_goes}
use Rattle.im_eval_tasks.proofs.Binds.{assoc, strict-number, looks}

module _ (types : Table) (g : Setting) (n : ℕ) (h : Here) (next : Completion → Run Values) (s : State) where
  abbrev c : Around
  c = in_activation types g n h

  abbrev on : Values → Run Values
  on vs = next (Valued vs)

  abbrev goes : Operand → o.Value → Run Values
  goes x = operand_goes types g n h x next

  pub update_ : (a : p.Place) (change : Change) (e : Bor (Box Expr Global))
      → goes_on (place_of c a s) (place_goes types g n h (task.At (at.Update change e)) next) ≡ goes_on (value_of c (p.Update a change (operand_in types e)) s) on
  update_ a change e =
      sym (assoc (place_of c a s) (update c.operates change false (number_in (value_of c (operand_in types e)))) on)

  -- the number of elements comes behind the pointer
  pub moved : (size : ℕ) (back : Bool) (at : Held) (e : p.Expr)
      → goes_on (value_of c e s) (λ vs t. goes_on (used vs t) (goes (Last (last.Move size back at))))
      ≡ goes_on (goes_on (goes_on (goes_on (value_of c e s) used) (λ v. checked (number_of v))) (λ m. in_store (λ store. moved_by store (bytes_moved size back m) (shown at)) >>= scalar)) on
  moved size back at e =
      sym (strict-number (value_of c e s)
      (λ m. in_store (λ store. moved_by store (bytes_moved size back m) (shown at)) >>= scalar)
      (goes (Last (last.Move size back at))) on
      (λ v t. looks (number_of v) (λ m store. moved_by store (bytes_moved size back m) (shown at)) t on))
