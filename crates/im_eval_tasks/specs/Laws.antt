-- What holds of tasks, whatever they are of.
use Rattle.std.specs.Prelude.{◌≡◌, ◌≤◌, ℕ, List}
use Rattle.im_ctype.specs.Table.{Table}
use Rattle.im_store.specs.Objects.{Value}
use Rattle.im_typed.specs.Meaning.{Around, value_of}
use Rattle.im_typed.specs.Program.{Prog}
use Rattle.im_typed.specs.Programs.{Setting, called, calls_of}
use Rattle.im_typed.specs.Runs.{State, ◌>>=◌, with_fuel}
use Rattle.im_typed.specs.Typing.{IsWellTyped}
use Rattle.im_eval_machine.specs.declared.here.Here.{Here}
use Rattle.im_eval_tasks.specs.declared.tasks.Loop.{Loop}
use Rattle.im_eval_tasks.specs.declared.tasks.Use.TheVariants.{Turn}
use Rattle.im_eval_machine.specs.Small.{small_prog}
use Rattle.im_eval_tasks.specs.Stack.{in_activation}
use Rattle.im_eval_tasks.specs.Tasks.{expr_in, loops, uses}

-- the numbers of a well-typed program have at most 64 bits
abbrev pub SmallViewLaw : Type 0
SmallViewLaw = (g : Prog) → IsWellTyped g → small_prog g ≡ g

-- where as many turns are allowed as there is fuel, a loop is its test, and then a turn with as many allowed behind it
abbrev pub TurnLaw : Type 0
TurnLaw =
    (types : Table) (g : Setting) (n : ℕ) (h : Here) (l : Loop) (s : State) → s.fuel ≤ n
    → let c : Around = in_activation types g n h in
    loops types c n l s ≡ (value_of c (expr_in types l.test) >>= uses types c n (Turn l)) s

-- and where calls may be as deep as there is fuel, a call is a unit of fuel, and then its function with calls as deep
abbrev pub CallLaw : Type 0
CallLaw =
    (g : Setting) (n k : ℕ) (args : List Value) (s : State) → s.fuel ≤ n
    → calls_of g n k args s ≡ with_fuel (called g (calls_of g n) n k args) s
