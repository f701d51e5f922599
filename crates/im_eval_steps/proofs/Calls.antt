-- A call is an activation that begins, its function's body, and the activation's end.
use Rattle.std.proofs.Common.{◌≡◌, ◌∙◌, refl, ap, sym, ℕ, ◌==◌, List, Bool, true, false}
use Rattle.std.specs.Prelude.{Some, nat_le, slice_get, ◌+◌}
use Rattle.im_store.specs.Objects.{Value}
use Rattle.im_typed.specs.Program.{Func}
use Rattle.im_typed.specs.Runs.{State, Run, goes_on, give, change, exhaust, either}
use Rattle.im_typed.specs.Values.{Values}
use Rattle.im_typed.specs.Meaning.{does}
use Rattle.im_typed.specs.Programs.{Setting, around, body_of, call_result, called, calls_of, enters, entering, frame_of, leaving}
use Rattle.im_eval_machine.specs.Activations.{Entered, begin_in, enter_one, enters_function, next_activation}
use Rattle.im_eval_tasks.proofs.Binds.{assoc}

either-alike : {A B : Type 0} (b : Bool) (m : Run A) (m' : Run B) (s : State) (f : A → Run Values) (g : B → Run Values)
    → goes_on (m s) f ≡ goes_on (m' s) g → goes_on (either b m exhaust s) f ≡ goes_on (either b m' exhaust s) g
either-alike true m m' s f g h = h
either-alike false m m' s f g h = refl

module _ (g : Setting) (n k : ℕ) (args : List Value) (s : State) (next : Values → Run Values) where
  -- the body of a function whose activation began, and what follows the call
  abbrev pub body_then : Func → Entered → Run Values
  body_then f e t =
      goes_on (does (around g (calls_of g n) e.activation e.depth e.first) n f.body t)
      (λ flow u. goes_on (change (leaving e.activation s.world.depth) u) (λ _. next (call_result (k == g.prog.main) flow)))

  in_room : (f : Func) → goes_on (body_of g (calls_of g n) n k f args s.world s) next ≡ goes_on (begin_in g k f args s.world s) (body_then f)
  in_room f =
      let e = next_activation g s.world k in
      let t : State = record { world = entering e.activation e.depth e.first f args s.world; fuel = s.fuel } in
      assoc (does (around g (calls_of g n) e.activation e.depth e.first) n f.body t)
      (λ flow u. goes_on (change (leaving e.activation s.world.depth) u) (λ _. give (call_result (k == g.prog.main) flow))) next

  pub called_is : (f : Func) → slice_get g.prog.funcs k ≡ Some f
      → goes_on (called g (calls_of g n) n k args s) next ≡ goes_on (enters_function g k args s) (body_then f)
  called_is f h =
      ap (λ x. goes_on (enters g (calls_of g n) n k x args s) next) h
      ∙ either-alike (nat_le (s.world.depth + frame_of g k) g.stack) (body_of g (calls_of g n) n k f args s.world) (begin_in g k f args s.world) s next (body_then f) (in_room f)
      ∙ sym (ap (λ x. goes_on (enter_one g k x args s) (body_then f)) h)
