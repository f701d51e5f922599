-- A struct that is read for an assignment: its place, then the check, then what stands there.
use Rattle.std.proofs.Common.{◌≡◌, ◌∙◌, ap, sym, ℕ, List, Bool, true}
use Rattle.im_ctype.specs.declared.cell.Cell.{Cell}
use Rattle.im_store.specs.Objects as o
use Rattle.im_typed.specs.Meaning.{Around, is_read, place_of, source_of, stored, value_of}
use Rattle.im_typed.specs.Program as p
use Rattle.im_typed.specs.Runs.{State, Run, goes_on}
use Rattle.im_typed.specs.Values.{Values}
use Rattle.im_eval_machine.specs.Steps.{read_for}
use Rattle.im_eval_tasks.proofs.Binds.{assoc-twice}

module _ (c : Around) (count : ℕ) (cells : List Cell) (at : o.Value) (e : p.Expr) (store k : Values → Run Values) (s : State) where
  abbrev x : p.Access
  x = p.Struct count cells

  -- from its place on
  pub source-comes : (a : p.Place) → is_read e ≡ true → source_of c e ≡ place_of c a
      → goes_on (place_of c a s) (λ v t. goes_on (goes_on (read_for x at v t) store) k) ≡ goes_on (goes_on (stored x at (is_read e) (value_of c e) (source_of c e) s) store) k
  source-comes a reads from =
      assoc-twice (place_of c a s) (read_for x at) store k
      ∙ sym (ap (λ (b : Bool). goes_on (goes_on (stored x at b (value_of c e) (source_of c e) s) store) k) reads
      ∙ ap (λ (m : Run o.Value). goes_on (goes_on (stored x at true (value_of c e) m s) store) k) from)
