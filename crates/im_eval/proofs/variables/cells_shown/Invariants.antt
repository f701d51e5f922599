use Rattle.std.proofs.Common.{◌≡◌, ℕ, take}
use Rattle.std.specs.Prelude.{Some}
use Rattle.im_store.specs.Objects.{Shape, Store, static}
use Rattle.im_store.specs.Outcomes as outcomes
use Rattle.im_eval_store.specs.Living.{Holds}
use Rattle.im_eval.specs.Shows.{AllStand}
use Rattle.im_eval.proofs.variables.cells_shown.Given as goal

abbrev pub invariant-loop-cell : goal.invariant-loop-cell
invariant-loop-cell l =
    (last : ℕ) (store : Store) (shape : Shape) → Holds l.memory last store → store.shape (static l.number) ≡ Some shape → AllStand shape.cells l.cells
    → l.values.items ≡ outcomes.cells_shown (store.values (static l.number)) (take l.cell-index l.cells)
