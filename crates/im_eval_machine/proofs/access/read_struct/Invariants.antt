use Rattle.std.proofs.Common.{◌≡◌, ◌++◌, ℕ, drop}
use Rattle.im_store.specs.Access.{read_cells}
use Rattle.im_store.specs.Checks.{Fine, then_}
use Rattle.im_store.specs.Objects.{Store}
use Rattle.im_eval_store.specs.Living.{Holds}
use Rattle.im_eval_store.specs.Shown.{object_of}
use Rattle.im_eval_machine.specs.Shown.{shown_all}
use Rattle.im_eval_machine.proofs.access.read_struct.Given as goal

abbrev pub invariant-loop-cell : goal.invariant-loop-cell
invariant-loop-cell l =
    (last : ℕ) (store : Store) → Holds l.memory last store
    → read_cells store (object_of l.place.object) l.place.offset l.cells
    ≡ then_ (read_cells store (object_of l.place.object) l.place.offset (drop l.cell-index l.cells)) (λ vs. Fine (shown_all l.values.items ++ vs))
