use Rattle.std.proofs.Common.{◌≡◌, ℕ, drop}
use Rattle.im_store.specs.Access.{write_cells}
use Rattle.im_store.specs.Objects.{Store}
use Rattle.im_eval_store.specs.Living.{Holds}
use Rattle.im_eval_store.specs.Shown.{object_of}
use Rattle.im_eval_machine.specs.Shown.{values}
use Rattle.im_eval_machine.proofs.access.write_struct.Given as goal

abbrev pub invariant-loop-number : goal.invariant-loop-number
invariant-loop-number l =
    (last : ℕ) (store : Store) → Holds l.fn.memory last store
    → (mid : Store) × Holds l.memory last mid
    × (write_cells store (object_of l.place.object) l.place.offset l.cells (values l.found)
    ≡ write_cells mid (object_of l.place.object) l.place.offset (drop l.number l.cells) (drop l.number (values l.found)))
