use Rattle.std.proofs.Common.{◌≡◌, ℕ, take}
use Rattle.im_store.specs.Objects.{Store, static}
use Rattle.im_store.specs.Outcomes as outcomes
use Rattle.im_eval_store.specs.Living.{Holds}
use Rattle.im_block_run.specs.Shown.{plain}
use Rattle.im_block_run.proofs.finish.cells_shown.Given as goal

abbrev pub invariant-loop-cell : goal.invariant-loop-cell
invariant-loop-cell l =
    (last : ℕ) (store : Store) → Holds l.memory last (plain store) → l.values.items ≡ outcomes.cells_shown (store.values (static l.number)) (take l.cell-index l.cells)
