use Rattle.std.proofs.Common.{◌≡◌, ◌≤◌, ◌<◌, ℕ, drop, get_or, length, map}
use Rattle.im_store.specs.Statics.{value_at}
use Rattle.im_block.specs.Meaning.{constant}
use Rattle.im_eval_store.specs.declared.value.Value.TheVariants.{Unset}
use Rattle.im_eval_store.specs.Shown.{shown}
use Rattle.im_block_run.proofs.start.set_cells.Given as goal

abbrev pub invariant-fill : goal.invariant-fill
invariant-fill l =
    (l.left ≤ length l.cells) × (l.left ≤ length l.constants) × (l.object.plan ≡ l.fn.object.plan)
    × (((i : ℕ) → get_or l.fn.object.values.items i Unset ≡ Unset) → (i : ℕ) → i < length l.fn.object.plan.now.kinds.items
    → shown (get_or l.object.values.items i Unset) ≡ value_at (drop l.left l.cells) (map constant (drop l.left l.constants)) i)

abbrev pub decreases-fill : goal.decreases-fill
decreases-fill l = l.left
