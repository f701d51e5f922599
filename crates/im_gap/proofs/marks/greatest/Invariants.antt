use Rattle.std.proofs.Common.{◌≡◌, ◌<◌, ◌≤◌, ◌⊎◌, ℕ, slice_index}
use Rattle.im_gap.specs.Search.{mark_at}
use Rattle.im_gap.specs.declared.marks.Mark.TheVariants.{Done}
use Rattle.im_gap.proofs.marks.greatest.Given as goal

abbrev pub invariant-loop-node : goal.invariant-loop-node
invariant-loop-node l = ((k h : ℕ) → k < l.node-index → mark_at l.marks (slice_index l.nodes k) ≡ Done h → h ≤ l.best) × ((l.best ≡ 0) ⊎ ((k : ℕ) × (k < l.node-index) × (mark_at l.marks (slice_index l.nodes k) ≡ Done l.best)))
