use Rattle.std.proofs.Common.{◌≡◌, ◌<◌, ℕ, length}
use Rattle.std.specs.Prelude.{slice_get}
use Rattle.im_alias.specs.Sets.{set_in}
use Rattle.im_alias.proofs.table.RegisterSets.copy.Given as goal

abbrev pub invariant-loop-set : goal.invariant-loop-set
invariant-loop-set l = record {
  count : length l.sets.items ≡ l.set-index;
  same : (r : ℕ) → r < l.set-index → set_in (slice_get l.sets.items r) ≡ set_in (slice_get l.set-items r);
}
