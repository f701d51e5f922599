use Rattle.std.proofs.Common.{◌≡◌, ◌≤◌, drop, length, false}
use Rattle.im_eval_store.specs.Changes.{stands_in}
use Rattle.im_eval_store.proofs.object.stands_in.Given as goal

abbrev pub invariant-search : goal.invariant-search
invariant-search l = (l.left ≤ length l.given) × (stands_in l.offset (drop l.left l.given) ≡ false)

abbrev pub decreases-search : goal.decreases-search
decreases-search l = l.left
