use Rattle.std.proofs.Common.{length, ◌-◌, ◌≡◌, ◌≤◌}
use Rattle.im_io.specs.Shelf.{Writing, WhereTold, SameCounts}
use Rattle.im_io.proofs.Files.{Holds}
use Rattle.im_io.proofs.whole.store.Given as goal

abbrev pub invariant-loop-stored : goal.invariant-loop-stored
invariant-loop-stored g l =
    let state = g.H.Shelf.state in
    record {
      some : l.stored ≤ length l.text;
      mode : (state l.shelf).mode ≡ Writing;
      counts : SameCounts (state l.fn.shelf) (state l.shelf);
      told : WhereTold (state l.fn.shelf).told (state l.shelf).told (Holds l.name l.text l.stored);
    }

abbrev pub decreases-loop-stored : goal.decreases-loop-stored
decreases-loop-stored g l = length l.text - l.stored
