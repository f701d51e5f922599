use Rattle.std.proofs.Common.{length, ◌-◌, ◌+◌, ◌≡◌, ◌≤◌, ◌<◌}
use Rattle.im_io.specs.Shelf.{Reading, WhereTold, SameCounts}
use Rattle.im_io.proofs.Reading.{SoFar}
use Rattle.im_io.proofs.whole.read_open.Given as goal

abbrev pub invariant-reads : goal.invariant-reads
invariant-reads g l =
    let state = g.H.Shelf.state in
    record {
      short : length l.bytes.items ≤ l.limit;
      buffer : 0 < length l.buffer;
      mode : (state l.shelf).mode ≡ Reading;
      counts : SameCounts (state l.fn.shelf) (state l.shelf);
      told : WhereTold (state l.fn.shelf).told (state l.shelf).told (SoFar l.bytes.items);
    }

abbrev pub decreases-reads : goal.decreases-reads
decreases-reads g l = l.limit + 1 - length l.bytes.items
