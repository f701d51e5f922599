use Rattle.std.proofs.Common.{length, take, ◌-◌, ◌≡◌, ◌≤◌}
use Rattle.im_io.specs.Sink.{Appended}
use Rattle.im_io.proofs.whole.send.Given as goal

abbrev pub invariant-loop-sent : goal.invariant-loop-sent
invariant-loop-sent g l =
    let state = g.S.Sink.state in
    record {
      some : l.sent ≤ length l.text;
      taken : Appended (take l.sent l.text) (state l.fn.sink).contents (state l.sink).contents;
      faults : (state l.sink).faults ≡ (state l.fn.sink).faults;
    }

abbrev pub decreases-loop-sent : goal.decreases-loop-sent
decreases-loop-sent g l = length l.text - l.sent
