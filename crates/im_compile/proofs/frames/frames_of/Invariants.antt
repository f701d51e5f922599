use Rattle.std.proofs.Common.{◌≡◌, length}
use Rattle.im_compile.proofs.Rows.{Framed}
use Rattle.im_compile.proofs.frames.frames_of.Given as goal

abbrev pub invariant-loop-number : goal.invariant-loop-number
invariant-loop-number l = record {
  count : length l.frames.items ≡ l.number;
  framed : Framed l.names l.layouts l.frames.items;
}
