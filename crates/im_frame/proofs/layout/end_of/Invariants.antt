use Rattle.std.proofs.Common.{◌≡◌, ◌+◌, drop}
use Rattle.im_frame.specs.Layout.{rooms}
use Rattle.im_frame.proofs.layout.end_of.Given as goal

-- the objects that are left end where all do
abbrev pub invariant-loop-object : goal.invariant-loop-object
invariant-loop-object l = l.next + rooms (drop l.object-index l.objects) ≡ l.fn.start + rooms l.objects
