use Rattle.std.proofs.Common.{◌≡◌, ◌+◌, ◌++◌, drop}
use Rattle.im_frame.specs.Layout.{rooms, places_from}
use Rattle.im_frame.proofs.layout.places_of.Given as goal

-- the places so far, and those of the objects that are left
abbrev pub invariant-loop-object : goal.invariant-loop-object
invariant-loop-object l = record {
  end : l.next + rooms (drop l.object-index l.objects) ≡ l.fn.start + rooms l.objects;
  places : l.places.items ++ places_from l.next (drop l.object-index l.objects) ≡ places_from l.fn.start l.objects;
}
