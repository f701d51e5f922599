use Rattle.std.proofs.Common.{◌≡◌, ◌≤◌, ◌+◌, ◌++◌, drop}
use Rattle.im_mem.specs.Map.{statics_start, statics_capacity}
use Rattle.im_frame.specs.Layout.{rooms, places_from}
use Rattle.im_select_addresses.specs.Statics.{objects_of}
use Rattle.im_select_addresses.proofs.placing.place_statics.Given as goal

abbrev pub invariant-loop-part : goal.invariant-loop-part
invariant-loop-part l = record {
  room : l.next + rooms (objects_of (drop l.part-index l.statics)) ≤ statics_start + statics_capacity;
  made : l.addresses.items ++ places_from l.next (objects_of (drop l.part-index l.statics)) ≡ places_from statics_start (objects_of l.statics);
}
