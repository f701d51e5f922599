use Rattle.std.proofs.Common.{◌≡◌, ◌+◌, ◌++◌, length, drop}
use Rattle.im_frame.specs.Layout.{rooms}
use Rattle.im_select_addresses.specs.Statics.{objects_of}
use Rattle.im_pack.specs.Bytes.{statics_bytes}
use Rattle.im_pack.proofs.bytes.first_bytes.Given as goal

abbrev pub invariant-loop-part : goal.invariant-loop-part
invariant-loop-part l = record {
  made : l.bytes.items ++ statics_bytes l.addresses (drop l.part-index l.statics) ≡ statics_bytes l.addresses l.statics;
  size : length l.bytes.items + rooms (objects_of (drop l.part-index l.statics)) ≡ rooms (objects_of l.statics);
}
