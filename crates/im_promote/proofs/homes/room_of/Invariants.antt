use Rattle.std.proofs.Common.{◌≡◌, ◌+◌, drop}
use Rattle.im_block.specs.Shape.{sum_of}
use Rattle.im_alloc_placed.specs.Placeable.{object_room}
use Rattle.im_promote.proofs.homes.room_of.Given as goal

abbrev pub invariant-loop-object : goal.invariant-loop-object
invariant-loop-object l = l.room + sum_of object_room (drop l.object-index l.objects) ≡ sum_of object_room l.objects
