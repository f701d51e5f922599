use Rattle.std.proofs.Common.{◌≡◌, ◌-◌, ◌^◌, min, sum_by, take, map}
use Rattle.im_store.specs.im_ctype.Table.{Table}
use Rattle.im_typed.specs.ProgramOf.{object_of}
use Rattle.im_typed.specs.Counts.{slot_bytes}
use Rattle.im_typed.proofs.counts.objects_bytes.Given as goal

abbrev pub invariant-loop-object : goal.invariant-loop-object
invariant-loop-object l =
    (types : Table) → l.total ≡ min (sum_by slot_bytes (map (object_of types) (take l.object-index l.objects))) (2 ^ 64 - 1)
