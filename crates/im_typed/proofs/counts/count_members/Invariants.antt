use Rattle.std.proofs.Common.{◌≡◌, ◌+◌, ◌-◌, ◌^◌, ◌≤◌, min}
use Rattle.im_store.specs.im_ctype.Table.{Table}
use Rattle.im_typed.specs.ProgramOf.{place_of}
use Rattle.im_typed.specs.declared.expression.Place.{size-Place}
use Rattle.im_typed.specs.Counts.{place_nodes}
use Rattle.im_typed.proofs.counts.count_members.Given as goal

abbrev pub invariant-loop-part : goal.invariant-loop-part
invariant-loop-part l =
    ((types : Table) → min (l.total + place_nodes (place_of types l.part)) (2 ^ 64 - 1)
    ≡ min (place_nodes (place_of types l.place)) (2 ^ 64 - 1))
    × (size-Place l.part ≤ size-Place l.place)
