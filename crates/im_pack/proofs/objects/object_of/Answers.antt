use Rattle.std.proofs.Common.{◌≡◌, Some, subst, arith, List}
use Rattle.std.specs.Prelude.{slice_get}
use Rattle.im_ctype.specs.declared.cell.Cell.{Cell}
use Rattle.im_pack.proofs.Cells.{some_bytes}
use Rattle.im_pack.proofs.objects.object_of.Goals as goal

pub runs_of-requires : goal.runs_of-requires
runs_of-requires c = λ i d e.
    let h = c.requires.inside i d (subst (λ (z : List Cell). slice_get z i ≡ Some d) c.deref-2.ensures.value e) in
    let b = some_bytes d.kind in
    omega arith
