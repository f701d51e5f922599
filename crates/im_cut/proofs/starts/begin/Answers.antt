use Rattle.std.proofs.Common.{◌<◌, ◌≤◌, sym, ap, refl, length, arith}
use Rattle.im_cut.specs.declared.marks.Marks.{Marks as Known}
use Rattle.im_cut.proofs.Tables.{begins_out, begins_set}
use Rattle.im_cut.proofs.starts.begin.Goals as goal

pub returns-then-place-table-clause-begins : goal.returns-then-place-table-clause-begins
returns-then-place-table-clause-begins c =
    let le : length c.args.table.now ≤ c.args.number = omega arith in
    begins_out c.args.table.now c.args.number le

pub returns-clause-begins : goal.returns-clause-begins
returns-clause-begins c =
    let lt : c.args.number < length c.args.table.now = omega arith in
    begins_set c.args.table.now c.args.number c.index-table-place.result _ lt c.index-table-place.is refl (ap (λ (k : Known). k.written) (sym c.index-table-place.is)) (ap (λ (k : Known). k.exposed) (sym c.index-table-place.is))
