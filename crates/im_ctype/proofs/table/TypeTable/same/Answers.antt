use Rattle.std.proofs.Common.{◌≡◌, ◌<◌, nat_eq, length, subst, sym}
use Rattle.im_ctype.specs.Table.{Table, type_at}
use Rattle.im_ctype.specs.Types.{same_type}
use Rattle.im_ctype.proofs.Same.{same-by-number}
use Rattle.im_ctype.proofs.table.TypeTable.same.Goals as goal

pub returns : goal.returns
returns c =
    let v = c.self.view_is in
    let first = subst (λ (t : Table). c.args.first.0 < length t.nodes) (sym v) c.requires.first_in in
    let second = subst (λ (t : Table). c.args.second.0 < length t.nodes) (sym v) c.requires.second_in in
    subst (λ (t : Table). nat_eq c.args.first.0 c.args.second.0 ≡ same_type (type_at t c.args.first) (type_at t c.args.second)) v
    (same-by-number c.self.inside.nodes c.self.invariant.nodes c.args.first c.args.second first second)
