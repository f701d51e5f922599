use Rattle.std.proofs.Common.{◌≡◌, subst, length}
use Rattle.im_ctype.specs.Table.{Table, IsSound, type_at, types_of, type_of_node}
use Rattle.im_ctype.proofs.Numbered.{type-of-node}
use Rattle.im_ctype.proofs.table.TypeTable.node.Goals as goal

pub returns-clause-type_is : goal.returns-clause-type_is
returns-clause-type_is c =
    subst (λ (t : Table). type_at t c.args.ty ≡ type_of_node (types_of t) c.get.result) c.self.view_is
    (type-of-node c.self.inside.nodes c.args.ty.0 c.get.result c.self.invariant.nodes c.get.ensures)

pub returns-clause-sound : goal.returns-clause-sound
returns-clause-sound c =
    subst (λ (t : Table). IsSound (length t.structs) (types_of t) c.get.result) c.self.view_is (c.self.invariant.sound c.args.ty.0 c.get.result c.get.ensures)
