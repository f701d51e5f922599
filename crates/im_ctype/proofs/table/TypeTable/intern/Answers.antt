use Rattle.std.proofs.Common.{◌≡◌, subst, sym, length, List}
use Rattle.im_ctype.specs.declared.node.TypeNode.{TypeNode}
use Rattle.im_ctype.specs.Kept.{AreNodes, kept_extent}
use Rattle.im_ctype.specs.Table.{IsEarlier, IsSound}
use Rattle.im_ctype.specs.Layout.{layouts}
use Rattle.im_ctype.specs.Table.{Table, IsTypeOf, types_of, structs_of, type_of_node}
use Rattle.im_ctype.proofs.Grown.{type-pushed, grown-pushed, kept-with, is-type-found}
use Rattle.im_ctype.proofs.table.TypeTable.intern.Goals as goal

pub returns-in-Some-clause-type_is : goal.returns-in-Some-clause-type_is
returns-in-Some-clause-type_is c =
    subst (λ (t : Table). IsTypeOf t (type_of_node (types_of t) c.args.node) c.in-Some.found) c.self.view_is
    (is-type-found _ c.self.inside.extents.items _ c.args.node c.in-Some.found c.self.invariant c.in-Some.ensures.found)

pub invariant_of-self-in-Ok : goal.invariant_of-self-in-Ok
invariant_of-self-in-Ok c =
    let v = c.self.view_is in
    let grown = c.in-Ok.ensures.grown in
    let nodes = subst (λ (ns : List TypeNode). AreNodes ns) grown c.in-Ok.ensures.kept in
    let earlier = subst (λ (t : Table). IsEarlier (length t.nodes) c.args.node) (sym v) c.requires.earlier in
    let sound = subst (λ (t : Table). IsSound (length t.structs) (types_of t) c.args.node) (sym v) c.requires.sound in
    let extent = subst (λ (t : Table). c.args.extent ≡ kept_extent (layouts (structs_of t)) (type_of_node (types_of t) c.args.node)) (sym v) c.requires.extent_is in
    let kept = kept-with _ c.self.inside.extents.items _ c.args.node c.self.invariant c.args.extent nodes earlier sound extent in
    rw (grown, c.in_ok-push.ensures.items) kept

pub returns-in-Ok-clause-type_is : goal.returns-in-Ok-clause-type_is
returns-in-Ok-clause-type_is c =
    type-pushed c.args.self.now _ c.push-2.new.self c.self.inside.extents.items _ c.args.node c.in-Ok.ty c.self.invariant c.self.view_is c.in-Ok.ensures.grown c.in-Ok.ensures.number

pub returns-in-Ok-clause-grown : goal.returns-in-Ok-clause-grown
returns-in-Ok-clause-grown c =
    grown-pushed c.args.self.now _ c.push-2.new.self c.self.inside.extents.items _ c.args.node c.self.invariant c.self.view_is c.in-Ok.ensures.grown
