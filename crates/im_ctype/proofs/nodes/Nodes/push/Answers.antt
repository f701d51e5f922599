use Rattle.std.proofs.Common.{◌≡◌, ◌<◌, ◌^◌, ℕ, List, Some, length, cond, slice_get, sym, ap, ◌∙◌, subst, arith}
use Rattle.std.proofs.lemmas.Grind.{common_steps}
use Rattle.std.specs.HashMap as hash
use Rattle.im_ctype.specs.contracts.node.TypeNodePartialEq.TheImpl as node_eq
use Rattle.im_ctype.specs.declared.node.TypeNode.{TypeNode}
use Rattle.im_ctype.specs.Kept.{AreNodes}
use Rattle.im_ctype.specs.Numbered.{AreNumbered}
use Rattle.im_ctype.specs.Table.{IsEarlier}
use Rattle.im_ctype.proofs.Pushed.{nodes-pushed, numbers-pushed, numbers-kept}
use Rattle.im_ctype.proofs.nodes.Nodes.push.Goals as goal

pub invariant_of-self-in-Ok-insert : goal.invariant_of-self-in-Ok-insert
invariant_of-self-in-Ok-insert c = (
  are_nodes,
  subst
      (λ ns. AreNumbered ns c.insert.new.self)
      (sym c.in_ok-push.ensures.items)
      (numbers-pushed before c.args.node c.self.inside.numbers c.insert.new.self c.self.invariant.1 set),
)
  where
    before : List TypeNode
    before = c.self.inside.list.items

    absent : (i : ℕ) → slice_get before i ≡ Some c.args.node → ⊥
    absent = subst (λ (ns : List TypeNode). (i : ℕ) → slice_get ns i ≡ Some c.args.node → ⊥) (sym c.self.view_is) c.requires.absent

    earlier : IsEarlier (length before) c.args.node
    earlier = subst (λ (ns : List TypeNode). IsEarlier (length ns) c.args.node) (sym c.self.view_is) c.requires.earlier

    few : length before < 2 ^ 32
    few = grind arith

    are_nodes : AreNodes c.push.new.self.items
    are_nodes = subst AreNodes (sym c.in_ok-push.ensures.items) (nodes-pushed before c.args.node absent c.self.invariant.0 few earlier)

    number : c.in-Ok.number ≡ length before
    number = grind arith

    set : (m : TypeNode) → hash.get node_eq.eq-value.it c.insert.new.self m ≡ cond (node_eq.eq-value.it c.args.node m) (Some (length before)) (hash.get node_eq.eq-value.it c.self.inside.numbers m)
    set m = c.in-Ok-insert.ensures.updates.0 m ∙ ap (λ n. cond (node_eq.eq-value.it c.args.node m) (Some n) (hash.get node_eq.eq-value.it c.self.inside.numbers m)) number

pub invariant_of-self-in-Err : goal.invariant_of-self-in-Err
invariant_of-self-in-Err c =
    let same : c.pop.new.self.items ≡ c.self.inside.list.items = grind (arith, common_steps) in (
      subst AreNodes (sym same) c.self.invariant.0,
      subst (λ ns. AreNumbered ns c.insert.new.self) (sym same) (numbers-kept c.self.inside.list.items c.self.inside.numbers c.insert.new.self c.in-Err.ensures.err c.self.invariant.1),
    )

pub returns-in-Ok-insert-clause-kept : goal.returns-in-Ok-insert-clause-kept
returns-in-Ok-insert-clause-kept c = (invariant_of-self-in-Ok-insert c).0
