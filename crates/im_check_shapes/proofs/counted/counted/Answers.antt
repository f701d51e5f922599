use Rattle.std.proofs.Common.{◌≡◌, ap, sym, subst, ◌∙◌}
use Rattle.im_ctree.specs.Tree as t
use Rattle.im_ctree.specs.Shape.{initializer_of}
use Rattle.im_check_stop.specs.im_rules.Initialisers as n
use Rattle.im_ctree_parts.specs.Lists.{expression_in}
use Rattle.im_ctree_parts.proofs.Shapes.{list_tree}
use Rattle.im_types.specs.Shape.{type_of}
use Rattle.im_check_shapes.proofs.counted.counted.Goals as goal

pub returns-in-Value : goal.returns-in-Value
returns-in-Value c =
    let a = type_of c.args.element.now in
    let e : initializer_of c.args.i.now ≡ t.value_initializer (expression_in c.in-Value.e) = ap initializer_of c.in-Value.is in
    subst (λ (z : t.Initializer). c.counted_value.result ≡ n.counted a z) (sym e) (c.counted_value.ensures a)

pub returns-in-List : goal.returns-in-List
returns-in-List c =
    let e = ap initializer_of c.in-List.is ∙ list_tree c.in-List.field-0 c.in-List.items in
    rw e (rw c.deref.ensures.value at (c.counted_list.ensures c.in-List.field-0))
