use Rattle.std.proofs.Common.{◌≡◌, IfOk, ap, subst, ◌∙◌}
use Rattle.im_ctree.specs.Tree as t
use Rattle.im_ctree.specs.declared.specifier.Specifiers.{out-Specifiers}
use Rattle.im_ctree.specs.Shape.{declarator_of, block_items_of}
use Rattle.im_check_name_map.specs.im_rules.Outline as o
use Rattle.im_ctree_parts.specs.Lists.{list_from}
use Rattle.im_check_outline.specs.Walked.{walk_of, with_outlined, outlined_of}
use Rattle.im_check_outline.proofs.Walks.{function-walk, body-outlined}
use Rattle.im_check_outline.proofs.walk.with_function.Goals as goal

pub returns : goal.returns
returns c =
    let f = c.args.f.now in
    let d = declarator_of f.declarator in
    let w = walk_of c.args.walk in
    let xs = list_from (out-Specifiers f.specifiers).items.items in
    let lists = rw c.deref.ensures.value at c.in_ok-behind.ensures in
    let one : outlined_of c.in_ok-one.one ≡ o.body_item d = c.in_ok-one.ensures ∙ body-outlined d c.name_of.result.now c.name_of.ensures in
    let made = ap (λ i. with_outlined i (walk_of c.in_ok-behind.behind)) one ∙ ap (with_outlined (o.body_item d)) lists in
    subst (λ z. IfOk c.with_item.result (λ new. walk_of new ≡ z)) (made ∙ function-walk f.specifiers d (t.block f.body.at (block_items_of f.body.items.items)) w) c.with_item.ensures
