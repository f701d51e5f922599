use Rattle.std.proofs.Common.{◌≡◌, IfOk, ap, subst, ◌∙◌}
use Rattle.im_ctree.specs.Shape.{init_declarators_of}
use Rattle.im_ctree.specs.declared.specifier.Specifiers.{out-Specifiers}
use Rattle.im_check_name_map.specs.im_rules.Outline as o
use Rattle.im_ctree_parts.specs.Lists.{list_from}
use Rattle.im_check_outline.specs.Walked.{walk_of}
use Rattle.im_check_outline.proofs.Walks.{declaration-walk}
use Rattle.im_check_outline.proofs.walk.with_declaration.Goals as goal

pub returns : goal.returns
returns c =
    let d = c.args.d.now in
    let ds = init_declarators_of d.declarators.items in
    let lists = rw c.deref.ensures.value at c.in_ok-behind.ensures in
    let declared = rw (c.deref-2.ensures.value, c.deref-3.ensures.value) at c.with_declarators.ensures in
    subst (λ z. IfOk c.with_declarators.result (λ new. walk_of new ≡ z)) (ap (o.with_declarators (list_from (out-Specifiers d.specifiers).items.items) ds) lists ∙ declaration-walk d.specifiers ds (walk_of c.args.walk)) declared
