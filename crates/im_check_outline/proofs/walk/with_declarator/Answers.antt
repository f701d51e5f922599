use Rattle.std.proofs.Common.{◌≡◌, IfOk, ap, subst, ◌∙◌}
use Rattle.im_ctree.specs.Shape.{declarator_of}
use Rattle.im_check_name_map.specs.im_rules.Outline as o
use Rattle.im_ctree_parts.specs.Lists.{list_from}
use Rattle.im_check_outline.specs.Walked.{walk_of, sort_of, with_outlined, with_function}
use Rattle.im_check_outline.proofs.Walks.{declared-walk, in-reversed}
use Rattle.im_check_outline.proofs.walk.with_declarator.Goals as goal

pub returns : goal.returns
returns c =
    let w = walk_of c.args.walk in
    let xs = list_from c.args.specifiers.now in
    let d = declarator_of c.args.d.now in
    let of_function = c.contains-of_function.ensures ∙ ap (λ x. o.is_in x c.args.walk.functions) c.typedef_in.ensures ∙ in-reversed (o.typedef_in xs) c.args.walk.functions in
    let function =
    c.gives_function-function.ensures
    ∙ ap (λ z. o.gives_function z c.contains-of_function.result) c.nearest.ensures
    ∙ ap (o.gives_function (o.nearest d)) of_function in
    let behind = c.in_ok-behind.ensures ∙ ap (λ b. with_function b c.name_of-name.result.now w) c.both.ensures in
    let one : o.Outlined = record { name = c.name_of-name.result.now; sort = sort_of c.sort_by.result; is_extern = c.is_extern.result; is_whole = c.args.is_whole } in
    let made = ap (λ x. with_outlined x (walk_of c.in_ok-behind.behind)) c.in_ok-one.ensures ∙ ap (with_outlined one) behind in
    let told =
    declared-walk
    xs
    d
    c.args.is_whole
    w
    c.gives_function-function.result
    c.is_typedef-typedef.result
    c.is_extern.result
    c.name_of-name.result.now
    (sort_of c.sort_by.result)
    function
    c.is_typedef-typedef.ensures
    c.is_extern.ensures
    c.name_of-name.ensures
    c.sort_by.ensures in
    subst (λ z. IfOk c.with_item.result (λ new. walk_of new ≡ z)) (made ∙ told) c.with_item.ensures
