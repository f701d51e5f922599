use Rattle.std.proofs.Common.{IfOk, ◌≡◌, [], ◌∷◌, ◌++◌, ◌+◌, drop, ap, subst, sym, ◌∙◌, append_assoc}
use Rattle.std.specs.Option.{option_map}
use Rattle.im_ctree.specs.Shape.{specifier_of}
use Rattle.im_check_name_map.specs.im_rules.Outline as o
use Rattle.im_ctree.specs.declared.specifier.Member.{out-Member}
use Rattle.im_ctree_parts.specs.Lists.{specifiers_in, members_from}
use Rattle.im_ctree_parts.proofs.Shapes.{struct_tree}
use Rattle.im_check_outline.proofs.Shapes.{member_lists}
use Rattle.im_check_outline.proofs.Walks.{next}
use Rattle.im_check_outline.proofs.lists.+lists.Goals as goal

pub with_members-loop-member-preserved : goal.with_members-loop-member-preserved
with_members-loop-member-preserved t c =
    let members = c.args.members.now in
    let before = c.loop-member.done in
    let item = c.member-item.result in
    let rest = o.lists_of_members (members_from (drop (c.loop-member.member-index + 1) members)) in
    let listed = o.lists_specified (specifiers_in (out-Member item).specifiers) in
    let here = next members c.loop-member.member-index item c.loop-member-test.true c.member-item.is in
    let done = rw c.deref.ensures.value at c.in_ok-done.ensures in
    ap (λ z. z ++ rest) done
    ∙ append_assoc before listed rest
    ∙ ap (λ z. before ++ z) (sym (member_lists item (members_from (drop (c.loop-member.member-index + 1) members))))
    ∙ ap (λ z. before ++ o.lists_of_members (members_from z)) (sym here)
    ∙ c.loop-member.invariant

pub with_specifier-returns-in_ok-before-in-Struct : goal.with_specifier-returns-in_ok-before-in-Struct
with_specifier-returns-in_ok-before-in-Struct t c =
    let at = c.args.specifier.now.at in
    let tag = option_map (λ name. name.items) c.in-Struct.tag in
    let lists = o.lists_of_members (members_from c.in-Struct.members.items) in
    let before = rw c.deref.ensures.value at c.in_ok-before-in-Struct.ensures in
    let made = ap (λ z. z ++ tag ∷ []) before ∙ append_assoc c.args.lists lists (tag ∷ []) in
    let told = ap (λ s. c.args.lists ++ o.lists_of s) (ap (specifier_of at) c.in-Struct.is ∙ struct_tree at c.in-Struct.tag c.in-Struct.members) in
    subst (λ z. IfOk c.with_tag.result (λ new. new ≡ z)) (made ∙ sym told) c.with_tag.ensures
