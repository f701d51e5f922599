use Rattle.std.proofs.Common.{sym, ap, ◌∙◌}
use Rattle.im_ctree.specs.Typedefs.{has_typedef}
use Rattle.im_ctree_parts.specs.Lists.{list_from}
use Rattle.im_ctree_parts.proofs.NameFacts.{remembers_none, remembers_some}
use Rattle.im_parse_statement.proofs.names.remember.Goals as goal

pub returns-then-not-has_typedef : goal.returns-then-not-has_typedef
returns-then-not-has_typedef c = remembers_none c.args.names.now c.args.tree.now (ap (λ z. has_typedef (list_from z)) (sym c.deref.ensures.value) ∙ sym c.has_typedef.ensures ∙ c.if-not-has_typedef.true)

pub returns : goal.returns
returns c =
    let T = c.args.names.now in
    rw c.deref-2.ensures.value at c.in_ok-push_names.ensures
    ∙ remembers_some T c.args.tree.now (ap (λ z. has_typedef (list_from z)) (sym c.deref.ensures.value) ∙ sym c.has_typedef.ensures ∙ c.if-not-has_typedef.false)
