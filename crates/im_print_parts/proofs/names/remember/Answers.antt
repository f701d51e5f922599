use Rattle.std.proofs.Common.{sym, ap, ◌∙◌}
use Rattle.im_ctree.specs.Typedefs.{has_typedef}
use Rattle.im_ctree_parts.specs.Lists.{list_from}
use Rattle.im_print_parts.specs.Output.{known}
use Rattle.im_ctree_parts.proofs.NameFacts.{remembers_none, remembers_some}
use Rattle.im_print_parts.proofs.names.remember.Goals as goal

pub returns-then-not-has_typedef : goal.returns-then-not-has_typedef
returns-then-not-has_typedef c = remembers_none (known c.args.names.now.items) c.args.declaration.now (ap (λ z. has_typedef (list_from z)) (sym c.deref.ensures.value) ∙ sym c.has_typedef.ensures ∙ c.if-not-has_typedef.true)

pub returns : goal.returns
returns c =
    let T = known c.args.names.now.items in
    rw c.deref-2.ensures.value at c.in_ok-push_names.ensures
    ∙ remembers_some T c.args.declaration.now (ap (λ z. has_typedef (list_from z)) (sym c.deref.ensures.value) ∙ sym c.has_typedef.ensures ∙ c.if-not-has_typedef.false)
