use Rattle.std.proofs.Common.{sym, ◌∙◌}
use Rattle.im_ctree.specs.Shape.{init_declarators_of}
use Rattle.im_check_counts.specs.Derivations.{known_of}
use Rattle.im_check_counts.proofs.Derived.{no_typedef, a_typedef}
use Rattle.im_check_counts.proofs.derivations.in_declaration.Goals as goal

pub returns-then-not-is_typedef : goal.returns-then-not-is_typedef
returns-then-not-is_typedef c =
    let d = c.args.d.now in
    no_typedef (known_of c.args.known.now) d.specifiers (init_declarators_of d.declarators.items) (sym (rw c.deref.ensures.value at c.is_typedef.ensures) ∙ c.if-not-is_typedef.true)

pub returns : goal.returns
returns c =
    let d = c.args.d.now in
    a_typedef (known_of c.args.known.now) d.specifiers (init_declarators_of d.declarators.items) c.base_of-base.result (known_of c.in_declarators.new.known) c.in_declarators.result
    (sym (rw c.deref.ensures.value at c.is_typedef.ensures) ∙ c.if-not-is_typedef.false)
    (rw c.deref-2.ensures.value at c.base_of-base.ensures)
    (rw c.deref-3.ensures.value at c.in_declarators.ensures)
