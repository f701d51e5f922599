use Rattle.std.proofs.Common.{◌≡◌, ◌+◌, true, false, drop, sym, ap, ◌∙◌}
use Rattle.im_ctree.specs.Typedefs.{adds_type, has_type_from}
use Rattle.im_ctree_parts.specs.Lists.{list_from, specifier_in}
use Rattle.im_print_parts.proofs.Writing.{next}
use Rattle.im_print_parts.proofs.NameFacts.{type_stays}
use Rattle.im_print_parts.proofs.names.has_type.Goals as goal

pub returns-then-is_type : goal.returns-then-is_type
returns-then-is_type c =
    let xs = c.args.specifiers.now in
    let i = c.loop-specifier.specifier-index in
    let x = c.specifier-item.result in
    let adds : adds_type false (specifier_in x) ≡ true = c.is_type.ensures false ∙ c.if-is_type.true in
    sym (c.loop-specifier.invariant
    ∙ ap (λ z. has_type_from false (list_from z)) (next xs i x c.loop-specifier-test.true c.specifier-item.is)
    ∙ ap (λ b. has_type_from b (list_from (drop (i + 1) xs))) adds
    ∙ type_stays (list_from (drop (i + 1) xs)))
