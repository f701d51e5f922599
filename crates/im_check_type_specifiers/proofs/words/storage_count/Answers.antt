use Rattle.std.proofs.Common.{◌+◌, length, drop, ap, arith, List}
use Rattle.im_ctree.specs.declared.specifier.Specifier.{Specifier}
use Rattle.im_check_scopes.specs.im_rules.Rules.{storage_in}
use Rattle.im_ctree_parts.specs.Lists.{list_from}
use Rattle.im_check_type_specifiers.proofs.Steps.{next}
use Rattle.im_check_type_specifiers.proofs.words.storage_count.Goals as goal

pub loop-specifier-preserved : goal.loop-specifier-preserved
loop-specifier-preserved c =
    let xs = c.args.specifiers.now in
    let i = c.loop-specifier.specifier-index in
    let F = (λ (xs : List Specifier). length (storage_in (list_from xs))) in
    let e = ap F (next xs i c.specifier-item.result c.loop-specifier-test.true c.specifier-item.is) in
    let s = c.storage_words-n.ensures.value (list_from (drop (i + 1) xs)) in
    (omega arith, omega (arith, e, s))
