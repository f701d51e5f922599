use Rattle.std.proofs.Common.{drop, ◌+◌, ap, ◌∙◌}
use Rattle.im_rules.specs.Rules.{named_in}
use Rattle.im_ctree_parts.specs.Lists.{list_from, specifier_in}
use Rattle.im_check_type_specifiers.specs.Lists.{with_named}
use Rattle.im_check_file_specifiers.proofs.Constants.{next}
use Rattle.im_check_file_specifiers.proofs.words.has_named.Goals as goal

pub returns-then-is_named : goal.returns-then-is_named
returns-then-is_named c =
    let s = c.specifier-item.result in
    let rest = list_from (drop (c.loop-specifier.specifier-index + 1) c.args.specifiers.now) in
    let at = next c.args.specifiers.now c.loop-specifier.specifier-index s c.loop-specifier-test.true c.specifier-item.is in (
      specifier_in s,
      named_in rest,
      c.loop-specifier.invariant ∙ ap (λ zs. named_in (list_from zs)) at ∙ c.is_named.ensures rest ∙ ap (λ b. with_named b (specifier_in s) (named_in rest)) c.if-is_named.true,
    )
