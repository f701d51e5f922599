use Rattle.std.proofs.Common.{◌+◌, ap, ◌∙◌}
use Rattle.im_ctree.specs.Shape.{declarator_of}
use Rattle.im_check_counts.proofs.Declarators.{token_of}
use Rattle.im_check_counts.proofs.Derived.{from_parts}
use Rattle.im_check_counts.proofs.derivations.derived.Goals as goal

pub returns : goal.returns
returns c =
    let base = c.args.base in
    from_parts base (declarator_of c.args.d.now) _ _ _ (c.in_ok-count.ensures ∙ ap (λ n. base + n) c.in_ok-more.ensures) (token_of c.args.d.now) c.name_of.ensures
