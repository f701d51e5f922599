use Rattle.std.proofs.Common.{◌≡◌, ◌+◌, length, IfOk, ap, sym, ◌∙◌, subst}
use Rattle.im_ctree_parts.specs.Lists.{stars_in, suffixes_from}
use Rattle.im_check_counts.specs.Derivations.{derivations_by}
use Rattle.im_check_counts.proofs.Derived.{stars_counted, suffixes_counted}
use Rattle.im_check_counts.proofs.derivations.round_core.Goals as goal

pub returns : goal.returns
returns c =
    let stars = c.args.stars.now in
    let suffixes = c.args.suffixes.now in
    let same : length stars + length suffixes ≡ length (stars_in stars) + derivations_by (suffixes_from suffixes) =
    ap (λ n. n + length suffixes) (sym (stars_counted stars)) ∙ ap (λ n. length (stars_in stars) + n) (sym (suffixes_counted suffixes)) in
    subst (λ z. IfOk c.sum.result (λ n. n ≡ z)) same c.sum.ensures
