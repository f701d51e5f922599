use Rattle.std.proofs.Common.{◌+◌, ◌++◌, drop, sym, ap, ◌∙◌, append-nil, append_assoc}
use Rattle.std.proofs.lemmas.List.{drop_all}
use Rattle.im_ctree.specs.Shape.{external_of, externals_of}
use Rattle.im_rules_limits.specs.Limits.{heads_external, function_heads}
use Rattle.im_check_counts.specs.Heads.{heads_in}
use Rattle.im_check_counts.proofs.Rest.{next}
use Rattle.im_check_counts.proofs.heads.in_externals.Goals as goal

pub loop-external-preserved : goal.loop-external-preserved
loop-external-preserved c =
    let xs = c.args.externals.now in
    let i = c.loop-external.external-index in
    let x = c.external-item.result in
    let old = heads_in c.loop-external.found.items in
    let rest = function_heads (externals_of (drop (i + 1) xs)) in
    ap (λ z. z ++ rest) c.in_ok-in_external.ensures
    ∙ append_assoc old (heads_external (external_of x)) rest
    ∙ ap (λ z. old ++ function_heads (externals_of z)) (sym (next xs i x c.loop-external-test.true c.external-item.is))
    ∙ c.loop-external.invariant

pub returns : goal.returns
returns c =
    let xs = c.args.externals.now in
    let found = heads_in c.loop-external.found.items in
    sym (append-nil found)
    ∙ ap (λ z. found ++ function_heads (externals_of z)) (sym (drop_all c.loop-external.external-index xs c.loop-external-test.false))
    ∙ c.loop-external.invariant
