use Rattle.std.proofs.Common.{◌+◌, ◌++◌, drop, sym, ap, ◌∙◌, append-nil, append_assoc}
use Rattle.std.proofs.lemmas.List.{drop_all}
use Rattle.im_ctree.specs.Shape.{declarator_of, init_declarators_of}
use Rattle.im_rules_limits.specs.Limits.{heads_of, heads_declared}
use Rattle.im_check_counts.specs.Heads.{heads_in}
use Rattle.im_check_counts.proofs.Rest.{next}
use Rattle.im_check_counts.proofs.heads.in_declarators.Goals as goal

pub loop-d-preserved : goal.loop-d-preserved
loop-d-preserved c =
    let ds = c.args.declarators.now in
    let i = c.loop-d.d-index in
    let d = c.d-item.result in
    let old = heads_in c.loop-d.found.items in
    let rest = heads_declared (init_declarators_of (drop (i + 1) ds)) in
    ap (λ z. z ++ rest) c.in_ok-in_declarator.ensures
    ∙ append_assoc old (heads_of (declarator_of d.declarator)) rest
    ∙ ap (λ z. old ++ heads_declared (init_declarators_of z)) (sym (next ds i d c.loop-d-test.true c.d-item.is))
    ∙ c.loop-d.invariant

pub returns : goal.returns
returns c =
    let ds = c.args.declarators.now in
    let found = heads_in c.loop-d.found.items in
    sym (append-nil found)
    ∙ ap (λ z. found ++ heads_declared (init_declarators_of z)) (sym (drop_all c.loop-d.d-index ds c.loop-d-test.false))
    ∙ c.loop-d.invariant
