use Rattle.std.proofs.Common.{◌≡◌, ◌+◌, List, drop, ap, arith}
use Rattle.std.proofs.lemmas.List.{drop_all}
use Rattle.im_check_outline.specs.im_rules.Terms.{kind_in}
use Rattle.im_rules_limits.specs.Limits.{words_of, words_in}
use Rattle.im_types.specs.declared.tree.Type as rust
use Rattle.im_types.specs.Shape.{type_of, types_in}
use Rattle.im_check_counts.proofs.Rest.{next}
use Rattle.im_check_counts.proofs.words.words_in.Goals as goal

pub loop-parameter-preserved : goal.loop-parameter-preserved
loop-parameter-preserved c =
    let ps = c.args.parameters.now in
    let i = c.loop-parameter.parameter-index in
    let p = c.parameter-item.result in
    let at : words_in (types_in (drop i ps)) ≡ words_of (kind_in (type_of p)) + words_in (types_in (drop (i + 1) ps)) =
    ap (λ (zs : List rust.Type). words_in (types_in zs)) (next ps i p c.loop-parameter-test.true c.parameter-item.is) in
    let one = c.word_count.ensures in
    let more = c.in_ok-more.ensures in
    let all = c.loop-parameter.invariant in
    omega (arith, at, one, more, all)

pub returns : goal.returns
returns c =
    let ps = c.args.parameters.now in
    let i = c.loop-parameter.parameter-index in
    let at : words_in (types_in (drop i ps)) ≡ 0 = ap (λ (zs : List rust.Type). words_in (types_in zs)) (drop_all i ps c.loop-parameter-test.false) in
    let all = c.loop-parameter.invariant in
    omega (arith, at, all)
