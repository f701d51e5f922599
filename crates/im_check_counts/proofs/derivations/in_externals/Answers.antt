use Rattle.std.proofs.Common.{◌+◌, Some, None, List, drop, refl, sym, subst}
use Rattle.std.proofs.lemmas.List.{drop_all}
use Rattle.im_ctree.specs.Shape.{external_of, externals_of}
use Rattle.im_ctree.specs.declared.unit.External.{External}
use Rattle.im_check_counts.specs.Derivations.{Known, derived_by, derived_of, known_of, known_behind, IsWalked}
use Rattle.im_check_counts.proofs.Rest.{next}
use Rattle.im_check_counts.proofs.Derived.{walked_none, walked_front, walked_next}
use Rattle.im_check_counts.proofs.derivations.in_externals.Goals as goal

pub returns-in-Some : goal.returns-in-Some
returns-in-Some c =
    let xs = c.args.externals.now in
    let i = c.loop-external.external-index in
    let x = c.external-item.result in
    let known = known_of c.loop-external.known in
    let at = next xs i x c.loop-external-test.true c.external-item.is in
    let new = known_of c.in_external.new.known in
    c.loop-external.invariant new (Some c.in-Some.x) (subst (λ (z : List External). IsWalked known (derived_of known (externals_of z)) new (Some c.in-Some.x)) (sym at)
    (walked_front known (derived_by known (external_of x)) (derived_of (known_behind known (derived_by known (external_of x))) (externals_of (drop (i + 1) xs))) new new c.in-Some.x (rw c.in-Some.is at c.in_ok-x.ensures)))

pub loop-external-preserved : goal.loop-external-preserved
loop-external-preserved c = λ new found h.
    let xs = c.args.externals.now in
    let i = c.loop-external.external-index in
    let x = c.external-item.result in
    let known = known_of c.loop-external.known in
    let at = next xs i x c.loop-external-test.true c.external-item.is in
    let walked = rw c.in-None.is at c.in_ok-x.ensures in
    let rest = subst (λ (k : Known). IsWalked k (derived_of k (externals_of (drop (i + 1) xs))) new found) walked.1 h in
    c.loop-external.invariant new found (subst (λ (z : List External). IsWalked known (derived_of known (externals_of z)) new found) (sym at)
    (walked_next known (derived_by known (external_of x)) (derived_of (known_behind known (derived_by known (external_of x))) (externals_of (drop (i + 1) xs))) (known_behind known (derived_by known (external_of x))) new found (walked.0, refl) rest))

pub returns : goal.returns
returns c =
    let xs = c.args.externals.now in
    let known = known_of c.loop-external.known in
    c.loop-external.invariant known None (subst (λ (z : List External). IsWalked known (derived_of known (externals_of z)) known None) (sym (drop_all c.loop-external.external-index xs c.loop-external-test.false)) (walked_none known))
