use Rattle.std.proofs.Common.{◌+◌, Some, None, List, drop, sym, subst}
use Rattle.std.proofs.lemmas.List.{drop_all}
use Rattle.im_check_scopes.specs.Shape.{scopes_of}
use Rattle.im_check_counts.specs.declared.heads.Head.{Head}
use Rattle.im_check_counts.specs.Crowded.{IsCrowdedIn}
use Rattle.im_check_counts.specs.Heads.{head_of, heads_in}
use Rattle.im_check_counts.proofs.Rest.{next}
use Rattle.im_check_counts.proofs.Found.{crowded_here, crowded_behind, none_crowded}
use Rattle.im_check_counts.proofs.crowded.first_crowded.Goals as goal

pub returns-in-Some : goal.returns-in-Some
returns-in-Some c =
    let g = scopes_of c.args.scope.now in
    let hs = c.args.heads.now in
    let i = c.loop-head.head-index in
    let h = c.head-item.result in
    let at = next hs i h c.loop-head-test.true c.head-item.is in
    c.loop-head.invariant (Some c.in-Some.function) (subst (λ (z : List Head). IsCrowdedIn g (heads_in z) (Some c.in-Some.function)) (sym at)
    (crowded_here g (head_of h) (heads_in (drop (i + 1) hs)) c.in-Some.function (rw c.in-Some.is at c.in_ok-function.ensures)))

pub loop-head-preserved : goal.loop-head-preserved
loop-head-preserved c = λ r rest.
    let g = scopes_of c.args.scope.now in
    let hs = c.args.heads.now in
    let i = c.loop-head.head-index in
    let h = c.head-item.result in
    let at = next hs i h c.loop-head-test.true c.head-item.is in
    c.loop-head.invariant r (subst (λ (z : List Head). IsCrowdedIn g (heads_in z) r) (sym at)
    (crowded_behind g (head_of h) (heads_in (drop (i + 1) hs)) r (rw c.in-None.is at c.in_ok-function.ensures) rest))

pub returns : goal.returns
returns c =
    let g = scopes_of c.args.scope.now in
    let hs = c.args.heads.now in
    c.loop-head.invariant None (subst (λ (z : List Head). IsCrowdedIn g (heads_in z) None) (sym (drop_all c.loop-head.head-index hs c.loop-head-test.false)) (none_crowded g))
