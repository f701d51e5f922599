use Rattle.std.proofs.Common.{ℕ, List, subst}
use Rattle.std.specs.Prelude.{Vec}
use Rattle.std.specs.declared.alloc.Global.{Global}
use Rattle.im_block_live.proofs.Pointed.{linked}
use Rattle.im_block_live.specs.Words.{groups_have}
use Rattle.im_forward.specs.Straight.{AllStraighten}
use Rattle.im_forward.proofs.Functions.{closed_first}
use Rattle.im_forward.proofs.Straightening.{words_still, straight_ready, straight_twice}
use Rattle.im_forward.proofs.forwarding.straighten_twice.Goals as goal

pub straighten-requires-2-clause-words : goal.straighten-requires-2-clause-words
straighten-requires-2-clause-words c =
    let f = c.args.function.now in
    let g = c.straighten.new.function in
    let groups = c.in_ok-living.living.groups.items in
    let first = subst (λ (z : List (Vec ℕ Global)). AllStraighten (groups_have z) f g) c.deref.ensures.value c.in_ok-straighten.ensures in
    words_still (groups_have groups) f g groups c.deref-2.result.now c.deref-2.ensures.value first c.in_ok-living.ensures.words

pub straighten-requires-2-clause-linked : goal.straighten-requires-2-clause-linked
straighten-requires-2-clause-linked c =
    let f = c.args.function.now in
    let g = c.straighten.new.function in
    let groups = c.in_ok-living.living.groups.items in
    let first = subst (λ (z : List (Vec ℕ Global)). AllStraighten (groups_have z) f g) c.deref.ensures.value c.in_ok-straighten.ensures in
    linked g (straight_ready (groups_have groups) f g first c.requires).within

pub returns-clause-ready : goal.returns-clause-ready
returns-clause-ready c =
    let f = c.args.function.now in
    let g = c.straighten.new.function in
    let h = c.straighten-2.new.function in
    let live = groups_have c.in_ok-living.living.groups.items in
    let first = subst (λ (z : List (Vec ℕ Global)). AllStraighten (groups_have z) f g) c.deref.ensures.value c.in_ok-straighten.ensures in
    let second = subst (λ (z : List (Vec ℕ Global)). AllStraighten (groups_have z) g h) c.deref-2.ensures.value c.in_ok-straighten-2.ensures in
    straight_ready live g h second (straight_ready live f g first c.requires)

pub returns-clause-forwards : goal.returns-clause-forwards
returns-clause-forwards c =
    let f = c.args.function.now in
    let g = c.straighten.new.function in
    let h = c.straighten-2.new.function in
    let live = groups_have c.in_ok-living.living.groups.items in
    let first = subst (λ (z : List (Vec ℕ Global)). AllStraighten (groups_have z) f g) c.deref.ensures.value c.in_ok-straighten.ensures in
    let second = subst (λ (z : List (Vec ℕ Global)). AllStraighten (groups_have z) g h) c.deref-2.ensures.value c.in_ok-straighten-2.ensures in
    straight_twice live f g h c.requires.virtual (closed_first f live c.in_ok-living.ensures.live) first second
