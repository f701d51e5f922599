use Rattle.std.proofs.Common.{ℕ, List, subst}
use Rattle.std.specs.Prelude.{Vec}
use Rattle.std.specs.declared.alloc.Global.{Global}
use Rattle.im_block_live.proofs.Pointed.{linked}
use Rattle.im_block_live.specs.Words.{groups_have}
use Rattle.im_forward.specs.Known.{AllLeaveOut}
use Rattle.im_forward.proofs.Chained.{and_once}
use Rattle.im_forward.proofs.Functions.{within, forwards}
use Rattle.im_forward.proofs.forwarding.forward_function.Goals as goal

pub all_use_sources-requires : goal.all_use_sources-requires
all_use_sources-requires c = c.in_ok-straighten_twice.ensures.ready.received

pub live-requires : goal.live-requires
live-requires c = within c.straighten_twice.new.function c.all_use_sources.new.function c.in_ok-all_use_sources.ensures c.in_ok-straighten_twice.ensures.ready.within

pub all_leave_out-requires-clause-linked : goal.all_leave_out-requires-clause-linked
all_leave_out-requires-clause-linked c =
    linked c.all_use_sources.new.function (within c.straighten_twice.new.function c.all_use_sources.new.function c.in_ok-all_use_sources.ensures c.in_ok-straighten_twice.ensures.ready.within)

pub returns : goal.returns
returns c =
    let f = c.straighten_twice.new.function in
    let g = c.all_use_sources.new.function in
    and_once c.args.function.now f c.all_leave_out.new.function c.in_ok-straighten_twice.ensures.forwards
    (forwards f g c.all_leave_out.new.function (groups_have c.in_ok-living.living.groups.items) c.in_ok-straighten_twice.ensures.ready c.in_ok-all_use_sources.ensures c.in_ok-living.ensures.live
    (subst (λ (z : List (Vec ℕ Global)). AllLeaveOut (groups_have z) g c.all_leave_out.new.function) c.deref.ensures.value c.in_ok-all_leave_out.ensures))
