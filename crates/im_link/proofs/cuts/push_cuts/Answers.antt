use Rattle.std.proofs.Common.{◌≡◌, ◌<◌, length, rules}
use Rattle.im_link.proofs.Cutting.{cuts_begin, cuts_behind, cuts_end}
use Rattle.im_link.proofs.cuts.push_cuts.Goals as goal

pub loop-k-init : goal.loop-k-init
loop-k-init c parts first named cuts = cuts_begin parts c.args.part.now c.args.first _ first cuts

pub loop-k-preserved : goal.loop-k-preserved
loop-k-preserved c parts first named cuts =
    let within : c.loop-k.k < length c.args.part.now.lines.items = search rules in
    cuts_behind parts c.args.part.now c.args.first c.loop-k.k _ _ first within named c.in_ok-push_cut.ensures (c.loop-k.invariant parts first named cuts)

pub returns : goal.returns
returns c parts first named cuts =
    let all : c.loop-k.k ≡ length c.args.part.now.lines.items = search rules in
    cuts_end parts c.args.part.now c.args.first c.loop-k.k _ all (c.loop-k.invariant parts first named cuts)
