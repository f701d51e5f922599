use Rattle.std.proofs.Common.{sym, ap, subst}
use Rattle.im_block.specs.declared.code.Exit.{Exit}
use Rattle.im_cut_gap.specs.Starts.{leads_to, RaisedWhere}
use Rattle.im_cut_gap.proofs.Tables.{raised_none, raised_jump, raised_branch}
use Rattle.im_cut_gap.proofs.starts.hand_on.Goals as goal

pub returns-in-Jump-clause-raises : goal.returns-in-Jump-clause-raises
returns-in-Jump-clause-raises c =
    subst (λ (e : Exit). RaisedWhere (leads_to e) c.args.end c.args.costs.now.items c.reach.new.costs.items) (sym c.in-Jump.is)
    (raised_jump c.in-Jump.to c.args.end c.args.costs.now.items c.reach.new.costs.items c.reach.ensures.raises)

pub returns-in-Branch-clause-raises : goal.returns-in-Branch-clause-raises
returns-in-Branch-clause-raises c =
    subst (λ (e : Exit). RaisedWhere (leads_to e) c.args.end c.args.costs.now.items c.reach-in-Branch-2.new.costs.items) (sym c.in-Branch.is)
    (raised_branch c.in-Branch.on c.in-Branch.holds c.in-Branch.fails c.args.end c.args.costs.now.items c.reach-in-Branch.new.costs.items c.reach-in-Branch-2.new.costs.items c.reach-in-Branch.ensures.raises c.reach-in-Branch-2.ensures.raises)

pub returns-in-Turn-clause-raises : goal.returns-in-Turn-clause-raises
returns-in-Turn-clause-raises c = raised_none (leads_to c.args.exit) c.args.end c.args.costs.now.items (λ d. ap (λ (e : Exit). leads_to e d) c.in-Turn.is)

pub returns-in-Return-clause-raises : goal.returns-in-Return-clause-raises
returns-in-Return-clause-raises c = raised_none (leads_to c.args.exit) c.args.end c.args.costs.now.items (λ d. ap (λ (e : Exit). leads_to e d) c.in-Return.is)
