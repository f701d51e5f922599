use Rattle.std.proofs.Common.{◌≡◌, ℕ, Some, sym, ap, subst}
use Rattle.std.specs.Prelude.{◌==◌}
use Rattle.im_block.specs.declared.code.Exit.{Exit}
use Rattle.im_cut_gap.specs.Starts.{RaisedWhere, turns_to, turn_cost}
use Rattle.im_cut_gap.proofs.Tables.{raised_none, raised_like}
use Rattle.im_cut_gap.proofs.starts.reach_behind.Goals as goal

pub returns-in-Turn-clause-raises : goal.returns-in-Turn-clause-raises
returns-in-Turn-clause-raises c =
    let cost : c.leave_cost.result ≡ turn_cost = c.leave_cost.ensures.cost in
    raised_like (λ d. c.in-Turn.to == d) (turns_to c.args.exit) (Some turn_cost) c.args.costs.now.items c.reach.new.costs.items (λ d. ap (λ (e : Exit). turns_to e d) (sym c.in-Turn.is))
    (subst (λ (n : ℕ). RaisedWhere (λ d. c.in-Turn.to == d) (Some n) c.args.costs.now.items c.reach.new.costs.items) cost c.reach.ensures.raises)

pub returns-in-Jump-clause-raises : goal.returns-in-Jump-clause-raises
returns-in-Jump-clause-raises c = raised_none (turns_to c.args.exit) (Some turn_cost) c.args.costs.now.items (λ d. ap (λ (e : Exit). turns_to e d) c.in-Jump.is)

pub returns-in-Branch-clause-raises : goal.returns-in-Branch-clause-raises
returns-in-Branch-clause-raises c = raised_none (turns_to c.args.exit) (Some turn_cost) c.args.costs.now.items (λ d. ap (λ (e : Exit). turns_to e d) c.in-Branch.is)

pub returns-in-Return-clause-raises : goal.returns-in-Return-clause-raises
returns-in-Return-clause-raises c = raised_none (turns_to c.args.exit) (Some turn_cost) c.args.costs.now.items (λ d. ap (λ (e : Exit). turns_to e d) c.in-Return.is)
