use Rattle.std.proofs.Common.{sym, ap, subst}
use Rattle.im_block.specs.declared.code.Exit.{Exit}
use Rattle.im_cut.specs.Blocks.{leads_to, HandsOn}
use Rattle.im_cut.proofs.Tables.{hands_nothing, hands_jump, hands_one, hands_two}
use Rattle.im_cut.proofs.joins.hand_on.Goals as goal

pub returns-in_ok-join_at-in-Jump-clause-hands : goal.returns-in_ok-join_at-in-Jump-clause-hands
returns-in_ok-join_at-in-Jump-clause-hands c =
    subst (λ (e : Exit). HandsOn c.args.tags.now e c.args.ends.now c.args.table.now.items c.join_at.new.table.items) (sym c.in-Jump.is)
    (hands_jump c.args.tags.now c.in-Jump.to c.args.ends.now c.args.table.now.items c.join_at.new.table.items c.in_ok-join_at-in-Jump.ensures.joins)

pub returns-then-fails-holds-clause-hands : goal.returns-then-fails-holds-clause-hands
returns-then-fails-holds-clause-hands c =
    subst (λ (e : Exit). HandsOn c.args.tags.now e c.args.ends.now c.args.table.now.items c.join_at-in-Branch.new.table.items) (sym c.in-Branch.is)
    (hands_one c.args.tags.now c.in-Branch.on c.in-Branch.holds c.in-Branch.fails c.args.ends.now c.args.table.now.items c.join_at-in-Branch.new.table.items (sym c.if-fails-holds.true) c.in_ok-join_at-in-Branch.ensures.joins)

pub returns-in_ok-join_at-in-Branch-2-clause-hands : goal.returns-in_ok-join_at-in-Branch-2-clause-hands
returns-in_ok-join_at-in-Branch-2-clause-hands c =
    subst (λ (e : Exit). HandsOn c.args.tags.now e c.args.ends.now c.args.table.now.items c.join_at-in-Branch-2.new.table.items) (sym c.in-Branch.is)
    (hands_two c.args.tags.now c.in-Branch.on c.in-Branch.holds c.in-Branch.fails c.args.ends.now c.args.table.now.items c.join_at-in-Branch.new.table.items c.join_at-in-Branch-2.new.table.items c.if-fails-holds.false c.in_ok-join_at-in-Branch.ensures.joins c.in_ok-join_at-in-Branch-2.ensures.joins)

pub returns-in-Turn-clause-hands : goal.returns-in-Turn-clause-hands
returns-in-Turn-clause-hands c = hands_nothing c.args.tags.now c.args.exit c.args.ends.now c.args.table.now.items (λ d. ap (λ (e : Exit). leads_to e d) c.in-Turn.is)

pub returns-in-Return-clause-hands : goal.returns-in-Return-clause-hands
returns-in-Return-clause-hands c = hands_nothing c.args.tags.now c.args.exit c.args.ends.now c.args.table.now.items (λ d. ap (λ (e : Exit). leads_to e d) c.in-Return.is)
