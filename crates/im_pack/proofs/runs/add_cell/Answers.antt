use Rattle.std.proofs.Common.{sym, ◌∙◌}
use Rattle.im_pack.proofs.Steps.{grown, one_more_run}
use Rattle.im_pack.proofs.runs.add_cell.Goals as goal

pub returns-in_ok-push-2 : goal.returns-in_ok-push-2
returns-in_ok-push-2 c = grown _ _ _ _ _ c.in-Some.ensures.items (sym c.goes_on.ensures ∙ c.if-goes_on.true) c.in_ok-push-2.ensures.items

pub returns-in_ok-push-4 : goal.returns-in_ok-push-4
returns-in_ok-push-4 c = one_more_run c.args.runs.now.items c.pop.new.self.items c.push-else-goes_on.new.self.items c.push-else-goes_on-2.new.self.items c.in-Some.last c.args.cell c.in-Some.ensures.items (sym c.goes_on.ensures ∙ c.if-goes_on.false) c.in_ok-push-3.ensures.items (cc (c.in_ok-push-4.ensures.items, c.one_cell-else-goes_on.ensures))
