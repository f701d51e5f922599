use Rattle.im_cmd_lines.specs.Reports.{cut_line}
use Rattle.im_cmd_lines.proofs.Joined.{item_first, item_sent}
use Rattle.im_cmd_lines.proofs.reports.send_cut_lines.Goals as goal

pub returns-in-Err : goal.returns-in-Err
returns-in-Err g c = item_first cut_line c.args.cuts.now c.loop-cut.cut-index c.cut-item.result _ _ _ c.loop-cut-test.true c.cut-item.is c.loop-cut.invariant c.in-Err.ensures

pub loop-cut-preserved : goal.loop-cut-preserved
loop-cut-preserved g c = item_sent cut_line c.args.cuts.now c.loop-cut.cut-index c.cut-item.result _ _ _ c.loop-cut-test.true c.cut-item.is c.loop-cut.invariant c.in-Ok.ensures
