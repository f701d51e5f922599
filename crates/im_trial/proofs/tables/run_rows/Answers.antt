use Rattle.std.proofs.Common.{◌<◌, length, arith}
use Rattle.im_trial.proofs.Counting.{row_counted}
use Rattle.im_trial.proofs.tables.run_rows.Goals as goal

pub loop-row-preserved : goal.loop-row-preserved
loop-row-preserved g c =
    let within : c.loop-row.row-index < length c.args.rows.now = omega arith in
    row_counted c.args.rows.now c.loop-row.row-index c.row-item.result c.args.tally.now c.loop-row.tally c.run_row.new.tally within c.row-item.is c.loop-row.invariant c.in_ok-run_row.ensures.text c.in_ok-run_row.ensures.case
