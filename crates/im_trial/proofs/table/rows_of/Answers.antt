use Rattle.std.proofs.Common.{◌<◌, [], length, map, arith}
use Rattle.im_trial.specs.Tables.{said_of}
use Rattle.im_trial.proofs.Taking.{lines_more}
use Rattle.im_trial.proofs.table.rows_of.Goals as goal

pub loop-line-preserved : goal.loop-line-preserved
loop-line-preserved c =
    let lines = c.deref-line-items.result.now in
    let within : c.loop-line.line-index < length lines = omega arith in
    lines_more (map said_of c.loop-line.rows.items) (map said_of c.put_line.new.rows.items) lines c.loop-line.line-index record { ref_ptr = (0, 0); now = [] } _ within c.loop-line.invariant c.in_ok-put_line.ensures
