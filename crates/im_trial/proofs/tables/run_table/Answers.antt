use Rattle.std.proofs.Common.{subst}
use Rattle.im_trial.specs.Judging.{AreCounted, cases_in}
use Rattle.im_trial.proofs.tables.run_table.Goals as goal

pub returns : goal.returns
returns g c =
    let rows = c.in_ok-rows.rows.items in
    let same = c.deref-2.ensures.value in
    (c.deref.result.now, rows, c.in_ok-rows.ensures, subst (λ rows. AreCounted (cases_in rows) c.args.tally.now c.run_rows.new.tally) same c.in_ok-run_rows.ensures)
