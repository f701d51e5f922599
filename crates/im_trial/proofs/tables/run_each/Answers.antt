use Rattle.std.proofs.Common.{◌≡◌, length, subst, arith}
use Rattle.im_trial.specs.Judging.{AreTablesCounted, none_counted}
use Rattle.im_trial.proofs.Counting.{table_counted}
use Rattle.im_trial.proofs.tables.run_each.Goals as goal

pub loop-name-preserved : goal.loop-name-preserved
loop-name-preserved g c =
    table_counted c.loop-name.name-index none_counted c.loop-name.tally c.run_table.new.tally c.loop-name.invariant c.in_ok-run_table.ensures

pub returns : goal.returns
returns g c =
    let end : c.loop-name.name-index ≡ length c.args.names.now = omega arith in
    subst (λ n. AreTablesCounted n none_counted c.loop-name.tally) end c.loop-name.invariant
