use Rattle.im_trial.specs.Judging.{AreTablesCounted, none_counted}
use Rattle.im_trial.proofs.tables.run_each.Given as goal

abbrev pub invariant-loop-name : goal.invariant-loop-name
invariant-loop-name g l = AreTablesCounted l.name-index none_counted l.tally
