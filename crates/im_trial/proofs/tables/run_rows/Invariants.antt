use Rattle.std.proofs.Common.{take}
use Rattle.im_trial.specs.Judging.{AreCounted, cases_in}
use Rattle.im_trial.proofs.tables.run_rows.Given as goal

abbrev pub invariant-loop-row : goal.invariant-loop-row
invariant-loop-row g l = AreCounted (cases_in (take l.row-index l.rows)) l.initial.tally l.tally
