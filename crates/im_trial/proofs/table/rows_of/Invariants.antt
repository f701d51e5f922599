use Rattle.std.proofs.Common.{◌≡◌, [], drop, map}
use Rattle.im_trial.specs.Tables.{said_of}
use Rattle.im_trial.proofs.Taking.{rows_behind}
use Rattle.im_trial.proofs.table.rows_of.Given as goal

abbrev pub invariant-loop-line : goal.invariant-loop-line
invariant-loop-line l =
    rows_behind [] (map (λ line. line.now) l.line-items) ≡ rows_behind (map said_of l.rows.items) (map (λ line. line.now) (drop l.line-index l.line-items))
