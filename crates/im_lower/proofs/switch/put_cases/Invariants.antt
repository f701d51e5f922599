use Rattle.std.proofs.Common.{◌≡◌, drop}
use Rattle.im_lower_plain.specs.MakeStatement.{put_cases}
use Rattle.im_lower.proofs.switch.put_cases.Given as goal

-- the comparisons with the labels from the index on stand
abbrev pub invariant-loop-index : goal.invariant-loop-index
invariant-loop-index l = l.code ≡ put_cases l.low l.kind (drop l.index l.cases) l.otherwise l.labels l.fn.code
