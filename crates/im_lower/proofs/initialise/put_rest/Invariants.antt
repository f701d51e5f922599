use Rattle.std.proofs.Common.{◌≡◌, drop}
use Rattle.im_lower_plain.specs.MakeStatement.{put_rest}
use Rattle.im_lower.proofs.initialise.put_rest.Given as goal

-- the cells from the index on have their lines
abbrev pub invariant-loop-index : goal.invariant-loop-index
invariant-loop-index l = l.code ≡ put_rest l.low l.object l.given (drop l.index l.cells) l.initial.code
