use Rattle.std.proofs.Common.{◌≡◌, ◌+◌, take, drop}
use Rattle.im_lower_plain.specs.MakeStatement.{put_parameters}
use Rattle.im_lower.proofs.functions.put_parameters.Given as goal

-- the writes of the parameters from the index on stand
abbrev pub invariant-loop-index : goal.invariant-loop-index
invariant-loop-index l =
    l.code ≡ put_parameters (l.first + l.index) l.index (drop l.index (take l.params l.objects)) l.initial.code
