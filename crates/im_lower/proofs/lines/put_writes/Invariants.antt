use Rattle.std.proofs.Common.{◌≡◌, ◌+◌, drop}
use Rattle.im_lower_plain.specs.Make.{put_writes}
use Rattle.im_lower.proofs.lines.put_writes.Given as goal

-- the writes of the cells from the index on stand
abbrev pub invariant-loop-index : goal.invariant-loop-index
invariant-loop-index l = l.code ≡ put_writes l.place (l.from + l.index) (drop l.index l.cells) l.initial.code
