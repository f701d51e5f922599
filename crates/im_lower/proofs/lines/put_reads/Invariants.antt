use Rattle.std.proofs.Common.{◌≡◌, ◌+◌, drop}
use Rattle.im_lower_plain.specs.Make.{put_reads}
use Rattle.im_lower.proofs.lines.put_reads.Given as goal

-- the reads of the cells from the index on stand
abbrev pub invariant-loop-index : goal.invariant-loop-index
invariant-loop-index l = l.code ≡ put_reads l.pointer (l.to + l.index) (drop l.index l.cells) l.initial.code
