use Rattle.std.proofs.Common.{take}
use Rattle.im_dep.specs.Exposed.{AddsMet}
use Rattle.im_dep.proofs.scans.push_met.Given as goal

-- the pairs of the reads so far are added
abbrev pub invariant-loop-read : goal.invariant-loop-read
invariant-loop-read l = AddsMet l.tags (take l.read-index l.reads) l.write l.initial.found.items l.found.items
