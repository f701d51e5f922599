use Rattle.std.proofs.Common.{take}
use Rattle.im_dep.proofs.Behind.{Written, Found}
use Rattle.im_dep.proofs.scans.exposed.Given as goal

-- what the accesses so far have written, and their exposed reads
abbrev pub invariant-loop-access : goal.invariant-loop-access
invariant-loop-access l =
    record {
      written : Written l.tags (take l.access-index l.accesses) l.written.items;
      found : Found l.tags (take l.access-index l.accesses) l.found.items;
    }
