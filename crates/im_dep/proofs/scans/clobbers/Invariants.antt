use Rattle.std.proofs.Common.{take}
use Rattle.im_dep.specs.Exposed.{AreClobbers}
use Rattle.im_dep.proofs.Behind.{Written, Reads}
use Rattle.im_dep.proofs.scans.clobbers.Given as goal

-- what the accesses so far have written, their exposed reads, and the pairs
abbrev pub invariant-loop-access : goal.invariant-loop-access
invariant-loop-access l =
    record {
      written : Written l.tags (take l.access-index l.accesses) l.written.items;
      reads : Reads l.tags (take l.access-index l.accesses) l.reads.items;
      found : AreClobbers l.tags (take l.access-index l.accesses) l.found.items;
    }
