use Rattle.std.proofs.Common.{take}
use Rattle.im_block.specs.declared.access.Access.{Access}
use Rattle.im_block.specs.Sections.{Has}
use Rattle.im_block.specs.Paths.{MeetAt}
use Rattle.im_dep.specs.Sites.{site_of_access}
use Rattle.im_cut.proofs.marks.first_met.Given as goal

-- none of the reads so far
abbrev pub invariant-loop-read : goal.invariant-loop-read
invariant-loop-read l = (r : Access) → Has (take l.read-index l.reads) r → MeetAt l.tags (site_of_access l.write) (site_of_access r) → ⊥
