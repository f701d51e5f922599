use Rattle.std.proofs.Common.{take}
use Rattle.im_alias.specs.Ascending.{Adds}
use Rattle.im_alias.proofs.set.ObjectSet.add_all.Given as goal

-- the objects so far are in it
abbrev pub invariant-loop-object : goal.invariant-loop-object
invariant-loop-object l = Adds l.initial.self.members.items (take l.object-index l.object-items) l.self.members.items l.changed
