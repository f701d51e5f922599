use Rattle.std.proofs.Common.{◌≡◌, ◌-◌, ◌*◌, drop}
use Rattle.im_lower_plain.specs.Make.{put_groups}
use Rattle.im_lower.proofs.copies.put_groups.Given as goal

-- the copies of the groups from this one on stand
abbrev pub invariant-loop-group : goal.invariant-loop-group
invariant-loop-group l = l.code ≡ put_groups l.pointer l.place (l.groups - l.group) (drop (8 * l.group) l.cells) l.fn.code
