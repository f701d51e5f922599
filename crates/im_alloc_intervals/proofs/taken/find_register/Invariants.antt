use Rattle.std.proofs.Common.{◌<◌, ℕ}
use Rattle.im_alloc_intervals.specs.Scans.{MayTake, IsUsedAt, register_at}
use Rattle.im_alloc_intervals.proofs.taken.find_register.Given as goal

abbrev pub invariant-loop-register : goal.invariant-loop-register
invariant-loop-register l = (r : ℕ) → 8 < r → r < l.register → MayTake r l.is_argument → IsUsedAt (register_at l.registers r) l.position
