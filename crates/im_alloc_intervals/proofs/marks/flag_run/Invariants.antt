use Rattle.std.proofs.Common.{◌≤◌, ◌<◌, ℕ}
use Rattle.im_alloc_intervals.specs.Marks.{Flags}
use Rattle.im_alloc_intervals.proofs.marks.flag_run.Given as goal

abbrev pub invariant-loop-register : goal.invariant-loop-register
invariant-loop-register l = Flags (λ (v : ℕ). (l.first ≤ v) × (v < l.register)) l.initial.flags l.flags
