use Rattle.std.proofs.Common.{ℕ, ◌<◌}
use Rattle.im_alloc_intervals.specs.Marks.{Adds, IsBitOf}
use Rattle.im_alloc_intervals.proofs.marks.touch_words.Given as goal

abbrev pub invariant-loop-i : goal.invariant-loop-i
invariant-loop-i l = Adds (λ (v q : ℕ). (k : IsBitOf l.base l.words l.start v q) × (k.i < l.i)) l.initial.table l.table
