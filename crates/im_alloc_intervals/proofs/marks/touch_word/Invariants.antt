use Rattle.std.proofs.Common.{◌≡◌, ℕ}
use Rattle.im_alloc_intervals.specs.Marks.{Adds, IsBit}
use Rattle.im_alloc_intervals.proofs.marks.touch_word.Given as goal

abbrev pub invariant-loop-bit : goal.invariant-loop-bit
invariant-loop-bit l = Adds (λ (v q : ℕ). IsBit l.bit l.base l.word v × (q ≡ l.position)) l.initial.table l.table
