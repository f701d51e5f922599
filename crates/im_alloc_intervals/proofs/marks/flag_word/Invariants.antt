use Rattle.std.proofs.Common.{◌≢◌, ℕ, Some}
use Rattle.im_alloc_intervals.specs.Marks.{Flags, IsBit}
use Rattle.im_alloc_intervals.proofs.marks.flag_word.Given as goal

abbrev pub invariant-loop-bit : goal.invariant-loop-bit
invariant-loop-bit l = Flags (λ (v : ℕ). IsBit l.bit l.base l.word v × (l.but ≢ Some v)) l.initial.flags l.flags
