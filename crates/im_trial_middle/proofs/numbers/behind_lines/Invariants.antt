use Rattle.std.proofs.Common.{ℕ, drop}
use Rattle.im_block.specs.Wellformed.{accesses_of_lines}
use Rattle.im_trial_middle.specs.Unplaced.{Leads}
use Rattle.im_trial_middle.proofs.numbers.behind_lines.Given as goal

abbrev pub invariant-loop-line : goal.invariant-loop-line
invariant-loop-line l =
    (m : ℕ) → Leads l.next (accesses_of_lines (drop l.line-index l.lines)) m → Leads l.fn.number (accesses_of_lines l.lines) m
