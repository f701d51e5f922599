use Rattle.std.proofs.Common.{ℕ, drop}
use Rattle.im_block.specs.Wellformed.{accesses_of_blocks}
use Rattle.im_trial_middle.specs.Unplaced.{Leads}
use Rattle.im_trial_middle.proofs.numbers.behind_blocks.Given as goal

abbrev pub invariant-loop-block : goal.invariant-loop-block
invariant-loop-block l =
    (m : ℕ) → Leads l.next (accesses_of_blocks (drop l.block-index l.blocks)) m → Leads l.fn.number (accesses_of_blocks l.blocks) m
