use Rattle.std.proofs.Common.{ℕ}
use Rattle.im_block.specs.Meaning as m
use Rattle.im_block_run.specs.Ends.{Reaches}
use Rattle.im_block_run.specs.Shown.{GoesTo, setting_of}
use Rattle.im_block_run.proofs.runs.go_on.Given as goal

abbrev pub invariant-steps : goal.invariant-steps
invariant-steps l =
    (n : ℕ) (r : m.Next) → Reaches l.fn.code.unit.now (setting_of l.fn.code.setting) n r → GoesTo l.fn.state r
    → (now : m.Next) × Reaches l.fn.code.unit.now (setting_of l.fn.code.setting) n now × GoesTo l.state now
