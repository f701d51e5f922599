use Rattle.std.proofs.Common.{◌≡◌, ◌++◌}
use Rattle.im_rv.specs.Lines.{code_lines}
use Rattle.im_ckpt.specs.Checkpoint.{entries}
use Rattle.im_ckpt.proofs.checkpoint.push_entries.Given as goal

abbrev pub invariant-loop-n : goal.invariant-loop-n
invariant-loop-n l = code_lines l.lines.items ≡ code_lines l.initial.lines.items ++ entries l.n
