use Rattle.std.proofs.Common.{◌≡◌, ◌++◌, take, map}
use Rattle.im_rv.specs.Lines.{code_lines, plain_line}
use Rattle.im_ckpt.specs.Checkpoint.{store_line}
use Rattle.im_ckpt.proofs.checkpoint.push_stores.Given as goal

abbrev pub invariant-loop-register : goal.invariant-loop-register
invariant-loop-register l = code_lines l.lines.items ≡ code_lines l.initial.lines.items ++ map plain_line (map store_line (take l.register-index l.registers))
