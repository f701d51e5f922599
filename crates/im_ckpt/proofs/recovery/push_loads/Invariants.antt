use Rattle.std.proofs.Common.{◌≡◌, ◌++◌, take, map}
use Rattle.im_rv.specs.Lines.{code_lines, plain_line}
use Rattle.im_ckpt.specs.Recovery.{load_lines}
use Rattle.im_ckpt.proofs.recovery.push_loads.Given as goal

abbrev pub invariant-loop-register : goal.invariant-loop-register
invariant-loop-register l = code_lines l.lines.items ≡ code_lines l.initial.lines.items ++ map plain_line (load_lines l.base (take l.register-index l.registers))
