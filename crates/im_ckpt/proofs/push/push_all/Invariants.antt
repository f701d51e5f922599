use Rattle.std.proofs.Common.{◌≡◌, ◌++◌, take, map}
use Rattle.im_rv.specs.Lines.{code_lines, line_of, plain_line}
use Rattle.im_ckpt.proofs.push.push_all.Given as goal

abbrev pub invariant-loop-instr : goal.invariant-loop-instr
invariant-loop-instr l = code_lines l.lines.items ≡ code_lines l.initial.lines.items ++ map (λ i. plain_line (line_of i)) (take l.instr-index l.instrs)
