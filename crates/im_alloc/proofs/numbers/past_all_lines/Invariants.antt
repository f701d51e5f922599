use Rattle.std.proofs.Common.{◌≡◌, drop}
use Rattle.im_alloc.specs.Numbers.{past_lines}
use Rattle.im_alloc.proofs.numbers.past_all_lines.Given as goal

abbrev pub invariant-loop-line : goal.invariant-loop-line
invariant-loop-line l = past_lines l.next (drop l.line-index l.lines) ≡ past_lines l.fn.number l.lines
