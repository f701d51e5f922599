use Rattle.std.proofs.Common.{◌≡◌, ◌++◌, drop}
use Rattle.im_force.specs.Force.{forced_lines}
use Rattle.im_force.proofs.cuts.force_lines.Given as goal

abbrev pub invariant-loop-line : goal.invariant-loop-line
invariant-loop-line l =
    l.forced.items ++ forced_lines l.exit l.due (drop l.line-index l.lines) ≡ forced_lines l.exit l.fn.start l.lines
