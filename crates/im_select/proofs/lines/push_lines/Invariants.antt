use Rattle.std.proofs.Common.{◌≡◌, ◌++◌, None, drop}
use Rattle.im_rv.specs.Lines.{code_lines}
use Rattle.im_live.specs.Words.{entry_at}
use Rattle.im_select.specs.Emitted.{lines_code, behind_at}
use Rattle.im_select.specs.Given.{given}
use Rattle.im_select.specs.Places.{at_of}
use Rattle.im_select.proofs.lines.push_lines.Given as goal

-- the lines that are put and those that are left
abbrev pub invariant-loop-number : goal.invariant-loop-number
invariant-loop-number l =
    code_lines l.lines.items ++ lines_code (at_of (given l.names)) (entry_at l.points) (behind_at l.points) l.before l.number (drop l.number l.placed)
    ≡ code_lines l.initial.lines.items ++ lines_code (at_of (given l.names)) (entry_at l.points) (behind_at l.points) None 0 l.placed
