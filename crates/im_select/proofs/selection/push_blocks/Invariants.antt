use Rattle.std.proofs.Common.{◌≡◌, ◌++◌, drop}
use Rattle.im_rv.specs.Lines.{code_lines}
use Rattle.im_live.specs.Words.{starts_have}
use Rattle.im_select.specs.Emitted.{laid_code}
use Rattle.im_select.specs.Given.{given}
use Rattle.im_select.specs.Selects.{laying_of}
use Rattle.im_select.proofs.selection.push_blocks.Given as goal

-- the lines that are put and those of the blocks that are left
abbrev pub invariant-loop-place : goal.invariant-loop-place
invariant-loop-place l =
    code_lines l.lines.items ++ laid_code (laying_of (given l.names) (starts_have l.live) l.distance) (drop l.place l.order) ≡ code_lines l.initial.lines.items ++ laid_code (laying_of (given l.names) (starts_have l.live) l.distance) l.order
