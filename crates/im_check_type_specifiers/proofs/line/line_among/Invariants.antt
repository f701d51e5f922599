use Rattle.std.proofs.Common.{◌≡◌, drop}
use Rattle.im_check_type_specifiers.specs.Lines.{typed_by}
use Rattle.im_check_type_specifiers.proofs.line.line_among.Given as goal

abbrev pub invariant-loop-line : goal.invariant-loop-line
invariant-loop-line l = typed_by l.lines l.counts ≡ typed_by (drop l.line-index l.lines) l.counts
