use Rattle.std.proofs.Common.{◌≡◌, ◌+◌, List, ◌++◌, length, take}
use Rattle.std.specs.Prelude.{nat_eq}
use Rattle.std.specs.HashMap as hash
use Rattle.im_rv.specs.declared.code.Line.{Line}
use Rattle.im_link.specs.State.{AreLinesKept}
use Rattle.im_link.proofs.words.push_lines.Given as goal

abbrev pub invariant-loop-line : goal.invariant-loop-line
invariant-loop-line l =
    (length l.words.items ≡ length l.initial.words.items + l.line-index) × ((before : List Line) → AreLinesKept before l.initial.words.items l.initial.aims.items (hash.get nat_eq l.initial.places) →
    AreLinesKept (before ++ take l.line-index l.lines) l.words.items l.aims.items (hash.get nat_eq l.places))
