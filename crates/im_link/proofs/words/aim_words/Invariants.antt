use Rattle.std.proofs.Common.{◌≡◌, List, length}
use Rattle.std.specs.Prelude.{nat_eq}
use Rattle.std.specs.HashMap as hash
use Rattle.im_rv.specs.declared.code.Line.{Line}
use Rattle.im_link.specs.State.{AreLinesKept}
use Rattle.im_link.proofs.Keeping.{Aiming}
use Rattle.im_link.proofs.words.aim_words.Given as goal

abbrev pub invariant-loop-aim : goal.invariant-loop-aim
invariant-loop-aim l =
    (length l.words.items ≡ length l.initial.words.items) ×
    ((lines : List Line) → AreLinesKept lines l.initial.words.items l.aims (hash.get nat_eq l.places) → Aiming lines l.aims l.aim-index l.words.items)
