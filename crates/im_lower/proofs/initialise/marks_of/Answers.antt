use Rattle.std.proofs.Common.{◌≡◌, ℕ, ◌+◌, ◌<◌, Bool, true, false, List, [], ◌∷◌, ◌++◌, take, length, get_or, arith, subst, sym, ap, ◌∙◌}
use Rattle.std.specs.Prelude.{slice_set}
use Rattle.im_lower.specs.Marks.{AreMarks}
use Rattle.im_lower.proofs.MarkLists.{AreUnmarked, one_unmarked, none_given, one_marked, take_one}
use Rattle.im_lower.proofs.initialise.marks_of.Goals as goal

pub loop-preserved : goal.loop-preserved
loop-preserved c = subst AreUnmarked (sym c.in_ok-push.ensures.items) (one_unmarked c.loop.marks.items c.loop.invariant)

pub loop-at-init : goal.loop-at-init
loop-at-init c = none_given c.loop.marks.items c.loop.invariant

pub loop-at-preserved : goal.loop-at-preserved
loop-at-preserved c =
    let l = c.loop-at in
    let within : l.at-index < length c.args.given.now = omega arith in
    let given = c.args.given.now in
    let at = get_or given l.at-index 0 in
    subst (λ (marks : List Bool). AreMarks (take (l.at-index + 1) given) marks) (sym c.mark.ensures)
    (subst (λ (some : List ℕ). AreMarks some (slice_set l.marks.items at true)) (sym (take_one given l.at-index 0 within)) (one_marked (take l.at-index given) at l.marks.items l.invariant))
