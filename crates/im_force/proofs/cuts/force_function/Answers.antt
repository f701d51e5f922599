use Rattle.std.proofs.Common.{◌≡◌, ◌+◌, ◌<◌, suc, length, arith, subst, sym, ap, refl, ◌∙◌, get_or}
use Rattle.std.specs.Prelude.{slice_set}
use Rattle.std.proofs.lemmas.Option.{slice_get_within}
use Rattle.im_block.specs.Unitwise.{number_at, place_behind}
use Rattle.im_block.proofs.Unitwise.{FromTo, from_more, number_is, left_at}
use Rattle.im_force.specs.Force.{ForcesBlock, due_first, ForcesAt}
use Rattle.im_force.proofs.Keeps.{first_due, other_due}
use Rattle.im_force.proofs.cuts.force_function.Goals as goal
use Rattle.im_force.proofs.cuts.force_function.Goals.{then-number-entry, else-number-entry}

pub loop-number-preserved : goal.loop-number-preserved
loop-number-preserved c =
    let l = c.loop-number in
    let f = c.args.function.now in
    let old = f.blocks.items in
    let within : l.number < length l.block-items = omega arith in
    let there = slice_get_within old l.number _ (left_at old l.block-items l.number c.block-item.result within l.invariant.left) in
    let number : number_at place_behind 0 old l.number ≡ l.number = number_is 0 old l.number there ∙ omega arith in
    let due : c.if-number-entry.due ≡ due_first f.entry l.number =
    elim c.if-number-entry.branch [
      | then-number-entry w ↦ w.due-is ∙ sym (first_due f.entry l.number (omega arith))
      | else-number-entry w ↦ w.due-is ∙ sym (other_due f.entry l.number (λ e. w.if-number-entry.false (omega arith)))
    ] in
    let one = subst (λ d. ForcesBlock d (get_or l.block-items l.number c.block-item.result) c.force_block.new.block) (due ∙ ap (due_first f.entry) (sym number)) c.in_ok-force_block.ensures in
    let m = from_more place_behind (ForcesAt f.entry) 0 l.number old l.block-items c.block-item.result c.force_block.new.block within (record { done = l.invariant.done; left = l.invariant.left }) one in
    let next : suc l.number ≡ l.number + 1 = omega arith in
    let n = subst (λ j. FromTo place_behind (ForcesAt f.entry) 0 j old (slice_set l.block-items l.number c.force_block.new.block)) next m in
    record { entry = refl; done = n.done; left = n.left }
