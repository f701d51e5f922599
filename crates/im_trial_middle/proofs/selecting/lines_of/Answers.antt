use Rattle.std.proofs.Common.{length, subst}
use Rattle.std.specs.Prelude.{All}
use Rattle.im_alloc_placed.specs.Placed.{IsPlacedBlock}
use Rattle.im_select.specs.Given.{given}
use Rattle.im_select.specs.Selects.{IsClosedBlock}
use Rattle.im_trial_middle.proofs.Selectable.{selectable}
use Rattle.im_trial_middle.proofs.selecting.lines_of.Goals as goal

pub select-requires : goal.select-requires
select-requires c =
    let names = c.args.names.now in
    let all = c.are_blocks.ensures c.if-not-are_blocks.false in
    let same = c.deref.ensures.value in
    selectable (given names) c.requires.places c.requires.shell c.requires.some
    (subst (All (IsPlacedBlock (length names.statics.now) names.function.now)) same all.0)
    (subst (All (IsClosedBlock (given names))) same all.1)
