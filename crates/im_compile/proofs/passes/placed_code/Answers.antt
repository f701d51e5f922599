use Rattle.im_compile.proofs.Ready.{lowered_well, forced_well, forced_placeable, placed_ordered, placed_forced, passed}
use Rattle.im_compile.proofs.passes.placed_code.Goals as goal

pub in_registers-requires-clause-well_formed : goal.in_registers-requires-clause-well_formed
in_registers-requires-clause-well_formed c =
    let l = c.requires.source.2 in
    lowered_well c.lowered_form_law.ensures c.requires.source.0 c.args.lowered c.requires.source.1 l.lower l.sized

pub in_registers-requires-clause-placeable : goal.in_registers-requires-clause-placeable
in_registers-requires-clause-placeable c = c.requires.source.2.placeable

pub alias-requires-clause-well_formed : goal.alias-requires-clause-well_formed
alias-requires-clause-well_formed c =
    let l = c.requires.source.2 in
    forced_well c.lowered_form_law.ensures c.registers_law.ensures c.force_keeps_law.ensures c.cuts_keep_code_law.ensures c.requires.source.0
    c.args.lowered c.in_ok-forwarded.forwarded c.in_ok-forced.forced c.requires.source.1 l.lower l.sized c.in_ok-forwarded.ensures c.in_ok-forced.ensures

pub alias-requires-clause-placeable : goal.alias-requires-clause-placeable
alias-requires-clause-placeable c =
    forced_placeable c.registers_law.ensures c.force_keeps_law.ensures c.cuts_keep_places_law.ensures c.args.lowered c.in_ok-forwarded.forwarded
    c.in_ok-forced.forced c.requires.source.2.placeable c.in_ok-forwarded.ensures c.in_ok-forced.ensures

pub place-requires-clause-well_formed : goal.place-requires-clause-well_formed
place-requires-clause-well_formed c =
    let l = c.requires.source.2 in
    forced_well c.lowered_form_law.ensures c.registers_law.ensures c.force_keeps_law.ensures c.cuts_keep_code_law.ensures c.requires.source.0
    c.args.lowered c.in_ok-forwarded.forwarded c.in_ok-forced.forced c.requires.source.1 l.lower l.sized c.in_ok-forwarded.ensures c.in_ok-forced.ensures

pub place-requires-clause-placeable : goal.place-requires-clause-placeable
place-requires-clause-placeable c =
    forced_placeable c.registers_law.ensures c.force_keeps_law.ensures c.cuts_keep_places_law.ensures c.args.lowered c.in_ok-forwarded.forwarded
    c.in_ok-forced.forced c.requires.source.2.placeable c.in_ok-forwarded.ensures c.in_ok-forced.ensures

pub recut-requires-clause-ordered : goal.recut-requires-clause-ordered
recut-requires-clause-ordered c =
    let l = c.requires.source.2 in
    placed_ordered c.lowered_form_law.ensures c.registers_law.ensures c.added_cuts_law.ensures c.force_keeps_law.ensures c.placed_code_law.ensures
    c.requires.source.0 c.args.lowered c.in_ok-forwarded.forwarded c.in_ok-forced.forced c.in_ok-placed.placed c.requires.source.1
    l.lower l.sized c.in_ok-forwarded.ensures c.in_ok-forced.ensures c.in_ok-placed.ensures.placed.placed

pub recut-requires-clause-forced : goal.recut-requires-clause-forced
recut-requires-clause-forced c =
    placed_forced c.force_keeps_law.ensures c.placed_code_law.ensures c.in_ok-forwarded.forwarded c.in_ok-forced.forced c.in_ok-placed.placed c.in_ok-forced.ensures c.in_ok-placed.ensures.placed.placed

pub returns : goal.returns
returns c prog l =
    passed prog c.args.lowered c.in_ok-forwarded.forwarded c.in_ok-forced.forced c.in_ok-tags.tags c.args.max_gap c.in_ok-placed.placed
    c.in_ok-code.code l c.in_ok-forwarded.ensures c.in_ok-forced.ensures c.in_ok-tags.ensures.sound c.in_ok-placed.ensures.placed c.in_ok-code.ensures
