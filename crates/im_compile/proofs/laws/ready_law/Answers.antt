use Rattle.im_compile.proofs.Ready.{ready}
use Rattle.im_compile.proofs.laws.ready_law.Goals as goal

pub returns : goal.returns
returns c =
    ready c.lowered_form_law.ensures c.registers_law.ensures c.added_cuts_law.ensures c.force_keeps_law.ensures c.cuts_keep_code_law.ensures c.cuts_keep_places_law.ensures c.placed_code_law.ensures c.recut_keeps_law.ensures
    c.uncut_names_law.ensures c.force_names_law.ensures c.place_names_law.ensures c.recut_names_law.ensures
