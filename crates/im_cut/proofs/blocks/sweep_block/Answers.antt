use Rattle.std.proofs.Common.{◌≡◌, List, Some, refl, sym, subst, length}
use Rattle.std.specs.Prelude.{slice_get}
use Rattle.std.proofs.lemmas.Option.{slice_get_read}
use Rattle.im_block.specs.declared.code.Line.{Line}
use Rattle.im_cut.specs.declared.marks.Marks.{Marks as Known}
use Rattle.im_cut.specs.Lines.{SweepsLines}
use Rattle.im_cut.proofs.Tables.{block_swept}
use Rattle.im_cut.proofs.blocks.sweep_block.Goals as goal

pub returns-clause-sweeps : goal.returns-clause-sweeps
returns-clause-sweeps c =
    let table = c.args.table.now.items in
    let number = c.args.number in
    let tags = c.args.tags.now in
    let deps = c.args.deps.now.items in
    let more = c.sweep_lines.new.deps.items in
    let start = c.replace-marks.result in
    let at : slice_get table number ≡ Some start = subst (λ (k : Known). slice_get table number ≡ Some k) (sym c.replace-marks.ensures.value) (slice_get_read table (length table) number c.index_mut.result.now refl c.requires c.index_mut.ensures.value) in
    block_swept tags number c.args.block.now _ table _ c.hand_on.new.table.items start c.sweep_lines.new.marks c.replace-marks.new.dest deps more at refl
    (subst (λ (ls : List Line). SweepsLines tags start c.sweep_lines.new.marks ls c.in_ok-lines.lines.items deps more) c.deref.ensures.value c.in_ok-lines.ensures) refl c.in_ok-hand_on.ensures.hands
