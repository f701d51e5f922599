use Rattle.std.proofs.Common.{◌≡◌, ◌+◌, List, Option, Some, None, refl, subst, ap, sym, ◌∙◌, length, arith}
use Rattle.std.specs.Prelude.{slice_get, slice_index}
use Rattle.std.proofs.lemmas.Option.{slice_get_read}
use Rattle.im_block.specs.declared.code.Exit.{Exit}
use Rattle.im_block.specs.declared.code.Line.{Line}
use Rattle.im_live.specs.Words.{starts_have, entry_at, IsMachineLine, IsMachineBlock}
use Rattle.im_live.specs.Entries.{entries}
use Rattle.im_alloc_placed.specs.Placed.{IsPlacedBlock}
use Rattle.im_select.specs.Leads.{lead, led}
use Rattle.im_select.specs.declared.branching.Test.{Test}
use Rattle.im_select.specs.Emitted.{lines_code, taken_test, own_lines, taking_code, ended_code, found_code, labelled, behind_each, behind_at}
use Rattle.im_select.specs.Given.{given}
use Rattle.im_select.specs.Places.{at_of}
use Rattle.im_select.specs.Selects.{IsClosedBlock, laying_of}
use Rattle.im_select.proofs.Following.{led_same}
use Rattle.im_select.proofs.Taking.{own_few, own_all}
use Rattle.im_select.proofs.Machine.{all_at, block_machine, entry_is, behind_is, lines_alike}
use Rattle.im_select.proofs.blocks.block_lines.Goals as goal

pub points-requires : goal.points-requires
points-requires c =
    let names = c.args.names.now in
    let function = names.function.now in
    let blocks = function.blocks.items in
    let number = c.args.number in
    let block = c.index-block.result.now in
    let is : slice_get blocks number ≡ Some block = slice_get_read blocks (length blocks) number block refl c.requires.number c.index-block.ensures in
    let placed = all_at (IsPlacedBlock (length names.statics.now) function) blocks number block c.requires.placed is in
    let closed = all_at (IsClosedBlock (given names)) blocks number block c.requires.closed is in
    subst (λ z. IsMachineBlock z block) (sym c.requires.enough) (block_machine (length names.statics.now) (length blocks) function block placed closed.edges)

pub returns : goal.returns
returns c =
    let names = c.args.names.now in
    let at = at_of (given names) in
    let first = names.first_block in
    let frame = names.layout.now.frame in
    let number = c.args.number in
    let distance = c.args.distance in
    let next = c.args.next in
    let block = c.index-block.result.now in
    let blocks = names.function.now.blocks.items in
    let words = c.in_ok-words.words.items in
    let live = starts_have c.args.live.now in
    let to : Exit = led (slice_index c.args.leads.now) block.exit in
    let taken : Option Test = taken_test live block.lines.items block.exit in
    let is : slice_get blocks number ≡ Some block = slice_get_read blocks (length blocks) number block refl c.requires.number c.index-block.ensures in
    let placed = all_at (IsPlacedBlock (length names.statics.now) names.function.now) blocks number block c.requires.placed is in
    let closed = all_at (IsClosedBlock (given names)) blocks number block c.requires.closed is in
    let machine = block_machine (length names.statics.now) (length blocks) names.function.now block placed closed.edges in
    let own : List Line = own_lines taken block.lines.items in
    let few = own_few taken block.lines.items in
    c.in_ok-lines.ensures
    ∙ ap (λ z. labelled (first + number) (taking_code at (entry_at z) (behind_at z) distance next first frame taken block.lines.items to)) c.deref.ensures.value
    ∙ ap (λ z. labelled (first + number) (ended_code distance next first frame taken z to))
    (lines_alike at (entry_at words) (entries live blocks number) (behind_at words) (behind_each live block.lines.items block.exit) None 0 own
    (λ k a b. entry_is live blocks number block words k is c.in_ok-words.ensures (omega arith))
    (λ k r a b small. behind_is live block words k r c.in_ok-words.ensures (omega arith) small)
    (own_all IsMachineLine taken block.lines.items machine.lines))
    ∙ ap (λ z. labelled (first + number) (ended_code distance next first frame taken (lines_code at (entries live blocks number) (behind_each live block.lines.items block.exit) None 0 own) z))
    (led_same (slice_index c.args.leads.now) (lead blocks names.function.now.entry) (length blocks) block.exit (λ b l. c.requires.leads.each b l) closed.edges)
    ∙ ap (λ o. found_code (laying_of (given names) live distance) number next o) (sym is)
