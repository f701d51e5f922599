use Rattle.std.proofs.Common.{◌<◌, ℕ, List, Option, length, subst, ap, sym, ◌∙◌, arith}
use Rattle.std.specs.Prelude.{All, slice_index}
use Rattle.im_block.specs.declared.code.Line.{Line}
use Rattle.im_block.specs.Wellformed.{ExitThere}
use Rattle.im_alloc_placed.specs.Placed.{IsPlacedLine, IsPlacedExit}
use Rattle.im_select.specs.declared.branching.Test.{Test}
use Rattle.im_select.specs.Emitted.{own_lines}
use Rattle.im_select.specs.Places.{CallsBelow}
use Rattle.im_select.proofs.Following.{lead_below, led_there, led_placed}
use Rattle.im_select.proofs.Taking.{own_few, own_all}
use Rattle.im_select.proofs.blocks.lines_by.Goals as goal

pub push_lines-requires-clause-enough : goal.push_lines-requires-clause-enough
push_lines-requires-clause-enough c =
    let taken : Option Test = c.taken_test-taken.result in
    let own = c.own_lines.ensures ∙ ap (λ z. own_lines taken z) c.deref-2.ensures.value in
    let same = ap length own in
    let few = own_few taken c.args.block.now.lines.items in
    let enough = c.requires.enough in
    omega arith

pub push_lines-requires-clause-placed : goal.push_lines-requires-clause-placed
push_lines-requires-clause-placed c =
    let names = c.args.names.now in
    let taken : Option Test = c.taken_test-taken.result in
    let own = c.own_lines.ensures ∙ ap (λ z. own_lines taken z) c.deref-2.ensures.value in
    subst (λ (z : List Line). All (IsPlacedLine (length names.statics.now) names.function.now) z) (sym own)
    (own_all (IsPlacedLine (length names.statics.now) names.function.now) taken c.args.block.now.lines.items c.requires.placed.lines)

pub push_lines-requires-clause-called : goal.push_lines-requires-clause-called
push_lines-requires-clause-called c =
    let names = c.args.names.now in
    let taken : Option Test = c.taken_test-taken.result in
    let own = c.own_lines.ensures ∙ ap (λ z. own_lines taken z) c.deref-2.ensures.value in
    subst (λ (z : List Line). All (CallsBelow names.functions) z) (sym own)
    (own_all (CallsBelow names.functions) taken c.args.block.now.lines.items c.requires.closed.calls)

pub led-requires : goal.led-requires
led-requires c = let count = c.requires.leads.count in subst (λ z. ExitThere z c.args.block.now.exit) (sym count) c.requires.closed.edges

pub push_exit-requires-clause-placed : goal.push_exit-requires-clause-placed
push_exit-requires-clause-placed c = subst IsPlacedExit (sym c.led.ensures) (led_placed (slice_index c.args.leads.now) c.args.block.now.exit c.requires.placed.exit)

pub push_exit-requires-clause-there : goal.push_exit-requires-clause-there
push_exit-requires-clause-there c =
    let function = c.args.names.now.function.now in
    let blocks = function.blocks.items in
    let count : ℕ = length blocks in
    subst (ExitThere count) (sym c.led.ensures)
    (led_there (slice_index c.args.leads.now) count c.args.block.now.exit (λ b l. subst (λ z. z < count) (sym (c.requires.leads.each b l)) (lead_below blocks function.entry b count l)) c.requires.closed.edges)
