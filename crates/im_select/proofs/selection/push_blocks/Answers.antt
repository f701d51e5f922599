use Rattle.std.proofs.Common.{◌++◌, get_or, ap, ◌∙◌}
use Rattle.std.specs.Prelude.{slice_get}
use Rattle.im_rv.specs.Lines.{code_lines}
use Rattle.im_live.specs.Words.{starts_have}
use Rattle.im_select.specs.Emitted.{found_code, laid_code}
use Rattle.im_select.specs.Given.{given}
use Rattle.im_select.specs.Selects.{laying_of}
use Rattle.im_select.proofs.Lists.{laid_grown, none_left, lines_append}
use Rattle.im_select.proofs.selection.push_blocks.Goals as goal

pub loop-place-preserved : goal.loop-place-preserved
loop-place-preserved c =
    let laying = laying_of (given c.args.names.now) (starts_have c.args.live.now) c.args.distance in
    let order = c.args.order.now in
    let place = c.loop-place.place in
    let block = get_or order place 0 in
    let now = code_lines c.loop-place.lines.items in
    laid_grown laying (code_lines c.args.lines.now.items ++ laid_code laying order) now (code_lines c.extend_from_slice.new.self.items) order place 0 c.loop-place-test.true c.loop-place.invariant
    (ap code_lines c.in_ok-extend_from_slice.ensures.items
    ∙ lines_append c.loop-place.lines.items c.deref.result.now
    ∙ ap (λ z. now ++ code_lines z) c.deref.ensures.value
    ∙ ap (λ z. now ++ z) c.in_ok-block.ensures
    ∙ ap (λ z. now ++ found_code laying block z (slice_get laying.blocks block)) c.label_behind-next.ensures)

pub returns : goal.returns
returns c =
    let laying = laying_of (given c.args.names.now) (starts_have c.args.live.now) c.args.distance in
    none_left laying (code_lines c.args.lines.now.items ++ laid_code laying c.args.order.now) (code_lines c.loop-place.lines.items) c.args.order.now c.loop-place.place c.loop-place-test.false c.loop-place.invariant
