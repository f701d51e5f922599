use Rattle.std.proofs.Common.{◌++◌, ℕ, List, Option, None, pos, length, ap, ◌∙◌, get_or}
use Rattle.im_rv.specs.Lines.{CodeLine, code_lines}
use Rattle.im_block.specs.declared.code.Line.{Line}
use Rattle.im_block.specs.declared.code.Line.TheVariants.{Put}
use Rattle.im_alloc_placed.specs.Placed.{IsPlacedLine}
use Rattle.im_live.specs.Words.{IsMachineLine, entry_at}
use Rattle.im_select.specs.declared.folding.Constant.{Constant}
use Rattle.im_select.specs.Emitted.{way_code, lines_code, behind_at}
use Rattle.im_select.specs.Given.{given}
use Rattle.im_select.specs.Places.{at_of}
use Rattle.im_select.proofs.Lists.{lines_grown, lines_done}
use Rattle.im_select.proofs.Machine.{all_to, line_machine}
use Rattle.im_select.proofs.lines.push_lines.Goals as goal

pub passed_by-passed-requires-clause-machine : goal.passed_by-passed-requires-clause-machine
passed_by-passed-requires-clause-machine c =
    let names = c.args.names.now in
    all_to (IsPlacedLine (length names.statics.now) names.function.now) IsMachineLine c.args.placed.now (line_machine (length names.statics.now) names.function.now) c.requires.placed

pub loop-number-preserved : goal.loop-number-preserved
loop-number-preserved c =
    let at = at_of (given c.args.names.now) in
    let points : List ℕ = c.args.points.now in
    let placed : List Line = c.args.placed.now in
    let k : ℕ = c.loop-number.number in
    let before : Option Constant = c.loop-number.before in
    let passed : Option Constant = c.passed_by-passed.result in
    let now : List CodeLine = code_lines c.loop-number.lines.items in
    lines_grown at (entry_at points) (behind_at points) before passed (code_lines c.args.lines.now.items ++ lines_code at (entry_at points) (behind_at points) None 0 placed) now (code_lines c.push_way.new.lines.items) placed k (Put 0 (pos 0)) c.loop-number-test.true c.loop-number.invariant c.passed_by-passed.ensures
    (c.in_ok-push_way.ensures ∙ ap (λ z. now ++ way_code at z passed before (get_or placed k (Put 0 (pos 0)))) c.entry_for-entry.ensures)

pub returns : goal.returns
returns c =
    let at = at_of (given c.args.names.now) in
    let points : List ℕ = c.args.points.now in
    let placed : List Line = c.args.placed.now in
    lines_done at (entry_at points) (behind_at points) c.loop-number.before (code_lines c.args.lines.now.items ++ lines_code at (entry_at points) (behind_at points) None 0 placed) (code_lines c.loop-number.lines.items) placed c.loop-number.number c.loop-number-test.false c.loop-number.invariant
