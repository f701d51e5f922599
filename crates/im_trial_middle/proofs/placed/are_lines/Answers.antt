use Rattle.std.proofs.Common.{◌≤◌, length, subst, take_all, arith}
use Rattle.std.specs.Prelude.{All, pos}
use Rattle.std.proofs.lemmas.List.Elements.{All-more}
use Rattle.im_block.specs.declared.code.Line.{Line}
use Rattle.im_block.specs.declared.code.Line.TheVariants.{Put}
use Rattle.im_alloc_placed.specs.Placed.{IsPlacedLine}
use Rattle.im_select.specs.Places.{CallsBelow}
use Rattle.im_trial_middle.proofs.placed.are_lines.Goals as goal

abbrev blank : Line
blank = Put 0 (pos 0)

pub loop-line-preserved : goal.loop-line-preserved
loop-line-preserved c =
    let names = c.args.names.now in
    let lines = c.args.lines.now in
    let i = c.loop-line.line-index in
    let yes = c.if-not-is_line.false in
    let IsPlaced = IsPlacedLine (length names.statics.now) names.function.now in
    record {
      placed = All-more IsPlaced lines i blank c.loop-line-test.true c.loop-line.invariant.placed (c.is_line.ensures.placed yes);
      calls = All-more (CallsBelow names.functions) lines i blank c.loop-line-test.true c.loop-line.invariant.calls (c.is_line.ensures.calls yes);
    }

pub returns : goal.returns
returns c e =
    let names = c.args.names.now in
    let lines = c.args.lines.now in
    let all : length lines ≤ c.loop-line.line-index = omega arith in
    let whole = take_all c.loop-line.line-index lines all in
    (subst (All (IsPlacedLine (length names.statics.now) names.function.now)) whole c.loop-line.invariant.placed, subst (All (CallsBelow names.functions)) whole c.loop-line.invariant.calls)
