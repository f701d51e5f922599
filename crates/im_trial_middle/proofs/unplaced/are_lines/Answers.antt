use Rattle.std.proofs.Common.{◌≤◌, length, subst, take_all, arith}
use Rattle.std.specs.Prelude.{All, pos}
use Rattle.std.proofs.lemmas.List.Elements.{All-more}
use Rattle.im_block.specs.declared.code.Line.{Line}
use Rattle.im_block.specs.declared.code.Line.TheVariants.{Put}
use Rattle.im_block.specs.Wellformed.{LineWithin}
use Rattle.im_alloc_placed.specs.Placeable.{IsPlaceableLine}
use Rattle.im_trial_middle.specs.Unplaced.{CallsSecond}
use Rattle.im_trial_middle.proofs.unplaced.are_lines.Goals as goal

abbrev blank : Line
blank = Put 0 (pos 0)

pub loop-line-preserved : goal.loop-line-preserved
loop-line-preserved c =
    let lines = c.args.lines.now in
    let i = c.loop-line.line-index in
    let yes = c.if-not-is_line.false in
    record {
      within = All-more (LineWithin 32) lines i blank c.loop-line-test.true c.loop-line.invariant.within (c.is_line.ensures.within yes);
      calls = All-more CallsSecond lines i blank c.loop-line-test.true c.loop-line.invariant.calls (c.is_line.ensures.calls yes);
      placeable = All-more (IsPlaceableLine 0 c.args.function.now) lines i blank c.loop-line-test.true c.loop-line.invariant.placeable (c.is_line.ensures.placeable yes);
    }

pub returns-clause-within : goal.returns-clause-within
returns-clause-within c e =
    let lines = c.args.lines.now in
    let all : length lines ≤ c.loop-line.line-index = omega arith in
    subst (All (LineWithin 32)) (take_all c.loop-line.line-index lines all) c.loop-line.invariant.within

pub returns-clause-calls : goal.returns-clause-calls
returns-clause-calls c e =
    let lines = c.args.lines.now in
    let all : length lines ≤ c.loop-line.line-index = omega arith in
    subst (All CallsSecond) (take_all c.loop-line.line-index lines all) c.loop-line.invariant.calls

pub returns-clause-placeable : goal.returns-clause-placeable
returns-clause-placeable c e =
    let lines = c.args.lines.now in
    let all : length lines ≤ c.loop-line.line-index = omega arith in
    subst (All (IsPlaceableLine 0 c.args.function.now)) (take_all c.loop-line.line-index lines all) c.loop-line.invariant.placeable
