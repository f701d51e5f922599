use Rattle.std.proofs.Common.{Ok, sym, ap, ◌∙◌, length, rules, tests, arith}
use Rattle.std.proofs.lemmas.Iterator.Consumers.{YieldsList-turn, YieldsList-end}
use Rattle.std.proofs.lemmas.Iterator.Splits.{YieldsList-from_slice_split}
use Rattle.std.proofs.lemmas.List.{length_push}
use Rattle.std.proofs.lemmas.Result.{err_from_is_err_and}
use Rattle.im_power.specs.Text.{is_line_end}
use Rattle.im_power.proofs.Lines.{goes_on, stops, too_many, lists}
use Rattle.im_power.proofs.reading.read_trace.Goals as goal

pub returns-in_err-add : goal.returns-in_err-add
returns-in_err-add c =
    let t = YieldsList-turn (YieldsList-from_slice_split _ is_line_end c.args.bytes.now (cc) (cc) (cc) (λ x b q k. search (rules, tests))) c.loop-text.yielded _ c.loop-text.yielded_by _ _ c.in-Some.text c.in-Some.is c.next.ensures.steps in
    let p = err_from_is_err_and c.from_residual-in_err-add.result c.from_residual-in_err-add.ensures.1 in
    rw (p.1, p.2) (stops c.args.bytes.now c.in-Some.text.now c.in_ok-said.said (length c.loop-text.yielded) c.loop-text.line c.loop-text.tally.repeats c.loop-text.tally.periods.items c.in_err-add.field-0.0 t.0 t.1 c.in_ok-said.ensures c.in_err-add.ensures.wrong c.loop-text.invariant)

pub loop-text-preserved : goal.loop-text-preserved
loop-text-preserved c =
    let t = YieldsList-turn (YieldsList-from_slice_split _ is_line_end c.args.bytes.now (cc) (cc) (cc) (λ x b q k. search (rules, tests))) c.loop-text.yielded _ c.loop-text.yielded_by _ _ c.in-Some.text c.in-Some.is c.next.ensures.steps in
    rw (length_push c.loop-text.yielded c.in-Some.text) (goes_on c.args.bytes.now c.in-Some.text.now c.in_ok-said.said (length c.loop-text.yielded) c.loop-text.line c.loop-text.tally.repeats c.add.new.tally.repeats c.loop-text.tally.periods.items c.add.new.tally.periods.items t.0 t.1 c.in_ok-said.ensures c.in_ok-add.ensures.right c.in_ok-add.ensures.periods c.in_ok-add.ensures.repeats c.loop-text.invariant)

pub returns-then-tally-gt-MOST_PERIODS : goal.returns-then-tally-gt-MOST_PERIODS
returns-then-tally-gt-MOST_PERIODS c =
    let t = YieldsList-end (YieldsList-from_slice_split _ is_line_end c.args.bytes.now (cc) (cc) (cc) (λ x b q k. search (rules, tests))) c.loop-text.yielded _ c.loop-text.yielded_by _ _ c.in-None.is c.next.ensures.steps in
    too_many c.args.bytes.now (length c.loop-text.yielded) c.loop-text.line c.loop-text.tally.repeats c.loop-text.tally.periods.items (omega (arith, t.1)) c.if-tally-gt-MOST_PERIODS.true c.loop-text.invariant

pub returns : goal.returns
returns c =
    let t = YieldsList-end (YieldsList-from_slice_split _ is_line_end c.args.bytes.now (cc) (cc) (cc) (λ x b q k. search (rules, tests))) c.loop-text.yielded _ c.loop-text.yielded_by _ _ c.in-None.is c.next.ensures.steps in
    lists c.args.bytes.now (length c.loop-text.yielded) c.loop-text.line c.loop-text.tally.repeats c.loop-text.tally.periods.items (omega (arith, t.1)) c.if-tally-gt-MOST_PERIODS.false c.loop-text.invariant ∙ ap Ok (sym c.new-2.ensures)
