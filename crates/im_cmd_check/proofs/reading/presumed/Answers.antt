use Rattle.std.proofs.Common.{length, rules, tests, arith}
use Rattle.std.proofs.lemmas.Iterator.Consumers.{YieldsList-turn, YieldsList-end}
use Rattle.std.proofs.lemmas.Iterator.Splits.{YieldsList-from_slice_split}
use Rattle.std.proofs.lemmas.List.{length_push}
use Rattle.im_cmd_check.specs.Reading.{is_line_end, reading_of}
use Rattle.im_cmd_check.proofs.Lines.{starts, goes_on, ends, fits}
use Rattle.im_cmd_check.proofs.reading.presumed.Goals as goal

pub loop-line-init : goal.loop-line-init
loop-line-init c = starts c.args.name.now c.args.text.now

pub enter-reading-requires : goal.enter-reading-requires
enter-reading-requires c =
    let t = YieldsList-turn (YieldsList-from_slice_split _ is_line_end c.args.text.now (cc) (cc) (cc) (λ x b q k. search (rules, tests))) c.loop-line.yielded _ c.loop-line.yielded_by _ _ c.in-Some.line c.in-Some.is c.next.ensures.steps in
    fits c.args.name.now c.args.text.now (length c.loop-line.yielded) (reading_of c.loop-line.reading) c.requires t.0 c.loop-line.invariant

pub loop-line-preserved : goal.loop-line-preserved
loop-line-preserved c =
    let t = YieldsList-turn (YieldsList-from_slice_split _ is_line_end c.args.text.now (cc) (cc) (cc) (λ x b q k. search (rules, tests))) c.loop-line.yielded _ c.loop-line.yielded_by _ _ c.in-Some.line c.in-Some.is c.next.ensures.steps in
    rw (length_push c.loop-line.yielded c.in-Some.line) (goes_on c.args.name.now c.args.text.now c.in-Some.line.now (length c.loop-line.yielded) (reading_of c.loop-line.reading) (reading_of c.enter-reading.result) t.0 t.1 c.enter-reading.ensures.reading c.enter-reading.ensures.small c.loop-line.invariant)

pub returns : goal.returns
returns c =
    let t = YieldsList-end (YieldsList-from_slice_split _ is_line_end c.args.text.now (cc) (cc) (cc) (λ x b q k. search (rules, tests))) c.loop-line.yielded _ c.loop-line.yielded_by _ _ c.in-None.is c.next.ensures.steps in
    ends c.args.name.now c.args.text.now (length c.loop-line.yielded) (reading_of c.loop-line.reading) (omega (arith, t.1)) c.loop-line.invariant
