use Rattle.std.proofs.Common.{◌≡◌, ap, sym, ◌∙◌, arith}
use Rattle.im_gen.specs.Gen.{next_word, sequence}
use Rattle.im_gen.proofs.Steps.{sequence_first, sequence_next}
use Rattle.im_gen.proofs.periods.last_word.Goals as goal

pub loop-init : goal.loop-init
loop-init c = (sym (sequence_first c.args.count), omega arith)

pub loop-preserved : goal.loop-preserved
loop-preserved c =
    let i = c.loop.invariant in
    let below = c.loop-test.true in
    (c.next_word-word.ensures ∙ ap next_word i.0 ∙ sym (sequence_next c.args.count c.loop.counter), omega (arith, below))

pub returns : goal.returns
returns c =
    let i = c.loop.invariant in
    let most = i.1 in
    let over = c.loop-test.false in
    let all : c.loop.counter ≡ c.args.count = omega (arith, most, over) in
    i.0 ∙ ap (sequence c.args.count) all
